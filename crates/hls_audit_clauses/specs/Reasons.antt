-- The refusals that a tree of names can tell. What is left to the machine are limits, terms and room, boxes and
-- derivations.
use Rattle.std.specs.Prelude.{None}
use Rattle.hls_report_text.specs.declared.refusal.Refusal.{Refusal}
use Rattle.hls_report_text.specs.declared.refusal.Refusal.TheVariants.{NameTaken, NoSuchName, WrongSort, NotEmpty}
use Rattle.hls_report_text.specs.declared.refusal.Refusal.TheVariants.{SeatsFull, Cycle}

-- 10, 11, 12, 15 and 19, and 18 at the processor
abbrev pub IsOfNames : Refusal → Type 0
IsOfNames (NameTaken name) = Unit {0}
IsOfNames (NoSuchName name) = Unit {0}
IsOfNames (WrongSort name) = Unit {0}
IsOfNames (NotEmpty name seats) = Unit {0}
IsOfNames (Cycle name) = Unit {0}
IsOfNames (SeatsFull None seats) = Unit {0}
IsOfNames _ = ⊥
