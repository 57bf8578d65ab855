-- The boxes that the program runs with.
use Rattle.std.specs.Prelude.{ℕ}
use Rattle.hls_chron.specs.declared.plain.Kind.{Kind}
use Rattle.hls_chron.specs.declared.plain.Kind.TheVariants.{Cpu}
use Rattle.hls_legal.specs.Moment.{Boxes}

-- so many of each kind of scheduler
abbrev pub of_each : ℕ → Kind → ℕ
of_each count Cpu = 0
of_each count _ = count

-- 64 boxes of each kind, none of which was taken
abbrev pub full_kit : Boxes
full_kit = record { left = of_each 64; used = λ kind. 0 }
