-- Ways down in a tree of names, label by label.
use Rattle.std.specs.Prelude.{◌≡◌, ℕ, List, [], ◌∷◌, Option, Some, true, slice_get}
use Rattle.std.specs.List.{Contains}
use Rattle.hls_text.specs.Lines.{Text}
use Rattle.hls_scenario.specs.declared.scenario.Perch.{Perch}
use Rattle.hls_audit_clauses.specs.declared.member.Member.{Member}
use Rattle.hls_view_tale.specs.declared.label.Label.{Label}
use Rattle.hls_view_tale.specs.Places.{is_at, label_of}

-- a label of a seat that somebody in the tree has on the scheduler of a name, or at the processor
pub record HasSeat (tree : List Member) (above : Option Text) (label : Label) : Type 0 where
  pub member : Member
  pub there : Contains tree member
  pub port : ℕ
  pub perch : Perch
  pub sits : slice_get member.perches port ≡ Some perch
  pub at : is_at above perch.spot ≡ true
  pub told : label ≡ label_of member port perch

-- each label is of a seat on the scheduler that the label before it names, the first of one there
abbrev pub IsWayDown : List Member → (above : Option Text) → (way : List Label) → Type 0
IsWayDown tree above [] = Unit {0}
IsWayDown tree above (label ∷ way) = HasSeat tree above label × IsWayDown tree (Some label.name) way
