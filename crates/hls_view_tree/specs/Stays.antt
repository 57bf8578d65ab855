-- Since when the nodes of the hierarchy are where they are.
use Rattle.std.specs.Prelude.{ℕ, List, Option, Some, None, find, slice_get}
use Rattle.std.specs.Str.{bytes_eq}
use Rattle.hls_text.specs.Lines.{Text}
use Rattle.hls_report_text.specs.declared.report.Answered.{Answered}
use Rattle.hls_report_text.specs.Content.{Content}
use Rattle.hls_view_tale.specs.declared.standing.Standing.{Standing}
use Rattle.hls_view_tale.specs.Hierarchies.{standing_at}

abbrev pub standing_of : List Standing → (name : Text) → Option Standing
standing_of all name = find (λ (s : Standing). bytes_eq s.name name) all

-- the tick of a command that is there
abbrev pub tick_of : Option Answered → ℕ
tick_of None = 0
tick_of (Some a) = a.tick

-- the tick of the command that opened a stay
abbrev pub opened_in : List Answered → Option Standing → ℕ
opened_in answered None = 0
opened_in answered (Some s) = tick_of (slice_get answered s.opened)

-- the first tick of the stay that the node of a name has at a tick
abbrev pub since_of : Content → (t : ℕ) → (name : Text) → ℕ
since_of c t name = opened_in c.answered (standing_of (standing_at c t) name)
