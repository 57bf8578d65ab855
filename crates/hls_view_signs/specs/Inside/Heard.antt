-- The words on threads, as they are told.
use Rattle.std.specs.Prelude.{◌≡◌, ℕ, ◌+◌, ◌==◌, ◌&&◌, List, Option, Some, None, Bool, false, drop, slice_get}
use Rattle.std.specs.List.{AllByRecursion}
use Rattle.std.specs.Str.{bytes_eq}
use Rattle.hls_report_text.specs.Content.{Content}
use Rattle.hls_view_jobs.specs.Words.{words_on}
use Rattle.hls_view_signs.specs.declared.event.Node.{Node}
use Rattle.hls_view_signs.specs.declared.heard.Heard.{Heard}

abbrev pub IsHeard : Content → Heard → Type 0
IsHeard c h = h.words.items ≡ words_on c.horizon h.name (drop (h.born + 1) c.answered)

abbrev pub AreHeard : Content → List Heard → Type 0
AreHeard c all = AllByRecursion (IsHeard c) all

-- told of the thread of a node
abbrev pub is_of_node : Node → Option Heard → Bool
is_of_node node None = false
is_of_node node (Some h) = h.born == node.standing.born && bytes_eq h.name node.label.name

-- the words on the thread of a node stand at a place
pub record IsHeardAt (c : Content) (all : List Heard) (node : Node) (place : ℕ) : Type 0 where
  pub heard : Heard
  pub there : slice_get all place ≡ Some heard
  pub words : heard.words.items ≡ words_on c.horizon node.label.name (drop (node.standing.born + 1) c.answered)
