-- Rows that end in threads.
use Rattle.std.specs.Prelude.{◌≡◌, ℕ, List, [], ◌∷◌, Some, None, Bool, true, false, ◌&&◌, ◌⊎◌}
use Rattle.hls_text.specs.Lines.{Text}
use Rattle.hls_report_text.specs.Content.{Content}
use Rattle.hls_legal.specs.Schedule.{path_at}
use Rattle.hls_audit_clauses.specs.Names.{is_thread_sort}
use Rattle.hls_view_tale.specs.declared.label.Label.{Label}
use Rattle.hls_view_lanes.specs.Likeness.{is_same}
use Rattle.hls_view_lanes.specs.Facts.{facts, idle_facts, given_at}

abbrev pub is_thread : Label → Bool
is_thread label = is_thread_sort (Some label.sort)

abbrev pub is_leaf : (row : List Label) → Bool
is_leaf [] = false
is_leaf (label ∷ []) = is_thread label
is_leaf (label ∷ next ∷ row) = is_leaf (next ∷ row)

-- a way down to a thread, over schedulers alone
abbrev pub IsDown : (way : List Label) → Type 0
IsDown [] = ⊥
IsDown (label ∷ []) = is_thread label ≡ true
IsDown (label ∷ next ∷ way) = (is_thread label ≡ false) × IsDown (next ∷ way)

-- a tick goes through a way, is not idle, and goes through no other row that ends in a thread
pub record ServesAlone (c : Content) (t : ℕ) (way : List Label) : Type 0 where
  pub served : (facts c t way).served ≡ true
  pub idle : (idle_facts c t).served ≡ false
  pub alone : (row : List Label) → is_leaf row ≡ true → (facts c t row).served ≡ true → is_same row way ≡ true

-- a row ends in a thread, and a tick goes there
abbrev pub goes_to : Content → (t : ℕ) → (row : List Label) → Bool
goes_to c t row = is_leaf row && (facts c t row).served

-- the path of a tick names a way down over schedulers to a thread
pub record HasWay (c : Content) (t : ℕ) : Type 0 where
  pub names : List Text
  pub way : List Label
  pub path : path_at c.stretches t ≡ Some names
  pub given : given_at c t ≡ Some way
  pub down : IsDown way

-- or the tick is idle
abbrev pub IsGiven : Content → (t : ℕ) → Type 0
IsGiven c t = (path_at c.stretches t ≡ None) ⊎ HasWay c t
