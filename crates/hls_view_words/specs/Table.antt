-- The words that the program knows, and what they ask for.
use Rattle.hls_chron.specs.Ranges.{longest_horizon}
use Rattle.std.specs.Prelude.{◌≡◌, ◌⊎◌, ◌≤◌, ℕ, List, [], ◌∷◌, ◌++◌, codes, decimal, Option, Some, None}
use Rattle.hls_text.specs.Lines.{Text}
use Rattle.hls_chron.specs.Name.{IsName}
use Rattle.hls_view_words.specs.declared.views.View.{View}
use Rattle.hls_view_words.specs.declared.views.View.TheVariants.{Svg, Trace, Margins, Tree, Jobs}

-- a tick is stated in a word of its own, or in one word with the option
abbrev pub StatesTick : List Text → ℕ → Type 0
StatesTick words tick = (words ≡ codes "--at" ∷ decimal tick ∷ []) ⊎ (words ≡ (codes "--at=" ++ decimal tick) ∷ [])

abbrev pub HasTick : List Text → ℕ → Type 0
HasTick words tick = (tick ≤ 99999) × StatesTick words tick

-- the words after `tree` state no tick, or one
abbrev pub MayTick : List Text → Option ℕ → Type 0
MayTick words None = words ≡ []
MayTick words (Some tick) = HasTick words tick

-- a name is stated in a word of its own, or in one word with the option
abbrev pub StatesName : List Text → Text → Type 0
StatesName words name = (words ≡ codes "--of" ∷ name ∷ []) ⊎ (words ≡ (codes "--of=" ++ name) ∷ [])

abbrev pub NamesOne : List Text → Text → Type 0
NamesOne words name = IsName name × StatesName words name

-- the words after `jobs` name nobody, or one
abbrev pub MayName : List Text → Option Text → Type 0
MayName words None = words ≡ []
MayName words (Some name) = NamesOne words name

-- words begin with an option that states a number, in a word of its own or in one word with the option, and go on so
abbrev pub Heads : (option : Text) → List Text → ℕ → (rest : List Text) → Type 0
Heads option words n rest =
    (words ≡ option ∷ decimal n ∷ rest) ⊎ (words ≡ (option ++ (codes "=" ++ decimal n)) ∷ rest)

-- the first tick, and the last one behind it or not
abbrev pub FromFirst : List Text → Option ℕ → Option ℕ → Type 0
FromFirst words None to = ⊥
FromFirst words (Some from) None = (from ≤ 99999) × Heads (codes "--from") words from []
FromFirst words (Some from) (Some to) = (from ≤ to) × (to ≤ 99999) × (rest : List Text)
    × Heads (codes "--from") words from rest × Heads (codes "--to") rest to []

-- the last tick, and the first one behind it or not
abbrev pub ToFirst : List Text → Option ℕ → Option ℕ → Type 0
ToFirst words from None = ⊥
ToFirst words None (Some to) = (to ≤ 99999) × Heads (codes "--to") words to []
ToFirst words (Some from) (Some to) = (from ≤ to) × (to ≤ 99999) × (rest : List Text)
    × Heads (codes "--to") words to rest × Heads (codes "--from") rest from []

abbrev pub StatesNone : List Text → Option ℕ → Option ℕ → Type 0
StatesNone words None None = words ≡ []
StatesNone words _ _ = ⊥

-- the words after `svg` state no ticks, or the first, the last or both in any order
abbrev pub MaySpan : List Text → Option ℕ → Option ℕ → Type 0
MaySpan words from to = StatesNone words from to ⊎ (FromFirst words from to ⊎ ToFirst words from to)

-- the words after `trace` state no length of a tick, or one in microseconds
abbrev pub MayLast : List Text → Option ℕ → Type 0
MayLast words None = words ≡ []
MayLast words (Some length) = (1 ≤ length) × (length ≤ longest_horizon) × Heads (codes "--tick") words length []

-- the words ask for this
abbrev pub IsView : List Text → View → Type 0
IsView words (Svg from to) = (options : List Text) × (words ≡ codes "svg" ∷ options) × MaySpan options from to
IsView words (Trace tick) = (options : List Text) × (words ≡ codes "trace" ∷ options) × MayLast options tick
IsView words Margins = words ≡ codes "margins" ∷ []
IsView words (Tree at) = (options : List Text) × (words ≡ codes "tree" ∷ options) × MayTick options at
IsView words (Jobs of) = (options : List Text) × (words ≡ codes "jobs" ∷ options) × MayName options of

-- they ask for none
abbrev pub IsNoView : List Text → Type 0
IsNoView words = (view : View) → ¬ IsView words view
