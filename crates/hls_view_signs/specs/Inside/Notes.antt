-- When something may happen: notes of ticks that have a command, or a word on a thread.
use Rattle.std.specs.Prelude.{◌≡◌, ℕ, ◌≤◌, ◌==◌, ◌&&◌, List, [], ◌∷◌, Some, Bool, true}
use Rattle.std.specs.Prelude.{drop, slice_get, nat_le}
use Rattle.std.specs.List.{list_any}
use Rattle.std.specs.Str.{bytes_eq}
use Rattle.hls_text.specs.Lines.{Text}
use Rattle.hls_legal.specs.Commands.{has_done, rouses}
use Rattle.hls_report_text.specs.declared.report.Answered.{Answered}
use Rattle.hls_report_text.specs.Content.{Content}
use Rattle.hls_view_jobs.specs.declared.job.Word.{Word}
use Rattle.hls_view_jobs.specs.Words.{word_of, first, repeat_of, last_by, later, words_on}
use Rattle.hls_view_scale.specs.declared.scale.Scale.{Scale}
use Rattle.hls_view_signs.specs.declared.notes.Note.{Note}

-- a note of a tick, and one of a thread in it
abbrev pub is_in : (t : ℕ) → Note → Bool
is_in t note = note.tick == t

abbrev pub is_noted : (t : ℕ) → (name : Text) → Note → Bool
is_noted t name note = note.tick == t && bytes_eq note.name name

-- a word and a command of a tick
abbrev pub word_in : (t : ℕ) → Word → Bool
word_in t word = word.tick == t

abbrev pub comes_in : (t : ℕ) → Answered → Bool
comes_in t a = a.tick == t

abbrev pub is_shown : Scale → (t : ℕ) → Bool
is_shown s t = nat_le s.from t && nat_le t s.to

-- ---- one note more

-- whatever one of these notes passes, one of those does
abbrev pub IsGrown : (old new : List Note) → Type 0
IsGrown old new = (f : Note → Bool) → list_any f old ≡ true → list_any f new ≡ true

pub record IsNoted (s : Scale) (tick : ℕ) (name : Text) (old new : List Note) : Type 0 where
  pub grown : IsGrown old new
  pub there : s.from ≤ tick → tick ≤ s.to → (f : Note → Bool) → f (record { tick = tick; name = name }) ≡ true
      → list_any f new ≡ true

-- these words on the thread of a name are noted
pub record AreNoted (s : Scale) (name : Text) (words : List Word) (old new : List Note) : Type 0 where
  pub grown : IsGrown old new
  pub there : (t : ℕ) → s.from ≤ t → t ≤ s.to → list_any (word_in t) words ≡ true
      → list_any (is_noted t name) new ≡ true

-- ---- commands

-- the words of one command, with its later releases
abbrev pub words_by : (horizon : ℕ) → (name : Text) → Answered → (after : List Answered) → List Word
words_by horizon name a after =
    word_of a ∷ later a.tick (last_by horizon (first (words_on horizon name after))) (repeat_of a.command)

-- the later releases of the first of these commands are noted
pub record AreReleasesNoted (horizon : ℕ) (s : Scale) (old new : List Note) (all : List Answered) : Type 0 where
  pub grown : IsGrown old new
  pub there : (a : Answered) (after : List Answered) → all ≡ a ∷ after → (t : ℕ) (name : Text) → s.from ≤ t → t ≤ s.to
      → has_done (rouses name) a ≡ true
      → list_any (word_in t) (later a.tick (last_by horizon (first (words_on horizon name after)))
      (repeat_of a.command)) ≡ true
      → list_any (is_noted t name) new ≡ true

-- the first of these commands is noted, and so is what it says
abbrev pub FirstIsNoted : (horizon : ℕ) → Scale → List Note → List Answered → Type 0
FirstIsNoted horizon s notes [] = Unit {0}
FirstIsNoted horizon s notes (a ∷ after) =
    (s.from ≤ a.tick → a.tick ≤ s.to → list_any (is_in a.tick) notes ≡ true)
    × ((t : ℕ) (name : Text) → s.from ≤ t → t ≤ s.to → has_done (rouses name) a ≡ true
    → list_any (word_in t) (words_by horizon name a after) ≡ true → list_any (is_noted t name) notes ≡ true)

-- ---- all notes

abbrev pub AreInOrder : List Note → Type 0
AreInOrder notes = (i j : ℕ) (a b : Note) → i ≤ j → slice_get notes i ≡ Some a → slice_get notes j ≡ Some b
    → a.tick ≤ b.tick

-- each command in a shown tick is noted, and each word on a thread
pub record AreNotes (c : Content) (s : Scale) (notes : List Note) : Type 0 where
  pub order : AreInOrder notes
  pub commands : (t : ℕ) → s.from ≤ t → t ≤ s.to → list_any (comes_in t) c.answered ≡ true
      → list_any (is_in t) notes ≡ true
  pub words : (t : ℕ) (name : Text) (k : ℕ) → s.from ≤ t → t ≤ s.to
      → list_any (word_in t) (words_on c.horizon name (drop k c.answered)) ≡ true
      → list_any (is_noted t name) notes ≡ true
