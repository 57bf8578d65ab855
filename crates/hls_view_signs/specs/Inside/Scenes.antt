-- What is known of a tick before its places are looked at.
use Rattle.std.specs.Prelude.{◌≡◌, ℕ, ◌<◌, ◌≤◌, List, Some, Bool, true, drop, length, slice_get}
use Rattle.std.specs.List.{list_any}
use Rattle.std.specs.Str.{bytes_eq}
use Rattle.hls_text.specs.Lines.{Text}
use Rattle.hls_report_text.specs.declared.report.Answered.{Answered}
use Rattle.hls_report_text.specs.Content.{Content}
use Rattle.hls_view_jobs.specs.Words.{words_on}
use Rattle.hls_view_tale.specs.declared.standing.Standing.{Standing}
use Rattle.hls_view_signs.specs.declared.event.Event.{Event}
use Rattle.hls_view_signs.specs.declared.event.Event.TheVariants.{Begun, Woken, Dropped}
use Rattle.hls_view_signs.specs.declared.notes.Note.{Note}
use Rattle.hls_view_signs.specs.Happenings.{is_of}
use Rattle.hls_view_signs.specs.Inside.Notes.{is_noted, word_in}

abbrev pub is_roused : (names : List Text) → (name : Text) → Bool
is_roused names name = list_any (λ other. bytes_eq other name) names

-- each of the first so many notes comes before a tick, and none from a further place on does
pub record IsParted (all : List Note) (t low high : ℕ) : Type 0 where
  pub order : low ≤ high
  pub within : high ≤ length all
  pub early : (k : ℕ) (a : Note) → k < low → slice_get all k ≡ Some a → a.tick < t
  pub late : (k : ℕ) (a : Note) → high ≤ k → slice_get all k ≡ Some a → t ≤ a.tick

-- so many notes come before a tick
abbrev pub AreBefore : List Note → (t came : ℕ) → Type 0
AreBefore all t came = IsParted all t came came

-- of the first so many notes those of a tick are of no others
pub record AreHeard (all : List Note) (t came : ℕ) (names : List Text) : Type 0 where
  pub heard : (name : Text) (k : ℕ) (a : Note) → k < came → slice_get all k ≡ Some a
      → is_noted t name a ≡ true → is_roused names name ≡ true

-- the notes of a tick are of no others
abbrev pub AreNamed : List Note → (t : ℕ) → (names : List Text) → Type 0
AreNamed all t names = (name : Text) → list_any (is_noted t name) all ≡ true → is_roused names name ≡ true

-- the words of a tick are noted
abbrev pub AreSaid : Content → (t : ℕ) → List Note → Type 0
AreSaid c t notes = (name : Text) (k : ℕ)
    → list_any (word_in t) (words_on c.horizon name (drop k c.answered)) ≡ true
    → list_any (is_noted t name) notes ≡ true

-- nobody else is told anything in a tick
abbrev pub AreRoused : Content → (t : ℕ) → (names : List Text) → Type 0
AreRoused c t names = (name : Text) (k : ℕ)
    → list_any (word_in t) (words_on c.horizon name (drop k c.answered)) ≡ true → is_roused names name ≡ true

-- a stay begins in a tick
abbrev pub any_begun : List Answered → (t : ℕ) → List Standing → Bool
any_begun all t standing = list_any (λ (s : Standing). is_of t (slice_get all s.opened)) standing

-- something may happen to the node of a name
abbrev pub may_happen : (roused : List Text) → (begins : Bool) → Event → (name : Text) → Bool
may_happen roused begins Begun name = begins
may_happen roused begins Woken name = is_roused roused name
may_happen roused begins Dropped name = is_roused roused name
