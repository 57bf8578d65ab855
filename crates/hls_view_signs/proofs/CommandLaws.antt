-- Something happens only in ticks that are noted.
use Rattle.std.proofs.Common.{◌≡◌, ℕ, ◌+◌, ◌-◌, List, [], ◌∷◌, true, false, refl, sym, ◌∙◌}
use Rattle.std.proofs.Common.{◌&&◌, ◌≤◌, inl, inr, drop}
use Rattle.std.specs.Prelude.{Option, Some, None, not, nat_lt, slice_get}
use Rattle.std.specs.List.{list_any}
use Rattle.std.specs.Str.{bytes_eq}
use Rattle.std.proofs.lemmas.List.Folds.{list_any-append}
use Rattle.hls_text.specs.Lines.{Text}
use Rattle.hls_chron.specs.Ticks.{count}
use Rattle.hls_report_text.specs.declared.report.Answered.{Answered}
use Rattle.hls_report_text.specs.Content.{Content}
use Rattle.hls_legal.specs.Schedule.{is_served}
use Rattle.hls_view_jobs.specs.declared.job.Sort.{Sort}
use Rattle.hls_view_jobs.specs.declared.job.Sort.TheVariants.{Wakes, Blocks, Ends}
use Rattle.hls_view_jobs.specs.declared.job.Word.{Word}
use Rattle.hls_view_jobs.specs.Words.{is_wake, is_end, words_on, first}
use Rattle.hls_view_jobs.specs.declared.job.Release.{Release}
use Rattle.hls_view_jobs.specs.Jobs.{release_of, releases, until}
use Rattle.hls_view_scale.specs.declared.scale.Scale.{Scale}
use Rattle.hls_view_tale.specs.declared.label.Label.{Label}
use Rattle.hls_view_tale.specs.declared.place.Place.{Place}
use Rattle.hls_view_tale.specs.declared.standing.Standing.{Standing}
use Rattle.hls_view_tale.specs.Places.{labels_of}
use Rattle.hls_view_tale.specs.Hierarchies.{places_at, standing_at}
use Rattle.hls_view_tree.specs.Stays.{standing_of}
use Rattle.hls_view_lanes.specs.Likeness.{is_same}
use Rattle.hls_view_lanes.specs.Leaves.{is_thread}
use Rattle.hls_view_signs.specs.declared.event.Event.{Event}
use Rattle.hls_view_signs.specs.declared.event.Event.TheVariants.{Begun, Woken, Dropped}
use Rattle.hls_view_signs.specs.Happenings as told
use Rattle.hls_view_signs.specs.declared.notes.Note.{Note}
use Rattle.hls_view_signs.specs.Inside.Notes.{is_in, is_noted, word_in, comes_in, AreNotes}
use Rattle.hls_view_signs.proofs.Tests.{either, or_left, or_right, first_of_two, second_of_two, any_gives, any_looser}
use Rattle.hls_view_signs.proofs.Tests.{any_at}

-- ---- of a job

release_broken : (c : Content) (t : ℕ) (name : Text) (tick : ℕ) (sort : Sort) (next : Option Word)
    → list_any (told.is_dropped c t name) (release_of tick sort next) ≡ true → told.breaks t next ≡ true
release_broken c t name tick (Wakes (Some asked)) next some =
    let r : Release = record { tick = tick; asked = asked; next = next } in
    elim (either (told.is_dropped c t name r) false some) [
      | inl cut ↦
          first_of_two (told.breaks t next)
          (nat_lt (count (is_served c.stretches name) tick (until c.horizon r - tick)) asked) cut
      | inr off ↦ absurd (let wrong : false ≡ true = off in cc)
    ]
release_broken c t name tick (Wakes None) next some = absurd (let no : false ≡ true = some in cc)
release_broken c t name tick Blocks next some = absurd (let no : false ≡ true = some in cc)
release_broken c t name tick Ends next some = absurd (let no : false ≡ true = some in cc)

broken_in : (t : ℕ) (ws : List Word) → told.breaks t (first ws) ≡ true → list_any (word_in t) ws ≡ true
broken_in t [] some = absurd (let no : false ≡ true = some in cc)
broken_in t (w ∷ ws) some =
    or_left (word_in t w) (list_any (word_in t) ws) (first_of_two (word_in t w) (not (is_end w.sort)) some)

pub releases_in : (c : Content) (t : ℕ) (name : Text) (ws : List Word)
    → list_any (told.is_dropped c t name) (releases ws) ≡ true → list_any (word_in t) ws ≡ true
releases_in c t name [] some = absurd (let no : false ≡ true = some in cc)
releases_in c t name (w ∷ ws) some =
    let f = told.is_dropped c t name in
    elim (either (list_any f (release_of w.tick w.sort (first ws))) (list_any f (releases ws))
    (sym (list_any-append f (release_of w.tick w.sort (first ws)) (releases ws)) ∙ some)) [
      | inl here ↦
          or_right (word_in t w) (list_any (word_in t) ws)
          (broken_in t ws (release_broken c t name w.tick w.sort (first ws) here))
      | inr there ↦ or_right (word_in t w) (list_any (word_in t) ws) (releases_in c t name ws there)
    ]

-- ---- of whatever happens

of_in : (t : ℕ) (all : List Answered) (place : ℕ) (got : Option Answered) → slice_get all place ≡ got
    → told.is_of t got ≡ true → list_any (comes_in t) all ≡ true
of_in t all place None is some = absurd (let no : false ≡ true = some in cc)
of_in t all place (Some a) is some = any_at (comes_in t) all place a is some

-- whoever is woken, or loses work, is told something
pub woken_told : (c : Content) (t : ℕ) (label : Label) (s : Standing) → told.happens c t Woken label s ≡ true
    → list_any (word_in t) (words_on c.horizon label.name (drop (s.born + 1) c.answered)) ≡ true
woken_told c t label s some =
    let words : List Word = words_on c.horizon label.name (drop (s.born + 1) c.answered) in
    any_looser (told.is_woken t) (word_in t) words
    (λ w on. first_of_two (word_in t w) (is_wake w.sort) on)
    (second_of_two (is_thread label) (list_any (told.is_woken t) words) some)

pub dropped_told : (c : Content) (t : ℕ) (label : Label) (s : Standing) → told.happens c t Dropped label s ≡ true
    → list_any (word_in t) (words_on c.horizon label.name (drop (s.born + 1) c.answered)) ≡ true
dropped_told c t label s some =
    let words : List Word = words_on c.horizon label.name (drop (s.born + 1) c.answered) in
    releases_in c t label.name words
    (second_of_two (is_thread label) (list_any (told.is_dropped c t label.name) (releases words)) some)

module _ (c : Content) (scale : Scale) (notes : List Note) (are : AreNotes c scale notes) (t : ℕ)
    (from : scale.from ≤ t) (to : t ≤ scale.to)
  where
    word_noted : (name : Text) (k : ℕ)
        → list_any (word_in t) (words_on c.horizon name (drop k c.answered)) ≡ true
        → list_any (is_in t) notes ≡ true
    word_noted name k some =
        any_looser (is_noted t name) (is_in t) notes
        (λ note on. first_of_two (is_in t note) (bytes_eq note.name name) on) (are.words t name k from to some)

    node_noted : (event : Event) (label : Label) (s : Standing) → told.happens c t event label s ≡ true
        → list_any (is_in t) notes ≡ true
    node_noted Begun label s some =
        are.commands t from to (of_in t c.answered s.opened (slice_get c.answered s.opened) refl some)
    node_noted Woken label s some = word_noted label.name (s.born + 1) (woken_told c t label s some)
    node_noted Dropped label s some = word_noted label.name (s.born + 1) (dropped_told c t label s some)

    stood_noted : (event : Event) (label : Label) (s : Option Standing) → told.happens_if c t event label s ≡ true
        → list_any (is_in t) notes ≡ true
    stood_noted event label None some = absurd (let no : false ≡ true = some in cc)
    stood_noted event label (Some s) some = node_noted event label s some

    pub happens_noted : (event : Event) (row : List Label) → told.happens_in c event row t ≡ true
        → list_any (is_in t) notes ≡ true
    happens_noted event row some =
        any_gives (λ (p : Place). is_same row (labels_of p) && told.happens_to c t event p.label) (places_at c t)
        (list_any (is_in t) notes ≡ true)
        (λ p both. stood_noted event p.label (standing_of (standing_at c t) p.label.name)
        (second_of_two (is_same row (labels_of p)) (told.happens_to c t event p.label) both)) some
