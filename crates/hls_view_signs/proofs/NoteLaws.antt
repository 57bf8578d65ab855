-- Notes of ticks, one by one and all together.
use Rattle.std.proofs.Common.{◌≡◌, ℕ, zero, suc, ◌+◌, ◌<◌, ◌≤◌, ◌==◌, List, [], ◌∷◌, ◌++◌, Bool, true, false, refl, sym}
use Rattle.std.proofs.Common.{ap, ◌∙◌, ◌||◌, inl, inr, cond, drop, take, length, get_or, subst, arith}
use Rattle.std.specs.Prelude.{Some, nat_le, slice_get}
use Rattle.std.specs.List.{list_any, AllByRecursion}
use Rattle.std.specs.List.Sorted.{IsPermutation, IsNonDecreasingBy}
use Rattle.std.specs.Str.{bytes_eq}
use Rattle.std.proofs.lemmas.Bool.{cases_Bool, cases_eq, cases_lt, both_ways, eqb-true, eq-eqb, le-leb}
use Rattle.std.proofs.lemmas.List.{take_more, take_all, drop_all}
use Rattle.std.proofs.lemmas.List.Elements.{All-from_recursion, recursion_from_All}
use Rattle.std.proofs.lemmas.List.Folds.{list_any-append}
use Rattle.std.proofs.lemmas.List.Sorted.{All-permutation, IsPermutation-sym}
use Rattle.std.proofs.lemmas.Option.{slice_get_within, get_or_from_slice_get}
use Rattle.std.proofs.lemmas.Slice.Eq.{bytes_eq-Decides}
use Rattle.hls_text.specs.Lines.{Text}
use Rattle.hls_report_text.specs.declared.report.Answered.{Answered}
use Rattle.hls_report_text.specs.Content.{Content}
use Rattle.hls_legal.specs.Commands.{is_done, has_done, rouses}
use Rattle.hls_view_jobs.specs.declared.job.Word.{Word}
use Rattle.hls_view_jobs.specs.Words.{sort_of, word_of, is_end, first, repeat_of, last_by, later, words_on}
use Rattle.hls_view_scale.specs.declared.scale.Scale.{Scale}
use Rattle.hls_view_signs.specs.declared.notes.Note.{Note}
use Rattle.hls_view_signs.specs.Inside.Notes.{is_in, is_noted, word_in, comes_in, is_shown, IsGrown, IsNoted}
use Rattle.hls_view_signs.specs.Inside.Notes.{AreNoted, AreReleasesNoted, FirstIsNoted, AreInOrder, AreNotes}
use Rattle.hls_view_signs.proofs.Tests.{either, or_left, or_right, first_of_two, second_of_two, both_of_two}

-- ---- one note

pub noted_put : (s : Scale) (tick : ℕ) (name : Text) (old new : List Note)
    → new ≡ old ++ record { tick = tick; name = name } ∷ [] → IsNoted s tick name old new
noted_put s tick name old new put =
    let note : Note = record { tick = tick; name = name } in
    record {
      grown = λ f on. ap (list_any f) put ∙ list_any-append f old (note ∷ [])
          ∙ or_left (list_any f old) (f note || false) on;
      there = λ from to f on. ap (list_any f) put ∙ list_any-append f old (note ∷ [])
          ∙ or_right (list_any f old) (f note || false) (or_left (f note) false on);
    }

pub noted_not : (s : Scale) (tick : ℕ) (name : Text) (old : List Note) → is_shown s tick ≡ false
    → IsNoted s tick name old old
noted_not s tick name old off = record {
  grown = λ f on. on;
  there = λ from to f on. absurd (both_ways (is_shown s tick) off
      (both_of_two (nat_le s.from tick) (nat_le tick s.to) (le-leb s.from tick from) (le-leb tick s.to to)));
}

-- ---- words

pub words_noted_none : (s : Scale) (name : Text) (words : List Word) (old : List Note)
    → AreNoted s name (take 0 words) old old
words_noted_none s name words old =
    record { grown = λ f on. on; there = λ t from to some. absurd (let no : false ≡ true = some in cc) }

same_name : (name : Text) → bytes_eq name name ≡ true
same_name name = (bytes_eq-Decides name name).1 refl

note_of : (t tick : ℕ) (name : Text) → tick ≡ t → is_noted t name (record { tick = tick; name = name }) ≡ true
note_of t tick name now = both_of_two (tick == t) (bytes_eq name name) (eq-eqb tick t now) (same_name name)

taken : (words : List Word) (i : ℕ) (w : Word) → slice_get words i ≡ Some w
    → take (i + 1) words ≡ take i words ++ w ∷ []
taken words i w there =
    take_more words i w (slice_get_within words i w there)
    ∙ ap (λ (x : Word). take i words ++ x ∷ []) (get_or_from_slice_get words i w w there)

pub words_noted_more : (s : Scale) (name : Text) (words : List Word) (i : ℕ) (w : Word) (old mid new : List Note)
    → slice_get words i ≡ Some w → IsNoted s w.tick name mid new
    → AreNoted s name (take i words) old mid → AreNoted s name (take (i + 1) words) old new
words_noted_more s name words i w old mid new there one so_far = record {
  grown = λ f on. one.grown f (so_far.grown f on);
  there = λ t from to some.
      let split = sym (list_any-append (word_in t) (take i words) (w ∷ []))
      ∙ sym (ap (list_any (word_in t)) (taken words i w there)) ∙ some in
      elim (either (list_any (word_in t) (take i words)) (word_in t w || false) split) [
        | inl before ↦ one.grown (is_noted t name) (so_far.there t from to before)
        | inr here ↦ elim (either (word_in t w) false here) [
          | inl at ↦
              let now : w.tick ≡ t = eqb-true w.tick t at in
              one.there (omega (arith, now, from)) (omega (arith, now, to)) (is_noted t name)
              (note_of t w.tick name now)
          | inr off ↦ absurd (let wrong : false ≡ true = off in cc)
        ]
      ];
}

pub words_noted_all : (s : Scale) (name : Text) (words : List Word) (i : ℕ) (old new : List Note) → length words ≤ i
    → AreNoted s name (take i words) old new → AreNoted s name words old new
words_noted_all s name words i old new end are =
    subst (λ (l : List Word). AreNoted s name l old new) (take_all i words end) are

-- ---- a command

pub releases_none : (horizon : ℕ) (s : Scale) (a : Answered) (after : List Answered) (all : List Answered)
    (old : List Note) → all ≡ a ∷ after → is_done a.answer ≡ false → AreReleasesNoted horizon s old old all
releases_none horizon s a after all old is off = record {
  grown = λ f on. on;
  there = λ b rest split t name from to on some.
      let same : a ≡ b = (let e = sym is ∙ split in cc) in
      let done : is_done a.answer ≡ true =
      subst (λ (x : Answered). is_done x.answer ≡ true) (sym same)
      (first_of_two (is_done b.answer) (rouses name b.command) on) in
      absurd (both_ways (is_done a.answer) off done);
}

pub releases_put : (horizon : ℕ) (s : Scale) (a : Answered) (after : List Answered) (all : List Answered) (other : Text)
    (words : List Word) (old new : List Note) → all ≡ a ∷ after
    → ((name : Text) → rouses name a.command ≡ true → bytes_eq other name ≡ true)
    → words ≡ later a.tick (last_by horizon (first (words_on horizon other after))) (repeat_of a.command)
    → AreNoted s other words old new → AreReleasesNoted horizon s old new all
releases_put horizon s a after all other words old new is named are more = record {
  grown = more.grown;
  there = λ b rest split t name from to on some.
      let e : a ∷ after ≡ b ∷ rest = sym is ∙ split in
      let same : a ≡ b = cc in
      let behind : after ≡ rest = cc in
      let rouse : rouses name a.command ≡ true =
      subst (λ (x : Answered). rouses name x.command ≡ true) (sym same)
      (second_of_two (is_done b.answer) (rouses name b.command) on) in
      let who : other ≡ name = (bytes_eq-Decides other name).0 (named name rouse) in
      let said : list_any (word_in t) (later a.tick (last_by horizon (first (words_on horizon other after)))
      (repeat_of a.command)) ≡ true =
      subst (λ (n : Text). list_any (word_in t) (later a.tick (last_by horizon (first (words_on horizon n after)))
      (repeat_of a.command)) ≡ true) (sym who)
      (subst (λ (l : List Answered). list_any (word_in t) (later a.tick
      (last_by horizon (first (words_on horizon name l))) (repeat_of a.command)) ≡ true) (sym behind)
      (subst (λ (x : Answered). list_any (word_in t) (later x.tick
      (last_by horizon (first (words_on horizon name rest))) (repeat_of x.command)) ≡ true) (sym same) some)) in
      subst (λ (n : Text). list_any (is_noted t n) new ≡ true) who
      (more.there t from to (ap (list_any (word_in t)) are ∙ said));
}

pub first_noted : (horizon : ℕ) (s : Scale) (a : Answered) (after : List Answered) (all : List Answered) (other : Text)
    (old mid new : List Note) → all ≡ a ∷ after
    → ((name : Text) → rouses name a.command ≡ true → bytes_eq other name ≡ true)
    → IsNoted s a.tick other old mid → AreReleasesNoted horizon s mid new all → FirstIsNoted horizon s new all
first_noted horizon s a after all other old mid new is named one more =
    subst (FirstIsNoted horizon s new) (sym is) (
      λ from to. more.grown (is_in a.tick) (one.there from to (is_in a.tick) (eq-eqb a.tick a.tick refl)),
      λ t name from to on some.
          elim (either (word_in t (word_of a)) (list_any (word_in t) (later a.tick
          (last_by horizon (first (words_on horizon name after))) (repeat_of a.command))) some) [
            | inl here ↦
                let now : a.tick ≡ t = eqb-true a.tick t here in
                let rouse = second_of_two (is_done a.answer) (rouses name a.command) on in
                more.grown (is_noted t name)
                (one.there (omega (arith, now, from)) (omega (arith, now, to)) (is_noted t name)
                (both_of_two (a.tick == t) (bytes_eq other name) here (named name rouse)))
            | inr there ↦ more.there a after is t name from to on there
          ],
    )

-- ---- command by command

first_grown : (horizon : ℕ) (s : Scale) (old new : List Note) (all : List Answered) → IsGrown old new
    → FirstIsNoted horizon s old all → FirstIsNoted horizon s new all
first_grown horizon s old new [] grown first_is = tt
first_grown horizon s old new (a ∷ after) grown first_is = (
  λ from to. grown (is_in a.tick) (first_is.0 from to),
  λ t name from to on some. grown (is_noted t name) (first_is.1 t name from to on some),
)

pub notes_next : (horizon : ℕ) (s : Scale) (all : List Answered) (i : ℕ) (old new : List Note) → IsGrown old new
    → FirstIsNoted horizon s new (drop i all) → ((k : ℕ) → k < i → FirstIsNoted horizon s old (drop k all))
    → (k : ℕ) → k < i + 1 → FirstIsNoted horizon s new (drop k all)
notes_next horizon s all i old new grown here before k lt = elim (cases_eq k i) [
  | inl same ↦ subst (λ (n : ℕ). FirstIsNoted horizon s new (drop n all)) (sym same) here
  | inr other ↦ first_grown horizon s old new (drop k all) grown (before k (omega (arith, lt, other)))
]

every_one : (horizon : ℕ) (s : Scale) (all : List Answered) (i : ℕ) (notes : List Note) → length all ≤ i
    → ((k : ℕ) → k < i → FirstIsNoted horizon s notes (drop k all)) → (k : ℕ)
    → FirstIsNoted horizon s notes (drop k all)
every_one horizon s all i notes end each k = elim (cases_lt k i) [
  | inl less ↦ each k less
  | inr more ↦
      let none : drop k all ≡ [] = drop_all k all (omega (arith, more, end)) in
      subst (FirstIsNoted horizon s notes) (sym none) tt
]

-- ---- all of them

module _ (horizon : ℕ) (s : Scale) (notes : List Note) (t : ℕ) (from : s.from ≤ t) (to : t ≤ s.to) where
  said_noted : (name : Text) (a : Answered) (after : List Answered) (end : Bool) (words : List Word)
      → words ≡ words_on horizon name after → has_done (rouses name) a ≡ true
      → FirstIsNoted horizon s notes (a ∷ after)
      → (list_any (word_in t) words ≡ true → list_any (is_noted t name) notes ≡ true)
      → list_any (word_in t) (word_of a
      ∷ (later a.tick (last_by horizon (first words)) (repeat_of a.command) ++ cond end [] words)) ≡ true
      → list_any (is_noted t name) notes ≡ true
  said_noted name a after end words is on first_is rest some =
      let mine : List Word = word_of a ∷ later a.tick (last_by horizon (first words)) (repeat_of a.command) in
      elim (either (list_any (word_in t) mine) (list_any (word_in t) (cond end [] words))
      (sym (list_any-append (word_in t) mine (cond end [] words)) ∙ some)) [
        | inl here ↦
            first_is.1 t name from to on
            (subst (λ (l : List Word). list_any (word_in t)
            (word_of a ∷ later a.tick (last_by horizon (first l)) (repeat_of a.command)) ≡ true) is here)
        | inr there ↦ rest (behind end there)
      ]
    where
      behind : (b : Bool) → list_any (word_in t) (cond b [] words) ≡ true → list_any (word_in t) words ≡ true
      behind true wrong = absurd (let no : false ≡ true = wrong in cc)
      behind false right = right

  words_noted : (name : Text) (all : List Answered) → ((k : ℕ) → FirstIsNoted horizon s notes (drop k all))
      → list_any (word_in t) (words_on horizon name all) ≡ true → list_any (is_noted t name) notes ≡ true
  unfolding words_on
  words_noted name [] each some = absurd (let no : false ≡ true = some in cc)
  words_noted name (a ∷ after) each some =
      let rest = words_noted name after (λ k. each (suc k)) in
      elim (cases_Bool (has_done (rouses name) a)) [
        | inl on ↦
            said_noted name a after (is_end (sort_of a.command)) (words_on horizon name after) refl on (each 0) rest
            (rw on at some)
        | inr off ↦ rest (rw off at some)
      ]

  words_noted_at : (name : Text) (k : ℕ) (all : List Answered) → ((j : ℕ) → FirstIsNoted horizon s notes (drop j all))
      → list_any (word_in t) (words_on horizon name (drop k all)) ≡ true → list_any (is_noted t name) notes ≡ true
  words_noted_at name zero all each some = words_noted name all each some
  words_noted_at name (suc k) [] each some = words_noted name [] each some
  words_noted_at name (suc k) (a ∷ after) each some = words_noted_at name k after (λ j. each (suc j)) some

  commands_noted : (all : List Answered) → ((k : ℕ) → FirstIsNoted horizon s notes (drop k all))
      → list_any (comes_in t) all ≡ true → list_any (is_in t) notes ≡ true
  commands_noted [] each some = absurd (let no : false ≡ true = some in cc)
  commands_noted (a ∷ after) each some = elim (either (comes_in t a) (list_any (comes_in t) after) some) [
    | inl here ↦
        let now : a.tick ≡ t = eqb-true a.tick t here in
        subst (λ (n : ℕ). list_any (is_in n) notes ≡ true) now
        ((each 0).0 (omega (arith, now, from)) (omega (arith, now, to)))
    | inr there ↦ commands_noted after (λ k. each (suc k)) there
  ]

-- ---- in another order

none_passes : (f : Note → Bool) (notes : List Note) → list_any f notes ≡ false
    → AllByRecursion (λ (n : Note). f n ≡ false) notes
none_passes f [] off = tt
none_passes f (n ∷ notes) off = by (f n) refl (none_passes f notes) off
  where
    by : (b : Bool) → f n ≡ b
        → (list_any f notes ≡ false → AllByRecursion (λ (m : Note). f m ≡ false) notes)
        → (b || list_any f notes) ≡ false → AllByRecursion (λ (m : Note). f m ≡ false) (n ∷ notes)
    by true on rest off = absurd (let no : true ≡ false = off in cc)
    by false here rest off = (here, rest off)

passes_none : (f : Note → Bool) (notes : List Note) → AllByRecursion (λ (n : Note). f n ≡ false) notes
    → list_any f notes ≡ false
passes_none f [] none = refl
passes_none f (n ∷ notes) none = ap (λ b. b || list_any f notes) none.0 ∙ passes_none f notes none.1

any_moved : (f : Note → Bool) (old new : List Note) → IsPermutation old new → list_any f old ≡ true
    → list_any f new ≡ true
any_moved f old new moved on = elim (cases_Bool (list_any f new)) [
  | inl there ↦ there
  | inr off ↦
      absurd (both_ways (list_any f old)
      (passes_none f old (recursion_from_All (λ (n : Note). f n ≡ false) old
      (All-permutation (λ (n : Note). f n ≡ false) new old (IsPermutation-sym old new moved)
      (All-from_recursion (λ (n : Note). f n ≡ false) new (none_passes f new off))))) on)
]

in_order : (notes : List Note) → IsNonDecreasingBy (λ (n : Note). n.tick) notes → AreInOrder notes
in_order notes sorted i j a b le here there =
    let first_is : get_or notes i a ≡ a = get_or_from_slice_get notes i a a here in
    let next_is : get_or notes j a ≡ b = get_or_from_slice_get notes j b a there in
    let up = sorted i j a le (slice_get_within notes j b there) in
    subst (λ (n : Note). n.tick ≤ b.tick) first_is (subst (λ (n : Note). (get_or notes i a).tick ≤ n.tick) next_is up)

pub notes_all : (c : Content) (s : Scale) (all : List Answered) (i : ℕ) (old new : List Note) → all ≡ c.answered
    → length all ≤ i → ((k : ℕ) → k < i → FirstIsNoted c.horizon s old (drop k all)) → IsPermutation old new
    → IsNonDecreasingBy (λ (n : Note). n.tick) new → AreNotes c s new
notes_all c s all i old new is end each moved sorted =
    let every = every_one c.horizon s all i old end each in
    record {
      order = in_order new sorted;
      commands = λ t from to some. any_moved (is_in t) old new moved
          (commands_noted c.horizon s old t from to all every
          (subst (λ (l : List Answered). list_any (comes_in t) l ≡ true) (sym is) some));
      words = λ t name k from to some. any_moved (is_noted t name) old new moved
          (words_noted_at c.horizon s old t from to name k all every
          (subst (λ (l : List Answered). list_any (word_in t) (words_on c.horizon name (drop k l)) ≡ true) (sym is)
          some));
    }
