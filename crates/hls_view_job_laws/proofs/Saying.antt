-- While a word on a thread is the last one, it says whether the thread is ready.
use Rattle.std.proofs.Common.{◌≡◌, ℕ, zero, suc, ◌+◌, ◌-◌, ◌*◌, ◌/◌, ◌<◌, ◌≤◌, List, [], ◌∷◌, ◌++◌, Bool, true, false}
use Rattle.std.proofs.Common.{cond, inl, inr, refl, sym, subst}
use Rattle.std.proofs.Common.{ap, ◌∙◌, arith, append_assoc}
use Rattle.std.specs.Prelude.{Option, Some, None, ◌&&◌, find, reverse, nat_le, nat_lt, option_map}
use Rattle.std.specs.Option.{option_or}
use Rattle.std.specs.List.{AllByRecursion}
use Rattle.std.proofs.Math.Nat.{suc-mul, lt-div-mul-add}
use Rattle.std.proofs.lemmas.Bool.{cases_Bool, le-leb, lt-leb, and_from, and_left, and_right, both_ways}
use Rattle.std.proofs.lemmas.List.{reverse-append}
use Rattle.std.proofs.lemmas.List.Folds.{find-append}
use Rattle.hls_text.specs.Lines.{Text}
use Rattle.hls_chron.specs.Ticks.{count}
use Rattle.hls_releases.specs.Releases.{IsRelease, is_unserved}
use Rattle.hls_releases.proofs.Releases.{last_of as last_of_release, release_later, wake_is_release}
use Rattle.hls_scenario.specs.declared.scenario.Command.{Command}
use Rattle.hls_scenario.specs.declared.scenario.Command.TheVariants.{Load, Thread, End, Unload, Move, Wake, Block}
use Rattle.hls_scenario.specs.Grammar.{IsCommand}
use Rattle.hls_report_text.specs.declared.report.Answered.{Answered}
use Rattle.hls_report_text.specs.Content.{Content}
use Rattle.hls_report_text.specs.WellFormed.{AreAnswered}
use Rattle.hls_legal.specs.Accounts.{end_by}
use Rattle.hls_legal.specs.Commands.{has_done, rouses, last_rousing}
use Rattle.hls_legal.specs.Schedule.{is_served}
use Rattle.hls_legal.specs.Ready.{lasts, is_awake, is_ready}
use Rattle.hls_view_jobs.specs.declared.job.Sort.{Sort}
use Rattle.hls_view_jobs.specs.declared.job.Sort.TheVariants.{Wakes}
use Rattle.hls_view_jobs.specs.declared.job.Word.{Word}
use Rattle.hls_view_jobs.specs.declared.words.Repeat.{Repeat}
use Rattle.hls_view_jobs.specs.Words.{sort_of, word_of, is_end, first, repeat_of, again, last_by, later, said_by}
use Rattle.hls_view_jobs.specs.Words.{words_on}
use Rattle.hls_view_jobs.proofs.AgainLaws.{fits_behind, last_since}
use Rattle.hls_view_jobs.proofs.WordsSound.{words_sound, repeated_some}

-- ---- the last command that rouses a thread

none_of : {X : Type 0} (test : X → Bool) (xs : List X) → AllByRecursion (λ x. test x ≡ false) xs
    → find test (reverse xs) ≡ None
none_of test [] none = refl
none_of test (x ∷ xs) none =
    ap (find test) (reverse-append (x ∷ []) xs) ∙ find-append test (reverse xs) (x ∷ [])
    ∙ ap (λ l. option_or l (find test (x ∷ []))) (none_of test xs none.1)
    ∙ ap (λ b. cond b (Some x) None) none.0

last_of : {X : Type 0} (test : X → Bool) (front : List X) (x : X) (xs : List X) → test x ≡ true
    → AllByRecursion (λ y. test y ≡ false) xs → find test (reverse (front ++ x ∷ xs)) ≡ Some x
last_of test front x xs on none =
    ap (find test) (reverse-append front (x ∷ xs)) ∙ find-append test (reverse (x ∷ xs)) (reverse front)
    ∙ ap (λ l. option_or l (find test (reverse front)))
    (ap (find test) (reverse-append (x ∷ []) xs) ∙ find-append test (reverse xs) (x ∷ [])
    ∙ ap (λ l. option_or l (find test (x ∷ []))) (none_of test xs none)
    ∙ ap (λ b. cond b (Some x) None) on)

abbrev up_to : (t : ℕ) → (name : Text) → Answered → Bool
up_to t name a = nat_le a.tick t && has_done (rouses name) a

late : (version horizon last t : ℕ) (name : Text) (after : List Answered) → AreAnswered version horizon last after
    → t < last → AllByRecursion (λ a. up_to t name a ≡ false) after
late version horizon last t name [] are lt = tt
late version horizon last t name (a ∷ after) are lt =
    let order = are.2 in
    let past : t < a.tick = omega (arith, order, lt) in (
      and_left (nat_le a.tick t) (has_done (rouses name) a) (lt-leb a.tick t past),
      late version horizon a.tick t name after are.4 past,
    )

-- the tick of the next word, or else the horizon
abbrev pub until_next : (horizon : ℕ) → Option Word → ℕ
until_next horizon next = end_by horizon (option_map (λ (w : Word). w.tick) next)

-- before the first word none of these commands says anything
quiet : (version horizon last t : ℕ) (name : Text) (after : List Answered) → AreAnswered version horizon last after
    → t < until_next horizon (first (words_on horizon name after)) → AllByRecursion (λ a. up_to t name a ≡ false) after
unfolding words_on
quiet version horizon last t name [] are soon = tt
quiet version horizon last t name (a ∷ after) are soon = elim (cases_Bool (has_done (rouses name) a)) [
  | inl on ↦
      let past : t < a.tick = rw on at soon in (
        and_left (nat_le a.tick t) (has_done (rouses name) a) (lt-leb a.tick t past),
        late version horizon a.tick t name after are.4 past,
      )
  | inr off ↦ (
    and_right (nat_le a.tick t) (has_done (rouses name) a) off,
    quiet version horizon a.tick t name after are.4 (rw off at soon),
  )
]

-- ---- words

-- ready by a word of a tick
abbrev pub ready_by : (serves : ℕ → Bool) → (since t : ℕ) → Sort → Bool
ready_by serves since t (Wakes None) = true
ready_by serves since t (Wakes (Some ticks)) = nat_lt (count serves since (t - since)) ticks
ready_by serves since t _ = false

-- a wake with no later release is ready by itself
lasts_once : (serves : ℕ → Bool) (since t : ℕ) (command : Command) → repeat_of command ≡ None
    → lasts serves since t command ≡ ready_by serves since t (sort_of command)
lasts_once serves since t (Load name config perches) once = refl
lasts_once serves since t (Thread name perch) once = refl
lasts_once serves since t (End name) once = refl
lasts_once serves since t (Unload name) once = refl
lasts_once serves since t (Move name perch) once = refl
lasts_once serves since t (Wake name every None) once = refl
lasts_once serves since t (Wake name None (Some ticks)) once = refl
lasts_once serves since t (Wake name (Some period) (Some ticks)) once = absurd cc
lasts_once serves since t (Block name) once = refl

-- a periodic wake is ready by its last release
record LastsAnew (serves : ℕ → Bool) (since t : ℕ) (command : Command) (r : Repeat) : Type 0 where
  on : lasts serves since t command ≡ is_unserved serves (Some r.period) r.ticks since t
  said : sort_of command ≡ Wakes (Some r.ticks)

lasts_anew : (serves : ℕ → Bool) (since t : ℕ) (command : Command) (r : Repeat) → repeat_of command ≡ Some r
    → LastsAnew serves since t command r
lasts_anew serves since t (Load name config perches) r is = absurd cc
lasts_anew serves since t (Thread name perch) r is = absurd cc
lasts_anew serves since t (End name) r is = absurd cc
lasts_anew serves since t (Unload name) r is = absurd cc
lasts_anew serves since t (Move name perch) r is = absurd cc
lasts_anew serves since t (Wake name None burst) r is = absurd cc
lasts_anew serves since t (Wake name (Some period) None) r is = absurd cc
lasts_anew serves since t (Wake name (Some period) (Some ticks)) r is =
    let same : record { period = period; ticks = ticks } ≡ r = cc in
    subst (LastsAnew serves since t (Wake name (Some period) (Some ticks))) same (record { on = refl; said = refl })
lasts_anew serves since t (Block name) r is = absurd cc

-- up to the next word a thread is ready by this one
abbrev pub IsSaid : Content → (name : Text) → Word → (next : Option Word) → Type 0
IsSaid c name word next = (t : ℕ) → word.tick ≤ t → t < until_next c.horizon next
    → is_ready c name t ≡ ready_by (is_served c.stretches name) word.tick t word.sort

-- by each of these words but one that ends it, which is the last
abbrev pub AreSaid : Content → (name : Text) → List Word → Type 0
AreSaid c name [] = Unit {0}
AreSaid c name (word ∷ words) = (is_end word.sort ≡ false → IsSaid c name word (first words))
    × (is_end word.sort ≡ true → words ≡ []) × AreSaid c name words

-- a command says it up to the next one that says anything
abbrev pub IsTold : Content → (name : Text) → Answered → (next : Option Word) → Type 0
IsTold c name a next = (t : ℕ) → a.tick ≤ t → t < until_next c.horizon next
    → is_ready c name t ≡ lasts (is_served c.stretches name) a.tick t a.command

tells : (c : Content) (name : Text) (front : List Answered) (a : Answered) (after : List Answered)
    → c.answered ≡ front ++ a ∷ after → AreAnswered c.version c.horizon a.tick after → has_done (rouses name) a ≡ true
    → IsTold c name a (first (words_on c.horizon name after))
unfolding is_ready last_rousing
tells c name front a after split are on = λ t from before.
    ap (is_awake (is_served c.stretches name) t)
    (ap (last_rousing name t) split
    ∙ last_of (up_to t name) front a after
    (and_from (nat_le a.tick t) (has_done (rouses name) a) (le-leb a.tick t from) on)
    (quiet c.version c.horizon a.tick t name after are before))

pub says : (c : Content) (name : Text) (front : List Answered) (a : Answered) (after : List Answered)
    → c.answered ≡ front ++ a ∷ after → AreAnswered c.version c.horizon a.tick after → has_done (rouses name) a ≡ true
    → repeat_of a.command ≡ None → IsSaid c name (word_of a) (first (words_on c.horizon name after))
says c name front a after split are on once = λ t from before.
    tells c name front a after split are on t from before
    ∙ lasts_once (is_served c.stretches name) a.tick t a.command once

up_to_end : (c : Content) (name : Text) (word : Word) (words : List Word) (end : Bool) → is_end word.sort ≡ end
    → IsSaid c name word (first words) → AreSaid c name words → AreSaid c name (word ∷ cond end [] words)
up_to_end c name word words true ends said rest =
    (λ off. absurd (both_ways (is_end word.sort) off ends), λ on. refl, tt)
up_to_end c name word words false ends said rest =
    (λ off. said, λ on. absurd (both_ways (is_end word.sort) ends on), rest)

-- ---- releases

before_next : (horizon t : ℕ) (next : Option Word) → t < until_next horizon next → t ≤ last_by horizon next
before_next horizon t None lt = omega (arith, lt)
before_next horizon t (Some word) lt = omega (arith, lt)

soon_next : (horizon t : ℕ) (next : Option Word) → t < last_by horizon next → t < until_next horizon next
soon_next horizon t None lt = omega (arith, lt)
soon_next horizon t (Some word) lt = lt

-- each release of a wake says it up to the next one
module _ (c : Content) (name : Text) (period ticks since : ℕ) (rest : List Word) (some : 0 < period)
    (base : (t : ℕ) → since ≤ t → t < until_next c.horizon (first rest)
    → is_ready c name t ≡ is_unserved (is_served c.stretches name) (Some period) ticks since t)
    (behind : AreSaid c name rest)
  where
    one_said : (tick t : ℕ) → IsRelease period since tick → tick ≤ t → t < tick + period
        → t < until_next c.horizon (first rest)
        → is_ready c name t ≡ nat_lt (count (is_served c.stretches name) tick (t - tick)) ticks
    one_said tick t release from near before =
        let early = release.0 in
        base t (omega (arith, early, from)) before
        ∙ ap (λ (n : ℕ). nat_lt (count (is_served c.stretches name) n (t - n)) ticks)
        (last_of_release period since tick t release from near)

    again_said : (count tick : ℕ) → IsRelease period since tick
        → tick + count * period ≤ last_by c.horizon (first rest)
        → last_by c.horizon (first rest) < tick + count * period + period
        → AreSaid c name (record { tick = tick; sort = Wakes (Some ticks) }
        ∷ (again count period tick (Wakes (Some ticks)) ++ rest))
    again_said zero tick release early far = (
      λ goes_on t from before.
          let last = before_next c.horizon t (first rest) before in
          one_said tick t release from (omega (arith, last, far)) before,
      λ end. absurd cc,
      behind,
    )
    again_said (suc count) tick release early far =
        let long : suc count * period ≡ count * period + period = suc-mul count period in (
          λ goes_on t from before.
              one_said tick t release from before
              (soon_next c.horizon t (first rest) (omega (arith, before, long, early))),
          λ end. absurd cc,
          again_said count (tick + period) (release_later period since tick release) (omega (arith, long, early))
              (omega (arith, long, far)),
        )

-- ---- all words

-- what a command says, and the words behind it
said_of : (c : Content) (name : Text) (a : Answered) (words : List Word) → IsTold c name a (first words)
    → IsCommand c.version a.command → a.tick ≤ last_by c.horizon (first words) → AreSaid c name words
    → AreSaid c name (said_by c.horizon a words)
said_of c name a words told is early rest = by (repeat_of a.command) refl
  where
    by : (r : Option Repeat) → repeat_of a.command ≡ r → AreSaid c name (word_of a
        ∷ (later a.tick (last_by c.horizon (first words)) r ++ cond (is_end (sort_of a.command)) [] words))
    by None once =
        up_to_end c name (word_of a) words (is_end (sort_of a.command)) refl
        (λ t from before. told t from before ∙ lasts_once (is_served c.stretches name) a.tick t a.command once) rest
    by (Some r) is_again =
        let some : 0 < r.period = repeated_some c.version a.command r is is_again in
        let sort : sort_of a.command ≡ Wakes (Some r.ticks) =
        (lasts_anew (is_served c.stretches name) a.tick a.tick a.command r is_again).said in
        let last : ℕ = last_by c.horizon (first words) in
        let most = fits_behind a.tick last r.period early in
        let near : last - a.tick < (last - a.tick) / r.period * r.period + r.period =
        lt-div-mul-add some in
        rw sort
        (again_said c name r.period r.ticks a.tick words some
        (λ t from before. told t from before
        ∙ (lasts_anew (is_served c.stretches name) a.tick t a.command r is_again).on) rest
        ((last - a.tick) / r.period) a.tick (wake_is_release r.period a.tick) most (omega (arith, near, early)))

pub words_said : (c : Content) (name : Text) (front after : List Answered) (last : ℕ) → c.answered ≡ front ++ after
    → AreAnswered c.version c.horizon last after → AreSaid c name (words_on c.horizon name after)
unfolding words_on
words_said c name front [] last split are = tt
words_said c name front (a ∷ after) last split are =
    let rest =
    words_said c name (front ++ a ∷ []) after a.tick (split ∙ sym (append_assoc front (a ∷ []) after)) are.4 in
    elim (cases_Bool (has_done (rouses name) a)) [
      | inl on ↦
          rw on (said_of c name a (words_on c.horizon name after) (tells c name front a after split are.4 on) are.0
          (last_since c.horizon a.tick (words_on c.horizon name after) are.3
          (words_sound c.version c.horizon a.tick name after are.4))
          rest)
      | inr off ↦ rw off rest
    ]
