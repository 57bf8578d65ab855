-- The ticks in which a thread is ready, command by command.
use Rattle.std.proofs.Common.{◌≡◌, ℕ, zero, suc, inl, inr, ◌+◌, ◌-◌, ◌<◌, ◌≤◌, List, [], ◌∷◌, ◌++◌}
use Rattle.std.proofs.Common.{refl, sym, ap, ◌∙◌, subst, arith, cond, take, length, get_or, reverse}
use Rattle.std.specs.Prelude.{Bool, true, false, Option, Some, None, ◌&&◌, nat_le, find, slice_get}
use Rattle.std.specs.Option.{option_or}
use Rattle.std.proofs.lemmas.Bool.{cases_eq, le-leb, lt-leb, lt-ltb, le-ltb}
use Rattle.std.proofs.lemmas.List.{reverse-append, take_more}
use Rattle.std.proofs.lemmas.List.Folds.{find-append}
use Rattle.std.proofs.lemmas.Option.{slice_get_read, slice_get_within, slice_get_cases, get_or_from_slice_get}
use Rattle.hls_text.specs.Lines.{Text}
use Rattle.hls_chron.specs.Ticks.{count}
use Rattle.hls_audit_spans.specs.declared.span.Span.{Span}
use Rattle.hls_audit_spans.specs.Spans.{Tell, IsReach}
use Rattle.hls_audit_spans.proofs.Growing.{tell_none, tell_wider}
use Rattle.hls_releases.specs.Releases.{is_unserved}
use Rattle.hls_scenario.specs.declared.scenario.Command.{Command}
use Rattle.hls_scenario.specs.declared.scenario.Command.TheVariants.{Load, Thread, End, Unload, Move, Wake, Block}
use Rattle.hls_report_text.specs.declared.report.Answered.{Answered}
use Rattle.hls_legal.specs.Commands.{has_done, rouses, last_rousing}
use Rattle.hls_legal.specs.Ready.{lasts, is_awake}
use Rattle.hls_legal.proofs.Rousings.{rousing, find-snoc_hit, find-snoc_miss}
use Rattle.hls_audit_threads.specs.declared.lines.Readiness.{Readiness}
use Rattle.hls_audit_threads.specs.declared.lines.Readiness.TheVariants.{Asleep, Burst}
use Rattle.hls_audit_threads.specs.declared.lines.Periodic.{Periodic}
use Rattle.hls_audit_threads.specs.declared.chains.Chains.{Chains}
use Rattle.hls_audit_threads.specs.Inside.Chains.{Keys, HasKey, IsNextAt, IsNext, AreChains, next_of}
use Rattle.hls_audit_threads.specs.Inside.Lookups.{AreKeys, Rouses}
use Rattle.hls_audit_threads.specs.Inside.Order.{AreInOrder}
use Rattle.hls_audit_threads.specs.Inside.Lines.{readiness_of, is_on, IsOn, IsOnce, IsPeriodicBy}

-- ---- the last word on a thread at a tick

find_last : {X : Type 0} (test : X → Bool) (x : X) (xs : List X)
    → find test (reverse (x ∷ xs)) ≡ option_or (find test (reverse xs)) (find test (x ∷ []))
find_last test x xs =
    ap (find test) (reverse-append (x ∷ []) xs) ∙ find-append test (reverse xs) (x ∷ [])

one_none : {X : Type 0} (test : X → Bool) (x : X) → test x ≡ false → find test (x ∷ []) ≡ None
one_none test x e = ap (λ b. cond b (Some x) None) e

one_same : {X : Type 0} (test other : X → Bool) (x : X) → test x ≡ other x → find test (x ∷ []) ≡ find other (x ∷ [])
one_same test other x e = ap (λ b. cond b (Some x) None) e

all_late : {X : Type 0} (test : X → Bool) (xs : List X)
    → ((k : ℕ) (x : X) → slice_get xs k ≡ Some x → test x ≡ false) → find test (reverse xs) ≡ None
all_late test [] off = refl
all_late test (x ∷ xs) off =
    find_last test x xs
    ∙ ap (λ l. option_or l (find test (x ∷ []))) (all_late test xs (λ k y. off (suc k) y))
    ∙ one_none test x (off 0 x refl)

-- of the first i tests agree, of the rest none passes the first test
first_part : {X : Type 0} (test other : X → Bool) (xs : List X) (i : ℕ)
    → ((k : ℕ) (x : X) → k < i → slice_get xs k ≡ Some x → test x ≡ other x)
    → ((k : ℕ) (x : X) → i ≤ k → slice_get xs k ≡ Some x → test x ≡ false)
    → find test (reverse xs) ≡ find other (reverse (take i xs))
first_part test other [] zero same off = refl
first_part test other [] (suc i) same off = refl
first_part test other (x ∷ xs) zero same off = all_late test (x ∷ xs) (λ k y. off k y (omega arith))
first_part test other (x ∷ xs) (suc i) same off =
    find_last test x xs
    ∙ ap (λ l. option_or l (find test (x ∷ [])))
    (first_part test other xs i (λ k y lt. same (suc k) y (omega (arith, lt)))
    (λ k y le. off (suc k) y (omega (arith, le))))
    ∙ ap (option_or (find other (reverse (take i xs)))) (one_same test other x (same 0 x (omega arith) refl))
    ∙ sym (find_last other x (take i xs))

abbrev up_to : (t : ℕ) → (name : Text) → Answered → Bool
up_to t name a = nat_le a.tick t && has_done (rouses name) a

early_test : (t : ℕ) (name : Text) (a : Answered) → (has_done (rouses name) a ≡ true → a.tick ≤ t)
    → up_to t name a ≡ has_done (rouses name) a
early_test t name a early = by (has_done (rouses name) a) refl
  where
    by : (b : Bool) → has_done (rouses name) a ≡ b → (nat_le a.tick t && b) ≡ b
    by true e = ap (λ c. c && true) (le-leb a.tick t (early e))
    by false e = off (nat_le a.tick t)
      where
        off : (c : Bool) → (c && false) ≡ false
        off true = refl
        off false = refl

pub last_word : (name : Text) (t : ℕ) (xs : List Answered) (i : ℕ)
    → ((k : ℕ) (a : Answered) → k < i → slice_get xs k ≡ Some a → has_done (rouses name) a ≡ true → a.tick ≤ t)
    → ((k : ℕ) (a : Answered) → i ≤ k → slice_get xs k ≡ Some a → t < a.tick)
    → last_rousing name t xs ≡ rousing name (take i xs)
unfolding last_rousing
last_word name t xs i early late =
    first_part (up_to t name) (has_done (rouses name)) xs i
    (λ k a lt e. early_test t name a (early k a lt e))
    (λ k a le e. ap (λ b. b && has_done (rouses name) a) (lt-leb a.tick t (late k a le e)))

-- ---- ready

lasts_so : (serves : ℕ → Bool) (since t : ℕ) (command : Command)
    → lasts serves since t command ≡ is_on serves (readiness_of command) since t
lasts_so serves since t (Load name config perches) = refl
lasts_so serves since t (Thread name perch) = refl
lasts_so serves since t (End name) = refl
lasts_so serves since t (Unload name) = refl
lasts_so serves since t (Move name perch) = refl
lasts_so serves since t (Wake name every None) = refl
lasts_so serves since t (Wake name every (Some ticks)) = refl
lasts_so serves since t (Block name) = refl

-- in which ticks it is ready, by the ticks in which it is served
abbrev pub awake : List Answered → (name : Text) → (f : ℕ → Bool) → ℕ → Bool
awake xs name f t = is_awake f t (last_rousing name t xs)

pub record IsReadyTo (xs : List Answered) (name : Text) (f : ℕ → Bool) (end i since : ℕ) (ready : List Span)
    (r : Readiness) : Type 0 where
  pub within : since ≤ end
  pub tell : Tell (awake xs name f) ready since
  pub word : (t : ℕ) → since ≤ t
      → is_awake f t (rousing name (take i xs)) ≡ is_on f r since t
  pub past : (k : ℕ) (a : Answered) → k < i → slice_get xs k ≡ Some a → has_done (rouses name) a ≡ true
      → a.tick ≤ since
  pub ahead : (k : ℕ) (a : Answered) → i ≤ k → slice_get xs k ≡ Some a → since ≤ a.tick

pub ready_none : (xs : List Answered) (name : Text) (f : ℕ → Bool) (end : ℕ) → IsReadyTo xs name f end 0 0 [] Asleep
ready_none xs name f end = record {
  within = omega arith;
  tell = tell_none (awake xs name f);
  word = λ t le. refl;
  past = λ k a lt. absurd (omega (arith, lt));
  ahead = λ k a le e. omega arith;
}

taken : (xs : List Answered) (i : ℕ) (a : Answered) → i < length xs → a ≡ get_or xs i a
    → take (i + 1) xs ≡ take i xs ++ a ∷ []
taken xs i a lt e = take_more xs i a lt ∙ ap (λ (x : Answered). take i xs ++ x ∷ []) (sym e)

at_place : (xs : List Answered) (i k : ℕ) (a b : Answered) → a ≡ get_or xs i a → k ≡ i → slice_get xs k ≡ Some b → a ≡ b
at_place xs i k a b e same there =
    e ∙ get_or_from_slice_get xs i b a (subst (λ n. slice_get xs n ≡ Some b) same there)

pub ready_same : (xs : List Answered) (name : Text) (f : ℕ → Bool) (end i since : ℕ) (ready : List Span) (r : Readiness)
    (a : Answered) → i < length xs → a ≡ get_or xs i a → has_done (rouses name) a ≡ false
    → IsReadyTo xs name f end i since ready r → IsReadyTo xs name f end (i + 1) since ready r
ready_same xs name f end i since ready r a lt e off so_far = record {
  within = so_far.within;
  tell = so_far.tell;
  word = λ t le.
      ap (λ (l : List Answered). is_awake f t (rousing name l)) (taken xs i a lt e)
      ∙ ap (is_awake f t) (find-snoc_miss (has_done (rouses name)) (take i xs) a off)
      ∙ so_far.word t le;
  past = λ k b less there on. elim (cases_eq k i) [
    | inl same ↦
        let one = at_place xs i k a b e same there in
        let not_on : has_done (rouses name) b ≡ false = subst (λ x. has_done (rouses name) x ≡ false) one off in
        absurd (let wrong : true ≡ false = sym on ∙ not_on in cc)
    | inr ne ↦ so_far.past k b (omega arith) there on
  ];
  ahead = λ k b le. so_far.ahead k b (omega (arith, le));
}

-- before the next command that rouses it
word_here : (xs : List Answered) (name : Text) (f : ℕ → Bool) (end i since : ℕ) (ready : List Span) (r : Readiness)
    (until : ℕ) → ((k : ℕ) (b : Answered) → i ≤ k → slice_get xs k ≡ Some b → until ≤ b.tick)
    → IsReadyTo xs name f end i since ready r
    → (t : ℕ) → since ≤ t → t < until → awake xs name f t ≡ is_on f r since t
word_here xs name f end i since ready r until late so_far t lo hi =
    let word = last_word name t xs i
    (λ k a less there on. let past = so_far.past k a less there on in omega (arith, past, lo))
    (λ k a le there. let after = late k a le there in omega (arith, after, hi)) in
    ap (is_awake f t) word ∙ so_far.word t lo

-- the spans grow as far as the ticks go
abbrev pub Fills : (f : ℕ → Bool) (end since until : ℕ) → Readiness → (old new : List Span) → Type 0
Fills f end since until r old new = (g : ℕ → Bool) → Tell g old since
    → ((t : ℕ) → since ≤ t → t < until → g t ≡ is_on f r since t) → Tell g new until

pub ready_more : (xs : List Answered) (name : Text) (f : ℕ → Bool) (end i since : ℕ) (ready new : List Span)
    (r : Readiness) (a : Answered) → AreInOrder xs → i < length xs → a ≡ get_or xs i a
    → has_done (rouses name) a ≡ true → a.tick ≤ end → Fills f end since a.tick r ready new
    → IsReadyTo xs name f end i since ready r
    → IsReadyTo xs name f end (i + 1) a.tick new (readiness_of a.command)
ready_more xs name f end i since ready new r a order lt e on early fills so_far =
    let there : slice_get xs i ≡ Some a = slice_get_read xs (length xs) i a refl lt e in
    record {
      within = early;
      tell = fills (awake xs name f) so_far.tell
          (word_here xs name f end i since ready r a.tick (λ k b le at. order i k a b le there at) so_far);
      word = λ t le.
          ap (λ (l : List Answered). is_awake f t (rousing name l)) (taken xs i a lt e)
          ∙ ap (is_awake f t) (find-snoc_hit (has_done (rouses name)) (take i xs) a on)
          ∙ lasts_so f a.tick t a.command;
      past = λ k b less at rousing_b. elim (cases_eq k i) [
        | inl same ↦
            let one = at_place xs i k a b e same at in
            subst (λ (x : Answered). x.tick ≤ a.tick) one (omega arith)
        | inr ne ↦ order k i b a (omega arith) at there
      ];
      ahead = λ k b le at. order i k a b (omega (arith, le)) there at;
    }

-- what is between the commands that rouse the thread
module _ (xs : List Answered) (name : Text) (f : ℕ → Bool) (end since : ℕ) (keys : Keys)
    (are : AreKeys Rouses Rouses xs keys)
  where
    off_here : (k : ℕ) (a : Answered) → slice_get xs k ≡ Some a → ¬ HasKey keys name k
        → has_done (rouses name) a ≡ false
    off_here k a there none = by (has_done (rouses name) a) refl
      where
        by : (b : Bool) → has_done (rouses name) a ≡ b → has_done (rouses name) a ≡ false
        by true e = absurd (none (are.all k a name there e))
        by false e = e

    ready_skip : (n i : ℕ) (ready : List Span) (r : Readiness) → i + n ≤ length xs
        → ((k : ℕ) → i ≤ k → k < i + n → ¬ HasKey keys name k) → IsReadyTo xs name f end i since ready r
        → IsReadyTo xs name f end (i + n) since ready r
    ready_skip zero i ready r le none so_far = subst (λ m. IsReadyTo xs name f end m since ready r) (omega arith) so_far
    ready_skip (suc n) i ready r le none so_far = elim (slice_get_cases xs i).1 [
      | inl g ↦
          let one : IsReadyTo xs name f end (i + 1) since ready r =
          ready_same xs name f end i since ready r g.0 g.1 (sym g.3)
          (off_here i g.0 g.2 (none i (omega arith) (omega arith))) so_far in
          subst (λ m. IsReadyTo xs name f end m since ready r) (omega arith)
          (ready_skip n (i + 1) ready r (omega (arith, le))
          (λ k lo hi. none k (omega (arith, lo)) (omega (arith, hi))) one)
      | inr past ↦ absurd (let end = past.0 in omega (arith, end, le))
    ]

    -- up to a command, or to the end
    ready_to : (i j : ℕ) (ready : List Span) (r : Readiness) → i ≤ j → j ≤ length xs
        → ((k : ℕ) → i ≤ k → k < j → ¬ HasKey keys name k) → IsReadyTo xs name f end i since ready r
        → IsReadyTo xs name f end j since ready r
    ready_to i j ready r le within none so_far =
        subst (λ m. IsReadyTo xs name f end m since ready r) (omega (arith, le))
        (ready_skip (j - i) i ready r (omega (arith, le, within))
        (λ k lo hi. none k lo (omega (arith, hi, le))) so_far)

-- a walk along the commands that rouse the thread
pub record IsFilling (xs : List Answered) (keys : Keys) (name : Text) (f : ℕ → Bool) (end since : ℕ)
    (ready : List Span) (r : Readiness) (next : Option ℕ) : Type 0 where
  pub upto : ℕ
  pub within : upto ≤ length xs
  pub next_is : IsNext keys name upto next
  pub so_far : IsReadyTo xs name f end upto since ready r

pub filling_none : (xs : List Answered) (keys : Keys) (name : Text) (f : ℕ → Bool) (end : ℕ) (ready : List Span)
    (next : Option ℕ) → ready ≡ [] → IsNext keys name 0 next → IsFilling xs keys name f end 0 ready Asleep next
filling_none xs keys name f end ready next none is = record {
  upto = 0;
  within = omega arith;
  next_is = is;
  so_far = subst (λ (l : List Span). IsReadyTo xs name f end 0 0 l Asleep) (sym none) (ready_none xs name f end);
}

pub filling_here : (xs : List Answered) (keys : Keys) (name : Text) (f : ℕ → Bool) (end since : ℕ)
    (ready : List Span) (r : Readiness) (at : ℕ) → AreKeys Rouses Rouses xs keys
    → IsFilling xs keys name f end since ready r (Some at)
    → (at < length xs) × IsReadyTo xs name f end at since ready r
filling_here xs keys name f end since ready r at are going =
    let here : IsNextAt keys name going.upto at = going.next_is in
    let lt = slice_get_within keys at (Some name) here.here in
    let long = are.long in (
      omega (arith, lt, long),
      ready_to xs name f end since keys are going.upto at ready r here.behind
          (omega (arith, lt, long)) here.none going.so_far,
    )

pub filling_begun : (xs : List Answered) (keys : Keys) (name : Text) (f : ℕ → Bool) (end since : ℕ)
    (ready : List Span) (r : Readiness) (at : ℕ) (a : Answered) → AreKeys Rouses Rouses xs keys
    → IsFilling xs keys name f end since ready r (Some at) → a ≡ get_or xs at a → since ≤ a.tick
filling_begun xs keys name f end since ready r at a are going e =
    let here = filling_here xs keys name f end since ready r at are going in
    here.1.ahead at a (omega arith) (slice_get_read xs (length xs) at a refl here.0 e)

pub filling_more : (xs : List Answered) (keys : Keys) (name : Text) (f : ℕ → Bool) (end since : ℕ)
    (ready new : List Span) (r : Readiness) (at : ℕ) (a : Answered) (next : Option ℕ) → AreInOrder xs
    → AreKeys Rouses Rouses xs keys → IsFilling xs keys name f end since ready r (Some at) → a ≡ get_or xs at a
    → a.tick ≤ end → Fills f end since a.tick r ready new → IsNext keys name (at + 1) next
    → IsFilling xs keys name f end a.tick new (readiness_of a.command) next
filling_more xs keys name f end since ready new r at a next order are going e early fills behind =
    let here = filling_here xs keys name f end since ready r at are going in
    let lt = here.0 in
    let there = slice_get_read xs (length xs) at a refl lt e in
    let next_at : IsNextAt keys name going.upto at = going.next_is in
    record {
      upto = at + 1;
      within = omega (arith, lt);
      next_is = behind;
      so_far = ready_more xs name f end at since ready new r a order lt e (are.sound at a name there next_at.here) early
          fills here.1;
    }

pub filling_all : (xs : List Answered) (keys : Keys) (name : Text) (f : ℕ → Bool) (end since : ℕ)
    (ready new : List Span) (r : Readiness) → AreKeys Rouses Rouses xs keys
    → IsFilling xs keys name f end since ready r None → Fills f end since end r ready new
    → Tell (awake xs name f) new end
filling_all xs keys name f end since ready new r are going fills =
    let so_far = ready_to xs name f end since keys are going.upto (length xs) ready r going.within (omega arith)
    (λ k lo hi. going.next_is k lo) going.so_far in
    fills (awake xs name f) so_far.tell
    (word_here xs name f end (length xs) since ready r end
    (λ k b more at. let within = slice_get_within xs k b at in absurd (omega (arith, within, more))) so_far)

pub filling_next : (xs : List Answered) (keys : Keys) (chains : Chains) (name : Text) (f : ℕ → Bool) (end since : ℕ)
    (ready : List Span) (r : Readiness) (at : ℕ) → AreChains keys chains
    → IsFilling xs keys name f end since ready r (Some at) → IsNext keys name (at + 1) (next_of chains at)
filling_next xs keys chains name f end since ready r at linked going =
    let here : IsNextAt keys name going.upto at = going.next_is in linked.next at name (omega arith) here.here

-- ---- the spans grow

pub fills_some : (f g : ℕ → Bool) (since until reach : ℕ) (r : Readiness) (new : List Span) → IsOnce r since
    → IsOn f r since until reach → ((t : ℕ) → since ≤ t → t < until → g t ≡ is_on f r since t) → Tell g new reach
    → Tell g new until
fills_some f g since until reach r new once is same tell =
    tell_wider g new reach until is.ends
    (λ t lo hi.
    let begins = is.begins in
    let from : since ≤ t = omega (arith, lo, begins) in
    same t from hi ∙ once f t from ∙ is.off t lo hi) tell

pub burst_on : (f : ℕ → Bool) (r : Readiness) (since ticks : ℕ) (every : Option ℕ) (until reach : ℕ)
    → r ≡ Burst ticks every → IsReach f since ticks until reach → IsOn f r since until reach
burst_on f r since ticks every until reach is so =
    subst (λ (x : Readiness). IsOn f x since until reach) (sym is) (record {
      begins = so.begins;
      ends = so.ends;
      on = λ t lo hi. lt-ltb (count f since (t - since)) ticks (so.fewer t lo hi);
      off = λ t lo hi. le-ltb (count f since (t - since)) ticks (so.all t lo hi);
    })

pub on_ticks : (f g : ℕ → Bool) (since until reach : ℕ) (r : Readiness) → IsOnce r since → IsOn f r since until reach
    → ((t : ℕ) → since ≤ t → t < until → g t ≡ is_on f r since t) → (t : ℕ) → since ≤ t → t < reach → g t ≡ true
on_ticks f g since until reach r once is same t lo hi =
    let ends = is.ends in same t lo (omega (arith, hi, ends)) ∙ once f t lo ∙ is.on t lo hi

pub fills_none : (f g : ℕ → Bool) (since until reach : ℕ) (r : Readiness) (old : List Span) → IsOnce r since
    → IsOn f r since until reach → reach ≤ since
    → ((t : ℕ) → since ≤ t → t < until → g t ≡ is_on f r since t) → Tell g old since → Tell g old until
fills_none f g since until reach r old once is none same tell =
    let begins = is.begins in
    let here : since ≡ reach = omega (arith, none, begins) in
    fills_some f g since until reach r old once is same (subst (Tell g old) here tell)

-- the ticks of a periodic wake, as ticks of a readiness
pub periodic_on : (f g : ℕ → Bool) (since until : ℕ) (r : Readiness) (p : Periodic) → IsPeriodicBy r since p
    → ((t : ℕ) → since ≤ t → t < until → g t ≡ is_on f r since t) → (t : ℕ) → p.since ≤ t → t < until
    → g t ≡ is_unserved f (Some p.period) p.ticks p.since t
periodic_on f g since until r p is same t lo hi =
    let begins = is.begins in
    same t (omega (arith, begins, lo)) hi ∙ ap (λ (x : Readiness). is_on f x since t) is.is
    ∙ ap (λ (n : ℕ). is_unserved f (Some p.period) p.ticks n t) (sym begins)
