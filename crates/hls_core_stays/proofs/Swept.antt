-- Tallies of which some are dropped.
use Rattle.std.proofs.Common.{◌≡◌, ◌≢◌, ℕ, zero, suc, inl, inr, ◌+◌, ◌<◌, ◌≤◌, List, [], ◌∷◌, ◌++◌, Bool, true, false}
use Rattle.std.proofs.Common.{length, refl, sym, ap, ◌∙◌, subst, arith, filter, take, drop, cond, append_assoc}
use Rattle.std.specs.Prelude.{Some, None, slice_get, slice_set, All, AllPairs}
use Rattle.std.proofs.lemmas.Bool.{cases_lt}
use Rattle.std.proofs.lemmas.List.{append-nil, drop_all, drop-set-lt, take_more_set, take-append-drop}
use Rattle.std.proofs.lemmas.List.Elements.{All-cons, All-head, All-tail, All-filter, filter-append}
use Rattle.std.proofs.lemmas.List.Kept.{AllPairs-cons, AllPairs-filter}
use Rattle.std.proofs.lemmas.Option.{slice_get_within, slice_get-get_or, get_or_from_slice_get}
use Rattle.hls_machine.specs.Hierarchy.{Hierarchy, Stay}
use Rattle.hls_tree.proofs.Listed.{skip_step, take_step}
use Rattle.hls_core_stays.specs.Tallies.{AreTallies, AreStays, AreSingle, IsTally, lasts, lasting}
use Rattle.hls_core_stays.specs.Inside.Steps.{swept}
use Rattle.hls_core_stays.specs.declared.stays.Stays.{Stays}
use Rattle.hls_core_stays.specs.declared.tally.Tally.{Tally}
use Rattle.hls_core_stays.proofs.Lists.{inner, length-set}
use Rattle.hls_core_stays.proofs.Lasting.{filter_within, lasts_of}

-- ---- the loop

-- the items from a place on were looked at up to another, and those that pass the test moved to the front
pub record IsSweeping {A : Type 0} (test : A → Bool) (from : ℕ) (old new : List A) (end at : ℕ) : Type 0 where
  pub low : end ≤ at
  pub long : length new ≡ length old
  pub whole : take end new ++ filter test (drop at new) ≡ take from old ++ filter test (drop from old)

pub sweep_start : {A : Type 0} (test : A → Bool) (from : ℕ) (xs : List A) → IsSweeping test from xs xs from from
sweep_start test from xs = record { low = omega arith; long = refl; whole = refl }

pub sweep_drops : {A : Type 0} (test : A → Bool) (from : ℕ) (old new : List A) (end at : ℕ) (x : A)
    → IsSweeping test from old new end at → slice_get new at ≡ Some x → test x ≡ false
    → IsSweeping test from old new end (at + 1)
sweep_drops test from old new end at x s e off = record {
  low = (let low = s.low in omega (arith, low));
  long = s.long;
  whole = ap (λ l. take end new ++ l) (skip_step test new at x e off) ∙ s.whole;
}

pub sweep_keeps : {A : Type 0} (test : A → Bool) (from : ℕ) (old new : List A) (end at : ℕ) (x : A)
    → IsSweeping test from old new end at → slice_get new at ≡ Some x → test x ≡ true
    → IsSweeping test from old (slice_set new end x) (end + 1) (at + 1)
sweep_keeps test from old new end at x s e on =
    let within = slice_get_within new at x e in
    let low = s.low in
    record {
      low = omega (arith, low);
      long = length-set new end x ∙ s.long;
      whole =
          ap (λ l. l ++ filter test (drop (at + 1) (slice_set new end x)))
          (take_more_set new end x (omega (arith, low, within)))
          ∙ ap (λ l. (take end new ++ x ∷ []) ++ filter test l)
          (drop-set-lt (at + 1) new end x (omega (arith, low)))
          ∙ append_assoc (take end new) (x ∷ []) (filter test (drop (at + 1) new))
          ∙ ap (λ l. take end new ++ l) (sym (take_step test new at x e on))
          ∙ s.whole;
    }

pub sweep_ends : {A : Type 0} (test : A → Bool) (from : ℕ) (old new : List A) (end at : ℕ)
    → IsSweeping test from old new end at → length old ≤ at
    → take end new ≡ take from old ++ filter test (drop from old)
sweep_ends test from old new end at s le =
    let long = s.long in
    sym (append-nil (take end new))
    ∙ ap (λ l. take end new ++ filter test l) (sym (drop_all at new (omega (arith, long, le)))) ∙ s.whole

-- ---- what is left of two lists of one length

record ArePaired {X Y : Type 0} (R : X → Y → Type 0) (xs : List X) (ys : List Y) : Type 0 where
  pub many : length ys ≡ length xs
  pub each : (i : ℕ) (x : X) (y : Y) → slice_get xs i ≡ Some x → slice_get ys i ≡ Some y → R x y

module _ {X Y : Type 0} (R : X → Y → Type 0) where
  paired_cons : (x : X) (y : Y) (xs : List X) (ys : List Y) → R x y → ArePaired R xs ys
      → ArePaired R (x ∷ xs) (y ∷ ys)
  paired_cons x y xs ys first rest = record { many = ap suc rest.many; each = by }
    where
      by : (i : ℕ) (a : X) (b : Y) → slice_get (x ∷ xs) i ≡ Some a → slice_get (y ∷ ys) i ≡ Some b → R a b
      by zero a b e f = subst (λ z. R a z) (inner y b f) (subst (λ z. R z y) (inner x a e) first)
      by (suc i) a b e f = rest.each i a b e f

  paired_rest : (x : X) (y : Y) (xs : List X) (ys : List Y) → ArePaired R (x ∷ xs) (y ∷ ys) → ArePaired R xs ys
  paired_rest x y xs ys are = record {
    many = (let many = are.many in omega (arith, many));
    each = λ i a b e f. are.each (suc i) a b e f;
  }

  module _ (p : X → Bool) (q : Y → Bool) (same : (x : X) (y : Y) → R x y → p x ≡ q y) where
    paired_if : (b c : Bool) (x : X) (y : Y) (xs : List X) (ys : List Y) → b ≡ c → R x y → ArePaired R xs ys
        → ArePaired R (cond b (x ∷ xs) xs) (cond c (y ∷ ys) ys)
    paired_if true true x y xs ys e first rest = paired_cons x y xs ys first rest
    paired_if false false x y xs ys e first rest = rest
    paired_if true false x y xs ys e first rest = absurd (cc)
    paired_if false true x y xs ys e first rest = absurd (cc)

    paired_filter : (xs : List X) (ys : List Y) → ArePaired R xs ys → ArePaired R (filter p xs) (filter q ys)
    paired_filter [] [] are = are
    paired_filter [] (y ∷ ys) are = absurd (let many = are.many in omega (arith, many))
    paired_filter (x ∷ xs) [] are = absurd (let many = are.many in omega (arith, many))
    paired_filter (x ∷ xs) (y ∷ ys) are =
        let first = are.each 0 x y refl refl in
        paired_if (p x) (q y) x y (filter p xs) (filter q ys) (same x y first) first
        (paired_filter xs ys (paired_rest x y xs ys are))

    paired_swept : (n : ℕ) (xs : List X) (ys : List Y) → ArePaired R xs ys
        → ArePaired R (take n xs ++ filter p (drop n xs)) (take n ys ++ filter q (drop n ys))
    paired_swept zero xs ys are = paired_filter xs ys are
    paired_swept (suc n) [] [] are = are
    paired_swept (suc n) [] (y ∷ ys) are = absurd (let many = are.many in omega (arith, many))
    paired_swept (suc n) (x ∷ xs) [] are = absurd (let many = are.many in omega (arith, many))
    paired_swept (suc n) (x ∷ xs) (y ∷ ys) are =
        paired_cons x y (take n xs ++ filter p (drop n xs)) (take n ys ++ filter q (drop n ys))
        (are.each 0 x y refl refl) (paired_swept n xs ys (paired_rest x y xs ys are))

-- ---- no thread has two stays that are open

abbrev AreTwo : Stay → Stay → Type 0
AreTwo one other = one.until ≡ None → other.until ≡ None → one.thread ≢ other.thread

pairs_of : (stays : List Stay) → AreSingle stays → AllPairs AreTwo stays
pairs_of stays single i j d lt within none other same =
    let at = single i j _ _ (slice_get-get_or stays i d (omega (arith, lt, within)))
    (slice_get-get_or stays j d within) none other same in
    omega (arith, at, lt)

single_of : (stays : List Stay) → AllPairs AreTwo stays → AreSingle stays
single_of stays pairs i j one other e f none shut same =
    elim (cases_lt i j) [
      | inl low ↦ absurd (apart i j one other low e f none shut same)
      | inr high ↦ elim (cases_lt j i) [
        | inl low ↦ absurd (apart j i other one low f e shut none (sym same))
        | inr le ↦ omega (arith, high, le)
      ]
    ]
  where
    apart : (i j : ℕ) (one other : Stay) → i < j → slice_get stays i ≡ Some one → slice_get stays j ≡ Some other
        → AreTwo one other
    apart i j one other lt e f none shut same =
        let a = get_or_from_slice_get stays i one one e in
        let b = get_or_from_slice_get stays j other one f in
        pairs i j one lt (slice_get_within stays j other f) (ap (λ (s : Stay). s.until) a ∙ none)
        (ap (λ (s : Stay). s.until) b ∙ shut)
        (ap (λ (s : Stay). s.thread) a ∙ same ∙ sym (ap (λ (s : Stay). s.thread) b))

pub all_swept : {X : Type 0} (P : X → Type 0) (p : X → Bool) (n : ℕ) (xs : List X) → All P xs
    → All P (take n xs ++ filter p (drop n xs))
all_swept P p zero xs all = All-filter p P xs all
all_swept P p (suc n) [] all = all
all_swept P p (suc n) (x ∷ xs) all =
    All-cons P x (take n xs ++ filter p (drop n xs)) (All-head P x xs all) (all_swept P p n xs (All-tail P x xs all))

pairs_swept : {X : Type 0} (R : X → X → Type 0) (p : X → Bool) (n : ℕ) (xs : List X) → AllPairs R xs
    → AllPairs R (take n xs ++ filter p (drop n xs))
pairs_swept R p zero xs pairs = AllPairs-filter R p xs pairs
pairs_swept R p (suc n) [] pairs = pairs
pairs_swept R p (suc n) (x ∷ xs) pairs =
    AllPairs-cons R x (take n xs ++ filter p (drop n xs))
    (all_swept (R x) p n xs (λ k d within. pairs zero (suc k) d (omega arith) (omega (arith, within))))
    (pairs_swept R p n xs (λ i j d lt within. pairs (suc i) (suc j) d (omega (arith, lt)) (omega (arith, within))))

-- ---- tallies

abbrev swept_stays : (from : ℕ) → List Stay → List Stay
swept_stays from stays = take from stays ++ lasting (drop from stays)

same_lasts : (h : Hierarchy) (stay : Stay) (tally : Tally) → IsTally h stay tally
    → lasts_of stay ≡ lasts tally.since tally.until
same_lasts h stay tally is = sym (ap (λ n. lasts n tally.until) is.since ∙ ap (lasts stay.since) is.until)

swept_tallies : (s new : Stays) (h : Hierarchy) (from : ℕ) (stays : List Stay) → AreTallies s h stays
    → new.tallies.items ≡ swept from s.tallies.items → new.idle ≡ s.idle
    → AreTallies new h (swept_stays from stays)
swept_tallies s new h from stays are is idle =
    let left = paired_swept (IsTally h) lasts_of (λ (t : Tally). lasts t.since t.until) (same_lasts h) from stays
    s.tallies.items (record { many = are.many; each = are.each }) in
    record {
      many = ap length is ∙ left.many;
      each = λ i stay tally e f. left.each i stay tally e (ap (λ l. slice_get l i) (sym is) ∙ f);
      single = single_of (swept_stays from stays) (pairs_swept AreTwo lasts_of from stays (pairs_of stays are.single));
      idle = idle ∙ are.idle;
    }

-- what is left are the same stays of a tick
swept_lasting : (from : ℕ) (stays : List Stay) → lasting (swept_stays from stays) ≡ lasting stays
swept_lasting from stays =
    filter-append lasts_of (take from stays) (lasting (drop from stays))
    ∙ ap (λ l. lasting (take from stays) ++ l)
    (filter_within lasts_of lasts_of (drop from stays) (λ x off. off))
    ∙ sym (filter-append lasts_of (take from stays) (drop from stays))
    ∙ ap lasting (take-append-drop from stays)

pub swept_same : (s new : Stays) (from : ℕ) → new.tallies.items ≡ swept from s.tallies.items → new.idle ≡ s.idle
    → (h : Hierarchy) → AreStays s h → AreStays new h
swept_same s new from is idle h are = record {
  kept = swept_stays from are.kept;
  are = swept_tallies s new h from are.kept are.are is idle;
  all = swept_lasting from are.kept ∙ are.all;
}
