-- Tallies, one tick more.
use Rattle.std.proofs.Common.{◌≡◌, ℕ, zero, suc, ◌+◌, ◌<◌, List, [], ◌∷◌, ◌++◌, Bool, true, false, refl, ap, sym}
use Rattle.std.proofs.Common.{◌∙◌, cond, length, map, take, drop, arith}
use Rattle.std.specs.List.{range_with_len, count_by}
use Rattle.std.proofs.lemmas.List.Sums.{sum_by-append, count_by-le-length}
use Rattle.std.proofs.lemmas.List.FromFn.{length-range_with_len}
use Rattle.hls_view_lanes.specs.declared.tick_facts.Facts.{Facts}
use Rattle.hls_view_lanes.specs.declared.tallies.Tally.{Tally}
use Rattle.hls_view_lanes.specs.Inside.Tallies.{with_one, with_facts, all_with, tally}

range-last : (a n : ℕ) → range_with_len a (suc n) ≡ range_with_len a n ++ (a + n) ∷ []
range-last a zero = let here : a ≡ a + 0 = omega arith in ap (λ t. t ∷ []) here
range-last a (suc n) =
    let here : a + 1 + n ≡ a + suc n = omega arith in
    ap (λ (xs : List ℕ). a ∷ xs) (range-last (a + 1) n ∙ ap (λ t. range_with_len (a + 1) n ++ t ∷ []) here)

count-last : (p : ℕ → Bool) (a n : ℕ)
    → count_by p (range_with_len a (suc n)) ≡ count_by p (range_with_len a n) + cond (p (a + n)) 1 0
count-last p a n =
    let more = sum_by-append (λ t. cond (p t) 1 0) (range_with_len a n) ((a + n) ∷ []) in
    let one = ap (count_by p) (range-last a n) in
    omega (arith, more, one)

with-one : (count : ℕ) (b : Bool) → count < 4294967295 → with_one count b ≡ count + cond b 1 0
with-one count true few = omega (arith, few)
with-one count false few = omega arith

count-more : (p : ℕ → Bool) (a n : ℕ) → n < 4294967295
    → with_one (count_by p (range_with_len a n)) (p (a + n)) ≡ count_by p (range_with_len a (suc n))
count-more p a n few =
    let most = count_by-le-length p (range_with_len a n) in
    let long = length-range_with_len a n in
    with-one (count_by p (range_with_len a n)) (p (a + n)) (omega (arith, few, most, long)) ∙ sym (count-last p a n)

tally-same : (h i r q s u : ℕ) → h ≡ i → r ≡ q → s ≡ u
    → (let one : Tally = record { here = h; ready = r; served = s } in one)
    ≡ (let one : Tally = record { here = i; ready = q; served = u } in one)
tally-same h i r q s u e f g =
    let make : ℕ → ℕ → ℕ → Tally = (λ a b c. record { here = a; ready = b; served = c }) in
    ap (λ a. make a r s) e ∙ ap (λ b. make i b s) f ∙ ap (λ c. make i q c) g

tally-more : (lane : ℕ → Facts) (a n : ℕ) → n < 4294967295
    → with_facts (tally lane a n) (lane (a + n)) ≡ tally lane a (suc n)
tally-more lane a n few =
    tally-same _ _ _ _ _ _ (count-more (λ t. (lane t).here) a n few) (count-more (λ t. (lane t).ready) a n few)
    (count-more (λ t. (lane t).served) a n few)

pub tallies-more : (lanes : List (ℕ → Facts)) (a n : ℕ) → n < 4294967295
    → all_with (map (λ (lane : ℕ → Facts). tally lane a n) lanes) (map (λ (lane : ℕ → Facts). lane (a + n)) lanes)
    ≡ map (λ (lane : ℕ → Facts). tally lane a (suc n)) lanes
tallies-more [] a n few = refl
tallies-more (lane ∷ lanes) a n few =
    let next : ℕ → List Tally = (λ k. map (λ (l : ℕ → Facts). tally l a k) lanes) in
    ap (λ (t : Tally). t ∷ all_with (next n) (map (λ (l : ℕ → Facts). l (a + n)) lanes)) (tally-more lane a n few)
    ∙ ap (λ (ts : List Tally). tally lane a (suc n) ∷ ts) (tallies-more lanes a n few)

-- ---- what is written

all-long : (ts : List Tally) (fs : List Facts) → length (all_with ts fs) ≡ length ts
all-long [] fs = refl
all-long (t ∷ ts) [] = refl
all-long (t ∷ ts) (f ∷ fs) = let rest = all-long ts fs in omega (arith, rest)

back : (xs ys : List Tally) → length xs ≡ length ys → take (length ys) (xs ++ drop (length xs) ys) ≡ xs
back [] [] e = refl
back [] (y ∷ ys) e = absurd (omega (arith, e))
back (x ∷ xs) [] e = absurd (omega (arith, e))
back (x ∷ xs) (y ∷ ys) e = ap (λ (l : List Tally). x ∷ l) (back xs ys (omega (arith, e)))

pub written : (ts held new : List Tally) (fs : List Facts) (len : ℕ) → len ≡ length ts → held ≡ ts
    → new ≡ all_with held fs → take len (new ++ drop (length new) ts) ≡ all_with ts fs
written ts held new fs len long same is =
    let e : new ≡ all_with ts fs = is ∙ ap (λ (l : List Tally). all_with l fs) same in
    ap (λ n. take n (new ++ drop (length new) ts)) long
    ∙ back new ts (ap (λ (l : List Tally). length l) e ∙ all-long ts fs) ∙ e
