-- Lists by their places.
use Rattle.std.proofs.Common.{◌≡◌, ◌≢◌, ℕ, zero, suc, ◌+◌, ◌<◌, ◌≤◌, List, [], ◌∷◌, ◌++◌, Bool, true, false}
use Rattle.std.proofs.Common.{length, refl, sym, ap, ◌∙◌, arith, map, take, filter, cond}
use Rattle.std.specs.Prelude.{Some, slice_get, slice_set, option_map}

-- lists that have the same at each place
pub same_all : {X : Type 0} (xs ys : List X) → ((i : ℕ) → slice_get xs i ≡ slice_get ys i) → xs ≡ ys
same_all [] [] same = refl
same_all [] (y ∷ ys) same = absurd (let e = same 0 in cc)
same_all (x ∷ xs) [] same = absurd (let e = same 0 in cc)
same_all {X = X} (x ∷ xs) (y ∷ ys) same =
    let first : Some x ≡ Some y = same 0 in
    let is : x ≡ y = cc in
    ap (λ (z : X). z ∷ xs) is ∙ ap (λ zs. y ∷ zs) (same_all xs ys (λ i. same (suc i)))

pub get_map : {X Y : Type 0} (f : X → Y) (xs : List X) (i : ℕ)
    → slice_get (map f xs) i ≡ option_map f (slice_get xs i)
get_map f [] i = refl
get_map f (x ∷ xs) zero = refl
get_map f (x ∷ xs) (suc i) = get_map f xs i

pub get_set : {X : Type 0} (xs : List X) (i : ℕ) (x y : X) → slice_get xs i ≡ Some x
    → slice_get (slice_set xs i y) i ≡ Some y
get_set [] i x y e = absurd (cc)
get_set (z ∷ xs) zero x y e = refl
get_set (z ∷ xs) (suc i) x y e = get_set xs i x y e

pub get_apart : {X : Type 0} (xs : List X) (i j : ℕ) (y : X) → j ≢ i
    → slice_get (slice_set xs i y) j ≡ slice_get xs j
get_apart [] i j y ne = refl
get_apart (z ∷ xs) zero zero y ne = absurd (ne refl)
get_apart (z ∷ xs) zero (suc j) y ne = refl
get_apart (z ∷ xs) (suc i) zero y ne = refl
get_apart (z ∷ xs) (suc i) (suc j) y ne = get_apart xs i j y (λ e. ne (ap (λ n. suc n) e))

pub get_within : {X : Type 0} (xs : List X) (i : ℕ) (x : X) → slice_get xs i ≡ Some x → i < length xs
get_within [] i x e = absurd (cc)
get_within (y ∷ xs) zero x e = omega arith
get_within (y ∷ xs) (suc i) x e = let lt = get_within xs i x e in omega (arith, lt)

pub get_front : {X : Type 0} (xs ys : List X) (i : ℕ) (x : X) → slice_get xs i ≡ Some x
    → slice_get (xs ++ ys) i ≡ Some x
get_front [] ys i x e = absurd (cc)
get_front (y ∷ xs) ys zero x e = e
get_front (y ∷ xs) ys (suc i) x e = get_front xs ys i x e

pub get_last : {X : Type 0} (xs : List X) (x : X) → slice_get (xs ++ x ∷ []) (length xs) ≡ Some x
get_last [] x = refl
get_last (y ∷ xs) x = get_last xs x

-- an item of a list with one more at its end
pub data IsOf {X : Type 0} (xs : List X) (last : X) (i : ℕ) (x : X) : Type 0 where
  Front : slice_get xs i ≡ Some x → IsOf xs last i x
  Last : i ≡ length xs → last ≡ x → IsOf xs last i x

pub of_either : {X : Type 0} (xs : List X) (last : X) (i : ℕ) (x : X) → slice_get (xs ++ last ∷ []) i ≡ Some x
    → IsOf xs last i x
of_either [] last zero x e = Last refl (cc)
of_either [] last (suc i) x e = absurd (cc)
of_either (y ∷ xs) last zero x e = Front e
of_either (y ∷ xs) last (suc i) x e = later (of_either xs last i x e)
  where
    later : IsOf xs last i x → IsOf (y ∷ xs) last (suc i) x
    later (Front at) = Front at
    later (Last end is) = Last (omega (arith, end)) is

pub take_next : {X : Type 0} (xs : List X) (i : ℕ) (x : X) → slice_get xs i ≡ Some x
    → take (i + 1) xs ≡ take i xs ++ x ∷ []
take_next [] i x e = absurd (cc)
take_next {X = X} (y ∷ xs) zero x e = let same : y ≡ x = cc in ap (λ (z : X). z ∷ []) same
take_next (y ∷ xs) (suc i) x e =
    let more : suc i + 1 ≡ suc (i + 1) = omega arith in
    ap (λ n. take n (y ∷ xs)) more ∙ ap (λ zs. y ∷ zs) (take_next xs i x e)

pub take_all : {X : Type 0} (xs : List X) (i : ℕ) → length xs ≤ i → take i xs ≡ xs
take_all [] zero le = refl
take_all [] (suc i) le = refl
take_all (x ∷ xs) zero le = absurd (omega (arith, le))
take_all (x ∷ xs) (suc i) le = ap (λ ys. x ∷ ys) (take_all xs i (omega (arith, le)))

-- ---- what a filter keeps

pub record IsKept {X : Type 0} (test : X → Bool) (xs : List X) (x : X) : Type 0 where
  pub at : ℕ
  pub there : slice_get xs at ≡ Some x
  pub passes : test x ≡ true

pub kept_of : {X : Type 0} (test : X → Bool) (xs : List X) (i : ℕ) (x : X)
    → slice_get (filter test xs) i ≡ Some x → IsKept test xs x
kept_of test [] i x e = absurd (cc)
kept_of {X = X} test (y ∷ xs) i x e = at (test y) i refl (λ j f. kept_of test xs j x f) e
  where
    later : IsKept test xs x → IsKept test (y ∷ xs) x
    later k = record { at = suc k.at; there = k.there; passes = k.passes }

    at : (b : Bool) (j : ℕ) → test y ≡ b
        → ((n : ℕ) → slice_get (filter test xs) n ≡ Some x → IsKept test xs x)
        → slice_get (cond b (y ∷ filter test xs) (filter test xs)) j ≡ Some x → IsKept test (y ∷ xs) x
    at true zero is rest e =
        let same : y ≡ x = cc in
        record { at = 0; there = e; passes = ap test (sym same) ∙ is }
    at true (suc j) is rest e = later (rest j e)
    at false j is rest e = later (rest j e)

pub kept_at : {X : Type 0} (test : X → Bool) (xs : List X) (i : ℕ) (x : X)
    → slice_get xs i ≡ Some x → test x ≡ true → (at : ℕ) × (slice_get (filter test xs) at ≡ Some x)
kept_at test [] i x e passes = absurd (cc)
kept_at {X = X} test (y ∷ xs) zero x e passes =
    let same : y ≡ x = cc in
    let is : test y ≡ true = ap test same ∙ passes in
    (0, ap (λ b. slice_get (cond b (y ∷ filter test xs) (filter test xs)) 0) is ∙ e)
kept_at {X = X} test (y ∷ xs) (suc i) x e passes = at (test y) refl (kept_at test xs i x e passes)
  where
    at : (b : Bool) → test y ≡ b → (n : ℕ) × (slice_get (filter test xs) n ≡ Some x)
        → (n : ℕ) × (slice_get (filter test (y ∷ xs)) n ≡ Some x)
    at true is k = (suc k.0, ap (λ b. slice_get (cond b (y ∷ filter test xs) (filter test xs)) (suc k.0)) is ∙ k.1)
    at false is k = (k.0, ap (λ b. slice_get (cond b (y ∷ filter test xs) (filter test xs)) k.0) is ∙ k.1)

pub filter_append : {X : Type 0} (p : X → Bool) (xs ys : List X) → filter p (xs ++ ys) ≡ filter p xs ++ filter p ys
filter_append p [] ys = refl
filter_append p (x ∷ xs) ys =
    elim (p x) as (λ b. cond b (x ∷ filter p (xs ++ ys)) (filter p (xs ++ ys))
    ≡ cond b (x ∷ filter p xs) (filter p xs) ++ filter p ys)
    [ true ↦ ap (λ l. x ∷ l) (filter_append p xs ys) | false ↦ filter_append p xs ys ]

pub filter_same : {X : Type 0} (p q : X → Bool) (xs : List X) → ((x : X) → p x ≡ q x) → filter p xs ≡ filter q xs
filter_same p q [] same = refl
filter_same p q (x ∷ xs) same =
    ap (λ b. cond b (x ∷ filter p xs) (filter p xs)) (same x)
    ∙ ap (λ zs. cond (q x) (x ∷ zs) zs) (filter_same p q xs same)

pub filter_all : {X : Type 0} (p : X → Bool) (xs : List X) → ((x : X) → p x ≡ true) → filter p xs ≡ xs
filter_all p [] all = refl
filter_all p (x ∷ xs) all =
    ap (λ b. cond b (x ∷ filter p xs) (filter p xs)) (all x) ∙ ap (λ zs. x ∷ zs) (filter_all p xs all)

pub map_same : {X Y : Type 0} (f g : X → Y) (xs : List X) → ((x : X) → f x ≡ g x) → map f xs ≡ map g xs
map_same f g [] same = refl
map_same f g (x ∷ xs) same = ap (λ y. y ∷ map f xs) (same x) ∙ ap (λ l. g x ∷ l) (map_same f g xs same)

pub map_all : {X : Type 0} (f : X → X) (xs : List X) → ((x : X) → f x ≡ x) → map f xs ≡ xs
map_all f [] same = refl
map_all f (x ∷ xs) same = ap (λ y. y ∷ map f xs) (same x) ∙ ap (λ l. x ∷ l) (map_all f xs same)

pub map_twice : {X Y Z : Type 0} (f : Y → Z) (g : X → Y) (h : X → Z) (xs : List X) → ((x : X) → f (g x) ≡ h x)
    → map f (map g xs) ≡ map h xs
map_twice f g h [] same = refl
map_twice f g h (x ∷ xs) same = ap (λ z. z ∷ map f (map g xs)) (same x) ∙ ap (λ l. h x ∷ l) (map_twice f g h xs same)
