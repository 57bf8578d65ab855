-- What holds of each item of a list, and of each and each later one, by recursion.
use Rattle.std.proofs.Common.{◌≡◌, ℕ, zero, suc, ◌<◌, List, [], ◌∷◌, ◌++◌, true, false, length, subst, arith}
use Rattle.std.specs.Prelude.{Bool, cond, get_or, filter, find, take, drop, slice_get, flat_map, map, Some}
use Rattle.std.specs.List.{AllByRecursion, AllPairs}

abbrev pub Pairs : {X : Type 0} → (X → X → Type 0) → List X → Type 0
Pairs R [] = Unit {0}
Pairs R (x ∷ xs) = AllByRecursion (R x) xs × Pairs R xs

module _ {X : Type 0} where
  pub all-append : (P : X → Type 0) (xs ys : List X) → AllByRecursion P xs → AllByRecursion P ys
      → AllByRecursion P (xs ++ ys)
  all-append P [] ys front back = back
  all-append P (x ∷ xs) ys front back = (front.0, all-append P xs ys front.1 back)

  pub all-map : (P Q : X → Type 0) → ((x : X) → P x → Q x) → (xs : List X) → AllByRecursion P xs → AllByRecursion Q xs
  all-map P Q give [] all = tt
  all-map P Q give (x ∷ xs) all = (give x all.0, all-map P Q give xs all.1)

  all-at : (P : X → Type 0) (xs : List X) → AllByRecursion P xs → (i : ℕ) (d : X) → i < length xs → P (get_or xs i d)
  all-at P [] all i d lt = absurd (omega (arith, lt))
  all-at P (x ∷ xs) all zero d lt = all.0
  all-at P (x ∷ xs) all (suc i) d lt = all-at P xs all.1 i d (omega (arith, lt))

  pub pairs-append : (R : X → X → Type 0) (xs ys : List X) → Pairs R xs → Pairs R ys
      → AllByRecursion (λ x. AllByRecursion (R x) ys) xs → Pairs R (xs ++ ys)
  pairs-append R [] ys front back between = back
  pairs-append R (x ∷ xs) ys front back between =
      (all-append (R x) xs ys front.0 between.0, pairs-append R xs ys front.1 back between.1)

  pub pairs-at : (R : X → X → Type 0) (xs : List X) → Pairs R xs → AllPairs R xs
  pairs-at R [] pairs i j d lt less = absurd (omega (arith, less))
  pairs-at R (x ∷ xs) pairs zero zero d lt less = absurd (omega (arith, lt))
  pairs-at R (x ∷ xs) pairs zero (suc j) d lt less = all-at (R x) xs pairs.0 j d (omega (arith, less))
  pairs-at R (x ∷ xs) pairs (suc i) zero d lt less = absurd (omega (arith, lt))
  pairs-at R (x ∷ xs) pairs (suc i) (suc j) d lt less =
      pairs-at R xs pairs.1 i j d (omega (arith, lt)) (omega (arith, less))

  pub all-filter : (P : X → Type 0) (test : X → Bool) (xs : List X) → AllByRecursion P xs
      → AllByRecursion P (filter test xs)
  all-filter P test [] all = tt
  all-filter P test (x ∷ xs) all = by (test x) (all-filter P test xs all.1)
    where
      by : (b : Bool) → AllByRecursion P (filter test xs)
          → AllByRecursion P (cond b (x ∷ filter test xs) (filter test xs))
      by true rest = (all.0, rest)
      by false rest = rest

  pub all-find : (P : X → Type 0) (test : X → Bool) (xs : List X) (x : X) → find test xs ≡ Some x
      → AllByRecursion P xs → P x
  all-find P test [] x is all = absurd (cc)
  all-find P test (y ∷ xs) x is all = by (test y) is (λ e. all-find P test xs x e all.1)
    where
      by : (b : Bool) → cond b (Some y) (find test xs) ≡ Some x → (find test xs ≡ Some x → P x) → P x
      by true e later =
          let same : y ≡ x = cc in
          subst P same all.0
      by false e later = later e

  pub all-take : (P : X → Type 0) (n : ℕ) (xs : List X) → AllByRecursion P xs → AllByRecursion P (take n xs)
  all-take P zero xs all = tt
  all-take P (suc n) [] all = tt
  all-take P (suc n) (x ∷ xs) all = (all.0, all-take P n xs all.1)

  pub all-drop : (P : X → Type 0) (n : ℕ) (xs : List X) → AllByRecursion P xs → AllByRecursion P (drop n xs)
  all-drop P zero xs all = all
  all-drop P (suc n) [] all = tt
  all-drop P (suc n) (x ∷ xs) all = all-drop P n xs all.1

  pub all-got : (P : X → Type 0) (xs : List X) (i : ℕ) (x : X) → slice_get xs i ≡ Some x → AllByRecursion P xs → P x
  all-got P [] i x is all = absurd (cc)
  all-got P (y ∷ xs) zero x is all =
      let same : y ≡ x = cc in
      subst P same all.0
  all-got P (y ∷ xs) (suc i) x is all = all-got P xs i x is all.1

pub all-flat : {X Y : Type 0} (P : X → Type 0) (Q : Y → Type 0) (f : X → List Y)
    → ((x : X) → P x → AllByRecursion Q (f x)) → (xs : List X) → AllByRecursion P xs → AllByRecursion Q (flat_map f xs)
all-flat P Q f each [] all = tt
all-flat P Q f each (x ∷ xs) all =
    all-append Q (f x) (flat_map f xs) (each x all.0) (all-flat P Q f each xs all.1)

pub all-mapped : {X Y : Type 0} (P : X → Type 0) (Q : Y → Type 0) (f : X → Y) → ((x : X) → P x → Q (f x))
    → (xs : List X) → AllByRecursion P xs → AllByRecursion Q (map f xs)
all-mapped P Q f each [] all = tt
all-mapped P Q f each (x ∷ xs) all = (each x all.0, all-mapped P Q f each xs all.1)

pub all-any : {X : Type 0} (xs : List X) → AllByRecursion (λ (x : X). Unit {0}) xs
all-any [] = tt
all-any (x ∷ xs) = (tt, all-any xs)
