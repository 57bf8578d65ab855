-- What holds of all items of lists that are made of others.
use Rattle.std.proofs.Common.{◌≡◌, ℕ, zero, suc, List, [], ◌∷◌, ◌++◌, Bool, true, false, refl, subst, cond, map}
use Rattle.std.specs.Prelude.{Some, slice_get, flat_map, filter}
use Rattle.std.specs.List.{AllByRecursion, insert}

pub all-at : {X : Type 0} (P : X → Type 0) (xs : List X) (i : ℕ) (x : X) → AllByRecursion P xs
    → slice_get xs i ≡ Some x → P x
all-at P [] i x all e = absurd (cc)
all-at P (first ∷ xs) zero x all e = let same : first ≡ x = cc in subst P same all.0
all-at P (first ∷ xs) (suc i) x all e = all-at P xs i x all.1 e

pub all-from : {X : Type 0} (P : X → Type 0) (xs : List X) → ((i : ℕ) (x : X) → slice_get xs i ≡ Some x → P x)
    → AllByRecursion P xs
all-from P [] each = tt
all-from P (x ∷ xs) each = (each zero x refl, all-from P xs (λ i y is. each (suc i) y is))

pub all-weaker : {X : Type 0} (P Q : X → Type 0) (xs : List X) → ((x : X) → P x → Q x) → AllByRecursion P xs
    → AllByRecursion Q xs
all-weaker P Q [] f all = tt
all-weaker P Q (x ∷ xs) f all = (f x all.0, all-weaker P Q xs f all.1)

pub all-with : {X : Type 0} (P Q R : X → Type 0) (xs : List X) → ((x : X) → P x → Q x → R x) → AllByRecursion P xs
    → AllByRecursion Q xs → AllByRecursion R xs
all-with P Q R [] f ps qs = tt
all-with P Q R (x ∷ xs) f ps qs = (f x ps.0 qs.0, all-with P Q R xs f ps.1 qs.1)

pub all-mapped : {X Y : Type 0} (f : X → Y) (P : Y → Type 0) (xs : List X) → AllByRecursion (λ x. P (f x)) xs
    → AllByRecursion P (map f xs)
all-mapped f P [] all = tt
all-mapped f P (x ∷ xs) all = (all.0, all-mapped f P xs all.1)

pub all-unmapped : {X Y : Type 0} (f : X → Y) (P : Y → Type 0) (xs : List X) → AllByRecursion P (map f xs)
    → AllByRecursion (λ x. P (f x)) xs
all-unmapped f P [] all = tt
all-unmapped f P (x ∷ xs) all = (all.0, all-unmapped f P xs all.1)

-- ---- one list behind another

pub all-joined : {X : Type 0} (P : X → Type 0) (xs ys : List X) → AllByRecursion P xs → AllByRecursion P ys
    → AllByRecursion P (xs ++ ys)
all-joined P [] ys front back = back
all-joined P (x ∷ xs) ys front back = (front.0, all-joined P xs ys front.1 back)

pub all-front : {X : Type 0} (P : X → Type 0) (xs ys : List X) → AllByRecursion P (xs ++ ys) → AllByRecursion P xs
all-front P [] ys all = tt
all-front P (x ∷ xs) ys all = (all.0, all-front P xs ys all.1)

pub all-back : {X : Type 0} (P : X → Type 0) (xs ys : List X) → AllByRecursion P (xs ++ ys) → AllByRecursion P ys
all-back P [] ys all = all
all-back P (x ∷ xs) ys all = all-back P xs ys all.1

pub all-flat : {X Y : Type 0} (f : X → List Y) (P : Y → Type 0) (xs : List X)
    → AllByRecursion (λ x. AllByRecursion P (f x)) xs → AllByRecursion P (flat_map f xs)
all-flat f P [] all = tt
all-flat f P (x ∷ xs) all = all-joined P (f x) (flat_map f xs) all.0 (all-flat f P xs all.1)

pub all-unflat : {X Y : Type 0} (f : X → List Y) (P : Y → Type 0) (xs : List X) → AllByRecursion P (flat_map f xs)
    → AllByRecursion (λ x. AllByRecursion P (f x)) xs
all-unflat f P [] all = tt
all-unflat f P (x ∷ xs) all =
    (all-front P (f x) (flat_map f xs) all, all-unflat f P xs (all-back P (f x) (flat_map f xs) all))

-- ---- one item more, and some items less

pub all-inserted : {X : Type 0} (P : X → Type 0) (xs : List X) (i : ℕ) (x : X) → P x → AllByRecursion P xs
    → AllByRecursion P (insert xs i x)
all-inserted P xs zero x p all = (p, all)
all-inserted P [] (suc i) x p all = (p, tt)
all-inserted P (y ∷ xs) (suc i) x p all = (all.0, all-inserted P xs i x p all.1)

pub all-uninserted : {X : Type 0} (P : X → Type 0) (xs : List X) (i : ℕ) (x : X) → AllByRecursion P (insert xs i x)
    → P x × AllByRecursion P xs
all-uninserted P xs zero x all = all
all-uninserted P [] (suc i) x all = all
all-uninserted P (y ∷ xs) (suc i) x all =
    let rest = all-uninserted P xs i x all.1 in (rest.0, (all.0, rest.1))

all-kept : {X : Type 0} (P : X → Type 0) (b : Bool) (x : X) (xs : List X) → P x → AllByRecursion P xs
    → AllByRecursion P (cond b (x ∷ xs) xs)
all-kept P true x xs p all = (p, all)
all-kept P false x xs p all = all

pub all-filtered : {X : Type 0} (P : X → Type 0) (test : X → Bool) (xs : List X) → AllByRecursion P xs
    → AllByRecursion P (filter test xs)
all-filtered P test [] all = tt
all-filtered P test (x ∷ xs) all = all-kept P (test x) x (filter test xs) all.0 (all-filtered P test xs all.1)

unkept : {X : Type 0} (P : X → Type 0) (b : Bool) (x : X) (xs : List X) → AllByRecursion P (cond b (x ∷ xs) xs)
    → (b ≡ true → P x) × AllByRecursion P xs
unkept P true x xs all = (λ e. all.0, all.1)
unkept P false x xs all = (λ e. absurd (let no : false ≡ true = e in cc), all)

pub all-unfiltered : {X : Type 0} (P : X → Type 0) (test : X → Bool) (xs : List X) → AllByRecursion P (filter test xs)
    → AllByRecursion (λ x. test x ≡ true → P x) xs
all-unfiltered P test [] all = tt
all-unfiltered P test (x ∷ xs) all =
    let u = unkept P (test x) x (filter test xs) all in (u.0, all-unfiltered P test xs u.1)
