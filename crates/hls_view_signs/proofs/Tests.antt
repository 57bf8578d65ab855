-- Tests of the elements of lists, and what follows where one passes.
use Rattle.std.proofs.Common.{◌≡◌, ℕ, zero, suc, List, [], ◌∷◌, ◌++◌, Bool, true, false, refl, sym, ap, ◌∙◌}
use Rattle.std.proofs.Common.{◌&&◌, ◌||◌, ◌⊎◌, inl, inr, drop}
use Rattle.std.specs.Prelude.{Some, slice_get}
use Rattle.std.specs.List.{list_any, AllByRecursion}

pub either : (a b : Bool) → (a || b) ≡ true → (a ≡ true) ⊎ (b ≡ true)
either true b e = inl refl
either false b e = inr e

pub or_left : (a b : Bool) → a ≡ true → (a || b) ≡ true
or_left true b e = refl
or_left false b e = absurd (let no : false ≡ true = e in cc)

pub or_right : (a b : Bool) → b ≡ true → (a || b) ≡ true
or_right true b e = refl
or_right false b e = e

pub first_of_two : (a b : Bool) → (a && b) ≡ true → a ≡ true
first_of_two true b e = refl
first_of_two false b e = absurd (let no : false ≡ true = e in cc)

pub second_of_two : (a b : Bool) → (a && b) ≡ true → b ≡ true
second_of_two true b e = e
second_of_two false b e = absurd (let no : false ≡ true = e in cc)

pub both_of_two : (a b : Bool) → a ≡ true → b ≡ true → (a && b) ≡ true
both_of_two true b e f = f
both_of_two false b e f = absurd (let no : false ≡ true = e in cc)

-- two tests of which each is true where the other is
pub alike : (a b : Bool) → (a ≡ true → b ≡ true) → (b ≡ true → a ≡ true) → a ≡ b
alike true b to from = sym (to refl)
alike false true to from = from refl
alike false false to from = refl

-- ---- what follows of whichever element passes

pub any_gives : {A : Type 0} (p : A → Bool) (xs : List A) (Q : Type 0) → ((x : A) → p x ≡ true → Q)
    → list_any p xs ≡ true → Q
any_gives p [] Q each some = absurd (let no : false ≡ true = some in cc)
any_gives p (x ∷ xs) Q each some = elim (either (p x) (list_any p xs) some) [
  | inl here ↦ each x here
  | inr there ↦ any_gives p xs Q each there
]

pub any_of_gives : {A : Type 0} (P : A → Type 0) (p : A → Bool) (xs : List A) (Q : Type 0)
    → ((x : A) → P x → p x ≡ true → Q) → AllByRecursion P xs → list_any p xs ≡ true → Q
any_of_gives P p [] Q each all some = absurd (let no : false ≡ true = some in cc)
any_of_gives P p (x ∷ xs) Q each all some = elim (either (p x) (list_any p xs) some) [
  | inl here ↦ each x all.0 here
  | inr there ↦ any_of_gives P p xs Q each all.1 there
]

pub any_weaker : {A : Type 0} (P : A → Type 0) (p q : A → Bool) (xs : List A)
    → ((x : A) → P x → p x ≡ true → q x ≡ true) → AllByRecursion P xs → list_any p xs ≡ true → list_any q xs ≡ true
any_weaker P p q [] each all some = some
any_weaker P p q (x ∷ xs) each all some = elim (either (p x) (list_any p xs) some) [
  | inl here ↦ or_left (q x) (list_any q xs) (each x all.0 here)
  | inr there ↦ or_right (q x) (list_any q xs) (any_weaker P p q xs each all.1 there)
]

pub any_looser : {A : Type 0} (p q : A → Bool) (xs : List A) → ((x : A) → p x ≡ true → q x ≡ true)
    → list_any p xs ≡ true → list_any q xs ≡ true
any_looser p q [] each some = some
any_looser p q (x ∷ xs) each some = elim (either (p x) (list_any p xs) some) [
  | inl here ↦ or_left (q x) (list_any q xs) (each x here)
  | inr there ↦ or_right (q x) (list_any q xs) (any_looser p q xs each there)
]

-- ---- where it stands

pub any_behind : {A : Type 0} (p : A → Bool) (k : ℕ) (xs : List A) → list_any p (drop k xs) ≡ true
    → list_any p xs ≡ true
any_behind p zero xs some = some
any_behind p (suc k) [] some = some
any_behind p (suc k) (x ∷ xs) some = or_right (p x) (list_any p xs) (any_behind p k xs some)

pub any_at : {A : Type 0} (p : A → Bool) (xs : List A) (i : ℕ) (x : A) → slice_get xs i ≡ Some x → p x ≡ true
    → list_any p xs ≡ true
any_at p [] i x is on = absurd (cc)
any_at p (first ∷ xs) zero x is on =
    let e : x ≡ first = cc in or_left (p first) (list_any p xs) (ap p (sym e) ∙ on)
any_at p (first ∷ xs) (suc i) x is on = or_right (p first) (list_any p xs) (any_at p xs i x is on)

pub all_append : {A : Type 0} (P : A → Type 0) (xs ys : List A) → AllByRecursion P xs → AllByRecursion P ys
    → AllByRecursion P (xs ++ ys)
all_append P [] ys front back = back
all_append P (x ∷ xs) ys front back = (front.0, all_append P xs ys front.1 back)

pub all_weaker : {A : Type 0} (P Q : A → Type 0) (xs : List A) → ((x : A) → P x → Q x) → AllByRecursion P xs
    → AllByRecursion Q xs
all_weaker P Q [] each all = tt
all_weaker P Q (x ∷ xs) each all = (each x all.0, all_weaker P Q xs each all.1)
