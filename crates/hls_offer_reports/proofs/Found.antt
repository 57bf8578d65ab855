-- What stands in a list.
use Rattle.std.proofs.Common.{◌≡◌, ℕ, ◌⊎◌, inl, inr, List, [], ◌∷◌, get_or, ap, subst, arith}
use Rattle.std.specs.Prelude.{Contains, map}
use Rattle.std.proofs.lemmas.List.Elements.{Contains-append_cases, Contains-append_right}

pub none_in : {A : Type 0} (x : A) → Contains [] x → ⊥
none_in x (k, less, is) = omega arith

pub one_in : {A : Type 0} (y x : A) → Contains (y ∷ []) x → y ≡ x
one_in y x (k, less, is) = let e : k ≡ 0 = omega arith in subst (λ (n : ℕ). get_or (y ∷ []) n x ≡ x) e is

-- the first, or one of the others
pub first_or : {A : Type 0} (y : A) (ys : List A) (x : A) → Contains (y ∷ ys) x → (y ≡ x) ⊎ Contains ys x
first_or y ys x has =
    elim (Contains-append_cases (y ∷ []) ys x has) [
      | inl one ↦ inl (one_in y x one)
      | inr more ↦ inr more
    ]

pub behind_first : {A : Type 0} (y : A) (ys : List A) (x : A) → Contains ys x → Contains (y ∷ ys) x
behind_first y ys x has = Contains-append_right (y ∷ []) ys x has

pub record IsImage {A B : Type 0} (f : A → B) (xs : List A) (y : B) : Type 0 where
  pub source : A
  pub has : Contains xs source
  pub is : f source ≡ y

pub in_map : {A B : Type 0} (f : A → B) (xs : List A) (y : B) → Contains (map f xs) y → IsImage f xs y
in_map f [] y has = absurd (none_in y has)
in_map {A} {B} f (x ∷ xs) y has =
    elim (first_or (f x) (map f xs) y has) [
      | inl same ↦ record { source = x; has = (0, omega arith, λ i. x); is = same }
      | inr more ↦ (let rest = in_map f xs y more in
          record { source = rest.source; has = behind_first x xs rest.source rest.has; is = rest.is })
    ]

pub map_has : {A B : Type 0} (f : A → B) (xs : List A) (x : A) → Contains xs x → Contains (map f xs) (f x)
map_has f [] x has = absurd (none_in x has)
map_has f (y ∷ ys) x has =
    elim (first_or y ys x has) [
      | inl same ↦ (0, omega arith, ap f same)
      | inr more ↦ behind_first (f y) (map f ys) (f x) (map_has f ys x more)
    ]
