-- Lists with one more behind, and what stands in them.
use Rattle.std.proofs.Common.{◌≡◌, ℕ, ◌<◌, ◌⊎◌, inl, inr, List, [], ◌∷◌, ◌++◌}
use Rattle.std.proofs.Common.{length, get_or, refl, ap, sym, subst, arith}
use Rattle.std.specs.Prelude.{Option, Some, None, Contains, slice_get, option_to_list, All as Each, AllPairs}
use Rattle.std.proofs.lemmas.Option.{slice_get_read, slice_get_within, get_or_from_slice_get}
use Rattle.std.proofs.lemmas.List.Elements.{Contains-append_left, Contains-append_right, Contains-append_cases}
use Rattle.std.proofs.lemmas.List.Elements.{Contains-get_or}
use Rattle.std.proofs.lemmas.List.{append-nil}
use Rattle.std.proofs.lemmas.List.Quantifiers.{all_pairs_push}

pub none-in : {X : Type 0} (g : X) → Contains [] g → ⊥
none-in g (k, less, is) = omega arith

pub one-in : {X : Type 0} (y g : X) → Contains (y ∷ []) g → g ≡ y
one-in y g (k, less, is) =
    let e : k ≡ 0 = omega arith in sym (subst (λ (n : ℕ). get_or (y ∷ []) n g ≡ g) e is)

pub in-one : {X : Type 0} (y g : X) → g ≡ y → Contains (y ∷ []) g
in-one y g e = (0, omega arith, sym e)

pub pushed-cases : {X : Type 0} (xs ys : List X) (y g : X) → ys ≡ xs ++ (y ∷ []) → Contains ys g
    → Contains xs g ⊎ (g ≡ y)
pushed-cases xs ys y g is has =
    elim (Contains-append_cases xs (y ∷ []) g (subst (λ v. Contains v g) is has)) [
      | inl old ↦ inl old
      | inr new ↦ inr (one-in y g new)
    ]

pub pushed-kept : {X : Type 0} (xs ys : List X) (y g : X) → ys ≡ xs ++ (y ∷ []) → Contains xs g → Contains ys g
pushed-kept xs ys y g is has = subst (λ v. Contains v g) (sym is) (Contains-append_left xs (y ∷ []) g has)

pub pushed-there : {X : Type 0} (xs ys : List X) (y g : X) → ys ≡ xs ++ (y ∷ []) → g ≡ y → Contains ys g
pushed-there xs ys y g is same =
    subst (λ v. Contains v g) (sym is) (Contains-append_right xs (y ∷ []) g (in-one y g same))

-- each before is so to the new one
pub pushed-pairs : {X : Type 0} (R : X → X → Type 0) (xs ys : List X) (y : X) → ys ≡ xs ++ (y ∷ [])
    → AllPairs R xs → ((g : X) → Contains xs g → R g y) → AllPairs R ys
pushed-pairs R xs ys y is pairs each =
    subst (λ v. AllPairs R v) (sym is)
    (all_pairs_push R xs y pairs (λ k d less. each (get_or xs k d) (Contains-get_or xs k d less)))

pub no-pairs : {X : Type 0} (R : X → X → Type 0) (xs : List X) → xs ≡ [] → AllPairs R xs
no-pairs R xs is = subst (λ v. AllPairs R v) (sym is) (λ i j d less within. absurd (omega arith))

-- ---- one more, if there is one

pub in-option : {X : Type 0} (found : Option X) (g : X) → Contains (option_to_list found) g → found ≡ Some g
in-option None g has = absurd (none-in g has)
in-option (Some y) g has = ap Some (sym (one-in y g has))

option-in : {X : Type 0} (found : Option X) (g : X) → found ≡ Some g → Contains (option_to_list found) g
option-in found g is = subst (λ v. Contains (option_to_list v) g) (sym is) (in-one g g refl)

pub option-cases : {X : Type 0} (xs ys : List X) (found : Option X) (g : X) → ys ≡ xs ++ option_to_list found
    → Contains ys g → Contains xs g ⊎ (found ≡ Some g)
option-cases xs ys found g is has =
    elim (Contains-append_cases xs (option_to_list found) g (subst (λ v. Contains v g) is has)) [
      | inl old ↦ inl old
      | inr new ↦ inr (in-option found g new)
    ]

pub option-kept : {X : Type 0} (xs ys : List X) (found : Option X) (g : X) → ys ≡ xs ++ option_to_list found
    → Contains xs g → Contains ys g
option-kept xs ys found g is has =
    subst (λ v. Contains v g) (sym is) (Contains-append_left xs (option_to_list found) g has)

pub option-there : {X : Type 0} (xs ys : List X) (found : Option X) (g : X) → ys ≡ xs ++ option_to_list found
    → found ≡ Some g → Contains ys g
option-there xs ys found g is same =
    subst (λ v. Contains v g) (sym is) (Contains-append_right xs (option_to_list found) g (option-in found g same))

pub option-pairs : {X : Type 0} (R : X → X → Type 0) (xs ys : List X) (found : Option X)
    → ys ≡ xs ++ option_to_list found → AllPairs R xs
    → ((y : X) → found ≡ Some y → (g : X) → Contains xs g → R g y) → AllPairs R ys
option-pairs R xs ys None is pairs each =
    subst (λ v. AllPairs R v) (sym is) (subst (λ v. AllPairs R v) (sym (append-nil xs)) pairs)
option-pairs R xs ys (Some y) is pairs each = pushed-pairs R xs ys y is pairs (each y refl)

-- ---- by places

pub place-of : {X : Type 0} (xs : List X) (g : X) → Contains xs g
    → (k : ℕ) × (k < length xs) × (slice_get xs k ≡ Some g)
place-of xs g (k, less, is) = (k, less, slice_get_read xs (length xs) k g refl less (sym is))

pub at-place : {X : Type 0} (xs : List X) (k : ℕ) (g : X) → slice_get xs k ≡ Some g → Contains xs g
at-place xs k g there = (k, slice_get_within xs k g there, get_or_from_slice_get xs k g g there)

pub each-of : {X : Type 0} (P : X → Type 0) (xs : List X) → ((g : X) → Contains xs g → P g) → Each P xs
each-of P xs each k d less = each (get_or xs k d) (Contains-get_or xs k d less)

pub of-each : {X : Type 0} (P : X → Type 0) (xs : List X) → Each P xs → (g : X) → Contains xs g → P g
of-each P xs each g (k, less, is) = subst P is (each k g less)
