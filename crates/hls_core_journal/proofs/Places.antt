-- Names and their places.
use Rattle.std.proofs.Common.{◌≡◌, ◌≢◌, ℕ, suc, ◌<◌, true, false, List, [], ◌∷◌, length}
use Rattle.std.proofs.Common.{get_or, refl, sym, ap, ◌∙◌, arith, map, ◌⊎◌, inl, inr}
use Rattle.std.specs.Prelude.{Option, Some, None, IfSome, IsNone, is_some, position}
use Rattle.std.specs.List.{list_any, IsDistinct}
use Rattle.std.specs.Str.{bytes_eq}
use Rattle.std.proofs.lemmas.Bool.{cases_lt}
use Rattle.std.proofs.lemmas.List.Quantifiers.{position-Some}
use Rattle.std.proofs.lemmas.Map.Keys.{apart_from_distinct}
use Rattle.std.proofs.lemmas.List.{get_or-map, length-map}
use Rattle.hls_text.specs.Lines.{Text}
use Rattle.hls_report_text.proofs.NameLaws.{equal-same, equal-self}

-- lists that a function makes the same of, item by item
pub same_all : (f : ℕ → Text) (xs ys : List ℕ) → length xs ≡ length ys
    → ((k : ℕ) → k < length xs → f (get_or xs k 0) ≡ f (get_or ys k 0)) → map f xs ≡ map f ys
same_all f [] [] n each = refl
same_all f [] (y ∷ ys) n each = absurd (omega arith)
same_all f (x ∷ xs) [] n each = absurd (omega arith)
same_all f (x ∷ xs) (y ∷ ys) n each =
    ap (λ (t : Text). t ∷ map f xs) (each 0 (omega arith))
    ∙ ap (λ (ts : List Text). f y ∷ ts)
    (same_all f xs ys (omega arith) (λ k lt. each (suc k) (omega (arith, lt))))

pub unlike_length : (f : ℕ → Text) (xs ys : List ℕ) → length xs ≢ length ys → map f xs ≢ map f ys
unlike_length f xs ys other same =
    other (sym (length-map xs f) ∙ ap (λ (ts : List Text). length ts) same ∙ length-map ys f)

-- names of a set at two places are apart
unlike_below : (names : List Text) (i j : ℕ) → IsDistinct bytes_eq names → i < j → j < length names
    → get_or names i [] ≢ get_or names j []
unlike_below names i j distinct below within same =
    absurd (let no : true ≡ false = sym (equal-self (get_or names i []))
    ∙ ap (λ (name : Text). bytes_eq (get_or names i []) name) same
    ∙ apart_from_distinct bytes_eq names i j [] distinct below within in
    cc)

pub unlike_places : (names : List Text) (i j : ℕ) → IsDistinct bytes_eq names → i < length names → j < length names
    → i ≢ j → get_or names i [] ≢ get_or names j []
unlike_places names i j distinct one other apart same =
    elim (cases_lt i j) [
      | inl below ↦ unlike_below names i j distinct below other same
      | inr above ↦ unlike_below names j i distinct (omega (arith, above, apart)) one (sym same)
    ]

pub unlike_at : (f : ℕ → Text) (xs ys : List ℕ) (k : ℕ) → k < length xs → k < length ys
    → f (get_or xs k 0) ≢ f (get_or ys k 0) → map f xs ≢ map f ys
unlike_at f xs ys k in_xs in_ys other same =
    other (sym (get_or-map f xs k 0 [] in_xs) ∙ ap (λ (ts : List Text). get_or ts k []) same
    ∙ get_or-map f ys k 0 [] in_ys)

-- ---- the place of a name

pub found_at : (name : Text) (known : List Text) (at : Option ℕ) → at ≡ position (bytes_eq name) known
    → IfSome at (λ place. (place < length known) × (get_or known place [] ≡ name))
found_at name known None e = tt
found_at name known (Some place) e =
    let is = position-Some (bytes_eq name) known place [] (sym e) in
    (is.0, sym (equal-same name (get_or known place []) is.1))

pub not_there : (name : Text) (known : List Text) (at : Option ℕ)
    → is_some at ≡ list_any (bytes_eq name) known → IsNone at → list_any (bytes_eq name) known ≡ false
not_there name known None e none = sym e
not_there name known (Some place) e none = cc
