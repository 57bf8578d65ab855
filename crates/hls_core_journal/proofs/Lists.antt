-- Lists by their last item.
use Rattle.std.proofs.Common.{◌≡◌, ℕ, inl, inr, ◌-◌, ◌⊎◌, List, [], ◌∷◌, ◌++◌, length}
use Rattle.std.proofs.Common.{get_or, refl, sym, ap, ◌∙◌, arith}
use Rattle.std.specs.Prelude.{Some, slice_get, slice_set, zip, All}
use Rattle.std.proofs.lemmas.List.{length-append}
use Rattle.std.proofs.lemmas.List.Elements.{All-nil, All-cons, All-head, All-tail}
use Rattle.std.proofs.lemmas.Option.{get_or_from_slice_get}
use Rattle.std.proofs.Math.Seq.{set-append_seam}

-- a list is empty or has a last item
pub record HasLast {A : Type 0} (xs : List A) : Type 0 where
  pub front : List A
  pub last : A
  pub is : xs ≡ front ++ last ∷ []

last_behind : {A : Type 0} (x : A) (xs : List A) → (xs ≡ []) ⊎ HasLast xs → HasLast (x ∷ xs)
last_behind {A = A} x xs (inl e) = record { front = []; last = x; is = ap (λ (ys : List A). x ∷ ys) e }
last_behind {A = A} x xs (inr l) =
    record { front = x ∷ l.front; last = l.last; is = ap (λ (ys : List A). x ∷ ys) l.is }

pub last_or_none : {A : Type 0} (xs : List A) → (xs ≡ []) ⊎ HasLast xs
last_or_none [] = inl refl
last_or_none (x ∷ xs) = inr (last_behind x xs (last_or_none xs))

get_seam : {A : Type 0} (front : List A) (x : A) → slice_get (front ++ x ∷ []) (length front) ≡ Some x
get_seam [] x = refl
get_seam (y ∷ front) x = get_seam front x

length_last : {A : Type 0} (front : List A) (x : A) → length (front ++ x ∷ []) - 1 ≡ length front
length_last front x = let e = length-append front (x ∷ []) in omega arith

pub get_last : {A : Type 0} (front : List A) (x : A)
    → slice_get (front ++ x ∷ []) (length (front ++ x ∷ []) - 1) ≡ Some x
get_last front x = ap (slice_get (front ++ x ∷ [])) (length_last front x) ∙ get_seam front x

pub set_last : {A : Type 0} (xs front : List A) (x y : A) → xs ≡ front ++ x ∷ []
    → slice_set xs (length xs - 1) y ≡ front ++ y ∷ []
set_last {A = A} xs front x y e =
    ap (λ (zs : List A). slice_set zs (length zs - 1) y) e
    ∙ ap (λ (n : ℕ). slice_set (front ++ x ∷ []) n y) (length_last front x)
    ∙ set-append_seam front x [] y

zip_nil : {A B : Type 0} (z : A) (xs : List A) (y : B) → zip (z ∷ xs) (y ∷ []) ≡ (z, y) ∷ []
zip_nil z [] y = refl
zip_nil z (x ∷ xs) y = refl

pub get_or_last : {A : Type 0} (xs front : List A) (x d : A) → xs ≡ front ++ x ∷ []
    → get_or xs (length xs - 1) d ≡ x
get_or_last {A = A} xs front x d e =
    get_or_from_slice_get xs (length xs - 1) x d
    (ap (λ (zs : List A). slice_get zs (length zs - 1)) e ∙ get_last front x)

-- the next of some that is paired with the one behind others
pub zip_push : {A B : Type 0} (xs : List A) (ys : List B) (x : A) (y : B) → slice_get xs (length ys) ≡ Some x
    → zip xs (ys ++ y ∷ []) ≡ zip xs ys ++ (x, y) ∷ []
zip_push [] ys x y e = absurd (cc)
zip_push {A = A} {B = B} (z ∷ xs) [] x y e =
    let same : z ≡ x = cc in
    zip_nil z xs y ∙ ap (λ (w : A). (w, y) ∷ []) same
zip_push {A = A} {B = B} (z ∷ xs) (w ∷ ys) x y e =
    ap (λ (ps : List (A × B)). (z, w) ∷ ps) (zip_push xs ys x y e)

pub all_front : {A : Type 0} (P : A → Type 0) (front : List A) (x : A) → All P (front ++ x ∷ []) → All P front × P x
all_front P [] x all = (All-nil P, All-head P x [] all)
all_front P (y ∷ front) x all =
    let rest = all_front P front x (All-tail P y (front ++ x ∷ []) all) in
    (All-cons P y front (All-head P y (front ++ x ∷ []) all) rest.0, rest.1)

-- a last item that is changed stands where it stood
pub changed_last : {A : Type 0} (f : A → A) (one front : List A) (x y : A) → one ++ x ∷ [] ≡ front ++ y ∷ []
    → one ++ f x ∷ [] ≡ front ++ f y ∷ []
changed_last {A = A} f one front x y e =
    let same : x ≡ y =
    sym (get_or_last (one ++ x ∷ []) one x x refl) ∙ get_or_last (one ++ x ∷ []) front y x e in
    sym (set_last (one ++ x ∷ []) one x (f x) refl) ∙ set_last (one ++ x ∷ []) front y (f x) e
    ∙ ap (λ (z : A). front ++ f z ∷ []) same

pub no_last : {A : Type 0} (front : List A) (x : A) → [] ≡ front ++ x ∷ [] → ⊥
no_last {A = A} front x e =
    let all = ap (λ (l : List A). length l) e ∙ length-append front (x ∷ []) in absurd (omega (arith, all))
