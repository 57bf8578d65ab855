-- What the loops of this crate leave.
use Rattle.std.proofs.Common.{◌≡◌, ◌∙◌, ℕ, ◌+◌, ◌<◌, List, [], ◌∷◌, ◌++◌, ap, sym, arith}
use Rattle.std.proofs.Common.{map, flat_map, append_assoc, length, get_or, take}
use Rattle.std.specs.List.{range_with_len}
use Rattle.std.proofs.lemmas.List.{flat_map_more, take_more}
use Rattle.std.proofs.lemmas.List.FromFn.{map-range_with_len_more}
use Rattle.std.proofs.lemmas.List.Folds.{flat_map-map}

pub flat_more : {A : Type 0} (f : ℕ → List A) (n : ℕ)
    → flat_map f (range_with_len 0 n) ++ f n ≡ flat_map f (range_with_len 0 (n + 1))
flat_more {A} f n =
    ap (λ (t : List A). t ++ f n) (sym (flat_map-map (λ (t : List A). t) f (range_with_len 0 n)))
    ∙ flat_map_more (λ (t : List A). t) [] (map f (range_with_len 0 n)) (f n)
    ∙ ap (λ (ts : List (List A)). flat_map (λ (t : List A). t) ts) (sym (map-range_with_len_more f 0 n n (omega arith)))
    ∙ flat_map-map (λ (t : List A). t) f (range_with_len 0 (n + 1))

-- a loop over numbers that adds what each gives
pub add_next : {A : Type 0} (f : ℕ → List A) (n : ℕ) (first old new : List A) → new ≡ old ++ f n
    → old ≡ first ++ flat_map f (range_with_len 0 n) → new ≡ first ++ flat_map f (range_with_len 0 (n + 1))
add_next {A} f n first old new put was =
    put ∙ ap (λ (t : List A). t ++ f n) was ∙ append_assoc first (flat_map f (range_with_len 0 n)) (f n)
    ∙ ap (λ (t : List A). first ++ t) (flat_more f n)

-- a loop over items that adds what each gives
pub add_item : {X A : Type 0} (f : X → List A) (xs : List X) (i : ℕ) (x : X) (first old new : List A) → i < length xs
    → x ≡ get_or xs i x → new ≡ old ++ f x → old ≡ first ++ flat_map f (take i xs)
    → new ≡ first ++ flat_map f (take (i + 1) xs)
add_item {X} {A} f xs i x first old new lt is put was =
    put ∙ ap (λ (t : List A). t ++ f x) was ∙ flat_map_more f first (take i xs) x
    ∙ ap (λ (ys : List X). first ++ flat_map f ys)
    (ap (λ (y : X). take i xs ++ y ∷ []) is ∙ sym (take_more xs i x lt))
