-- What is kept of numbers in a row.
use Rattle.std.proofs.Common.{◌≡◌, ℕ, zero, suc, ◌+◌, List, [], ◌∷◌, ◌++◌, ap, sym, arith, ◌∙◌}
use Rattle.std.specs.Prelude.{Option}
use Rattle.std.specs.List.{cons_option, filter_map, range_with_len}
use Rattle.std.proofs.lemmas.List.Elements.{filter_map-append}

range_last : (a n : ℕ) → range_with_len a (suc n) ≡ range_with_len a n ++ (a + n) ∷ []
range_last a zero = let here : a ≡ a + 0 = omega arith in ap (λ t. t ∷ []) here
range_last a (suc n) =
    let here : a + 1 + n ≡ a + suc n = omega arith in
    ap (λ ts. a ∷ ts) (range_last (a + 1) n ∙ ap (λ t. range_with_len (a + 1) n ++ t ∷ []) here)

-- one number more
pub filter_map_next : {X : Type 0} (h : ℕ → Option X) (n : ℕ)
    → filter_map h (range_with_len 0 (n + 1)) ≡ filter_map h (range_with_len 0 n) ++ cons_option (h n) []
filter_map_next h n =
    let one : n + 1 ≡ suc n = omega arith in
    let here : 0 + n ≡ n = omega arith in
    ap (λ k. filter_map h (range_with_len 0 k)) one ∙ ap (filter_map h) (range_last 0 n)
    ∙ filter_map-append h (range_with_len 0 n) ((0 + n) ∷ [])
    ∙ ap (λ k. filter_map h (range_with_len 0 n) ++ cons_option (h k) []) here

pub filter_map_put : {X : Type 0} (h : ℕ → Option X) (n : ℕ) (one : Option X) (old new : List X)
    → new ≡ old ++ cons_option one [] → one ≡ h n → old ≡ filter_map h (range_with_len 0 n)
    → new ≡ filter_map h (range_with_len 0 (n + 1))
filter_map_put {X} h n one old new put is was =
    put ∙ ap (λ (l : List X). l ++ cons_option one []) was
    ∙ ap (λ (o : Option X). filter_map h (range_with_len 0 n) ++ cons_option o []) is ∙ sym (filter_map_next h n)
