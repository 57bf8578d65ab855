-- A list from a place on.
use Rattle.std.proofs.Common.{◌≡◌, ℕ, suc, ◌+◌, ◌<◌, List, ◌∷◌, ap, sym, ◌∙◌, length, drop, get_or, arith}
use Rattle.std.proofs.Math.Seq.{drop-cons}

pub drop_here : {X : Type 0} (xs : List X) (i : ℕ) (x : X) → i < length xs → x ≡ get_or xs i x
    → drop i xs ≡ x ∷ drop (i + 1) xs
drop_here xs i x lt is =
    let up : suc i ≡ i + 1 = omega arith in
    drop-cons xs i x lt ∙ ap (λ n. get_or xs i x ∷ drop n xs) up ∙ ap (λ y. y ∷ drop (i + 1) xs) (sym is)
