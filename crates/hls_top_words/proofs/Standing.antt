-- Words that stand alone, or by twos.
use Rattle.std.proofs.Common.{codes, true, List, [], ◌∷◌, ◌++◌, ◌≡◌, ◌≤◌, ◌<◌, length, get_or, arith, ap, ◌∙◌, sym}
use Rattle.std.proofs.Common.{inl, inr}
use Rattle.std.specs.Prelude.{Option, Some, None, is_some, IfSome}
use Rattle.std.specs.Borrow.{Bor}
use Rattle.hls_text.specs.Lines.{Text}
use Rattle.hls_top_words.specs.Inside.Shapes.{MayState, begins_with_digit}

pub one_item : {A : Type 0} (xs : List A) (item : A) → item ≡ get_or xs 0 item → 1 ≤ length xs → length xs < 2
    → xs ≡ item ∷ []
one_item [] item is some few = absurd (omega (arith, some))
one_item (x ∷ []) item is some few = ap (λ y. y ∷ []) (sym is)
one_item (x ∷ y ∷ xs) item is some few = absurd (omega (arith, few))

pub two_items : {A : Type 0} (xs : List A) (first second : A) → first ≡ get_or xs 0 first
    → second ≡ get_or xs 1 second → 2 ≤ length xs → length xs < 3 → xs ≡ first ∷ second ∷ []
two_items [] first second is also some few = absurd (omega (arith, some))
two_items (x ∷ []) first second is also some few = absurd (omega (arith, some))
two_items (x ∷ y ∷ []) first second is also some few =
    ap (λ z. z ∷ y ∷ []) (sym is) ∙ ap (λ z. first ∷ z ∷ []) (sym also)
two_items (x ∷ y ∷ z ∷ xs) first second is also some few = absurd (omega (arith, few))

pub joined : (found : Option (Bor Text)) (words : List Text) (word : Text) → words ≡ word ∷ []
    → is_some found ≡ true → IfSome found (λ rest. word ≡ codes "--depth=" ++ rest.now) → MayState words
joined None words word one some cases = absurd cc
joined (Some rest) words word one some is = (Some rest.now, inr (one ∙ ap (λ w. w ∷ []) is))

pub side_by_side : (words : List Text) (option word : Text) → words ≡ option ∷ word ∷ [] → option ≡ codes "--depth"
    → begins_with_digit word ≡ true → MayState words
side_by_side words option word two is digit = (Some word, inl (two ∙ ap (λ w. w ∷ word ∷ []) is, digit))
