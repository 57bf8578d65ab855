-- A row for the processor, and one for each place.
use Rattle.std.proofs.Common.{◌≡◌, ℕ, zero, suc, ◌≤◌, List, [], ◌∷◌, ◌++◌, refl, ap, ◌∙◌, arith, length, map, take}
use Rattle.hls_text.specs.Lines.{Text}
use Rattle.hls_view_tale.specs.declared.place.Place.{Place}

take_all : (places : List Place) (n : ℕ) → length places ≤ n → take n places ≡ places
take_all [] zero le = refl
take_all [] (suc n) le = refl
take_all (place ∷ places) zero le = absurd (omega (arith, le))
take_all (place ∷ places) (suc n) le = ap (λ l. place ∷ l) (take_all places n (omega (arith, le)))

pub rows_all : {X : Type 0} (cells : X → List Text) (rows first : List X) (row : X) (head : List Text)
    (f : Place → List Text) (items places : List Place) (n : ℕ) → length items ≤ n → items ≡ places
    → first ≡ row ∷ [] → cells row ≡ head → map cells rows ≡ map cells first ++ map f (take n items)
    → map cells rows ≡ head ∷ map f places
rows_all cells rows first row head f items places n le same one is are =
    are
    ∙ ap (λ l. map cells l ++ map f (take n items)) one
    ∙ ap (λ l. l ∷ map f (take n items)) is
    ∙ ap (λ (l : List Place). head ∷ map f l) (take_all items n le ∙ same)
