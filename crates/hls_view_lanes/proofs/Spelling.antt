-- Whether a way leads over names, name by name.
use Rattle.std.proofs.Common.{◌≡◌, ℕ, suc, ◌+◌, ◌<◌, ◌≤◌, List, [], ◌∷◌, true, false, refl, ap, sym, ◌∙◌}
use Rattle.std.proofs.Common.{◌&&◌, Bool, length, drop, get_or, arith}
use Rattle.std.specs.Str.{bytes_eq}
use Rattle.std.proofs.Math.Seq.{drop-cons}
use Rattle.std.proofs.Math.ListN.{drop_of_length-le}
use Rattle.hls_text.specs.Lines.{Text}
use Rattle.hls_view_tale.specs.declared.label.Label.{Label}
use Rattle.hls_view_lanes.specs.Facts.{spells}

off : (b c : Bool) → c ≡ false → (b && c) ≡ false
off true c e = e
off false c e = refl

pub spells-unequal : (names : List Text) (way : List Label) → (length names ≡ length way → ⊥)
    → spells names way ≡ false
spells-unequal [] [] ne = absurd (ne refl)
spells-unequal [] (l ∷ way) ne = refl
spells-unequal (name ∷ names) [] ne = refl
spells-unequal (name ∷ names) (l ∷ way) ne =
    off (bytes_eq name l.name) (spells names way) (spells-unequal names way (λ e. ne (ap suc e)))

-- from one name on
pub spells-on : (names : List Text) (way : List Label) (at : ℕ) (n : Text) (l : Label) → at < length names
    → at < length way → n ≡ get_or names at n → l ≡ get_or way at l
    → spells (drop at names) (drop at way) ≡ (bytes_eq n l.name && spells (drop (at + 1) names) (drop (at + 1) way))
spells-on names way at n l ln lw en el =
    let up : suc at ≡ at + 1 = omega arith in
    let a : drop at names ≡ n ∷ drop (at + 1) names =
    drop-cons names at n ln ∙ ap (λ (x : Text). x ∷ drop (suc at) names) (sym en) ∙ ap (λ i. n ∷ drop i names) up in
    let w : drop at way ≡ l ∷ drop (at + 1) way =
    drop-cons way at l lw ∙ ap (λ (x : Label). x ∷ drop (suc at) way) (sym el) ∙ ap (λ i. l ∷ drop i way) up in
    ap (λ (x : List Text). spells x (drop at way)) a ∙ ap (spells (n ∷ drop (at + 1) names)) w

pub spells-more : (names : List Text) (way : List Label) (at : ℕ) (n : Text) (l : Label) → at < length names
    → at < length way → n ≡ get_or names at n → l ≡ get_or way at l → bytes_eq n l.name ≡ true
    → spells (drop at names) (drop at way) ≡ spells names way
    → spells (drop (at + 1) names) (drop (at + 1) way) ≡ spells names way
spells-more names way at n l ln lw en el like so_far =
    sym (ap (λ b. b && spells (drop (at + 1) names) (drop (at + 1) way)) like)
    ∙ sym (spells-on names way at n l ln lw en el) ∙ so_far

pub spells-apart : (names : List Text) (way : List Label) (at : ℕ) (n : Text) (l : Label) → at < length names
    → at < length way → n ≡ get_or names at n → l ≡ get_or way at l → bytes_eq n l.name ≡ false
    → spells (drop at names) (drop at way) ≡ spells names way → false ≡ spells names way
spells-apart names way at n l ln lw en el unlike so_far =
    sym (ap (λ b. b && spells (drop (at + 1) names) (drop (at + 1) way)) unlike)
    ∙ sym (spells-on names way at n l ln lw en el) ∙ so_far

pub spells-all : (names : List Text) (way : List Label) (at : ℕ) → length names ≤ at → length way ≤ at
    → spells (drop at names) (drop at way) ≡ spells names way → true ≡ spells names way
spells-all names way at ln lw so_far =
    sym (ap (λ (x : List Text). spells x (drop at way)) (drop_of_length-le names ln)
    ∙ ap (λ (x : List Label). spells [] x) (drop_of_length-le way lw)) ∙ so_far
