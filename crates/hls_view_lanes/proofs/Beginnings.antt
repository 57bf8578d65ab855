-- Whether a way begins with another, label by label.
use Rattle.std.proofs.Common.{◌≡◌, ℕ, suc, ◌+◌, ◌<◌, ◌≤◌, List, [], ◌∷◌, true, false, refl, ap, sym, ◌∙◌}
use Rattle.std.proofs.Common.{◌&&◌, Bool, length, drop, get_or, arith}
use Rattle.std.proofs.Math.Seq.{drop-cons}
use Rattle.std.proofs.Math.ListN.{drop_of_length-le}
use Rattle.hls_view_tale.specs.declared.label.Label.{Label}
use Rattle.hls_view_lanes.specs.Likeness.{is_like, begins}

off : (b c : Bool) → c ≡ false → (b && c) ≡ false
off true c e = e
off false c e = refl

-- a shorter one does not begin with a longer one
pub begins-short : (above way : List Label) → length way < length above → begins above way ≡ false
begins-short [] way lt = absurd (omega (arith, lt))
begins-short (l ∷ above) [] lt = refl
begins-short (l ∷ above) (m ∷ way) lt =
    off (is_like l m) (begins above way) (begins-short above way (omega (arith, lt)))

-- from one label on
pub begins-on : (above way : List Label) (at : ℕ) (l m : Label) → at < length above → at < length way
    → l ≡ get_or above at l → m ≡ get_or way at m
    → begins (drop at above) (drop at way) ≡ (is_like l m && begins (drop (at + 1) above) (drop (at + 1) way))
begins-on above way at l m la lw el em =
    let up : suc at ≡ at + 1 = omega arith in
    let a : drop at above ≡ l ∷ drop (at + 1) above =
    drop-cons above at l la ∙ ap (λ (x : Label). x ∷ drop (suc at) above) (sym el)
    ∙ ap (λ n. l ∷ drop n above) up in
    let w : drop at way ≡ m ∷ drop (at + 1) way =
    drop-cons way at m lw ∙ ap (λ (x : Label). x ∷ drop (suc at) way) (sym em) ∙ ap (λ n. m ∷ drop n way) up in
    ap (λ (x : List Label). begins x (drop at way)) a ∙ ap (begins (l ∷ drop (at + 1) above)) w

pub begins-more : (above way : List Label) (at : ℕ) (l m : Label) → at < length above → at < length way
    → l ≡ get_or above at l → m ≡ get_or way at m → is_like l m ≡ true
    → begins (drop at above) (drop at way) ≡ begins above way
    → begins (drop (at + 1) above) (drop (at + 1) way) ≡ begins above way
begins-more above way at l m la lw el em like so_far =
    sym (ap (λ b. b && begins (drop (at + 1) above) (drop (at + 1) way)) like)
    ∙ sym (begins-on above way at l m la lw el em) ∙ so_far

pub begins-apart : (above way : List Label) (at : ℕ) (l m : Label) → at < length above → at < length way
    → l ≡ get_or above at l → m ≡ get_or way at m → is_like l m ≡ false
    → begins (drop at above) (drop at way) ≡ begins above way → false ≡ begins above way
begins-apart above way at l m la lw el em unlike so_far =
    sym (ap (λ b. b && begins (drop (at + 1) above) (drop (at + 1) way)) unlike)
    ∙ sym (begins-on above way at l m la lw el em) ∙ so_far

pub begins-all : (above way : List Label) (at : ℕ) → length above ≤ at
    → begins (drop at above) (drop at way) ≡ begins above way → true ≡ begins above way
begins-all above way at le so_far =
    sym (ap (λ (x : List Label). begins x (drop at way)) (drop_of_length-le above le)) ∙ so_far
