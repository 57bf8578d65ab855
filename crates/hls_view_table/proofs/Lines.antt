-- A line cell by cell.
use Rattle.std.proofs.Common.{◌≡◌, List, [], ◌∷◌, ◌++◌, map, refl, ap, sym, ◌∙◌, append_assoc, append-nil, ◌⊎◌}
use Rattle.std.proofs.Common.{inl, inr}
use Rattle.hls_text.specs.Lines.{Text}
use Rattle.hls_view_table.specs.declared.lanes.Lane.{Lane}
use Rattle.hls_view_table.specs.Tables.{set_in, spread}

-- one cell further
pub one_more : {V : Type 0} (text : V → Text) (whole out filled next : Text) (lanes lanes' : List Lane)
    (cells cells' : List V) (lane : Lane) (cell : V) → lanes ≡ lane ∷ lanes' → cells ≡ cell ∷ cells'
    → out ++ spread lanes (map text cells) ≡ whole → filled ≡ out ++ set_in lane (text cell)
    → next ≡ filled ++ (32 ∷ 32 ∷ []) → next ++ spread lanes' (map text cells') ≡ whole
one_more text whole out filled next lanes lanes' cells cells' lane cell these those so_far is then =
    let gap : Text = 32 ∷ 32 ∷ [] in
    let rest : Text = spread lanes' (map text cells') in
    ap (λ (o : Text). o ++ rest) (then ∙ ap (λ (o : Text). o ++ gap) is)
    ∙ ap (λ (o : Text). o ++ rest) (append_assoc out (set_in lane (text cell)) gap)
    ∙ append_assoc out (set_in lane (text cell) ++ gap) rest
    ∙ sym (ap (λ (o : Text). out ++ o) (ap (λ cs. spread cs (map text cells)) these
    ∙ ap (λ cs. spread (lane ∷ lanes') (map text cs)) those))
    ∙ so_far

nothing_left : {V : Type 0} (text : V → Text) (lanes : List Lane) (cells : List V)
    → (lanes ≡ []) ⊎ (cells ≡ []) → spread lanes (map text cells) ≡ []
nothing_left text lanes cells (inl none) = ap (λ cs. spread cs (map text cells)) none
nothing_left text [] cells (inr none) = refl
nothing_left text (lane ∷ lanes) cells (inr none) = ap (λ cs. spread (lane ∷ lanes) (map text cs)) none

-- all cells
pub no_more : {V : Type 0} (text : V → Text) (whole out : Text) (lanes : List Lane) (cells : List V)
    → (lanes ≡ []) ⊎ (cells ≡ []) → out ++ spread lanes (map text cells) ≡ whole → out ≡ whole
no_more text whole out lanes cells ended so_far =
    sym (append-nil out) ∙ sym (ap (λ (o : Text). out ++ o) (nothing_left text lanes cells ended)) ∙ so_far
