-- How many rows there are up to the last that passes a test.
use Rattle.std.proofs.Common.{◌≡◌, ℕ, zero, suc, ◌+◌, ◌<◌, ◌≤◌, List, [], ◌∷◌, ◌++◌, true, false, refl, ap, sym, ◌∙◌}
use Rattle.std.proofs.Common.{Bool, ◌||◌, cond, length, take, get_or, arith}
use Rattle.std.specs.List.{list_any}
use Rattle.std.proofs.lemmas.List.Folds.{list_any-append}
use Rattle.std.proofs.Math.Seq.{take-suc}
use Rattle.std.proofs.lemmas.List.{length-take, length-take-le}
use Rattle.hls_view_tale.specs.declared.label.Label.{Label}
use Rattle.hls_view_lanes.specs.Likeness.{begins}
use Rattle.hls_view_lanes.specs.Rows.{reach}

or_true : (b c : Bool) → c ≡ true → (b || c) ≡ true
or_true true c e = refl
or_true false c e = e

or_false : (b c : Bool) → c ≡ false → (b || c) ≡ b
or_false true c e = refl
or_false false c e = e

last_any : (above : List Label) (rows : List (List Label)) (row : List Label) (b : Bool) → begins above row ≡ b
    → list_any (begins above) (rows ++ row ∷ []) ≡ (list_any (begins above) rows || b)
last_any above rows row b e =
    list_any-append (begins above) rows (row ∷ [])
    ∙ ap (λ x. list_any (begins above) rows || x) (or_false (begins above row) false refl ∙ e)

pub reach-more : (above : List Label) (rows : List (List Label)) (row : List Label) → begins above row ≡ true
    → reach above (rows ++ row ∷ []) ≡ length rows + 1
reach-more above [] row e =
    ap (λ b. cond b (suc zero) zero) (or_false (begins above row) false refl ∙ e)
reach-more above (first ∷ rows) row e =
    ap (λ b. cond b (suc (reach above (rows ++ row ∷ []))) 0)
    (last_any above (first ∷ rows) row true e
    ∙ or_true (list_any (begins above) (first ∷ rows)) true refl)
    ∙ ap suc (reach-more above rows row e) ∙ omega arith

pub reach-same : (above : List Label) (rows : List (List Label)) (row : List Label) → begins above row ≡ false
    → reach above (rows ++ row ∷ []) ≡ reach above rows
reach-same above [] row e =
    ap (λ b. cond b (suc zero) zero) (or_false (begins above row) false refl ∙ e)
reach-same above (first ∷ rows) row e =
    ap (λ b. cond b (suc (reach above (rows ++ row ∷ []))) 0)
    (last_any above (first ∷ rows) row false e ∙ or_false (list_any (begins above) (first ∷ rows)) false refl)
    ∙ ap (λ n. cond (list_any (begins above) (first ∷ rows)) (suc n) 0) (reach-same above rows row e)

within_one : (above : List Label) (rows : List (List Label)) (b : Bool) → reach above rows ≤ length rows
    → cond b (suc (reach above rows)) 0 ≤ suc (length rows)
within_one above rows true few = omega (arith, few)
within_one above rows false few = omega arith

pub reach-within : (above : List Label) (rows : List (List Label)) → reach above rows ≤ length rows
reach-within above [] = omega arith
reach-within above (row ∷ rows) =
    within_one above rows (list_any (begins above) (row ∷ rows)) (reach-within above rows)

-- ---- row by row

pub reach-here : (above : List Label) (rows : List (List Label)) (at : ℕ) (row : List Label) → at < length rows
    → row ≡ get_or rows at row → begins above row ≡ true → at + 1 ≡ reach above (take (at + 1) rows)
reach-here above rows at row lt is e =
    let up : at + 1 ≡ suc at = omega arith in
    let long : length (take at rows) ≡ at = length-take-le at rows (omega (arith, lt)) in
    sym (ap (λ n. reach above (take n rows)) up ∙ ap (reach above) (take-suc rows at row lt)
    ∙ ap (λ (x : List Label). reach above (take at rows ++ x ∷ [])) (sym is)
    ∙ reach-more above (take at rows) row e ∙ ap (λ n. n + 1) long)

pub reach-past : (above : List Label) (rows : List (List Label)) (at n : ℕ) (row : List Label) → at < length rows
    → row ≡ get_or rows at row → begins above row ≡ false → n ≡ reach above (take at rows)
    → n ≡ reach above (take (at + 1) rows)
reach-past above rows at n row lt is e so_far =
    let up : at + 1 ≡ suc at = omega arith in
    sym (ap (λ n. reach above (take n rows)) up ∙ ap (reach above) (take-suc rows at row lt)
    ∙ ap (λ (x : List Label). reach above (take at rows ++ x ∷ [])) (sym is)
    ∙ reach-same above (take at rows) row e ∙ sym so_far)

pub reach-few : (above : List Label) (rows : List (List Label)) (at n : ℕ) → n ≡ reach above (take at rows)
    → n ≤ length rows
reach-few above rows at n is =
    let few = reach-within above (take at rows) in
    let some : length (take at rows) ≤ length rows =
    (let e = length-take at rows in omega (arith, e)) in
    omega (arith, is, few, some)
