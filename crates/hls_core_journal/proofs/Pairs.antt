-- Commands and answers that are taken from lists of one length, the last first.
use Rattle.std.proofs.Common.{◌≡◌, ℕ, ◌≤◌, List, [], ◌∷◌, ◌++◌, length, reverse, refl, sym, ap, ◌∙◌, arith, map}
use Rattle.std.proofs.Common.{append_assoc, zero, suc, min}
use Rattle.std.specs.Prelude.{take, zip}
use Rattle.std.proofs.lemmas.List.{append-nil, map-append, reverse-append}
use Rattle.std.proofs.lemmas.Slice.Zip.{length-zip}
use Rattle.hls_scenario.specs.declared.scenario.Item.{Item}
use Rattle.hls_report_text.specs.declared.report.Answer.{Answer}
use Rattle.hls_report_text.specs.declared.report.Answered.{Answered}
use Rattle.hls_core_journal.specs.Told.{answered_as, answered_by}

zip_take : {A B : Type 0} (n : ℕ) (xs : List A) (ys : List B) → length (zip xs ys) ≤ n
    → zip (take n xs) (take n ys) ≡ zip xs ys
zip_take zero [] ys few = refl
zip_take (suc n) [] ys few = refl
zip_take zero (x ∷ xs) [] few = refl
zip_take (suc n) (x ∷ xs) [] few = refl
zip_take zero (x ∷ xs) (y ∷ ys) few = absurd (omega (arith, few))
zip_take {A = A} {B = B} (suc n) (x ∷ xs) (y ∷ ys) few =
    ap (λ (ps : List (A × B)). (x, y) ∷ ps) (zip_take n xs ys (omega (arith, few)))

zip_last : {A B : Type 0} (xs : List A) (ys : List B) (x : A) (y : B) → length xs ≡ length ys
    → zip (xs ++ x ∷ []) (ys ++ y ∷ []) ≡ zip xs ys ++ (x, y) ∷ []
zip_last [] [] x y same = refl
zip_last [] (w ∷ ys) x y same = absurd (omega (arith, same))
zip_last (z ∷ xs) [] x y same = absurd (omega (arith, same))
zip_last {A = A} {B = B} (z ∷ xs) (w ∷ ys) x y same =
    ap (λ (ps : List (A × B)). (z, w) ∷ ps) (zip_last xs ys x y (omega (arith, same)))

abbrev as_pair : Item × Answer → Answered
as_pair p = answered_as p.0 p.1

-- the last pair goes behind those that went before
pub moved_last : (items next : List Item) (answers left : List Answer) (item : Item) (answer : Answer)
    (all new : List Answered) → length next ≡ length left → items ≡ next ++ item ∷ [] → answers ≡ left ++ answer ∷ []
    → new ≡ all ++ answered_as item answer ∷ []
    → answered_by next left ++ reverse new ≡ answered_by items answers ++ reverse all
moved_last items next answers left item answer all new same taken told push =
    ap (λ (xs : List Answered). answered_by next left ++ xs)
    (ap reverse push ∙ reverse-append all (answered_as item answer ∷ []))
    ∙ sym (append_assoc (answered_by next left) (answered_as item answer ∷ []) (reverse all))
    ∙ ap (λ (xs : List Answered). xs ++ reverse all)
    (sym (ap (map as_pair) (zip_last next left item answer same)
    ∙ map-append as_pair (zip next left) ((item, answer) ∷ [])))
    ∙ ap (λ (xs : List Item). answered_by xs (left ++ answer ∷ []) ++ reverse all) (sym taken)
    ∙ ap (λ (ys : List Answer). answered_by items ys ++ reverse all) (sym told)

-- what is left, and what was taken from behind it, the last first
abbrev pub IsTaking : List Item → List Answer → List Answered → List Answered → Type 0
IsTaking items answers all whole = answered_by items answers ++ reverse all ≡ whole

-- what has no answer, or no command, is cut off, and nothing was taken yet
pub took_none : (n : ℕ) (items first : List Item) (answers second : List Answer) (all : List Answered)
    → n ≡ min (length items) (length answers) → first ≡ take n items → second ≡ take n answers → all ≡ []
    → IsTaking first second all (answered_by items answers)
took_none n items first answers second all least one two none =
    let count = length-zip items answers in
    ap (λ (l : List Answered). answered_by first second ++ reverse l) none
    ∙ append-nil (answered_by first second)
    ∙ ap (λ (l : List Item). answered_by l second) one
    ∙ ap (λ (l : List Answer). answered_by (take n items) l) two
    ∙ ap (map as_pair) (zip_take n items answers (omega (arith, count, least)))

pub took_all : (items : List Item) (answers : List Answer) (all whole : List Answered) → length items ≡ 0
    → IsTaking items answers all whole → reverse all ≡ whole
took_all [] answers all whole none are = are
took_all (item ∷ items) answers all whole none are = absurd (omega (arith, none))
