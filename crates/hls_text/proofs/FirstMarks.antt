-- Texts that are cut at a mark, and texts that begin with one.
use Rattle.std.proofs.Common.{◌≡◌, ℕ, suc, zero, ◌+◌, ◌-◌, ◌<◌, ◌≤◌, Bool, true, false, List, [], ◌∷◌, ◌++◌}
use Rattle.std.proofs.Common.{length}
use Rattle.std.proofs.Common.{refl, sym, ap, ◌∙◌, subst, arith, get_or, take, drop, Some, None, cond}
use Rattle.std.proofs.Common.{length-append, eq-eqb}
use Rattle.std.specs.Prelude.{◌==◌, ◌||◌, nat_lt, position}
use Rattle.std.specs.List.{list_any, position_or_len}
use Rattle.std.proofs.lemmas.Bool.{lt-ltb, eqb-true}
use Rattle.std.proofs.lemmas.List.{get_or_append_left, get_or-append-add, take_all, take-append-drop}
use Rattle.std.proofs.lemmas.List.{length-drop}
use Rattle.std.proofs.lemmas.List.Sums.{position_or_len_is}
use Rattle.std.proofs.lemmas.List.Quantifiers.{position-Some}
use Rattle.std.proofs.Math.Seq.{take-append_seam, drop-append-add, drop-cons}

either_false : (a b : Bool) → (a || b) ≡ false → (a ≡ false) × (b ≡ false)
either_false true b h = absurd (let e : true ≡ false = h in cc)
either_false false b h = (refl, h)

-- no byte of a text that lacks the mark is the mark
lacks_at : (m : ℕ) (front : List ℕ) (k : ℕ) → list_any (λ b. b == m) front ≡ false → k < length front →
    (get_or front k 0 == m) ≡ false
lacks_at m [] k lacks lt = absurd (omega arith)
lacks_at m (x ∷ xs) zero lacks lt = (either_false (x == m) (list_any (λ b. b == m) xs) lacks).0
lacks_at m (x ∷ xs) (suc k) lacks lt =
    lacks_at m xs k (either_false (x == m) (list_any (λ b. b == m) xs) lacks).1 (omega arith)

-- the first mark
mark_at : (m : ℕ) (front rest : List ℕ) → get_or (front ++ (m ∷ rest)) (length front) 0 ≡ m
mark_at m front rest =
    let e : length front + 0 ≡ length front = omega arith in
    subst (λ k. get_or (front ++ (m ∷ rest)) k 0 ≡ m) e (get_or-append-add front (m ∷ rest) 0 0)

whole_len : (m : ℕ) (front rest : List ℕ) → length (front ++ (m ∷ rest)) ≡ length front + 1 + length rest
whole_len m front rest = length-append front (m ∷ rest) ∙ omega arith

first_place : (m : ℕ) (front rest : List ℕ) → list_any (λ b. b == m) front ≡ false →
    position_or_len (λ b. b == m) (front ++ (m ∷ rest)) ≡ length front
first_place m front rest lacks =
    position_or_len_is (λ b. b == m) (front ++ (m ∷ rest)) (length front) 0
    (omega (arith, whole_len m front rest))
    (λ k lt. ap (λ b. b == m) (get_or_append_left front (m ∷ rest) 0 k lt) ∙ lacks_at m front k lacks lt)
    (λ lt. eq-eqb (get_or (front ++ (m ∷ rest)) (length front) 0) m (mark_at m front rest))

place_some : (n len : ℕ) → n < len → cond (nat_lt n len) (Some n) None ≡ Some n
place_some n len lt = rw (lt-ltb n len lt) refl

pub position_first : (m : ℕ) (text front rest : List ℕ) → text ≡ front ++ (m ∷ rest) →
    list_any (λ b. b == m) front ≡ false → position (λ b. b == m) text ≡ Some (length front)
position_first m text front rest is lacks =
    let place = first_place m front rest lacks in
    let lt : length front < length (front ++ (m ∷ rest)) = omega (arith, whole_len m front rest) in
    rw (is, place) (place_some (length front) (length (front ++ (m ∷ rest))) lt)

-- what stands before and after it
pub parts_first : (m at : ℕ) (text front rest : List ℕ) → Some at ≡ position (λ b. b == m) text →
    text ≡ front ++ (m ∷ rest) → list_any (λ b. b == m) front ≡ false →
    (take at text ≡ front) × (take (length text - (at + 1)) (drop (at + 1) text) ≡ rest)
parts_first m at text front rest found is lacks =
    let same : Some at ≡ Some (length front) = found ∙ position_first m text front rest is lacks in
    let here : at ≡ length front = cc in
    let dropped : drop (length front + 1) (front ++ (m ∷ rest)) ≡ rest = drop-append-add front (m ∷ rest) 1 in
    let left : length (front ++ (m ∷ rest)) - (length front + 1) ≡ length rest =
    omega (arith, whole_len m front rest) in (
      rw (here, is) (take-append_seam front (m ∷ rest)),
      rw (here, is, dropped, left) (take_all (length rest) rest (omega arith)),
    )

pub none_first : (m : ℕ) (text front rest : List ℕ) → None ≡ position (λ b. b == m) text →
    text ≡ front ++ (m ∷ rest) → list_any (λ b. b == m) front ≡ false → ⊥
none_first m text front rest none is lacks =
    let same = none ∙ position_first m text front rest is lacks in cc

-- a text is what stands before a mark, the mark, and what stands after it
pub parts_whole : (m at : ℕ) (text : List ℕ) → Some at ≡ position (λ b. b == m) text →
    text ≡ take at text ++ (m ∷ take (length text - (at + 1)) (drop (at + 1) text))
parts_whole m at text found =
    let p = position-Some (λ b. b == m) text at 0 (sym found) in
    let mark : get_or text at 0 ≡ m = eqb-true (get_or text at 0) m p.1 in
    let fits = length-drop (at + 1) text in
    let rest = take_all (length text - (at + 1)) (drop (at + 1) text) (omega arith) in
    let next : at + 1 ≡ suc at = omega arith in
    let back = drop-cons text at 0 p.0 ∙ ap (λ b. b ∷ drop (suc at) text) mark in
    rw (rest, next) (sym (take-append-drop at text) ∙ ap (λ l. take at text ++ l) back)

take_front : (m n : ℕ) (xs : List ℕ) → m ≤ n → take m (take n xs) ≡ take m xs
take_front zero n xs le = refl
take_front (suc m) zero xs le = absurd (omega arith)
take_front (suc m) (suc n) [] le = refl
take_front (suc m) (suc n) (x ∷ xs) le = ap (λ l. x ∷ l) (take_front m n xs (omega arith))

-- a text that begins as a longer one begins as what that begins with
pub begins_still : (out more middle new : List ℕ) → middle ≡ out ++ more → take (length middle) new ≡ middle →
    take (length out) new ≡ out
begins_still out more middle new is begins =
    let fits : length out ≤ length middle = omega (arith, ap length is, length-append out more) in
    sym (take_front (length out) (length middle) new fits) ∙ ap (take (length out)) (begins ∙ is) ∙
    take-append_seam out more
