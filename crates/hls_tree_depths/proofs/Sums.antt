-- Sums by their places in the list of schedulers, and the rounds that set them.
use Rattle.std.proofs.Common.{◌≡◌, ◌≢◌, ◌⊎◌, inl, inr, ℕ, zero, suc, ◌+◌, ◌<◌, ◌≤◌, ◌==◌, if◌then◌else◌, max}
use Rattle.std.proofs.Common.{List, [], ◌∷◌, length, get_or, set, drop, true, false, Some}
use Rattle.std.proofs.Common.{refl, sym, ap, ◌∙◌, subst, arith, eq-eqb, slice_get, add-one}
use Rattle.std.specs.Prelude.{AllPairs}
use Rattle.std.proofs.lemmas.List.{drop_more, drop_all, get_or-set_same, length-set}
use Rattle.std.proofs.lemmas.Bool.{cases_eq, cases_lt, ne_eqb}
use Rattle.hls_machine.specs.Hierarchy.{Seat}
use Rattle.hls_machine.specs.Legal.{scheduler_at}
use Rattle.hls_tree_depths.specs.Subtrees.{sum_at}
use Rattle.hls_tree_depths.specs.Inside.Sums.{sum_under, greatest_over, IsRight, IsSettled, IsSettledTo, IsLocal}

-- each is on the list once
abbrev pub AreApart : List ℕ → Type 0
AreApart order = AllPairs (λ (k c : ℕ). k ≢ c) order

pub false_not_true : false ≡ true → ⊥
false_not_true e = cc

-- on the way through the list
at_drop : (order sums : List ℕ) (i k : ℕ) → i < length order → i < length sums
    → sum_at (drop i order) (drop i sums) k
    ≡ (if get_or order i 0 == k then get_or sums i 0 else sum_at (drop (i + 1) order) (drop (i + 1) sums) k)
at_drop order sums i k l m = rw (drop_more order i 0 l, drop_more sums i 0 m) refl

pub at_skip : (order sums : List ℕ) (i k whole : ℕ) → i < length order → i < length sums
    → (get_or order i 0 == k) ≡ false → sum_at (drop i order) (drop i sums) k ≡ whole
    → sum_at (drop (i + 1) order) (drop (i + 1) sums) k ≡ whole
at_skip order sums i k whole l m test so =
    sym (at_drop order sums i k l m
    ∙ ap (λ b. if b then get_or sums i 0 else sum_at (drop (i + 1) order) (drop (i + 1) sums) k) test) ∙ so

pub at_here : (order sums : List ℕ) (i k whole : ℕ) → i < length order → i < length sums
    → (get_or order i 0 == k) ≡ true → sum_at (drop i order) (drop i sums) k ≡ whole → get_or sums i 0 ≡ whole
at_here order sums i k whole l m test so =
    sym (at_drop order sums i k l m
    ∙ ap (λ b. if b then get_or sums i 0 else sum_at (drop (i + 1) order) (drop (i + 1) sums) k) test) ∙ so

pub at_end : (order sums : List ℕ) (i k whole : ℕ) → length order ≤ i
    → sum_at (drop i order) (drop i sums) k ≡ whole → 0 ≡ whole
at_end order sums i k whole le so = ap (λ l. sum_at l (drop i sums) k) (sym (drop_all i order le)) ∙ so

-- the sum at a place
pub at_place : (order sums : List ℕ) (j : ℕ) → AreApart order → j < length order → length order ≤ length sums
    → sum_at order sums (get_or order j 0) ≡ get_or sums j 0
at_place [] sums j apart l m = absurd (omega (arith, l))
at_place (c ∷ order) [] j apart l m = absurd (omega (arith, m))
at_place (c ∷ order) (sum ∷ sums) zero apart l m =
    ap (λ b. if b then sum else sum_at order sums c) (eq-eqb c c refl)
at_place (c ∷ order) (sum ∷ sums) (suc j) apart l m =
    ap (λ b. if b then sum else sum_at order sums (get_or order j 0))
    (ne_eqb c (get_or order j 0) (apart 0 (suc j) 0 (omega arith) l))
    ∙ at_place order sums j (λ a b d less within. apart (suc a) (suc b) d (omega (arith, less)) (omega (arith, within)))
    (omega (arith, l)) (omega (arith, m))

-- a sum that is set
set_here : (order sums : List ℕ) (j x : ℕ) → AreApart order → j < length order → length order ≤ length sums
    → sum_at order (set sums j x) (get_or order j 0) ≡ x
set_here order sums j x apart l m =
    at_place order (set sums j x) j apart l (omega (arith, m, length-set sums j x))
    ∙ get_or-set_same sums j x 0 (omega (arith, l, m))

set_other : (order sums : List ℕ) (j x c : ℕ) → j < length order → c ≢ get_or order j 0
    → sum_at order (set sums j x) c ≡ sum_at order sums c
set_other [] sums j x c l ne = refl
set_other (k ∷ order) [] j x c l ne = refl
set_other (k ∷ order) (sum ∷ sums) zero x c l ne =
    let no : (k == c) ≡ false = ne_eqb k c (λ e. ne (sym e)) in
    ap (λ b. if b then x else sum_at order sums c) no ∙ sym (ap (λ b. if b then sum else sum_at order sums c) no)
set_other (k ∷ order) (sum ∷ sums) (suc j) x c l ne =
    ap (λ y. if k == c then sum else y) (set_other order sums j x c (omega (arith, l)) ne)

apart_at : (order : List ℕ) (i j : ℕ) → AreApart order → i < length order → j < length order → i ≢ j
    → get_or order i 0 ≢ get_or order j 0
apart_at order i j apart l m ne =
    elim (cases_lt i j) [
      | inl less ↦ apart i j 0 less m
      | inr le ↦ λ e. apart j i 0
          (elim (cases_lt j i) [ inl less ↦ less | inr more ↦ absurd (ne (omega (arith, le, more))) ]) l (sym e)
    ]

module _ (next : (ℕ → ℕ) → ℕ → ℕ) (order : List ℕ) (apart : AreApart order) where
  module _ (was new : List ℕ) (i : ℕ) (l : i < length order) (m : length order ≤ length was)
      (is : new ≡ set was i (next (sum_at order was) (get_or order i 0))) where
    at_i : sum_at order new (get_or order i 0) ≡ next (sum_at order was) (get_or order i 0)
    at_i = ap (λ sums. sum_at order sums (get_or order i 0)) is
        ∙ set_here order was i (next (sum_at order was) (get_or order i 0)) apart l m

    at_others : (c : ℕ) → c ≢ get_or order i 0 → sum_at order new c ≡ sum_at order was c
    at_others c ne = ap (λ sums. sum_at order sums c) is
        ∙ set_other order was i (next (sum_at order was) (get_or order i 0)) c l ne

    -- one that did not change was right
    pub kept_right : new ≡ was → IsRight next order new i
    kept_right same = at_i ∙ ap (λ sums. next (sum_at order sums) (get_or order i 0)) (sym same)

    module _ (rank : ℕ → ℕ) (now : ℕ) (local : IsLocal next order rank)
        (so : IsSettledTo next order rank now i was) where
      lower : (r : ℕ) → r ≤ now → (p : ℕ) → rank p < r → sum_at order new p ≡ sum_at order was p
      lower r le p less =
          elim (cases_eq p (get_or order i 0)) [
            | inl e ↦ (let same : rank p ≡ rank (get_or order i 0) = ap rank e in
                ap (sum_at order new) e ∙ at_i
                ∙ sym (so i l (omega (arith, same, less, le)) (λ first. omega (arith, same, less, le)))
                ∙ ap (sum_at order was) (sym e))
            | inr ne ↦ at_others p ne
          ]

      pub one_more : IsSettledTo next order rank now (i + 1) new
      one_more at within le first =
          let on : next (sum_at order was) (get_or order at 0) ≡ next (sum_at order new) (get_or order at 0) =
          sym (local at within (sum_at order new) (sum_at order was) (lower (rank (get_or order at 0)) le)) in
          elim (cases_eq at i) [
            | inl e ↦ ap (λ n. sum_at order new (get_or order n 0)) e ∙ at_i
                ∙ ap (λ n. next (sum_at order was) (get_or order n 0)) (sym e) ∙ on
            | inr ne ↦ at_others (get_or order at 0) (apart_at order at i apart within l ne)
                ∙ so at within le (λ past. first (elim (cases_lt i at) [
                  | inl less ↦ omega (arith, less)
                  | inr more ↦ absurd (ne (omega (arith, more, past)))
                ])) ∙ on
          ]

  -- those that did not change were right
  pub right_more : (was new : List ℕ) (i : ℕ) → i < length order → length order ≤ length was
      → new ≡ set was i (next (sum_at order was) (get_or order i 0)) → new ≡ was
      → ((at : ℕ) → at < i → IsRight next order was at) → (at : ℕ) → at < i + 1 → IsRight next order new at
  right_more was new i l m is same so at less =
      elim (cases_lt at i) [
        | inl below ↦ subst (λ sums. IsRight next order sums at) (sym same) (so at below)
        | inr above ↦ (let e : i ≡ at = omega (arith, less, above) in
            subst (IsRight next order new) e (kept_right was new i l m is same))
      ]

  -- after a round, ranks one higher are right
  pub round_done : (rank : ℕ → ℕ) (now i : ℕ) (sums : List ℕ) → length order ≤ i
      → IsSettledTo next order rank now i sums → IsSettledTo next order rank (now + 1) 0 sums
  round_done rank now i sums past so at within le first =
      let less = first (omega arith) in
      so at within (omega (arith, less)) (λ more. absurd (omega (arith, past, within, more)))

  pub none_done : (rank : ℕ → ℕ) (sums : List ℕ) → IsSettledTo next order rank 0 0 sums
  none_done rank sums at within le first = (let less = first (omega arith) in absurd (omega (arith, less)))

  pub all_done : (rank : ℕ → ℕ) (now bound : ℕ) (sums : List ℕ) → bound ≤ now
      → ((at : ℕ) → at < length order → rank (get_or order at 0) < bound)
      → IsSettledTo next order rank now 0 sums → IsSettled next order sums
  all_done rank now bound sums le low so at within =
      let less = low at within in
      so at within (omega (arith, le, less)) (λ first. omega (arith, le, less))

-- the greatest of the seats
under_next : (sums : ℕ → ℕ) (seats : List Seat) (i greatest next whole : ℕ) (seat : Seat)
    → slice_get seats i ≡ Some seat → next ≡ sum_under sums (scheduler_at seat.place)
    → max greatest (greatest_over sums (drop i seats)) ≡ whole
    → max (max greatest next) (greatest_over sums (drop (suc i) seats)) ≡ whole
under_next sums [] i greatest next whole seat e on so = cc
under_next sums (first ∷ rest) zero greatest next whole seat e on so =
    let same : first ≡ seat = cc in
    let ones : sum_under sums (scheduler_at first.place) ≡ sum_under sums (scheduler_at seat.place) =
    ap (λ (x : Seat). sum_under sums (scheduler_at x.place)) same in
    omega (arith, so, on, ones)
under_next sums (first ∷ rest) (suc i) greatest next whole seat e on so =
    under_next sums rest i greatest next whole seat e on so

pub under_step : (sums : ℕ → ℕ) (seats : List Seat) (i greatest next whole : ℕ) (seat : Seat)
    → slice_get seats i ≡ Some seat → next ≡ sum_under sums (scheduler_at seat.place)
    → max greatest (greatest_over sums (drop i seats)) ≡ whole
    → max (max greatest next) (greatest_over sums (drop (i + 1) seats)) ≡ whole
under_step sums seats i greatest next whole seat e on so =
    rw (add-one i) (under_next sums seats i greatest next whole seat e on so)

-- the greatest of the sums
pub most_step : (sums : List ℕ) (i greatest next : ℕ) → next ≡ max greatest (get_or sums i 0)
    → ((at : ℕ) → at < i → get_or sums at 0 ≤ greatest) → (at : ℕ) → at < i + 1 → get_or sums at 0 ≤ next
most_step sums i greatest next is so at less =
    elim (cases_lt at i) [
      | inl below ↦ (let le = so at below in omega (arith, is, le))
      | inr above ↦ (let e : get_or sums at 0 ≡ get_or sums i 0 =
          ap (λ n. get_or sums n 0) (omega (arith, less, above)) in
          omega (arith, is, e))
    ]

pub there_step : (sums : List ℕ) (i greatest next : ℕ) → next ≡ max greatest (get_or sums i 0)
    → (greatest ≡ 0) ⊎ ((at : ℕ) × (at < i) × (get_or sums at 0 ≡ greatest))
    → (next ≡ 0) ⊎ ((at : ℕ) × (at < i + 1) × (get_or sums at 0 ≡ next))
there_step sums i greatest next is so =
    elim (cases_lt greatest (get_or sums i 0)) [
      | inl less ↦ inr (i, omega arith, omega (arith, is, less))
      | inr le ↦ elim so [
        | inl none ↦ inl (omega (arith, is, le, none))
        | inr some ↦ inr (some.0, (let l = some.1 in omega (arith, l)), some.2 ∙ omega (arith, is, le))
      ]
    ]
