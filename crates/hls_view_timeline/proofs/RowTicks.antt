-- The slices of a row of ticks hold those that are on, each once.
use Rattle.std.proofs.Common.{◌≡◌, ◌∙◌, ℕ, zero, suc, ◌+◌, ◌-◌, ◌<◌, List, [], ◌∷◌, true, false, refl}
use Rattle.std.proofs.Common.{ap, ap₂, sym, arith}
use Rattle.std.specs.Prelude.{Bool, cond, not, ◌&&◌, ◌||◌, ◌==◌, nat_le, flat_map, length, get_or, drop}
use Rattle.std.specs.List.{range_with_len}
use Rattle.std.proofs.lemmas.Bool.{leb-true, leb-false, le-leb, lt-leb, ne_eqb}
use Rattle.std.proofs.lemmas.List.{get_or-drop, drop-drop}
use Rattle.hls_view_trace.specs.declared.event.Category.{Category}
use Rattle.hls_view_trace.specs.declared.event.Place.{Place}
use Rattle.hls_view_trace.specs.declared.event.Event.{Event}
use Rattle.hls_view_timeline.specs.Slices.{begins, run_length, row_slice, slice_at}
use Rattle.hls_view_timeline.specs.Counted.{is_same, held_as}
use Rattle.hls_chron.specs.Ticks.{one_if}
use Rattle.hls_view_timeline.proofs.Counting.{held-append}

-- a tick is on in a row that begins with one
abbrev pub is_on : (from : ℕ) → (on : List Bool) → (t : ℕ) → Bool
is_on from on t = nat_le from t && get_or on (t - from) false

module _ (category : Category) (self : is_same category category ≡ true) (place : Place) (from : ℕ)
    (on : List Bool) where
  -- the slice that begins at a place holds a tick
  abbrev reaches : (at t : ℕ) → Bool
  reaches at t = nat_le (from + at) t && nat_le t (from + at + run_length (drop at on) - 1)

  one : (at t : ℕ) → held_as category t (slice_at category place from on at) ≡ one_if (begins on at && reaches at t)
  one at t = by (begins on at) (reaches at t) refl refl
    where
      slice : Event
      slice = row_slice category place (from + at) (run_length (drop at on))

      kept : (held : Bool) → reaches at t ≡ held → held_as category t (slice ∷ []) ≡ one_if held
      kept true is =
          ap (λ b. length (cond b (slice ∷ []) [])) (ap (λ b. b && reaches at t) self ∙ is)
      kept false is =
          ap (λ b. length (cond b (slice ∷ []) [])) (ap (λ b. b && reaches at t) self ∙ is)

      by : (begun held : Bool) → begins on at ≡ begun → reaches at t ≡ held
          → held_as category t (slice_at category place from on at) ≡ one_if (begins on at && reaches at t)
      by true held is last =
          ap (λ b. held_as category t (cond b (slice ∷ []) [])) is ∙ kept held last ∙ ap one_if (sym last)
          ∙ ap (λ b. one_if (b && reaches at t)) (sym is)
      by false held is last =
          ap (λ b. held_as category t (cond b (slice ∷ []) [])) is ∙ ap (λ b. one_if (b && reaches at t)) (sym is)

  abbrev from_place : (k n : ℕ) → List Event
  from_place k n = flat_map (slice_at category place from on) (range_with_len k n)

  -- no slice holds a tick before it
  none_yet : (n k t : ℕ) → t < from + k → held_as category t (from_place k n) ≡ 0
  none_yet zero k t lt = refl
  none_yet (suc n) k t lt =
      held-append category t (slice_at category place from on k) (from_place (k + 1) n)
      ∙ ap₂ (λ (a b : ℕ). a + b) first (none_yet n (k + 1) t (omega (arith, lt)))
    where
      off : (a : Bool) → (a && false) ≡ false
      off true = refl
      off false = refl

      first : held_as category t (slice_at category place from on k) ≡ 0
      first =
          one k t
          ∙ ap (λ b. one_if (begins on k && (b && nat_le t (from + k + run_length (drop k on) - 1))))
          (lt-leb (from + k) t lt)
          ∙ ap one_if (off (begins on k))

  -- a longest row may begin here
  abbrev fresh : ℕ → Bool
  fresh k = k == 0 || not (get_or on (k - 1) false)

  -- what is on from a place, but for the row that began before it
  abbrev left : (k j : ℕ) → (rest : List Bool) → Bool
  left k j rest = get_or rest j false && (fresh k || nat_le (run_length rest) j)

  run_on : (rest : List Bool) (j : ℕ) → j < run_length rest → get_or rest j false ≡ true
  run_on [] j lt = absurd (omega (arith, lt))
  run_on (false ∷ rest) j lt = absurd (omega (arith, lt))
  run_on (true ∷ rest) zero lt = refl
  run_on (true ∷ rest) (suc j) lt = run_on rest j (omega (arith, lt))

  or_on : (a : Bool) → (a || true) ≡ true
  or_on true = refl
  or_on false = refl

  and_off : (a : Bool) → (a && false) ≡ false
  and_off true = refl
  and_off false = refl

  next_le : (a b : ℕ) → nat_le (suc a) (suc b) ≡ nat_le a b
  next_le a b = by (nat_le a b) refl
    where
      by : (c : Bool) → nat_le a b ≡ c → nat_le (suc a) (suc b) ≡ nat_le a b
      by true is =
          let le = leb-true a b is in
          le-leb (suc a) (suc b) (omega (arith, le)) ∙ sym is
      by false is =
          let lt = leb-false a b is in
          lt-leb (suc a) (suc b) (omega (arith, lt)) ∙ sym is

  -- what is held behind the first place
  abbrev behind : (first : Bool) → (more : List Bool) → (j : ℕ) → ℕ
  behind first more zero = 0
  behind first more (suc i) = one_if (get_or more i false && (not first || nat_le (run_length more) i))

  abbrev at_first : (first new : Bool) → (more : List Bool) → (start t : ℕ) → ℕ
  at_first first new more start t = one_if ((first && new) && nat_le t (start + run_length (first ∷ more) - 1))

  split : (first new : Bool) (more : List Bool) (j start t : ℕ) → t ≡ start + j
      → at_first first new more start t + behind first more j
      ≡ one_if (get_or (first ∷ more) j false && (new || nat_le (run_length (first ∷ more)) j))
  split false new more zero start t at = refl
  split false new more (suc i) start t at =
      let all : (new || nat_le 0 (suc i)) ≡ true = ap (λ b. new || b) (le-leb 0 (suc i) (omega arith)) ∙ or_on new in
      let sum : 0 + one_if (get_or more i false && true) ≡ one_if (get_or more i false && true) = omega arith in
      sum ∙ ap (λ b. one_if (get_or more i false && b)) (sym all)
  split true false more zero start t at =
      ap (λ b. one_if b) (sym (lt-leb (suc (run_length more)) 0 (omega arith)))
  split true true more zero start t at =
      ap (λ b. one_if b + 0) (le-leb t (start + suc (run_length more) - 1) (omega (arith, at)))
  split true false more (suc i) start t at =
      let kept = one_if (get_or more i false && nat_le (run_length more) i) in
      let sum : 0 + kept ≡ kept = omega arith in
      sum ∙ ap (λ b. one_if (get_or more i false && b)) (sym (next_le (run_length more) i))
  split true true more (suc i) start t at = by (nat_le (run_length more) i) refl
    where
      by : (b : Bool) → nat_le (run_length more) i ≡ b
          → at_first true true more start t + behind true more (suc i) ≡ one_if (get_or more i false && true)
      by true is =
          let le = leb-true (run_length more) i is in
          let off : nat_le t (start + suc (run_length more) - 1) ≡ false =
          lt-leb t (start + suc (run_length more) - 1) (omega (arith, le, at)) in
          let kept = one_if (get_or more i false && true) in
          let sum : 0 + kept ≡ kept = omega arith in
          ap₂ (λ a b. one_if a + one_if (get_or more i false && b)) off is ∙ sum
      by false is =
          let lt = leb-false (run_length more) i is in
          let held : nat_le t (start + suc (run_length more) - 1) ≡ true =
          le-leb t (start + suc (run_length more) - 1) (omega (arith, lt, at)) in
          ap₂ (λ a b. one_if a + one_if (get_or more i false && b)) held is
          ∙ ap (λ b. 1 + one_if b) (and_off (get_or more i false))
          ∙ ap (λ b. one_if (b && true)) (sym (run_on more i lt))

  counted : (rest : List Bool) (k j t : ℕ) → drop k on ≡ rest → t ≡ from + k + j
      → held_as category t (from_place k (length rest)) ≡ one_if (left k j rest)
  counted [] k j t is at = refl
  counted (b ∷ more) k j t is at =
      held-append category t (slice_at category place from on k) (from_place (k + 1) (length more))
      ∙ ap₂ (λ (a c : ℕ). a + c) (one k t ∙ first) (rest j at (λ i later. counted more (k + 1) i t rest_is later))
      ∙ split b (fresh k) more j (from + k) t at
    where
      here : get_or on k false ≡ b
      here =
          let e : k ≡ k + 0 = omega arith in
          ap (λ i. get_or on i false) e ∙ sym (get_or-drop k on 0 false) ∙ ap (λ (l : List Bool). get_or l 0 false) is

      rest_is : drop (k + 1) on ≡ more
      rest_is = sym (drop-drop 1 k on) ∙ ap (λ (l : List Bool). drop 1 l) is

      next : fresh (k + 1) ≡ not b
      next =
          let e : k + 1 - 1 ≡ k = omega arith in
          ap (λ c. c || not (get_or on (k + 1 - 1) false)) (ne_eqb (k + 1) 0 (λ e. omega (arith, e)))
          ∙ ap (λ i. not (get_or on i false)) e ∙ ap not here

      first : one_if (begins on k && reaches k t) ≡ at_first b (fresh k) more (from + k) t
      first =
          ap (λ c. one_if ((c && fresh k) && reaches k t)) here
          ∙ ap (λ c. one_if ((b && fresh k) && (c && nat_le t (from + k + run_length (drop k on) - 1))))
          (le-leb (from + k) t (omega (arith, at)))
          ∙ ap (λ (l : List Bool). one_if ((b && fresh k) && nat_le t (from + k + run_length l - 1))) is

      rest : (j : ℕ) → t ≡ from + k + j
          → ((i : ℕ) → t ≡ from + (k + 1) + i
          → held_as category t (from_place (k + 1) (length more)) ≡ one_if (left (k + 1) i more))
          → held_as category t (from_place (k + 1) (length more)) ≡ behind b more j
      rest zero at goes_on = none_yet (length more) (k + 1) t (omega (arith, at))
      rest (suc i) at goes_on =
          goes_on i (omega (arith, at))
          ∙ ap (λ c. one_if (get_or more i false && (c || nat_le (run_length more) i))) next

  and_on : (a : Bool) → (a && true) ≡ a
  and_on true = refl
  and_on false = refl

  pub all_counted : (t : ℕ) → held_as category t (from_place 0 (length on)) ≡ one_if (is_on from on t)
  all_counted t = by (nat_le from t) refl
    where
      by : (b : Bool) → nat_le from t ≡ b → held_as category t (from_place 0 (length on)) ≡ one_if (is_on from on t)
      by true is =
          let le = leb-true from t is in
          counted on 0 (t - from) t refl (omega (arith, le))
          ∙ ap one_if (and_on (get_or on (t - from) false))
          ∙ ap (λ b. one_if (b && get_or on (t - from) false)) (sym is)
      by false is =
          let lt = leb-false from t is in
          none_yet (length on) 0 t (omega (arith, lt))
          ∙ ap (λ b. one_if (b && get_or on (t - from) false)) (sym is)
