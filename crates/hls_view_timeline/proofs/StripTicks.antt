-- Windows and runs of ticks in a row, one beside the other.
use Rattle.std.proofs.Common.{◌≡◌, ◌∙◌, ℕ, ◌+◌, ◌-◌, ◌<◌, List, [], ◌∷◌, ◌++◌, true, false, refl, ap, ap₂, sym}
use Rattle.std.proofs.Common.{arith}
use Rattle.std.specs.Prelude.{Bool, cond, ◌&&◌, nat_le, flat_map, length, map, get_or, drop}
use Rattle.std.specs.List.{range_with_len}
use Rattle.std.proofs.lemmas.Bool.{leb-true, leb-false}
use Rattle.std.proofs.lemmas.List.{length-map, get_or_past}
use Rattle.std.proofs.lemmas.List.FromFn.{length-map-range_with_len, get_or-map-range_with_len}
use Rattle.hls_view_trace.specs.declared.event.Category.{Category}
use Rattle.hls_view_trace.specs.declared.event.Category.TheVariants.{Run, Ready}
use Rattle.hls_view_trace.specs.declared.event.Place.{Place}
use Rattle.hls_view_trace.specs.declared.event.Event.{Event}
use Rattle.hls_view_timeline.specs.Slices.{begins, run_length, row_slice, slice_at, inner_slices}
use Rattle.hls_view_timeline.specs.Counted.{is_same, held_as}
use Rattle.hls_chron.specs.Ticks.{one_if}
use Rattle.hls_view_timeline.proofs.Counting.{held-append, held-alike}
use Rattle.hls_view_timeline.proofs.RowTicks.{is_on, all_counted}

-- slices of another category
none_of : (category other : Category) → is_same other category ≡ false
    → (place : Place) (from t : ℕ) (on : List Bool) (at : ℕ) → held_as category t (slice_at other place from on at) ≡ 0
none_of category other differ place from t on at = by (begins on at) refl
  where
    slice : Event
    slice = row_slice other place (from + at) (run_length (drop at on))

    by : (b : Bool) → begins on at ≡ b → held_as category t (slice_at other place from on at) ≡ 0
    by true is =
        ap (λ b. held_as category t (cond b (slice ∷ []) [])) is
        ∙ ap (λ b. length (cond (b && reaches) (slice ∷ []) [])) differ
      where
        reaches : Bool
        reaches = nat_le (from + at) t && nat_le t (from + at + run_length (drop at on) - 1)
    by false is = ap (λ b. held_as category t (cond b (slice ∷ []) [])) is

-- ticks from one to another, both included
abbrev pub ticks : (from to : ℕ) → List ℕ
ticks from to = range_with_len from (to + 1 - from)

module _ (from to : ℕ) (test : ℕ → Bool) where
  past : (t : ℕ) → to < t → get_or (map test (ticks from to)) (t - from) false ≡ false
  past t lt =
      let long = length-map-range_with_len test from (to + 1 - from) in
      get_or_past (map test (ticks from to)) (t - from) false (omega (arith, long, lt))

  pub on_is : (t : ℕ) → is_on from (map test (ticks from to)) t ≡ ((nat_le from t && nat_le t to) && test t)
  on_is t = by (nat_le from t) (nat_le t to) refl refl
    where
      and_off : (a : Bool) → (a && false) ≡ false
      and_off true = refl
      and_off false = refl

      by : (begun here : Bool) → nat_le from t ≡ begun → nat_le t to ≡ here
          → is_on from (map test (ticks from to)) t ≡ ((nat_le from t && nat_le t to) && test t)
      by true true is e =
          let first = leb-true from t is in
          let last = leb-true t to e in
          ap₂ (λ a b. a && b) is
          (get_or-map-range_with_len test from (to + 1 - from) (t - from) t false (omega (arith, first, last))
          (omega (arith, first)))
          ∙ sym (ap₂ (λ a b. (a && b) && test t) is e)
      by true false is e =
          ap₂ (λ a b. a && b) is (past t (leb-false t to e))
          ∙ sym (ap₂ (λ a b. (a && b) && test t) is e)
      by false here is e =
          ap (λ b. b && get_or (map test (ticks from to)) (t - from) false) is
          ∙ sym (ap (λ b. (b && nat_le t to) && test t) is)

module _ (place : Place) (from to : ℕ) (ready takes : ℕ → Bool) where
  abbrev windows : List Bool
  windows = map ready (ticks from to)

  abbrev runs : List Bool
  runs = map takes (ticks from to)

  abbrev inner : List Event
  inner = inner_slices place from windows runs

  pub runs_counted : (t : ℕ) → held_as Run t inner ≡ one_if ((nat_le from t && nat_le t to) && takes t)
  runs_counted t =
      held-alike Run t (λ at. slice_at Ready place from windows at ++ slice_at Run place from runs at)
      (slice_at Run place from runs) (range_with_len 0 (length windows))
      (λ at.
      held-append Run t (slice_at Ready place from windows at) (slice_at Run place from runs at)
      ∙ ap (λ (n : ℕ). n + held_as Run t (slice_at Run place from runs at))
      (none_of Run Ready refl place from t windows at)
      ∙ zero_plus (held_as Run t (slice_at Run place from runs at)))
      ∙ ap (λ (n : ℕ). held_as Run t (flat_map (slice_at Run place from runs) (range_with_len 0 n)))
      (length-map (ticks from to) ready ∙ sym (length-map (ticks from to) takes))
      ∙ all_counted Run refl place from runs t
      ∙ ap one_if (on_is from to takes t)
    where
      zero_plus : (n : ℕ) → 0 + n ≡ n
      zero_plus n = omega arith

  pub windows_counted : (t : ℕ) → held_as Ready t inner ≡ one_if ((nat_le from t && nat_le t to) && ready t)
  windows_counted t =
      held-alike Ready t (λ at. slice_at Ready place from windows at ++ slice_at Run place from runs at)
      (slice_at Ready place from windows) (range_with_len 0 (length windows))
      (λ at.
      held-append Ready t (slice_at Ready place from windows at) (slice_at Run place from runs at)
      ∙ ap (λ (n : ℕ). held_as Ready t (slice_at Ready place from windows at) + n)
      (none_of Ready Run refl place from t runs at)
      ∙ plus_zero (held_as Ready t (slice_at Ready place from windows at)))
      ∙ all_counted Ready refl place from windows t
      ∙ ap one_if (on_is from to ready t)
    where
      plus_zero : (n : ℕ) → n + 0 ≡ n
      plus_zero n = omega arith
