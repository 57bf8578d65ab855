-- Longest rows of ticks.
use Rattle.std.proofs.Common.{◌≡◌, ◌∙◌, ℕ, suc, ◌+◌, ◌<◌, List, [], ◌∷◌, ap, refl, arith, map, length, get_or, drop}
use Rattle.std.specs.Prelude.{Bool, true, false}
use Rattle.std.specs.List.{range_with_len}
use Rattle.std.proofs.lemmas.List.{drop_more}
use Rattle.hls_audit_spans.specs.Spans.{AreTicks}
use Rattle.hls_view_timeline.specs.Slices.{run_length}

pub run_on : (on : List Bool) (at : ℕ) → at < length on → get_or on at false ≡ true
    → run_length (drop at on) ≡ suc (run_length (drop (at + 1) on))
run_on on at lt is =
    ap run_length (drop_more on at false lt) ∙ ap (λ b. run_length (b ∷ drop (at + 1) on)) is

pub run_off : (on : List Bool) (at : ℕ) → at < length on → get_or on at false ≡ false → run_length (drop at on) ≡ 0
run_off on at lt is =
    ap run_length (drop_more on at false lt) ∙ ap (λ b. run_length (b ∷ drop (at + 1) on)) is

-- whether each tick passes a test, as a list
pub ticks_are : (f : ℕ → Bool) (from : ℕ) (list : List Bool) → AreTicks f from list
    → list ≡ map f (range_with_len from (length list))
ticks_are f from [] are = refl
ticks_are f from (b ∷ list) are =
    let start : 0 + from ≡ from = omega arith in
    let here : b ≡ f from = are.each 0 (omega arith) ∙ ap f start in
    let rest = ticks_are f (from + 1) list (record {
      each = λ t lt.
          let moved : suc t + from ≡ t + (from + 1) = omega arith in
          are.each (suc t) (omega (arith, lt)) ∙ ap f moved;
    }) in
    ap (λ c. c ∷ list) here ∙ ap (λ (l : List Bool). f from ∷ l) rest
