use Rattle.std.specs.Prelude.{◌≡◌, ℕ, ◌<◌, Some, slice_get}
use Rattle.hls_guarantee.specs.declared.Guarantee.{Guarantee}
use Rattle.hls_offer_lines.specs.Lines.{Covers}
use Rattle.hls_offer_lines.proofs.shares.is_covered.Given as goal

abbrev pub invariant-loop-top : goal.invariant-loop-top
invariant-loop-top l =
    (k : ℕ) → k < l.top-index → (one : Guarantee) → slice_get l.tops k ≡ Some one → Covers one l.share → ⊥
