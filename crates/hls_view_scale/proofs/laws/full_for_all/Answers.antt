use Rattle.std.proofs.Common.{◌≡◌, ℕ, ◌<◌, arith, ap, ◌∙◌}
use Rattle.std.proofs.lemmas.Grind.{common_steps}
use Rattle.hls_view_scale.specs.Heights.{height}
use Rattle.hls_view_scale.proofs.Parts.{part_below, part_whole}
use Rattle.hls_view_scale.proofs.laws.full_for_all.Goals as goal

below : (some all full : ℕ) → some < all → 1 < full → height some all full < full
below some all full few seen =
    grind (arith, common_steps, seen, part_below some all full few (omega (arith, seen)))

whole : (all full : ℕ) → 0 < all → 1 < full → height all all full ≡ full
whole all full held seen = grind (arith, common_steps, held, seen, part_whole all full held)

pub returns : goal.returns
returns c = λ some all full few held seen. (
  λ is. grind (arith, few, is, below some all full),
  λ is. ap (λ n. height n all full) is ∙ whole all full held seen,
)
