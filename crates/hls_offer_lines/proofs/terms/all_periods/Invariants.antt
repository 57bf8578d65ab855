use Rattle.std.specs.Prelude.{ℕ, ◌≤◌, ◌<◌, All, Contains}
use Rattle.hls_offer_lines.proofs.terms.all_periods.Given as goal

abbrev pub invariant-loop-y : goal.invariant-loop-y
invariant-loop-y l = record {
  ranges : All (λ (y : ℕ). (1 ≤ y) × (y ≤ 10000)) l.all.items;
  each : (y : ℕ) → 1 ≤ y → y < l.y → Contains l.all.items y;
}
