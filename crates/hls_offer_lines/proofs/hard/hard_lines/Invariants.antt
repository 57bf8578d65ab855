use Rattle.std.specs.Prelude.{◌≡◌, Contains, AllPairs}
use Rattle.hls_guarantee.specs.declared.Guarantee.{Guarantee}
use Rattle.hls_offer_best.specs.Best.{Offers}
use Rattle.hls_offer_lines.specs.Lines.{IsHardOf}
use Rattle.hls_offer_lines.proofs.HardOnes.{TriedLent}
use Rattle.hls_offer_lines.proofs.hard.hard_lines.Given as goal

abbrev pub invariant-loop-one : goal.invariant-loop-one
invariant-loop-one g l = record {
  from : (g : Guarantee) → Contains l.lines.items g → IsHardOf l.form g × Offers l.seat g;
  tried : TriedLent l.seat l.form l.lent l.lines.items l.one-index;
  once : AllPairs (λ g h. g ≡ h → ⊥) l.lines.items;
}
