use Rattle.std.specs.Prelude.{◌≡◌}
use Rattle.hls_guarantee.specs.declared.Guarantee.{Guarantee}
use Rattle.hls_offer_best.proofs.Trying.{if-ok-both}
use Rattle.hls_offer_lines.proofs.Pushes.{no-pairs}
use Rattle.hls_offer_lines.proofs.HardOnes.{whole-lines}
use Rattle.hls_offer_lines.proofs.hard.whole_lines.Goals as goal

pub returns : goal.returns
returns g c =
    if-ok-both c.with_line.result
    (λ lines exact once. whole-lines c.args.seat.now c.new.result.items lines.items c.new.ensures.items exact once)
    c.with_line.ensures.exact
    (c.with_line.ensures.once (no-pairs (λ (h k : Guarantee). h ≡ k → ⊥) c.new.result.items c.new.ensures.items))
