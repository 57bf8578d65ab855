use Rattle.std.proofs.Common.{ℕ, ◌*◌, ◌/◌, ap, arith}
use Rattle.hls_offer_laws.proofs.Counting.{most-fits, most-some}
use Rattle.hls_offer_laws.proofs.candidates.most_ticks.Goals as goal

pub overflow_cast-result : goal.overflow_cast-result
overflow_cast-result c =
    let most = most-fits c.args.s.now c.args.d.now c.args.y c.requires.share in
    omega (arith, most, ap (λ (v : ℕ). v / (c.args.s.now.den * c.args.d.now.den)) c.saturating_sub.ensures)

pub returns : goal.returns
returns c = λ x.
    most-some c.args.s.now c.args.d.now c.args.y _
    (ap (λ (v : ℕ). v / (c.args.s.now.den * c.args.d.now.den)) c.saturating_sub.ensures) c.if-most-eq0.false x
