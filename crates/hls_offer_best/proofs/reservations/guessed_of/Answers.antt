use Rattle.std.proofs.Common.{inl, inr, sym, subst}
use Rattle.std.specs.Prelude.{Contains}
use Rattle.hls_offer_best.proofs.Trying.{if-each}
use Rattle.hls_offer_best.proofs.Budgets.{ranged}
use Rattle.hls_offer_best.proofs.reservations.guessed_of.Goals as goal

pub returns : goal.returns
returns c = λ periods has so_far.
    c.lesser.ensures periods
    (if-each c.budget_of-spread.result (λ b is.
    let both = (c.budget_of-spread.ensures b).0 is in
    let size = (c.spread_size.ensures b.x).0 both.0 in
    record {
      range = ranged c.args.need.now.wanted b c.args.y c.requires.can.wanted c.requires.some c.requires.size both.1
          (inr size.0) size.1;
      period = subst (λ v. Contains periods v) (sym both.1) has;
    }))
    (c.lesser-best.ensures periods
    (if-each c.budget_of-direct.result (λ b is.
    let both = (c.budget_of-direct.ensures b).0 is in
    let size = (c.direct_size.ensures b.x).0 both.0 in
    record {
      range = ranged c.args.need.now.wanted b c.args.y c.requires.can.wanted c.requires.some c.requires.size both.1
          (inl size.0) size.1;
      period = subst (λ v. Contains periods v) (sym both.1) has;
    })) so_far)
