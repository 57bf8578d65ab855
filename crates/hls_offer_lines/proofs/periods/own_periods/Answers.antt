use Rattle.std.proofs.Common.{ℕ, ◌<◌, subst, arith}
use Rattle.std.specs.Prelude.{Contains}
use Rattle.hls_offer_best.specs.Best.{IsLeastIfAny}
use Rattle.hls_offer_lines.specs.Inside.Listing.{IsPeriodAbove}
use Rattle.hls_offer_lines.proofs.Pushes.{none-in, no-pairs}
use Rattle.hls_offer_lines.proofs.Rising.{own-more, own-all, own-few, period-few}
use Rattle.hls_offer_lines.proofs.periods.own_periods.Goals as goal

pub loop-y-init : goal.loop-y-init
loop-y-init c = record {
  rising = no-pairs (λ (y later : ℕ). y < later) c.new-periods.result.items c.new-periods.ensures.items;
  each = λ y has. absurd (none-in y (subst (λ v. Contains v y) c.new-periods.ensures.items has));
  upto = λ y has. absurd (none-in y (subst (λ v. Contains v y) c.new-periods.ensures.items has));
  every = λ y own le. absurd (let above = own.above in omega arith);
}

pub loop-y-smaller : goal.loop-y-smaller
loop-y-smaller c =
    let least = c.in-Some.ensures in
    let above = least.meets.above in
    let few =
    period-few c.args.seat.now c.args.lent.now c.loop-y.last c.in-Some.y c.requires least.meets in
    omega arith

pub loop-y-preserved : goal.loop-y-preserved
loop-y-preserved c =
    own-more c.args.lent.now c.loop-y.periods.items c.push.new.self.items c.loop-y.last c.in-Some.y
    c.in-Some.ensures c.in_ok-push.ensures.items c.loop-y.invariant

pub returns-clause-own : goal.returns-clause-own
returns-clause-own c =
    let lent = c.args.lent.now in
    own-all c.args.seat.now lent c.loop-y.periods.items c.loop-y.last c.requires
    (subst (λ v. IsLeastIfAny (λ y. IsPeriodAbove lent c.loop-y.last y) v) c.in_default.is c.next_period.ensures)
    c.loop-y.invariant

pub returns-clause-few : goal.returns-clause-few
returns-clause-few c =
    own-few c.args.seat.now c.args.lent.now c.loop-y.periods.items c.loop-y.last c.requires c.loop-y.invariant
