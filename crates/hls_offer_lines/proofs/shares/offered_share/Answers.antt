use Rattle.hls_offer_lines.proofs.Placing.{when-true, when-false}
use Rattle.hls_offer_lines.proofs.Coverings.{found-some, found-none}
use Rattle.hls_offer_lines.proofs.shares.offered_share.Goals as goal
use Rattle.hls_offer_lines.proofs.shares.offered_share.Goals.{
  else-narrow-via-then-narrow+in_ok-offers+else-branch,
  else-narrow-via-else-narrow,
}

pub returns-then-branch : goal.returns-then-branch
returns-then-branch g c = λ share.
    found-some c.args.seat.now c.args.lent.now c.in-Some.share share c.in-Some.ensures.share
    (when-true _ c.narrow.result c.if-narrow.true c.narrow.ensures)
    (when-true _ c.in_ok-offers.field-0 c.if-branch.true c.in_ok-offers.ensures)

pub returns : goal.returns
returns g c = λ share.
    found-none c.args.seat.now c.args.lent.now c.in-Some.share share c.in-Some.ensures.share
    (λ small offers. elim c.else-narrow.branch [
      | else-narrow-via-then-narrow+in_ok-offers+else-branch w ↦
          when-false _ w.in_ok-offers.field-0 w.if-branch.false w.in_ok-offers.ensures offers
      | else-narrow-via-else-narrow w ↦ when-false _ c.narrow.result w.if-narrow.false c.narrow.ensures small
    ])
