use Rattle.std.specs.Prelude.{option_copied}
use Rattle.hls_offer_lines.proofs.Placing.{when-true, when-false}
use Rattle.hls_offer_lines.proofs.Reserving.{hard-first, hard-none}
use Rattle.hls_offer_lines.proofs.terms.hard_reservation.Goals as goal
use Rattle.hls_offer_lines.proofs.terms.hard_reservation.Goals.{
  else-is_asked-via-then-is_asked+in_ok-is_had_on+else-branch,
  else-is_asked-via-else-is_asked,
}

pub returns-then-branch : goal.returns-then-branch
returns-then-branch g c =
    hard-first c.args.asked.now c.requires.edf (option_copied c.args.periods) c.args.blocks.x c.args.blocks.y
    c.requires.wanted c.requires.can.wanted
    (λ hard u v. c.reservations_have_sizes.ensures.hard hard u v c.args.blocks.x c.args.blocks.y)
    (when-true _ c.is_asked.result c.if-is_asked.true c.is_asked.ensures)
    (when-true _ c.in_ok-is_had_on.field-0 c.if-branch.true c.in_ok-is_had_on.ensures)

pub returns : goal.returns
returns g c =
    hard-none c.args.asked.now c.requires.edf (option_copied c.args.periods) c.args.blocks.x c.args.blocks.y
    c.requires.wanted
    (λ hard u v. c.reservations_have_sizes.ensures.hard hard u v c.args.blocks.x c.args.blocks.y)
    (λ small period had. elim c.else-is_asked.branch [
      | else-is_asked-via-then-is_asked+in_ok-is_had_on+else-branch w ↦
          when-false _ w.in_ok-is_had_on.field-0 w.if-branch.false w.in_ok-is_had_on.ensures had
      | else-is_asked-via-else-is_asked w ↦
          when-false _ c.is_asked.result w.if-is_asked.false c.is_asked.ensures (small, period)
    ])
