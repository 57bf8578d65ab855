use Rattle.std.proofs.Common.{◌≡◌, ◌∙◌, ◌<◌, ◌≤◌, sym, length, arith, true, refl}
use Rattle.hls_audit.specs.Inside.Fits.{IsFitDue}
use Rattle.hls_audit.specs.Inside.Told.{told}
use Rattle.hls_report_text.specs.WellFormed.{IsSeated}
use Rattle.hls_audit.proofs.DueLaws.{settled-first, settled-more, settled-no, settled-end, settled-lengths}
use Rattle.hls_audit.proofs.DueLaws.{all_at, all_map}
use Rattle.hls_audit.proofs.dues.are_settled.Goals as goal

pub returns-then-dues-seats : goal.returns-then-dues-seats
returns-then-dues-seats c = (
  λ t. absurd (cc t),
  λ are. absurd (c.if-dues-seats.true (settled-lengths c.args.depth c.args.dues.now c.args.seats.now are)),
)

pub loop-at-init : goal.loop-at-init
loop-at-init c = settled-first c.args.depth c.args.dues.now c.args.seats.now

pub is_settled-requires-clause-due : goal.is_settled-requires-clause-due
is_settled-requires-clause-due c =
    all_map IsFitDue told c.args.dues.now c.loop-at.at c.index-dues-at.result c.loop-at-test.true c.index-dues-at.is
    c.requires.dues

pub is_settled-requires-clause-seated : goal.is_settled-requires-clause-seated
is_settled-requires-clause-seated c =
    all_at IsSeated c.args.seats.now c.loop-at.at c.index-seats-at.result (omega arith) c.index-seats-at.is
    c.requires.seats

pub returns-then-not-is_settled : goal.returns-then-not-is_settled
returns-then-not-is_settled c =
    let within : c.loop-at.at < length c.args.seats.now = omega arith in (
      λ t. absurd (cc t),
      λ are. absurd (settled-no c.args.depth c.args.dues.now c.args.seats.now c.loop-at.at c.index-dues-at.result
          c.index-seats-at.result c.loop-at-test.true within c.index-dues-at.is c.index-seats-at.is
          (λ is. let yes : c.is_settled.result ≡ true = c.is_settled.ensures.1 is in
          absurd (cc (sym c.if-not-is_settled.true ∙ yes))) c.loop-at.invariant are),
    )

pub loop-at-preserved : goal.loop-at-preserved
loop-at-preserved c =
    let within : c.loop-at.at < length c.args.seats.now = omega arith in
    settled-more c.args.depth c.args.dues.now c.args.seats.now c.loop-at.at c.index-dues-at.result
    c.index-seats-at.result c.loop-at-test.true within c.index-dues-at.is c.index-seats-at.is
    (c.is_settled.ensures.0 c.if-not-is_settled.false) c.loop-at.invariant

pub returns : goal.returns
returns c =
    let past : length c.args.seats.now ≤ c.loop-at.at = omega arith in
    let are = settled-end c.args.depth c.args.dues.now c.args.seats.now c.loop-at.at c.loop-at-test.false past
    c.loop-at.invariant in
    (λ t. are, λ whole. refl)
