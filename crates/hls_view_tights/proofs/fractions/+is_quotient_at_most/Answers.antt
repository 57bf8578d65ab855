use Rattle.std.proofs.Common.{refl, IsTrue}
use Rattle.hls_view_tights.proofs.Quotients.{by_wholes, nothing_left, only_left, turned}
use Rattle.hls_view_tights.proofs.fractions.+is_quotient_at_most.Goals as goal

pub returns-then-whole-other_whole : goal.returns-then-whole-other_whole
returns-then-whole-other_whole t c =
    by_wholes c.args.num c.args.den c.args.other_num c.args.other_den c.requires.positive c.requires.other
    c.if-whole-other_whole.true

pub returns-then-left-eq0 : goal.returns-then-left-eq0
returns-then-left-eq0 t c = (
  λ is. nothing_left c.args.num c.args.den c.args.other_num c.args.other_den c.requires.positive c.requires.other
      c.if-whole-other_whole.false c.if-left-eq0.true,
  λ most. refl,
)

pub returns-then-other_left-eq0 : goal.returns-then-other_left-eq0
returns-then-other_left-eq0 t c = (
  λ is. absurd (cc),
  λ most. absurd (only_left c.args.num c.args.den c.args.other_num c.args.other_den c.requires.positive
      c.requires.other c.if-whole-other_whole.false c.if-left-eq0.false c.if-other_left-eq0.true most),
)

pub returns : goal.returns
returns t c =
    turned c.args.num c.args.den c.args.other_num c.args.other_den (IsTrue c.is_quotient_at_most.result)
    c.requires.positive c.requires.other c.if-whole-other_whole.false c.is_quotient_at_most.ensures
