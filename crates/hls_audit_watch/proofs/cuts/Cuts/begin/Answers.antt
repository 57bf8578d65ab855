use Rattle.std.proofs.Common.{◌+◌, ◌<◌, nat_lt, arith, length}
use Rattle.std.proofs.lemmas.Bool.{ltb-true, ltb-false}
use Rattle.hls_audit_watch.proofs.Cutting.{begin_early, begin_late}
use Rattle.hls_audit_watch.proofs.cuts.Cuts.begin.Goals as goal

pub returns-then-at-period-clause-cutting : goal.returns-then-at-period-clause-cutting
returns-then-at-period-clause-cutting c = λ b.
    let small : length c.args.recent.now.list < c.args.recent.now.period =
    omega (arith, c.if-at-period.true, c.len-at.ensures.number, c.period-period.ensures.number) in
    rw c.len-at.ensures.number
    (begin_early c.args.reservation.now.hard c.args.reservation.now.x c.args.reservation.now.y
    c.args.recent.now.period c.args.self.now.from c.args.self.now.broken.items c.args.self.now.free
    c.args.recent.now.list b (nat_lt 0 c.args.self.now.from) c.requires.range.fits c.requires.room small
    (λ some. ltb-true 0 c.args.self.now.from some)
    (λ none. let le = ltb-false 0 c.args.self.now.from none in omega arith) c.requires.cuts)

pub returns-then-self-period-clause-cutting : goal.returns-then-self-period-clause-cutting
returns-then-self-period-clause-cutting c = λ b.
    begin_late c.args.reservation.now.hard c.args.reservation.now.x c.args.reservation.now.y c.args.recent.now.period
    c.args.self.now.from (c.args.self.now.from + 1) c.args.self.now.broken.items c.args.self.now.free
    c.args.recent.now.list b
    (omega (arith, c.if-at-period.false, c.len-at.ensures.number, c.period-period.ensures.number))
    (λ le. omega arith)
    (λ lt. absurd (omega (
      arith,
      lt,
      c.if-self-period.true,
      c.len-at.ensures.number,
      c.period-period.ensures.number,
    ))) c.requires.cuts

pub returns-else-self-period-clause-cutting : goal.returns-else-self-period-clause-cutting
returns-else-self-period-clause-cutting c = λ b.
    begin_late c.args.reservation.now.hard c.args.reservation.now.x c.args.reservation.now.y c.args.recent.now.period
    c.args.self.now.from c.args.self.now.from c.args.self.now.broken.items c.args.self.now.free
    c.args.recent.now.list b
    (omega (arith, c.if-at-period.false, c.len-at.ensures.number, c.period-period.ensures.number))
    (λ le. absurd (omega (
      arith,
      le,
      c.if-self-period.false,
      c.len-at.ensures.number,
      c.period-period.ensures.number,
    ))) (λ lt. omega arith) c.requires.cuts
