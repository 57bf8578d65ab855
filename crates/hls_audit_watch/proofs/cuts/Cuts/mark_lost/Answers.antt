use Rattle.std.proofs.Common.{◌≡◌, ℕ, ◌+◌, ◌-◌, ◌%◌, ◌≤◌, length, length-set, ◌∙◌, arith, true, false, sym, ap}
use Rattle.hls_chron.specs.Ticks.{one_if, count}
use Rattle.hls_chron.proofs.CountLaws.{count-le, one_if-le}
use Rattle.hls_guarantee.specs.Service.{schedule_of}
use Rattle.hls_audit_watch.proofs.Cutting.{mark_one, met_since, since_met}
use Rattle.hls_audit_watch.proofs.cuts.Cuts.mark_lost.Goals as goal

pub overflow_add-got : goal.overflow_add-got
overflow_add-got c =
    let most = count-le (schedule_of c.args.recent.now.list) c.loop-self.self.from
    (length c.args.recent.now.list - c.loop-self.self.from) in
    let one = one_if-le c.args.served in
    omega (arith, c.since.ensures, c.service.ensures, c.len-at.ensures.number, c.len-at.ensures.few)

pub is_met-requires-clause-got : goal.is_met-requires-clause-got
is_met-requires-clause-got c =
    let most = count-le (schedule_of c.args.recent.now.list) c.loop-self.self.from
    (length c.args.recent.now.list - c.loop-self.self.from) in
    let one = one_if-le c.args.served in
    omega (
      arith,
      c.since.ensures,
      c.service.ensures,
      c.requires.period,
      c.requires.range.size,
      c.loop-self.invariant.cutting.near,
    )

pub returns-then-is_met-clause-since : goal.returns-then-is_met-clause-since
returns-then-is_met-clause-since c = λ le.
    let got : c.since.result + c.service.result ≡
    count (schedule_of c.args.recent.now.list) c.loop-self.self.from
    (length c.args.recent.now.list - c.loop-self.self.from) + one_if c.args.served =
    omega (arith, c.since.ensures, c.service.ensures) in
    met_since c.args.reservation.now.hard c.args.reservation.now.x c.args.reservation.now.y
    c.args.recent.now.list c.args.served c.loop-self.self.from (c.len-at.result + 1 - c.loop-self.self.from)
    (c.since.result + c.service.result) le (omega (arith, c.len-at.ensures.number)) got
    (c.is_met.ensures.0 c.if-is_met.true)

pub loop-self-preserved : goal.loop-self-preserved
loop-self-preserved c =
    let on : c.loop-self.self.from ≤ length c.args.recent.now.list =
    omega (arith, c.loop-self-test.true, c.len-at.ensures.number) in
    let got : c.since.result + c.service.result ≡
    count (schedule_of c.args.recent.now.list) c.loop-self.self.from
    (length c.args.recent.now.list - c.loop-self.self.from) + one_if c.args.served =
    omega (arith, c.since.ensures, c.service.ensures) in
    let some : 1 ≤ c.args.recent.now.period =
    omega (arith, c.period-period.ensures.number, c.period-period.ensures.some) in
    record {
      room = length-set c.loop-self.self.broken.items _ true ∙ c.loop-self.invariant.room;
      placed =
          c.next_place-self.ensures c.loop-self.self.from
          (c.loop-self.invariant.placed
          ∙ ap (λ (n : ℕ). c.loop-self.self.from % n) (sym c.period-period.ensures.number))
          ∙ ap (λ (n : ℕ). (c.loop-self.self.from + 1) % n) c.period-period.ensures.number;
      cutting = rw c.loop-self.invariant.placed
          (mark_one c.args.reservation.now.hard c.args.reservation.now.x c.args.reservation.now.y
          c.args.recent.now.period c.loop-self.self.from c.loop-self.self.broken.items c.loop-self.self.free
          c.args.recent.now.list c.args.served some c.loop-self.invariant.room on
          (λ r. let met = since_met c.args.reservation.now.hard c.args.reservation.now.x
          c.args.reservation.now.y c.args.recent.now.list c.args.served c.loop-self.self.from
          (c.len-at.result + 1 - c.loop-self.self.from) (c.since.result + c.service.result) on
          (omega (arith, c.len-at.ensures.number)) got r in
          let no : false ≡ true = sym c.if-is_met.false ∙ c.is_met.ensures.1 met in
          cc)
          c.loop-self.invariant.cutting);
    }
