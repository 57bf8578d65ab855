use Rattle.std.proofs.Common.{ap}
use Rattle.hls_core_stays.specs.Store.{Store}
use Rattle.hls_core_stays.proofs.Rows.{row_at, pushed_like}
use Rattle.hls_core_stays.proofs.tallies.Tallies.push_like.Goals as goal

pub returns-clause-items : goal.returns-clause-items
returns-clause-items c =
    let is = ap (λ (s : Store). s.items) c.self.view_is in
    let seatings = c.self.inside.seatings.items in
    let rows = c.self.inside.rows.items in
    let row = c.index.result.now in
    pushed_like seatings rows c.push_reserved.new.self.items _ c.args.like row c.args.thread c.args.since
    c.args.ready_since is (row_at seatings rows _ c.args.like row is c.requires.like c.index.ensures)
    c.push_reserved.ensures.items
