use Rattle.std.proofs.Common.{ap}
use Rattle.hls_core_journal.specs.Store.{Store}
use Rattle.hls_core_journal.proofs.Rows.{pushed_row}
use Rattle.hls_core_journal.proofs.runs.Runs.push.Goals as goal

pub returns-clause-items : goal.returns-clause-items
returns-clause-items c =
    pushed_row c.self.inside.ways.items c.place_way-way.new.ways.items c.self.inside.rows.items _ _
    c.place_way-way.result c.args.tick c.args.path (ap (λ (s : Store). s.items) c.self.view_is) c.self.invariant
    c.place_way-way.ensures.before c.place_way-way.ensures.kept c.push.ensures.items
