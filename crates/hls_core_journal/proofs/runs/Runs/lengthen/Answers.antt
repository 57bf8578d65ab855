use Rattle.std.proofs.Common.{ap}
use Rattle.hls_core_journal.specs.Store.{Store}
use Rattle.hls_core_journal.proofs.Rows.{longer_rows, longer_runs}
use Rattle.hls_core_journal.proofs.runs.Runs.lengthen.Goals as goal

pub invariant_of-self : goal.invariant_of-self
invariant_of-self c =
    longer_rows c.self.inside.ways.items c.self.inside.rows.items c.lengthen.new.self.items c.args.tick
    c.self.invariant c.lengthen.ensures.last c.lengthen.ensures.count

pub returns-clause-last : goal.returns-clause-last
returns-clause-last c =
    longer_runs c.self.inside.ways.items c.self.inside.rows.items c.lengthen.new.self.items _ c.args.tick
    (ap (λ (s : Store). s.items) c.self.view_is) c.lengthen.ensures.last
