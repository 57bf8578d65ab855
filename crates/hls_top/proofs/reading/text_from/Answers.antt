use Rattle.hls_top.specs.Exchange.{drawn}
use Rattle.hls_top.proofs.Readings.{quiet_if_ok, lacks}
use Rattle.hls_top.proofs.reading.text_from.Goals as goal

pub returns-clause-quiet : goal.returns-clause-quiet
returns-clause-quiet g c =
    quiet_if_ok c.read_all.result
    (drawn g.S.Source.left g.S.Source.faults c.args.source.now c.read_all.new.source) c.read_all.ensures.quiet

pub returns-clause-lacks : goal.returns-clause-lacks
returns-clause-lacks g c =
    lacks c.read_all.result c.args.most
    (drawn g.S.Source.left g.S.Source.faults c.args.source.now c.read_all.new.source) c.read_all.ensures.long
    c.read_all.ensures.past c.read_all.ensures.fault c.read_all.ensures.quiet
