use Rattle.std.proofs.Common.{◌∙◌}
use Rattle.hls_core_journal.specs.Schedule.{tail_text}
use Rattle.hls_core_journal.proofs.Endings.{texts_step}
use Rattle.hls_core_journal.proofs.tails.tails_of.Goals as goal

pub loop-way-preserved : goal.loop-way-preserved
loop-way-preserved c =
    texts_step (tail_text c.args.names.now.keys) c.args.ways.now c.loop-way.way-index _ c.loop-way.bytes.items
    c.put_tail.new.out.items c.loop-way.parts.items c.push.new.self.items c.len-from.result c.len-to.result
    c.loop-way.invariant c.loop-way-test.true c.in_ok-put_tail.ensures (c.len-from.ensures ∙ c.loop-way.bytes.ok.0)
    (c.len-to.ensures ∙ c.put_tail.new.out.ok.0) c.in_ok-push.ensures.items
