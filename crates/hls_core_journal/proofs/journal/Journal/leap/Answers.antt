use Rattle.std.proofs.Common.{refl, ◌∙◌}
use Rattle.hls_core_journal.proofs.Leaps.{leapt}
use Rattle.hls_core_journal.proofs.journal.Journal.leap.Goals as goal

pub returns : goal.returns
returns c = leapt c.args.path c.args.self.now c.put_tick.new.runs.items c.put_tick.ensures.longer _ refl refl
    (c.lengthen.ensures.capacity ∙ c.put_tick.ensures.capacity) c.args.ticks c.requires.some
    c.lengthen.ensures.last refl
