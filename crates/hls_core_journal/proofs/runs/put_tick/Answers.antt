use Rattle.std.proofs.Common.{inr, refl}
use Rattle.hls_core_journal.proofs.Ticks.{goes_on}
use Rattle.hls_core_journal.proofs.runs.put_tick.Goals as goal

pub returns-then-goes_on-clause-longer : goal.returns-then-goes_on-clause-longer
returns-then-goes_on-clause-longer c =
    goes_on c.args.names.now.keys c.args.tick c.args.path c.args.runs.now.items c.lengthen.new.self.items
    (c.if-goes_on.ensures.0 refl) c.lengthen.ensures.last

pub returns-clause-longer : goal.returns-clause-longer
returns-clause-longer c = inr (record {
  other = λ e. (let yes = c.if-goes_on.ensures.1 e in absurd (cc));
  longer = c.push.ensures.items;
})
