use Rattle.std.proofs.Common.{arith, map, string_bytes, subst}
use Rattle.hls_top.specs.Exchange.{exchange}
use Rattle.hls_rules.proofs.Eleven.{once}
use Rattle.hls_prog_start.proofs.program.run_with_rules.Goals as goal

pub new-requires-2 : goal.new-requires-2
new-requires-2 g c =
    let last = c.loop-name.auto.name-index-end in
    let end = c.loop-name-test.false in
    once _ c.loop-name.name-index c.loop-name.invariant (omega (arith, last, end))

pub returns-clause-leaves : goal.returns-clause-leaves
returns-clause-leaves g c =
    subst (λ boxes. g.P.Program.leaves (exchange g.S.Source.left g.S.Source.faults g.K.Sink.written g.K.Sink.faults
    (map string_bytes c.args.words.now.items) boxes c.args.source.now c.run.new.source c.args.sink.now
    c.run.new.sink) c.run.result) c.requires.full c.run.ensures
