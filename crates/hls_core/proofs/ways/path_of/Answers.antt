use Rattle.std.proofs.Common.{arith}
use Rattle.hls_core.proofs.Paths.{one_more, all_named}
use Rattle.hls_core.proofs.ways.path_of.Goals as goal

pub extend-requires-clause-short : goal.extend-requires-clause-short
extend-requires-clause-short g c =
    let so = c.loop-i.invariant c.requires.stands.h c.requires.stands.tree in
    let len = so.len in
    let few = c.requires.short in omega (arith, len, few)

pub loop-i-preserved : goal.loop-i-preserved
loop-i-preserved g c = λ h tree.
    one_more h c.args.journal.now c.args.ids.now c.loop-i.i c.index-ids-i.result c.loop-i.path c.extend.new.path
    c.name-name.result.now (c.loop-i.invariant h tree) (omega arith) c.index-ids-i.is (c.name-name.ensures h tree)
    c.extend.ensures.len c.extend.ensures.names c.extend.ensures.within

pub returns : goal.returns
returns g c = λ h tree.
    all_named h c.requires.stands.h c.args.journal.now c.args.ids.now c.loop-i.i c.loop-i.path
    (c.loop-i.invariant h tree) c.requires.stands.is c.requires.short (omega arith) c.loop-i.auto.i-end
