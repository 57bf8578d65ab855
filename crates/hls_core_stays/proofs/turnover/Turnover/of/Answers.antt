use Rattle.hls_core_stays.proofs.Under.{roused_wake, roused_block}
use Rattle.hls_core_stays.proofs.turnover.Turnover.of.Goals as goal

pub returns-in-Wake : goal.returns-in-Wake
returns-in-Wake g c =
    λ h tree. roused_wake h c.args.command.now _ _ _ c.rouses.result c.in-Wake.is (c.rouses.ensures h tree)

pub returns-in-Block : goal.returns-in-Block
returns-in-Block g c =
    λ h tree. roused_block h c.args.command.now _ c.rouses-in-Block.result c.in-Block.is
    (c.rouses-in-Block.ensures h tree)
