use Rattle.std.proofs.Common.{sym}
use Rattle.hls_edf.specs.declared.servers.Need.TheVariants.{Soft}
use Rattle.hls_edf.proofs.Outlooks.{all_asking, none_soft}
use Rattle.hls_edf.proofs.choosing.first_soft.Goals as goal

pub first-requires : goal.first-requires
first-requires c =
    rw c.mask.ensures (all_asking Soft c.args.servers.now c.args.state.now.book c.args.state.now.mask)

pub returns-else-soft : goal.returns-else-soft
returns-else-soft c =
    let state = c.args.state.now in
    sym (none_soft c.args.soft c.args.servers.now state.book state.mask c.requires c.if-soft.false)
