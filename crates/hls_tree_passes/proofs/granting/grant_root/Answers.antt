use Rattle.hls_tree_passes.proofs.Passes.{root_asked}
use Rattle.hls_tree_passes.proofs.granting.grant_root.Goals as goal
use Rattle.std.proofs.Common.{sym, ◌∙◌}

pub grant_path-requires-clause-root : goal.grant_path-requires-clause-root
grant_path-requires-clause-root g c =
    root_asked _ _ c.in-Some.root _ c.in-Some.is c.key.ensures.key c.requires.root (sym c.asks_at.ensures
    ∙ c.if-asks_at.true)
