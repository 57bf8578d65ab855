use Rattle.std.proofs.Common.{◌∙◌}
use Rattle.hls_manager.proofs.Searches.{can_search}
use Rattle.hls_manager.proofs.derivations.derive.Goals as goal

pub search-requires : goal.search-requires
search-requires g c =
    let s = c.requires.stands in
    can_search s.h c.args.seat.now c.config_at.result c.deref.result.now (c.config_at.ensures s.h s.tree)
    (c.deref.ensures.value ∙ c.in_ok-haves.ensures s.h s.tree) s.is.0 s.is.1 c.requires.terms c.requires.kept
