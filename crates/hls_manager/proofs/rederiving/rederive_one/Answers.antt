use Rattle.hls_manager.proofs.Outcomes.{stands_so}
use Rattle.hls_manager.proofs.Options.{ok_some_so, ok_none_so}
use Rattle.hls_manager.proofs.Rederivals.{held_there, can_search_held, derives_held, underivable_held}
use Rattle.hls_manager.proofs.rederiving.rederive_one.Goals as goal

pub terms-requires : goal.terms-requires
terms-requires g c =
    stands_so _ c.args.tree.now _ _ c.requires.stands (λ h tree seated listed is.
    held_there h c.args.id is.2 c.args.child c.args.port is.3)

pub search-requires : goal.search-requires
search-requires g c =
    let s = c.requires.stands in
    can_search_held s.h s.is.0 c.args.id s.is.1 c.args.have.now c.requires.have s.is.2 c.args.child c.args.port s.is.3
    c.config.result c.terms.result c.kept-kept.result (c.config.ensures s.h s.tree) (c.terms.ensures s.h s.tree)
    (c.kept-kept.ensures s.h s.tree)

pub returns-clause-found : goal.returns-clause-found
returns-clause-found g c =
    ok_some_so c.search.result _ _
    (λ d told h tree.
    derives_held h c.args.id c.args.have.now c.args.child c.args.port c.config.result c.terms.result c.kept-kept.result
    (c.config.ensures h tree) (c.terms.ensures h tree) (c.kept-kept.ensures h tree) c.args.depth d told.0 told.1)
    c.search.ensures.found

pub returns-clause-none : goal.returns-clause-none
returns-clause-none g c =
    ok_none_so c.search.result _ _
    (λ none h tree.
    underivable_held h c.args.id c.args.have.now c.args.child c.args.port c.config.result c.terms.result
    c.kept-kept.result (c.config.ensures h tree) (c.terms.ensures h tree) (c.kept-kept.ensures h tree)
    c.args.depth none)
    c.search.ensures.none
