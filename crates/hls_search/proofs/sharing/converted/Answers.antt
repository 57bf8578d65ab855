use Rattle.std.proofs.Common.{length, sym, subst}
use Rattle.hls_search.specs.Inside.Places.{IsBestShare}
use Rattle.hls_search.proofs.Hitting.{share-answered, share-best}
use Rattle.hls_search.proofs.sharing.converted.Goals as goal

pub unreachable-requires : goal.unreachable-requires
unreachable-requires g c =
    share-answered c.args.rule c.args.have.now c.whole_share.result c.requires.rule c.requires.have
    c.whole_share.ensures.whole c.whole_share.ensures.valid c.in-None.ensures.exact

pub returns-clause-best : goal.returns-clause-best
returns-clause-best g c =
    let best = share-best c.args.rule c.args.have.now c.whole_share.result c.in-Some.share c.requires.rule
    c.requires.have c.whole_share.ensures.whole c.in-Some.ensures.exact c.in-Some.ensures.sound in
    subst (λ (steps : _). IsBestShare c.args.have.now (length steps) c.in-Some.share) (sym c.one.ensures) best.0

pub returns-clause-narrow : goal.returns-clause-narrow
returns-clause-narrow g c =
    let best = share-best c.args.rule c.args.have.now c.whole_share.result c.in-Some.share c.requires.rule
    c.requires.have c.whole_share.ensures.whole c.in-Some.ensures.exact c.in-Some.ensures.sound in
    best.1
