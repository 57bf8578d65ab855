use Rattle.hls_offer_lines.proofs.Coverings.{share-ok}
use Rattle.hls_offer_lines.proofs.shares.unless_covered.Goals as goal

pub converts-requires-clause-from : goal.converts-requires-clause-from
converts-requires-clause-from c = share-ok c.args.share.now c.requires.share

pub converts-requires-clause-to : goal.converts-requires-clause-to
converts-requires-clause-to c = share-ok c.args.top.now c.requires.top
