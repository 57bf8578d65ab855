use Rattle.hls_offer_laws.proofs.Shares.{blocks-answered, windows-answered}
use Rattle.hls_offer_laws.proofs.lending.share_of.Goals as goal

pub returns-in-Resb-clause-none : goal.returns-in-Resb-clause-none
returns-in-Resb-clause-none c = λ none.
    absurd (blocks-answered c.args.g.now c.in-Resb.hard c.in-Resb.x c.in-Resb.y c.in-Resb.is c.requires
    (c.strongest.ensures.lacks none))

pub returns-in-Resc-clause-none : goal.returns-in-Resc-clause-none
returns-in-Resc-clause-none c = λ none.
    absurd (windows-answered c.args.g.now c.in-Resc.hard c.in-Resc.x c.in-Resc.y c.in-Resc.is c.requires
    (c.strongest-in-Resc.ensures.lacks none))
