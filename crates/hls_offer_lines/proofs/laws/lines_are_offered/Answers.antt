use Rattle.hls_offer_lines.proofs.Offering.{line-offered}
use Rattle.hls_offer_lines.proofs.laws.lines_are_offered.Goals as goal

pub returns : goal.returns
returns c = line-offered c.args.seat.now c.requires.can c.requires.loaded
