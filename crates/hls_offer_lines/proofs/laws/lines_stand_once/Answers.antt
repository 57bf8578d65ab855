use Rattle.hls_offer_lines.proofs.Distinct.{lines-once}
use Rattle.hls_offer_lines.proofs.laws.lines_stand_once.Goals as goal

pub returns : goal.returns
returns c = lines-once c.args.seat.now
