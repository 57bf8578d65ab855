use Rattle.hls_book.proofs.ShareRuns.{keeps-shares}
use Rattle.hls_book.proofs.laws.sfq.seats_are_served_by_weight.Goals as goal

pub returns : goal.returns
returns c = keeps-shares c.args.sharing
