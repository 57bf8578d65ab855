use Rattle.hls_book_fairness.proofs.Alike.{serves_alike}
use Rattle.hls_book_fairness.proofs.laws.two_seats_are_served_alike.Goals as goal

pub returns : goal.returns
returns c = serves_alike c.args.sharing
