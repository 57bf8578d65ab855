use Rattle.hls_book_fairness.proofs.Delays.{keeps_delays}
use Rattle.hls_book_fairness.proofs.laws.seats_have_their_ticks_in_time.Goals as goal

pub returns : goal.returns
returns c = keeps_delays c.args.sharing
