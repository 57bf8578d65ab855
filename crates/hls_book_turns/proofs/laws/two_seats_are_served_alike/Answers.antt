use Rattle.hls_book_turns.proofs.Waits.{alike}
use Rattle.hls_book_turns.proofs.laws.two_seats_are_served_alike.Goals as goal

pub returns : goal.returns
returns c = λ b made. alike c.args.quantum b made
