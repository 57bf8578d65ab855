use Rattle.hls_book_turns.proofs.Waits.{delays}
use Rattle.hls_book_turns.proofs.laws.seats_have_their_turns_in_time.Goals as goal

pub returns : goal.returns
returns c = λ b made. delays c.args.quantum b made
