use Rattle.hls_book_turns.proofs.Waits.{parts}
use Rattle.hls_book_turns.proofs.laws.seats_have_their_part.Goals as goal

pub returns : goal.returns
returns c = λ b made. parts c.args.quantum b made
