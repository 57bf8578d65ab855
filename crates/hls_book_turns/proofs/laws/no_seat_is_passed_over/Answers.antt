use Rattle.hls_book_turns.proofs.Waits.{passes_none}
use Rattle.hls_book_turns.proofs.laws.no_seat_is_passed_over.Goals as goal

pub returns : goal.returns
returns c = λ b made. passes_none c.args.quantum b made
