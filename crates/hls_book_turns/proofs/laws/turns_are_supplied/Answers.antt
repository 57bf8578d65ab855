use Rattle.hls_book_turns.proofs.Shares.{turn_promise}
use Rattle.hls_book_turns.proofs.laws.turns_are_supplied.Goals as goal

pub returns : goal.returns
returns c = λ b made. turn_promise c.args.quantum b made
