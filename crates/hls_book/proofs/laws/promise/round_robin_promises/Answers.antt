use Rattle.hls_book.proofs.TurnPromises.{turns_keep}
use Rattle.hls_book.proofs.laws.promise.round_robin_promises.Goals as goal

pub returns : goal.returns
returns c = λ b made. turns_keep c.args.quantum b made
