use Rattle.hls_book_turns.proofs.Reached.{waits_longest}
use Rattle.hls_book_turns.proofs.laws.waits_are_as_long_as_they_may_be.Goals as goal

pub returns : goal.returns
returns c = waits_longest c.args.quantum c.requires c.args.own
