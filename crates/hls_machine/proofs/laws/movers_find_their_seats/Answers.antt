use Rattle.hls_machine.proofs.Makings.{fits-leavings, free-leavings}
use Rattle.hls_machine.proofs.laws.movers_find_their_seats.Goals as goal

pub returns-clause-fits : goal.returns-clause-fits
returns-clause-fits c = λ b left k. fits-leavings c.args.config left k b

pub returns-clause-slot : goal.returns-clause-slot
returns-clause-slot c = λ b left k. free-leavings c.args.config left k b
