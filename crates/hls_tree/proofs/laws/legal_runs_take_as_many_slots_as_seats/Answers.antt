use Rattle.hls_tree.proofs.Taken.{taken_counted}
use Rattle.hls_tree.proofs.laws.legal_runs_take_as_many_slots_as_seats.Goals as goal

pub returns : goal.returns
returns c = taken_counted
