use Rattle.hls_test_runs.proofs.Withdrawn.{held_parts, expired_admits}
use Rattle.hls_test_runs.proofs.reservations.withdrawn_parts_are_held.Goals as goal

pub returns-clause-held : goal.returns-clause-held
returns-clause-held c = held_parts

pub returns-clause-expired : goal.returns-clause-expired
returns-clause-expired c = expired_admits
