use Rattle.hls_manager.proofs.ports.put_seat.Goals as goal

pub returns-in-Err-clause-refused : goal.returns-in-Err-clause-refused
returns-in-Err-clause-refused g c = λ h tree listed. rw c.in-Under.is (c.in-Err.ensures.refused h tree listed)
