use Rattle.hls_manager.proofs.withdrawals.take_away.Goals as goal

pub returns-in-End-clause-done : goal.returns-in-End-clause-done
returns-in-End-clause-done g c = rw c.in-End.is c.end.ensures.done

pub returns-in-End-clause-refused : goal.returns-in-End-clause-refused
returns-in-End-clause-refused g c = rw c.in-End.is c.end.ensures.refused

pub returns-in-Unload-clause-done : goal.returns-in-Unload-clause-done
returns-in-Unload-clause-done g c = rw c.in-Unload.is c.unload.ensures.done

pub returns-in-Unload-clause-refused : goal.returns-in-Unload-clause-refused
returns-in-Unload-clause-refused g c = rw c.in-Unload.is c.unload.ensures.refused
