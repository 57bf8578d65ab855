use Rattle.hls_manager.proofs.threads.take_seat.Goals as goal

pub returns-clause-admitted : goal.returns-clause-admitted
returns-clause-admitted g c = λ h tree. (_, c.in_ok-attach_thread.ensures.done h tree)
