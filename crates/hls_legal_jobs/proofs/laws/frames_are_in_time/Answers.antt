use Rattle.hls_legal_jobs.proofs.Kept.{frame_kept}
use Rattle.hls_legal_jobs.proofs.laws.frames_are_in_time.Goals as goal

pub returns : goal.returns
returns c = frame_kept
