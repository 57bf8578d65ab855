use Rattle.hls_view_trace_laws.proofs.PlainTracks.{schedule_plain}
use Rattle.hls_view_trace_laws.proofs.json.schedules_are_plain.Goals as goal

pub returns : goal.returns
returns r = λ place c formed held. schedule_plain place c formed held
