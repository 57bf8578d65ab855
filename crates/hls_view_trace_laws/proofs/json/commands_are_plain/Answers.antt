use Rattle.hls_view_trace_laws.proofs.PlainTracks.{commands_plain}
use Rattle.hls_view_trace_laws.proofs.json.commands_are_plain.Goals as goal

pub returns : goal.returns
returns r = λ place c formed held. commands_plain place c formed held
