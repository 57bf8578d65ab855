use Rattle.hls_view_trace_laws.proofs.JsonTraces.{trace_is_json}
use Rattle.hls_view_trace_laws.proofs.json.traces_are_json.Goals as goal

pub returns : goal.returns
returns c = λ trace plain. trace_is_json trace plain
