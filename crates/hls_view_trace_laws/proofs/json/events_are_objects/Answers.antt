use Rattle.hls_view_trace_laws.proofs.JsonTexts.{event_is_json}
use Rattle.hls_view_trace_laws.proofs.json.events_are_objects.Goals as goal

pub returns : goal.returns
returns c = λ tick event few plain. event_is_json tick event few plain
