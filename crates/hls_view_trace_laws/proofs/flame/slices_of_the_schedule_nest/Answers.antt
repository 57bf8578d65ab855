use Rattle.hls_view_trace_laws.proofs.FlameNests.{nested}
use Rattle.hls_view_trace_laws.proofs.flame.slices_of_the_schedule_nest.Goals as goal

pub returns : goal.returns
returns c = λ place content formed. nested place content formed
