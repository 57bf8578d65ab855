use Rattle.hls_view_trace_laws.proofs.FlameTicks.{names_are}
use Rattle.hls_view_trace_laws.proofs.flame.slices_at_a_tick_spell_its_path.Goals as goal

pub returns : goal.returns
returns c = λ place content t formed early. names_are place content t formed early
