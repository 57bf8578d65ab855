use Rattle.hls_view_table.proofs.Determined.{same_table}
use Rattle.hls_view_table.proofs.laws.text_determines_cells.Goals as goal

pub returns : goal.returns
returns c = λ sides others one two are also same. same_table sides others one two are also same
