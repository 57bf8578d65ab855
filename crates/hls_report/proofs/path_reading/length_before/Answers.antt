use Rattle.hls_report.proofs.PathLaws.{no_place}
use Rattle.hls_report.proofs.path_reading.length_before.Goals as goal

pub returns-in-None-clause-value : goal.returns-in-None-clause-value
returns-in-None-clause-value c = no_place c.args.byte c.args.text.now c.in-None.ensures
