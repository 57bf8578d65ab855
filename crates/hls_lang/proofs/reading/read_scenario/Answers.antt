use Rattle.hls_text.specs.Lines.{lines_of}
use Rattle.hls_lang.proofs.FaultLaws.{found_of, only_of, first_of}
use Rattle.hls_lang.proofs.reading.read_scenario.Goals as goal

pub returns-clause-found : goal.returns-clause-found
returns-clause-found c = found_of c.read_lines.result (lines_of c.args.text.now) c.read_lines.ensures

pub returns-clause-only : goal.returns-clause-only
returns-clause-only c = only_of c.read_lines.result (lines_of c.args.text.now) c.read_lines.ensures

pub returns-clause-first : goal.returns-clause-first
returns-clause-first c = first_of c.read_lines.result (lines_of c.args.text.now) c.read_lines.ensures
