use Rattle.hls_report.proofs.Sections.{report_same}
use Rattle.hls_report.proofs.laws.text_is_of_one_content.Goals as goal

pub returns : goal.returns
returns c = report_same
