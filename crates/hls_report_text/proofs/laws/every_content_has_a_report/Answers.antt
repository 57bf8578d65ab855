use Rattle.hls_report_text.proofs.Contents.{some_report}
use Rattle.hls_report_text.proofs.laws.every_content_has_a_report.Goals as goal

pub returns : goal.returns
returns c = some_report
