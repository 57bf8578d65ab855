use Rattle.hls_report_text.specs.Content.{content_of}
use Rattle.hls_audit_threads.proofs.KnownLaws.{known_none}
use Rattle.hls_audit_threads.proofs.known_threads.KnownThreads.new.Goals as goal

pub returns : goal.returns
returns c = λ report. known_none (content_of report) _ c.new.ensures
