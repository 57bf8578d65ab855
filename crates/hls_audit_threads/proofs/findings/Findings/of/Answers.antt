use Rattle.hls_report_text.specs.Content.{content_of}
use Rattle.hls_legal.specs.Accounts.{accounts_of}
use Rattle.hls_audit_threads.proofs.MeetingLaws.{counted_by}
use Rattle.hls_audit_threads.proofs.findings.Findings.of.Goals as goal

pub returns-clause-counted : goal.returns-clause-counted
returns-clause-counted c =
    counted_by c.args.report.now.accounts c.items-2.result.now (accounts_of (content_of c.args.report.now))
    c.in_ok-of_stays.of_stays.met c.are_all_met.result c.items-2.ensures
    (c.are_all_met.ensures (accounts_of (content_of c.args.report.now))) c.in_ok-of_stays.ensures.accounts

pub first_unready-requires-clause-known : goal.first_unready-requires-clause-known
first_unready-requires-clause-known c = c.new-known.ensures c.args.report.now
