use Rattle.hls_audit_threads.proofs.MeetingLaws.{met_by}
use Rattle.hls_audit_threads.proofs.stay_findings.StayFindings.visit.Goals as goal

pub returns : goal.returns
returns c = record {
  lack = c.in_ok-lack.lack;
  lacks = c.in_ok-lack.ensures;
  starved = c.sooner_of-self.ensures;
  excess = c.in_ok-excess.excess;
  exceeds = c.in_ok-excess.ensures;
  over_cap = c.sooner_of-self-2.ensures;
  accounts = λ before.
      met_by c.args.report.now.accounts c.items.result.now before c.args.self.now.met c.meet-self.result
      c.account_of-found.result _ c.items.ensures c.account_of-found.ensures (c.meet-self.ensures before);
}
