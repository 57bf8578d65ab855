use Rattle.hls_report_text.specs.Content.{content_of}
use Rattle.hls_audit_threads.specs.Inside.Unready.{IsUnready}
use Rattle.hls_audit_threads.proofs.EachName.{unready_first}
use Rattle.hls_audit_threads.proofs.EachStay.{early_none, early_more}
use Rattle.hls_audit_threads.proofs.paths.first_unready_among.Goals as goal

pub loop-name-init : goal.loop-name-init
loop-name-init c = record {
  known = c.requires.known;
  first = early_none (IsUnready (content_of c.args.report.now)) c.args.names.now;
}

pub loop-name-preserved : goal.loop-name-preserved
loop-name-preserved c = record {
  known = c.in_ok-unready.ensures.known;
  first = early_more (IsUnready (content_of c.args.report.now)) c.args.names.now c.loop-name.name-index
      c.name-item.result c.loop-name.first c.in_ok-unready.unready c.sooner_of-first.result
      c.loop-name-test.true c.name-item.is c.sooner_of-first.ensures c.loop-name.invariant.first
      c.in_ok-unready.ensures.first;
}

pub returns-clause-first : goal.returns-clause-first
returns-clause-first c =
    unready_first c.args.report.now c.args.names.now c.loop-name.name-index c.loop-name.first
    c.requires.formed.content c.loop-name-test.false c.requires.names c.loop-name.invariant.first
