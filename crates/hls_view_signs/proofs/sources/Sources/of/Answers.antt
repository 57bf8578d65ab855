use Rattle.std.proofs.Common.{sym, subst}
use Rattle.hls_report_text.specs.Content.{content_of}
use Rattle.hls_view_signs.specs.Inside.Heard.{AreHeard}
use Rattle.hls_view_signs.proofs.sources.Sources.of.Goals as goal

pub returns : goal.returns
returns c = record {
  lookup = c.in_ok-of.ensures;
  known = c.new.ensures c.args.report.now;
  heard = subst (AreHeard (content_of c.args.report.now)) (sym c.new-2.ensures.items) tt;
}
