use Rattle.std.proofs.Common.{refl}
use Rattle.hls_report_text.specs.Content.{content_of}
use Rattle.hls_audit.proofs.Abreast.{reach_first}
use Rattle.hls_view_timeline.proofs.TickPaths.{paths-none, paths-more}
use Rattle.hls_view_timeline.proofs.paths.paths_of.Goals as goal

pub loop-tick-init : goal.loop-tick-init
loop-tick-init c =
    let r = c.args.report.now in record {
      reached = reach_first (content_of r) r.names r.runs c.requires.content refl;
      paths = paths-none (content_of r) r.names c.new-paths.result.items c.new-paths.ensures.items;
    }

pub loop-tick-preserved : goal.loop-tick-preserved
loop-tick-preserved c =
    let r = c.args.report.now in record {
      reached = c.run_of-at.ensures;
      paths = paths-more (content_of r) r.names c.loop-tick.tick c.loop-tick.paths.items c.push.new.self.items
          c.path_of.result c.in_ok-push.ensures.items c.loop-tick.invariant.paths
          (record { short = c.path_of.ensures.short; is = c.path_of.ensures.path });
    }
