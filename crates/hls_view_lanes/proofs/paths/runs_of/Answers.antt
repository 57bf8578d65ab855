use Rattle.std.proofs.Common.{refl}
use Rattle.hls_report_text.specs.Content.{content_of}
use Rattle.hls_audit.proofs.Abreast.{reach_first}
use Rattle.hls_view_lanes.proofs.PathLaws.{runs-none, runs-more}
use Rattle.hls_view_lanes.proofs.paths.runs_of.Goals as goal

pub loop-tick-init : goal.loop-tick-init
loop-tick-init c =
    let r = c.args.report.now in record {
      reached = reach_first (content_of r) r.names r.runs c.requires.content refl;
      runs = runs-none r.runs c.new-runs.result.items c.new-runs.ensures.items;
    }

pub loop-tick-preserved : goal.loop-tick-preserved
loop-tick-preserved c =
    let r = c.args.report.now in record {
      reached = c.run_of-at.ensures;
      runs = runs-more r.runs c.loop-tick.tick c.loop-tick.runs.items c.push.new.self.items c.run_of-at.result
          c.in_ok-push.ensures.items c.loop-tick.invariant.runs c.run_of-at.ensures;
    }
