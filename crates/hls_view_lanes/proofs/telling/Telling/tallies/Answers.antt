use Rattle.std.proofs.Common.{◌∙◌, ◌<◌, List, ap, subst, arith}
use Rattle.hls_report_text.specs.Content.{content_of}
use Rattle.hls_report_text.proofs.LineTexts.{horizon_fits}
use Rattle.hls_view_tale.specs.declared.label.Label.{Label}
use Rattle.hls_view_lanes.specs.Facts.{all_facts}
use Rattle.hls_view_lanes.specs.Inside.Tallies.{no_tallies}
use Rattle.hls_view_lanes.specs.Inside.Telling.{IsTelling}
use Rattle.hls_view_lanes.proofs.Counting.{written}
use Rattle.hls_view_lanes.proofs.Turned.{tallies-first, tallies-next}
use Rattle.hls_view_lanes.proofs.telling.Telling.tallies.Goals as goal

pub loop-tick-init : goal.loop-tick-init
loop-tick-init c = record {
  telling = c.requires.telling;
  tallies = c.in_ok-tallies.ensures
      ∙ ap (λ (rows : List (List Label)). no_tallies rows) c.deref.ensures.value
      ∙ tallies-first (content_of c.args.report.now) c.args.self.now.rows.items c.args.from;
}

pub loop-tick-preserved : goal.loop-tick-preserved
loop-tick-preserved c =
    let content = content_of c.args.report.now in
    let same = c.loop-tick.invariant.telling.rows in
    let most = horizon_fits content.version content.horizon c.requires.formed.content.horizon in
    let few : c.loop-tick.tick < 4294967295 = omega (arith, c.requires.early, c.loop-tick-test.true, most) in
    record {
      telling = subst (λ (rows : List (List Label)). IsTelling c.args.report.now rows c.facts.new.self) same
          c.in_ok-facts.ensures.telling;
      tallies = written c.loop-tick.tallies.items c.deref_mut.result.now c.add_facts.new.tallies
          c.deref-in-loop-tick.result.now c.loop-tick.tallies.len c.loop-tick.tallies.ok.0
          c.deref_mut.ensures.value c.add_facts.ensures
          ∙ tallies-next content c.args.self.now.rows.items c.args.from c.loop-tick.tick c.loop-tick.tallies.items
          c.deref-in-loop-tick.result.now c.loop-tick.auto.tick few c.loop-tick.invariant.tallies
          (c.deref-in-loop-tick.ensures.value ∙ c.in_ok-facts.ensures.facts
          ∙ ap (λ (rows : List (List Label)). all_facts content rows c.loop-tick.tick) same);
    }
