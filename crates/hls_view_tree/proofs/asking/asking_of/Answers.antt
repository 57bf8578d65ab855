use Rattle.hls_report_text.specs.Content.{content_of}
use Rattle.hls_view_tree.specs.Activities.{names_of, is_asking}
use Rattle.hls_view_tree.proofs.Askings.{passed_more}
use Rattle.hls_view_tree.proofs.asking.asking_of.Goals as goal

pub loop-place-init : goal.loop-place-init
loop-place-init c = record { known = c.new-known.ensures c.args.report.now; asking = c.new-asking.ensures.items }

pub loop-place-preserved : goal.loop-place-preserved
loop-place-preserved c = record {
  known = c.in_ok-is.ensures.known;
  asking = passed_more (is_asking (content_of c.args.report.now) c.args.tick) names_of c.args.places.now
      c.loop-place.place-index c.place-item.result c.loop-place.asking.items c.put_if.new.asking.items c.in_ok-is.is'
      c.loop-place-test.true c.place-item.is c.in_ok-is.ensures.asking c.in_ok-put_if.ensures
      c.loop-place.invariant.asking;
}
