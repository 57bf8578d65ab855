use Rattle.hls_view_margins.proofs.Windows.{null_spare}
use Rattle.hls_view_margins.proofs.spares.spare_of.Goals as goal

pub returns-then-is_null : goal.returns-then-is_null
returns-then-is_null c = λ f g end tell served within.
    null_spare c.args.kept.now c.spare_scale-scale.result f g c.args.stay.now.lo c.args.stay.now.hi
    (c.is_null.ensures.0 c.if-is_null.true) c.spare_scale-scale.ensures

pub returns : goal.returns
returns c = λ f g end tell served within. record {
  scale = c.spare_scale-scale.result;
  measure = c.spare_scale-scale.ensures;
  by = c.judge.ensures f g end tell served within;
}
