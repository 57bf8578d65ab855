use Rattle.std.proofs.Common.{◌≡◌, ◌∙◌, ◌++◌, ap, length, arith}
use Rattle.hls_text.specs.Lines.{Text}
use Rattle.hls_report_text.specs.Content.{content_of}
use Rattle.hls_view_picture.specs.Pictures.{picture_text}
use Rattle.hls_view.proofs.Pictures.{picture_is}
use Rattle.hls_view.proofs.showing.picture_text.Goals as goal

pub returns : goal.returns
returns c =
    let long : c.len.result ≡ length c.in_ok-lanes.lanes.rows.items = c.len.ensures ∙ c.in_ok-lanes.lanes.rows.ok.0 in
    let few = c.if-len-ge-MOST_ROWS.false in
    picture_is (content_of c.args.report.now) c.args.audited c.args.from c.args.to c.scale_of-scale.result
    c.in_ok-lanes.lanes c.in_ok-picture.picture c.write_picture.new.out.items
    (c.scale_of-scale.ensures.begins ∙ c.first_shown-first.ensures.is)
    (c.scale_of-scale.ensures.ends ∙ c.last_shown.ensures.is) c.in_ok-lanes.ensures
    (λ tall. omega (arith, tall, few, long)) c.in_ok-picture.ensures
    (c.in_ok-write_picture.ensures
    ∙ ap (λ (t : Text). t ++ picture_text c.in_ok-picture.picture) c.new-out.ensures.items)
