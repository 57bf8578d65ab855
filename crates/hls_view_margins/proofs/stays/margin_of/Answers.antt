use Rattle.std.proofs.Common.{arith}
use Rattle.hls_report_text.specs.Content.{content_of}
use Rattle.hls_view_margins.proofs.stays.margin_of.Goals as goal

pub returns-in-Some : goal.returns-in-Some
returns-in-Some c =
    let some = c.in-Some.window.some in
    let is = c.in-Some.ensures in
    let ends = c.requires.ends in (
      omega (arith, some, is.0, is.1),
      c.margin_in.ensures (content_of c.args.report.now) c.requires.ready c.requires.served is.0 is.1
          (omega (arith, is.1, ends)),
    )
