use Rattle.std.proofs.Common.{arith}
use Rattle.hls_report_text.specs.Content.{content_of}
use Rattle.hls_view_tale.proofs.following.Following.go_to.Goals as goal

pub go_on-requires-2-clause-following : goal.go_on-requires-2-clause-following
go_on-requires-2-clause-following c = c.new.ensures.following (content_of c.args.report.now)

pub go_on-requires-2-clause-order : goal.go_on-requires-2-clause-order
go_on-requires-2-clause-order c = let none = c.new.ensures.next in omega (arith, none)
