use Rattle.hls_report_text.specs.Content.{content_of}
use Rattle.hls_view_tale.proofs.Unseated.{found, kept}
use Rattle.hls_view_tale.proofs.following.Following.go_on.Goals as goal

pub returns-in_ok-self-clause-hierarchy : goal.returns-in_ok-self-clause-hierarchy
returns-in_ok-self-clause-hierarchy c =
    found (content_of c.args.report.now) c.args.tick c.items.result.now c.follow_to.new.tale c.in_ok-self.field-0
    c.requires.formed.content c.items.ensures c.in_ok-came.ensures.told c.in_ok-self.ensures.standing
    c.in_ok-self.ensures.places

pub returns-else-came-clause-hierarchy : goal.returns-else-came-clause-hierarchy
returns-else-came-clause-hierarchy c =
    kept (content_of c.args.report.now) c.args.tick c.in_ok-came.came.came c.items.result.now c.args.self.now
    c.requires.formed.content c.items.ensures c.in_ok-came.ensures.came c.requires.following
    (c.in_ok-came.ensures.same c.if-came.false)
