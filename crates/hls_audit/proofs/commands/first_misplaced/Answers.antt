use Rattle.std.proofs.lemmas.Result.{IfOk-weaker}
use Rattle.hls_report_text.specs.Content.{content_of}
use Rattle.hls_audit_clauses.specs.Clauses.{IsMisplacedAt}
use Rattle.hls_audit_watch.specs.First.{FirstAt}
use Rattle.hls_audit.specs.Inside.Sites.{IsMisplacedBy, HasBad}
use Rattle.hls_audit_threads.proofs.Formed.{are_in_order}
use Rattle.hls_audit.proofs.Orders.{misplaced_first}
use Rattle.hls_audit.proofs.commands.first_misplaced.Goals as goal

pub first_misplaced_of-requires : goal.first_misplaced_of-requires
first_misplaced_of-requires c =
    are_in_order (content_of c.args.report.now) c.items.result.now c.requires.content c.items.ensures

pub returns : goal.returns
returns c =
    let content = content_of c.args.report.now in
    IfOk-weaker c.first_misplaced_of.result (FirstAt (HasBad IsMisplacedBy c.items.result.now))
    (FirstAt (IsMisplacedAt content))
    (λ first. misplaced_first content c.items.result.now first c.items.ensures) c.first_misplaced_of.ensures
