use Rattle.std.proofs.Common.{◌<◌}
use Rattle.std.proofs.lemmas.Result.{IfOk-weaker}
use Rattle.hls_report_text.specs.Content.{content_of}
use Rattle.hls_audit_clauses.specs.Clauses.{IsUnderivedAt}
use Rattle.hls_audit_watch.specs.First.{FirstAt}
use Rattle.hls_audit.specs.Inside.Sites.{IsUnderivedBy, HasBad}
use Rattle.hls_audit_threads.proofs.Formed.{are_in_order, all_sound}
use Rattle.hls_audit.proofs.Orders.{underived_first, placed_below}
use Rattle.hls_audit.proofs.commands.first_underived.Goals as goal

pub first_underived_of-requires-clause-order : goal.first_underived_of-requires-clause-order
first_underived_of-requires-clause-order c =
    are_in_order (content_of c.args.report.now) c.items.result.now c.requires.formed.content c.items.ensures

pub first_underived_of-requires-clause-sound : goal.first_underived_of-requires-clause-sound
first_underived_of-requires-clause-sound c =
    all_sound (content_of c.args.report.now) c.items.result.now c.requires.formed.content c.items.ensures

pub first_underived_of-requires-clause-placed : goal.first_underived_of-requires-clause-placed
first_underived_of-requires-clause-placed c =
    placed_below (content_of c.args.report.now) c.items.result.now c.args.below c.items.ensures c.requires.placed

pub returns : goal.returns
returns c =
    let content = content_of c.args.report.now in
    IfOk-weaker c.first_underived_of.result
    (FirstAt (λ t. HasBad (IsUnderivedBy c.args.report.now.depth) c.items.result.now t × (t < c.args.below)))
    (FirstAt (λ t. IsUnderivedAt content t × (t < c.args.below)))
    (λ first. underived_first content c.items.result.now c.args.below first c.items.ensures)
    c.first_underived_of.ensures
