use Rattle.std.proofs.Common.{◌≡◌, ◌++◌, List, Bool, length, take, drop, arith, subst, sym}
use Rattle.std.proofs.lemmas.List.{take_at}
use Rattle.hls_audit_spans.specs.Spans.{AreTicks}
use Rattle.hls_audit_spans.proofs.spans.Spans.list.Goals as goal

pub returns-clause-ticks : goal.returns-clause-ticks
returns-clause-ticks c = λ f end tell le.
    let marked : List Bool = c.mark.new.list in
    let rest : List Bool = drop (length c.mark.new.list) c.in_ok-list.list.items in
    let long : length c.mark.new.list ≡ c.in_ok-list.list.len =
    omega (arith, c.in_ok-list.ensures.len, c.mark.ensures.long, c.requires.order) in
    let same : take c.in_ok-list.list.len (marked ++ rest) ≡ marked = take_at marked rest c.in_ok-list.list.len long in
    subst (λ (l : List Bool). AreTicks f c.args.from l) (sym same) (c.mark.ensures.ticks f end tell le)
