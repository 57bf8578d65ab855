use Rattle.std.proofs.Common.{◌≡◌, ◌∙◌, ◌++◌, [], suc, ◌-◌, List, ap, arith}
use Rattle.std.specs.Prelude.{map, reverse}
use Rattle.hls_view_tale.specs.declared.walking.Pending.{Pending}
use Rattle.std.proofs.lemmas.Result.{IfOk-weaker}
use Rattle.hls_view_tale.specs.Places.{below}
use Rattle.hls_view_tale.specs.Inside.Pending.{pending_at, gone_into_all}
use Rattle.hls_view_tale.proofs.Stacks.{from_top, none_below}
use Rattle.hls_view_tale.proofs.walking.places_below.Goals as goal

pub returns-then-steps-eq0 : goal.returns-then-steps-eq0
returns-then-steps-eq0 c =
    c.new.ensures.items ∙ none_below c.args.members.now c.args.top.now
    ∙ ap (λ n. below c.args.members.now n c.args.top.now [])
    (let e : 0 ≡ c.args.steps = omega (arith, c.if-steps-eq0.true) in e)

pub returns : goal.returns
returns c =
    let members = c.args.members.now in
    let left = c.args.steps - 1 in
    let some : suc left ≡ c.args.steps = omega (arith, c.if-steps-eq0.false) in
    let whole : gone_into_all members c.push_places.new.stack.items ≡ below members c.args.steps c.args.top.now [] =
    from_top members left c.in_ok-labels.labels.items c.args.top.now c.push_places.new.stack.items
    c.in_ok-labels.ensures (c.in_ok-push_places.ensures
    ∙ ap (λ (l : List Pending). l ++ reverse (map (pending_at [] left) c.in_ok-labels.labels.items))
    c.new-stack.ensures.items)
    ∙ ap (λ n. below members n c.args.top.now []) some in
    IfOk-weaker c.all_of.result _ _ (λ found is. is ∙ whole) c.all_of.ensures
