use Rattle.std.proofs.Common.{◌≡◌, ◌∙◌, ◌+◌, ◌||◌, Bool, Some, ap, sym, subst, arith}
use Rattle.std.specs.Prelude.{option_copied}
use Rattle.hls_manager.proofs.Outcomes.{reached_listed}
use Rattle.hls_offer_asks.proofs.Standing.{moment_tree, runs_stand}
use Rattle.hls_offer.specs.Inside.Told.{AddsPlaces}
use Rattle.hls_offer.proofs.Answered.{every_place, one_place}
use Rattle.hls_offer.proofs.Lines.{listed_loaded}
use Rattle.hls_offer.proofs.Wishes.{loaded_some, or_else, or_then}
use Rattle.hls_offer.proofs.needing.put_places.Goals.{then-offers, else-offers}
use Rattle.hls_offer.proofs.needing.put_places.Goals as goal

pub scheds-at-end-requires : goal.scheds-at-end-requires
scheds-at-end-requires g c =
    runs_stand _ c.args.core.now c.tree-tree.result.now c.tree-tree.ensures c.requires.runs _ (λ h tree reached. tt)

pub sched-requires : goal.sched-requires
sched-requires g c =
    runs_stand _ c.args.core.now c.tree-tree.result.now c.tree-tree.ensures c.requires.runs _
    (λ h tree reached. (let count = c.scheds-at-end.ensures h tree in let less = c.loop-at-test.true in
    omega (arith, count, less)))

pub name-told-requires : goal.name-told-requires
name-told-requires g c =
    runs_stand _ c.args.core.now c.tree-tree.result.now c.tree-tree.ensures c.requires.runs _
    (λ h tree reached. loaded_some (h.nodes c.sched.result)
    (listed_loaded h (reached_listed h reached) c.loop-at.at c.sched.result (c.sched.ensures h tree)))

pub loop-at-preserved : goal.loop-at-preserved
loop-at-preserved g c = λ m at.
    let tree = moment_tree _ c.args.core.now c.tree-tree.result.now c.tree-tree.ensures m at in
    let same : (c.loop-at.offers || c.in_ok-here.here) ≡ c.if-offers.offers = elim c.if-offers.branch [
      | then-offers w ↦ or_then c.loop-at.offers c.in_ok-here.here c.if-offers.offers w.if-offers.true w.offers-is
      | else-offers w ↦ or_else c.loop-at.offers c.in_ok-here.here c.if-offers.offers w.if-offers.false w.offers-is
    ] in
    subst (λ (b : Bool). AddsPlaces m c.args.core.now.journal.ticks c.args.sought.now.need
    (option_copied c.args.sought.now.periods)
    (c.loop-at.at + 1) b c.args.out.now.items c.put_place.new.out.items) same
    (one_place m c.args.core.now.journal.ticks c.args.sought.now.need (option_copied c.args.sought.now.periods)
    c.loop-at.at
    c.sched.result c.own-on.result c.loop-at.offers c.in_ok-here.here c.args.out.now.items c.loop-at.out.items
    c.put_place.new.out.items (c.sched.ensures m.hierarchy tree)
    (c.name-told.ensures m.hierarchy tree ∙ ap Some (sym c.own-on.ensures))
    (c.loop-at.invariant m at) (c.in_ok-here.ensures m at))

pub returns : goal.returns
returns g c = λ m at.
    let tree = moment_tree _ c.args.core.now c.tree-tree.result.now c.tree-tree.ensures m at in
    let count = c.scheds-at-end.ensures m.hierarchy tree in
    let past = c.loop-at-test.false in
    every_place m c.args.core.now.journal.ticks c.args.sought.now.need (option_copied c.args.sought.now.periods)
    c.loop-at.at
    c.loop-at.offers c.args.out.now.items c.loop-at.out.items (omega (arith, count, past))
    (c.loop-at.invariant m at)
