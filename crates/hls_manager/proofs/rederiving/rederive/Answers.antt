use Rattle.std.proofs.Common.{◌≡◌, Some, refl, sym, ap, ◌∙◌, subst, arith, length}
use Rattle.std.proofs.lemmas.Option.{slice_get_read}
use Rattle.hls_legal.specs.Dues.{dues_on}
use Rattle.hls_manager.proofs.Outcomes.{stands_so}
use Rattle.hls_manager.proofs.Options.{some_at}
use Rattle.hls_manager.proofs.Rederivals.{AreSettledFirst, holder_there, told_one, lacks_one, told_all, count_more}
use Rattle.hls_manager.proofs.Rederivals.{child_at, children_count}
use Rattle.hls_manager.proofs.rederiving.rederive.Goals as goal

pub loop-child-init : goal.loop-child-init
loop-child-init g c = let none = c.in_ok-seats.ensures.items in record {
  count = ap length none;
  first = λ h tree.
      subst (λ l. AreSettledFirst c.args.depth (dues_on h c.args.have.now (Some c.args.id)) l) (sym none) tt;
}

pub name-name-requires : goal.name-name-requires
name-name-requires g c =
    let items = c.deref-child-items.result.now in
    let read = slice_get_read items _ c.loop-child.child-index c.child-item.result refl c.loop-child-test.true
    c.child-item.is in
    stands_so _ c.args.tree.now _ _ c.requires.stands (λ h tree seated listed is.
    holder_there h c.args.id (length c.loop-child.seats.items) c.child-item.result.node c.child-item.result.port
    (child_at h c.args.id c.in_ok-children.children.items items (length c.loop-child.seats.items)
    c.loop-child.child-index c.child-item.result (c.in_ok-children.ensures h tree) c.deref-child-items.ensures.value
    c.loop-child.invariant.count read))

pub rederive_one-requires-clause-stands : goal.rederive_one-requires-clause-stands
rederive_one-requires-clause-stands g c =
    let items = c.deref-child-items.result.now in
    let read = slice_get_read items _ c.loop-child.child-index c.child-item.result refl c.loop-child-test.true
    c.child-item.is in
    stands_so _ c.args.tree.now _ _ c.requires.stands (λ h tree seated listed is. (
      is.0,
      is.1,
      length c.loop-child.seats.items,
      (child_at h c.args.id c.in_ok-children.children.items items (length c.loop-child.seats.items)
          c.loop-child.child-index c.child-item.result (c.in_ok-children.ensures h tree)
          c.deref-child-items.ensures.value c.loop-child.invariant.count read),
    ))

pub returns-in-Ok-None : goal.returns-in-Ok-None
returns-in-Ok-None g c =
    let items = c.deref-child-items.result.now in
    let read = slice_get_read items _ c.loop-child.child-index c.child-item.result refl c.loop-child-test.true
    c.child-item.is in
    let none = c.in-Ok-None.ensures.none (rw c.in-Ok-None.field-0-is refl) in
    λ h tree reached.
    lacks_one h c.args.id c.args.have.now c.args.depth c.loop-child.seats.items (c.loop-child.invariant.first h tree)
    c.child-item.result.node c.child-item.result.port c.name-name.result.now
    (child_at h c.args.id c.in_ok-children.children.items items (length c.loop-child.seats.items)
    c.loop-child.child-index c.child-item.result (c.in_ok-children.ensures h tree) c.deref-child-items.ensures.value
    c.loop-child.invariant.count read)
    (c.name-name.ensures h tree) (none h tree)

pub loop-child-preserved : goal.loop-child-preserved
loop-child-preserved g c =
    let children = c.deref-child-items.result.now in
    let read = slice_get_read children _ c.loop-child.child-index c.child-item.result refl c.loop-child-test.true
    c.child-item.is in
    let items = c.in_ok-push-in-Ok-Some.ensures.items in
    let is : c.in-Ok-Some.field-0 ≡ Some c.in-Ok-Some.derivation =
    cc (c.in-Ok-Some.field-0-is) in
    let found = some_at c.in-Ok-Some.field-0 c.in-Ok-Some.derivation _ is c.in-Ok-Some.ensures.found in
    record {
      count = count_more c.loop-child.seats.items c.push.new.self.items _ c.loop-child.child-index items
          c.loop-child.invariant.count;
      first = λ h tree.
          subst (λ l. AreSettledFirst c.args.depth (dues_on h c.args.have.now (Some c.args.id)) l) (sym items)
          (told_one h c.args.id c.args.have.now c.args.depth c.loop-child.seats.items
          (c.loop-child.invariant.first h tree)
          c.child-item.result.node c.child-item.result.port c.name-name.result.now c.in-Ok-Some.derivation
          (child_at h c.args.id c.in_ok-children.children.items children (length c.loop-child.seats.items)
          c.loop-child.child-index c.child-item.result (c.in_ok-children.ensures h tree)
          c.deref-child-items.ensures.value c.loop-child.invariant.count read)
          (c.name-name.ensures h tree) (found h tree));
    }

pub returns : goal.returns
returns g c =
    let long = ap length c.deref-child-items.ensures.value in
    let at_end : c.loop-child.child-index ≡ length c.in_ok-children.children.items =
    omega (arith, long, c.loop-child-test.false, c.loop-child.auto.child-index-end) in
    λ h tree reached.
    rw c.of.ensures
    (told_all h c.args.id c.args.have.now c.args.depth c.loop-child.seats.items (c.loop-child.invariant.first h tree)
    (c.loop-child.invariant.count ∙ at_end
    ∙ children_count h c.args.id c.in_ok-children.children.items (c.in_ok-children.ensures h tree)))
