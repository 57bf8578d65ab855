use Rattle.std.proofs.Common.{◌≡◌, ◌≤◌, ◌∙◌, sym, arith}
use Rattle.hls_manager.proofs.Outcomes.{stands_so, refuses, unloads, scheduler_goes, reached_listed, can_unload}
use Rattle.hls_manager.proofs.Outcomes.{unload_empty_of, unload_full_of}
use Rattle.hls_manager.proofs.withdrawals.unload_node.Goals as goal

pub detach-requires : goal.detach-requires
detach-requires g c =
    let zero : c.slots_taken-seats.result ≡ 0 = omega arith in
    stands_so _ c.args.tree.now _ _ c.requires.stands (λ h tree seated listed is.
    (let found = c.requires.named h tree in
    scheduler_goes h seated is.1 c.args.id
    (can_unload h is.0 c.args.id c.args.name.now found.0 found.1 (sym (c.slots_taken-seats.ensures h tree) ∙ zero))))

pub returns-clause-done : goal.returns-clause-done
returns-clause-done g c =
    let zero : c.slots_taken-seats.result ≡ 0 = omega arith in
    λ m commands tree is.
    (let found = c.requires.named m.hierarchy tree in
    let empty = sym (c.slots_taken-seats.ensures m.hierarchy tree) ∙ zero in
    unloads _ c.args.tree.now _ m commands c.args.name.now c.args.id found.0
    (can_unload m.hierarchy is c.args.id c.args.name.now found.0 found.1 empty)
    (unload_empty_of m (reached_listed m.hierarchy is) c.args.id c.args.name.now found.0 found.1 empty)
    (c.detach.ensures.unloaded m.hierarchy tree) (c.detach.ensures.ready m.hierarchy))

pub returns-then-seats-gt0-clause-refused : goal.returns-then-seats-gt0-clause-refused
returns-then-seats-gt0-clause-refused g c =
    let some : 1 ≤ c.slots_taken-seats.result = omega arith in
    λ m commands tree is.
    (let found = c.requires.named m.hierarchy tree in
    refuses _ c.args.tree.now m commands _ _ tree
    (unload_full_of m (reached_listed m.hierarchy is) c.args.id c.args.name.now found.0 found.1
    c.slots_taken-seats.result (c.slots_taken-seats.ensures m.hierarchy tree) some))
