use Rattle.std.proofs.Common.{◌≡◌, rules, arith, length, subst, sym, ◌∙◌}
use Rattle.hls_order.specs.Order.{IsEmpty, IsLeast}
use Rattle.hls_order.proofs.Winning.{root_none, root_least}
use Rattle.hls_order.proofs.Replaying.{same_default}
use Rattle.hls_order.proofs.order.Order.least.Goals as goal

pub returns-then-first-lt-NONE : goal.returns-then-first-lt-NONE
returns-then-first-lt-NONE c =
    let keys : length c.self.inside.keys ≡ 32 = search rules in
    let size : length c.self.inside.winners ≡ 63 = search rules in
    let first = same_default c.self.inside.winners 0 (omega (arith, size)) in
    let few = c.if-first-lt-NONE.true in
    subst (λ k. IsLeast k c.from.result) c.self.view_is
    (root_least c.self.inside.keys c.self.inside.winners c.self.invariant keys c.from.result
    (first ∙ sym c.from.ensures) (let same = c.from.ensures in omega (arith, few, same)))

pub returns-else-first-lt-NONE : goal.returns-else-first-lt-NONE
returns-else-first-lt-NONE c =
    let keys : length c.self.inside.keys ≡ 32 = search rules in
    let size : length c.self.inside.winners ≡ 63 = search rules in
    let first = same_default c.self.inside.winners 0 (omega (arith, size)) in
    let many = c.if-first-lt-NONE.false in
    subst IsEmpty c.self.view_is
    (root_none c.self.inside.keys c.self.inside.winners c.self.invariant keys (omega (arith, many, first)))
