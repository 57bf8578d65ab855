use Rattle.std.proofs.Common.{false, ◌≡◌, ◌≤◌, ◌↔◌, sym, subst}
use Rattle.std.specs.Prelude.{Some}
use Rattle.hls_offer_laws.specs.Candidates.{IsDirectSize}
use Rattle.hls_offer_laws.proofs.Sizing.{of-windows, of-blocks}
use Rattle.hls_offer_laws.proofs.sizes.direct_size.Goals as goal

pub returns-in-Psbe : goal.returns-in-Psbe
returns-in-Psbe c = λ x.
    subst (λ v. (c.providing_size.result ≡ Some x) ↔ (IsDirectSize v x c.args.y × (x ≤ c.args.y))) (sym c.in-Psbe.is)
    (c.providing_size.ensures x)

pub returns-else-y-period : goal.returns-else-y-period
returns-else-y-period c = λ x.
    let its = c.in-Resb-false-default-default in
    of-blocks c.args.wanted.now its.hard its.ticks its.period c.args.y c.sliding_size.result x its.is (let soft
    : its.hard ≡ false = cc in soft)
    c.if-y-period.false (c.sliding_size.ensures x)

pub returns-in-Resc-false-default-default : goal.returns-in-Resc-false-default-default
returns-in-Resc-false-default-default c = λ x.
    let its = c.in-Resc-false-default-default in
    of-windows c.args.wanted.now its.hard its.ticks its.period c.args.y
    c.sliding_size-in-Resc-false-default-default.result x its.is (let soft : its.hard ≡ false = cc in soft)
    (c.sliding_size-in-Resc-false-default-default.ensures x)
