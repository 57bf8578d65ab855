use Rattle.std.proofs.Common.{Some, None, sym, subst}
use Rattle.hls_chron.specs.declared.plain.Terms.{Terms}
use Rattle.hls_chron.specs.declared.plain.Terms.TheVariants.{Prio}
use Rattle.hls_offer_asks.specs.Inside.Trying.{IsDoneBehind, IsDoneBelowIfAny}
use Rattle.hls_offer_asks.proofs.needs.done_behind.Goals as goal

pub returns-in-Some : goal.returns-in-Some
returns-in-Some g c = λ m at.
    subst (λ (t : Terms). IsDoneBehind m c.args.need.now c.args.on.now t (Some (Prio c.in-Some.low)))
    (sym c.in-Prio.is)
    (subst (λ o. IsDoneBelowIfAny m c.args.need.now c.args.on.now c.in-Prio.priority o) c.in-Some.is
    (c.in_ok-low.ensures m at))

pub returns-in-None : goal.returns-in-None
returns-in-None g c = λ m at.
    subst (λ (t : Terms). IsDoneBehind m c.args.need.now c.args.on.now t None) (sym c.in-Prio.is)
    (subst (λ o. IsDoneBelowIfAny m c.args.need.now c.args.on.now c.in-Prio.priority o) c.in-None.is
    (c.in_ok-low.ensures m at))
