use Rattle.std.proofs.Common.{◌∙◌, ap, sym, Some}
use Rattle.hls_wheel.specs.Owners.{where_asking}
use Rattle.hls_wheel.proofs.Stretches.{choice_from, owner_asks, owner_silent}
use Rattle.hls_wheel.proofs.wheel.Wheel.owner.Goals as goal

pub returns-in_default-2-clause-value : goal.returns-in_default-2-clause-value
returns-in_default-2-clause-value c =
    let self = c.args.self.now in
    sym (ap (λ owner. where_asking owner self.state.mask) (sym c.owner.ensures ∙ c.in_default.is))
    ∙ choice_from self.state self.places self.stretch self.sound c.requires self.table self.present

pub returns-in-Some-clause-value : goal.returns-in-Some-clause-value
returns-in-Some-clause-value c =
    let self = c.args.self.now in
    owner_asks self.stretch.owner self.state.mask c.from-in-Some.result (sym c.owner.ensures ∙ c.in-Some.is
    ∙ ap Some (sym c.from-in-Some.ensures))
    (rw (c.mask-mask.ensures, c.from.ensures, ← c.from-in-Some.ensures) at
    (sym c.has_slot.ensures.value ∙ c.if-has_slot.true))
    ∙ choice_from self.state self.places self.stretch self.sound c.requires self.table self.present

pub returns-in_default-clause-value : goal.returns-in_default-clause-value
returns-in_default-clause-value c =
    let self = c.args.self.now in
    owner_silent self.stretch.owner self.state.mask c.in-Some.owner (sym c.owner.ensures ∙ c.in-Some.is)
    (rw (c.mask-mask.ensures, c.from.ensures) at (sym c.has_slot.ensures.value ∙ c.if-has_slot.false))
    ∙ choice_from self.state self.places self.stretch self.sound c.requires self.table self.present
