use Rattle.std.proofs.Common.{◌∙◌, sym, arith, ap}
use Rattle.std.specs.Prelude.{is_some}
use Rattle.hls_kinds_lookup.specs.declared.choice.Ranking.TheVariants.{Priority, Tag, Turn}
use Rattle.hls_kinds.specs.Slots.{IsFirst}
use Rattle.hls_kinds.specs.Discipline.{HasLeastPriority}
use Rattle.hls_kinds_lookup.specs.Rankings.{takes_part, key_of}
use Rattle.hls_kinds.proofs.SlotLaws.{first-none}
use Rattle.hls_kinds_lookup.proofs.ChoiceLaws.{then_some, fp-serves, fp-none, edf-none}
use Rattle.hls_kinds_lookup.proofs.choice.discipline_choice.Goals as goal

pub returns-in-Fp-clause-serves : goal.returns-in-Fp-clause-serves
returns-in-Fp-clause-serves c =
    let b = c.args.book.now in
    let mask = c.args.mask in
    rw c.in-Fp.is (then_some c.first_slot.result (IsFirst 32 (takes_part Priority b mask)
    (key_of Priority b mask))
    (HasLeastPriority b mask) c.first_slot.ensures.first
    (λ slot is. fp-serves b mask slot (omega (arith, c.ranges.mask)) is))

pub returns-in-Fp-clause-none : goal.returns-in-Fp-clause-none
returns-in-Fp-clause-none c =
    rw c.in-Fp.is (λ none slot is. fp-none c.args.book.now c.args.mask slot (omega (arith, c.ranges.mask))
    (sym c.first_slot.ensures.any ∙ none) is)

pub returns-in-None-clause-none : goal.returns-in-None-clause-none
returns-in-None-clause-none c =
    let urgent = sym c.first_slot-in-Edf.ensures.any ∙ ap is_some c.in-None.is in
    rw c.in-Edf.is (λ none slot is. edf-none c.args.book.now c.args.mask slot urgent
    (sym c.first_slot-in-None.ensures.any ∙ none) is)

pub returns-else-turn_goes_on-clause-none : goal.returns-else-turn_goes_on-clause-none
returns-else-turn_goes_on-clause-none c =
    let b = c.args.book.now in
    let mask = c.args.mask in
    let passes = sym c.turn_goes_on.ensures ∙ c.if-turn_goes_on.false in
    rw c.in-Sfq.is (λ none slot is. first-none (takes_part (Tag c.in-Sfq.quantum) b mask)
    (key_of (Tag c.in-Sfq.quantum) b mask) 32 slot (sym c.first_slot-else-turn_goes_on.ensures.any ∙ none)
    (is.passes passes))

pub returns-else-turn_goes_on-2-clause-none : goal.returns-else-turn_goes_on-2-clause-none
returns-else-turn_goes_on-2-clause-none c =
    let b = c.args.book.now in
    let mask = c.args.mask in
    let passes = sym c.turn_goes_on-in-Rr.ensures ∙ c.if-turn_goes_on-2.false in
    rw c.in-Rr.is (λ none slot is. first-none (takes_part Turn b mask) (key_of Turn b mask) 32 slot
    (sym c.first_slot-else-turn_goes_on-2.ensures.any ∙ none) (is.passes passes))
