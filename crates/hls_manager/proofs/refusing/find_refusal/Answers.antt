use Rattle.std.proofs.Common.{◌∙◌, refl, sym, ap, arith, length}
use Rattle.hls_chron.specs.declared.plain.Kind.{Kind}
use Rattle.hls_sched.specs.GoodKit.{boxes_of}
use Rattle.hls_manager.specs.Outcomes.{moment}
use Rattle.hls_manager.specs.Inside.Least.{is_early}
use Rattle.hls_manager.proofs.Outcomes.{reached_listed}
use Rattle.hls_manager.proofs.LoadRefusals.{if_some, none_is, too_many_nodes, early_fault, height_refused, kit_empty}
use Rattle.hls_manager.proofs.LoadRefusals.{last_fault, open_load}
use Rattle.hls_manager.proofs.refusing.find_refusal.Goals as goal

pub returns-then-scheds-ge-MOST_SCHEDULERS-clause-refused :
    goal.returns-then-scheds-ge-MOST_SCHEDULERS-clause-refused
returns-then-scheds-ge-MOST_SCHEDULERS-clause-refused g c = λ h name perches depth tree is placed.
    (let counted = c.scheds.ensures h tree in
    let many = c.if-scheds-ge-MOST_SCHEDULERS.true in
    too_many_nodes (moment h c.args.kit.now depth) name c.args.config.now perches c.args.seats.now placed
    (reached_listed h is) (omega (arith, counted, many)))

pub returns-then-is_early-clause-refused : goal.returns-then-is_early-clause-refused
returns-then-is_early-clause-refused g c =
    if_some c.least_fault-fault.result _ (λ r e h name perches depth tree is placed.
    (let listed = reached_listed h is in
    let counted = c.scheds.ensures h tree in
    let few = c.if-scheds-ge-MOST_SCHEDULERS.false in
    early_fault (moment h c.args.kit.now depth) name c.args.config.now perches c.args.seats.now placed listed
    (omega (arith, counted, few)) c.least_fault-fault.result
    (c.least_fault-fault.ensures.answer h perches tree listed placed.wanted) (sym c.if-is_early.ensures) r e))

pub returns-then-is_early-clause-formed : goal.returns-then-is_early-clause-formed
returns-then-is_early-clause-formed g c = λ h name perches tree placed within.
    c.least_fault-fault.ensures.formed h perches tree placed.wanted within

pub returns-in-Some-clause-refused : goal.returns-in-Some-clause-refused
returns-in-Some-clause-refused g c = λ h name perches depth tree is placed.
    (let listed = reached_listed h is in
    let counted = c.scheds.ensures h tree in
    let few = c.if-scheds-ge-MOST_SCHEDULERS.false in
    height_refused (moment h c.args.kit.now depth) name c.args.config.now perches c.args.seats.now placed listed
    (omega (arith, counted, few)) c.least_fault-fault.result
    (c.least_fault-fault.ensures.answer h perches tree listed placed.wanted) (sym c.if-is_early.ensures)
    c.in-Some.refusal (c.in-Some.ensures.refused h name perches tree is placed.wanted))

pub returns-then-boxes_left-eq0-clause-refused : goal.returns-then-boxes_left-eq0-clause-refused
returns-then-boxes_left-eq0-clause-refused g c = λ h name perches depth tree is placed.
    (let listed = reached_listed h is in
    let counted = c.scheds.ensures h tree in
    let few = c.if-scheds-ge-MOST_SCHEDULERS.false in
    kit_empty (moment h c.args.kit.now depth) name c.args.config.now perches c.args.seats.now placed listed
    (omega (arith, counted, few)) c.least_fault-fault.result
    (c.least_fault-fault.ensures.answer h perches tree listed placed.wanted) (sym c.if-is_early.ensures)
    (c.in_default.ensures.low refl h perches tree is placed.wanted) c.kind-kind.result c.boxes_used-used.result
    c.kind-kind.ensures (sym c.boxes_left.ensures ∙ c.if-boxes_left-eq0.true) c.boxes_used-used.ensures.used)

pub returns-clause-refused : goal.returns-clause-refused
returns-clause-refused g c =
    if_some c.least_fault-fault.result _ (λ r e h name perches depth tree is placed.
    (let listed = reached_listed h is in
    let counted = c.scheds.ensures h tree in
    let few = c.if-scheds-ge-MOST_SCHEDULERS.false in
    last_fault (moment h c.args.kit.now depth) name c.args.config.now perches c.args.seats.now placed listed
    (omega (arith, counted, few)) c.least_fault-fault.result
    (c.least_fault-fault.ensures.answer h perches tree listed placed.wanted) (sym c.if-is_early.ensures)
    (c.in_default.ensures.low refl h perches tree is placed.wanted)
    (λ none. c.if-boxes_left-eq0.false (c.boxes_left.ensures
    ∙ ap (λ (kind : Kind). length (boxes_of kind c.args.kit.now)) c.kind-kind.ensures ∙ none)) r e))

pub returns-clause-unrefused : goal.returns-clause-unrefused
returns-clause-unrefused g c = λ none h name perches depth tree is placed.
    (let listed = reached_listed h is in
    let counted = c.scheds.ensures h tree in
    let few = c.if-scheds-ge-MOST_SCHEDULERS.false in
    open_load (moment h c.args.kit.now depth) name c.args.config.now perches c.args.seats.now placed listed
    (omega (arith, counted, few)) c.least_fault-fault.result
    (c.least_fault-fault.ensures.answer h perches tree listed placed.wanted) (sym c.if-is_early.ensures)
    (c.in_default.ensures.low refl h perches tree is placed.wanted)
    (λ gone. c.if-boxes_left-eq0.false (c.boxes_left.ensures
    ∙ ap (λ (kind : Kind). length (boxes_of kind c.args.kit.now)) c.kind-kind.ensures ∙ gone))
    (none_is c.least_fault-fault.result none))

pub returns-clause-formed : goal.returns-clause-formed
returns-clause-formed g c = λ h name perches tree placed within.
    c.least_fault-fault.ensures.formed h perches tree placed.wanted within

pub returns-then-is_early-clause-counts : goal.returns-then-is_early-clause-counts
returns-then-is_early-clause-counts g c = λ none.
    (let e = none_is c.least_fault-fault.result none in
    let on = c.if-is_early.ensures ∙ ap is_early e in
    absurd (cc))

pub returns-clause-counts : goal.returns-clause-counts
returns-clause-counts g c = λ none. c.boxes_used-used.ensures.counts
