use Rattle.std.proofs.Common.{◌≡◌, Some, sym, ap, ◌∙◌, refl, subst, slice_get}
use Rattle.std.proofs.lemmas.Option.{slice_get_read}
use Rattle.hls_tree_nodes.specs.Views.{choice_at, shown_at}
use Rattle.hls_tree_nodes.specs.Leapt.{stands_in, StandsIn}
use Rattle.hls_tree_passes.proofs.Tells.{entry_at}
use Rattle.hls_tree_passes.proofs.Elapses.{spot_stands, spot_law}
use Rattle.hls_tree_passes.proofs.turning.stands_spot.Goals as goal

pub returns-then-has_bit-clause-value : goal.returns-then-has_bit-clause-value
returns-then-has_bit-clause-value g c k on = sym (spot_stands
    (λ b. (goal.Scheduler-dyn g (b.vtable, b.value)).seen b.value)
    (λ b. (goal.Scheduler-dyn g (b.vtable, b.value)).choice b.value) c.args.nodes.now _ c.args.at k c.requires.late
    c.requires.quiet c.if-at-lt64.true
    (sym c.has_bit.ensures ∙ c.if-has_bit.true) on)

pub returns-then-has_bit-clause-law : goal.returns-then-has_bit-clause-law
returns-then-has_bit-clause-law g c k on = spot_law (λ b. (goal.Scheduler-dyn g (b.vtable, b.value)).seen b.value)
    (λ b. (goal.Scheduler-dyn g (b.vtable, b.value)).choice b.value) c.args.nodes.now _ c.args.at k c.requires.late
    c.requires.quiet c.if-at-lt64.true
    (sym c.has_bit.ensures ∙ c.if-has_bit.true) on _

pub returns-clause-value : goal.returns-clause-value
returns-clause-value g c k on =
    let at : slice_get c.args.schedulers.now c.args.at ≡ Some c.index-schedulers-at.result =
    slice_get_read c.args.schedulers.now _ c.args.at c.index-schedulers-at.result refl c.requires.within
    c.index-schedulers-at.is in
    subst (λ n. c.stands_at.result ≡ stands_in (choice_at (λ b. (goal.Scheduler-dyn g (b.vtable, b.value)).choice
    b.value) c.args.nodes.now n)
    (shown_at (λ b. (goal.Scheduler-dyn g (b.vtable, b.value)).seen b.value) c.args.nodes.now n))
    (sym (entry_at _ c.args.at k c.key.result (at ∙ ap Some (sym c.key.ensures.key)) on)) c.stands_at.ensures.value

pub returns-clause-law : goal.returns-clause-law
returns-clause-law g c k on =
    let at : slice_get c.args.schedulers.now c.args.at ≡ Some c.index-schedulers-at.result =
    slice_get_read c.args.schedulers.now _ c.args.at c.index-schedulers-at.result refl c.requires.within
    c.index-schedulers-at.is in
    subst (λ n. StandsIn c.stands_at.result (choice_at (λ b. (goal.Scheduler-dyn g (b.vtable, b.value)).choice
    b.value) c.args.nodes.now n)
    (shown_at (λ b. (goal.Scheduler-dyn g (b.vtable, b.value)).seen b.value) c.args.nodes.now n))
    (sym (entry_at _ c.args.at k c.key.result (at ∙ ap Some (sym c.key.ensures.key)) on)) c.stands_at.ensures.law
