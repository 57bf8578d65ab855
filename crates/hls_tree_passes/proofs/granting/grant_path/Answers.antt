use Rattle.std.proofs.Common.{◌≡◌, ◌∙◌, [], ◌∷◌, ◌++◌, ap, sym, refl, subst, arith}
use Rattle.std.specs.Prelude.{IfSome}
use Rattle.hls_tree_nodes.specs.Shown.{ServesIn}
use Rattle.hls_tree_nodes.specs.Views.{choice_at, shown_at}
use Rattle.hls_tree_passes.proofs.Grants.{shown_others, no_choice}
use Rattle.hls_tree_nodes.proofs.Late.{stays_refl, stays_then}
use Rattle.hls_tree_nodes.proofs.Walks.{choice_others}
use Rattle.hls_tree_nodes.proofs.Snapshots.{one_of}
use Rattle.hls_tree_passes.proofs.Leads.{going_start, going_at, going_on, going_end, here_small, nobody_there}
use Rattle.hls_tree_passes.proofs.Leads.{no_further, may_grant, seen_same, going_posted}
use Rattle.hls_tree_passes.proofs.granting.grant_path.Goals as goal

pub loop-step-init : goal.loop-step-init
loop-step-init g c = (
  going_start _ _ c.requires.root.0 c.requires.root.1 c.requires.telling _ c.requires.empty,
  stays_refl (λ b. (goal.Scheduler-dyn g (b.vtable, b.value)).seen b.value) c.args.nodes.now c.requires.late,
)

pub unreachable-requires : goal.unreachable-requires
unreachable-requires g c =
    nobody_there _ _ _ _ _ _ c.loop-step.invariant.0 c.requires.telling (c.in_default.ensures.none refl)

pub of-id-requires : goal.of-id-requires
of-id-requires g c =
    let before = going_at _ _ _ _ _ _ c.in-Some.key c.in-Some.port c.loop-step.invariant.0 c.requires.telling
    c.in-Some.ensures.some in
    here_small _ _ _ _ _ _ _ _ before c.requires.telling

pub note_seen-requires : goal.note_seen-requires
note_seen-requires g c =
    let before = going_at _ _ _ _ _ _ c.in-Some.key c.in-Some.port c.loop-step.invariant.0 c.requires.telling
    c.in-Some.ensures.some in
    record {
      posted = going_posted _ _ _ _ _ _ _ _ before c.requires.telling;
      late = c.loop-step.invariant.1.late;
    }

pub push-requires : goal.push-requires
push-requires g c = omega (arith, c.loop-step.invariant.0.count, c.loop-step-test.true)

pub grant_at-slot-requires : goal.grant_at-slot-requires
grant_at-slot-requires g c =
    let before = going_at _ _ _ _ _ _ c.in-Some.key c.in-Some.port c.loop-step.invariant.0 c.requires.telling
    c.in-Some.ensures.some in
    let here = seen_same _ _ _ _ _ _ _ _ _ _ c.note_seen.ensures.same c.note_seen.ensures.choices before in
    let may = may_grant _ _ _ _ _ _ _ _ here c.requires.telling in
    record { posted = may.posted; asks = may.asks; free = may.free; late = c.note_seen.ensures.late.late }

pub returns-in-None : goal.returns-in-None
returns-in-None g c =
    let before = going_at _ _ _ _ _ _ c.in-Some.key c.in-Some.port c.loop-step.invariant.0 c.requires.telling
    c.in-Some.ensures.some in
    let here = seen_same _ _ _ _ _ _ _ _ _ _ c.note_seen.ensures.same c.note_seen.ensures.choices before in
    record {
      led = going_end _ _ _ _ _ _ _ _ _ _ here
          (shown_others (λ b. (goal.Scheduler-dyn g (b.vtable, b.value)).seen b.value)
          c.note_seen.new.nodes c.grant_at-slot.new.nodes c.in-Some.key c.grant_at-slot.ensures.late.behind
          c.grant_at-slot.ensures.late.tick c.grant_at-slot.ensures.others)
          c.grant_at-slot.ensures.granted
          (one_of (λ k. choice_at (λ b. (goal.Scheduler-dyn g (b.vtable, b.value)).choice b.value)
          c.grant_at-slot.new.nodes k
          ≡ choice_at (λ b. (goal.Scheduler-dyn g (b.vtable, b.value)).choice b.value) c.note_seen.new.nodes k)
          c.in-Some.key
          (sym c.grant_at-slot.ensures.value ∙ c.in-None.is
          ∙ sym (no_choice (λ b. (goal.Scheduler-dyn g (b.vtable, b.value)).seen b.value)
          (λ b. (goal.Scheduler-dyn g (b.vtable, b.value)).choice b.value) c.note_seen.new.nodes c.in-Some.key
          (λ is. c.grant_at-slot.ensures.some is c.in-None.is)))
          (choice_others _ c.note_seen.new.nodes c.grant_at-slot.new.nodes c.in-Some.key
          c.grant_at-slot.ensures.others))
          (λ is. c.grant_at-slot.ensures.some is c.in-None.is) _
          (c.push.ensures ∙ ap (λ n. c.loop-step.route ++ n ∷ []) c.of-id.ensures);
      late = stays_then (λ b. (goal.Scheduler-dyn g (b.vtable, b.value)).seen b.value)
          c.args.nodes.now c.note_seen.new.nodes c.grant_at-slot.new.nodes
          (stays_then (λ b. (goal.Scheduler-dyn g (b.vtable, b.value)).seen b.value)
          c.args.nodes.now c.loop-step.nodes c.note_seen.new.nodes c.loop-step.invariant.1
          c.note_seen.ensures.late)
          c.grant_at-slot.ensures.late;
    }

pub loop-step-preserved : goal.loop-step-preserved
loop-step-preserved g c =
    let before = going_at _ _ _ _ _ _ c.in-Some.key c.in-Some.port c.loop-step.invariant.0 c.requires.telling
    c.in-Some.ensures.some in
    let here = seen_same _ _ _ _ _ _ _ _ _ _ c.note_seen.ensures.same c.note_seen.ensures.choices before in (
      going_on _ _ _ _ _ _ _ _ _ _ _ here
          (shown_others (λ b. (goal.Scheduler-dyn g (b.vtable, b.value)).seen b.value)
          c.note_seen.new.nodes c.grant_at-slot.new.nodes c.in-Some.key c.grant_at-slot.ensures.late.behind
          c.grant_at-slot.ensures.late.tick c.grant_at-slot.ensures.others)
          c.grant_at-slot.ensures.granted
          (choice_others _ c.note_seen.new.nodes c.grant_at-slot.new.nodes c.in-Some.key c.grant_at-slot.ensures.others)
          (sym c.grant_at-slot.ensures.value ∙ c.in-Some-slot.is)
          c.requires.telling
          (subst (λ o. IfSome o (ServesIn (shown_at (λ b. (goal.Scheduler-dyn g (b.vtable, b.value)).seen b.value)
          c.note_seen.new.nodes c.in-Some.key))) c.in-Some-slot.is c.grant_at-slot.ensures.serves) _
          (c.push.ensures ∙ ap (λ n. c.loop-step.route ++ n ∷ []) c.of-id.ensures),
      stays_then (λ b. (goal.Scheduler-dyn g (b.vtable, b.value)).seen b.value)
          c.args.nodes.now c.note_seen.new.nodes c.grant_at-slot.new.nodes
          (stays_then (λ b. (goal.Scheduler-dyn g (b.vtable, b.value)).seen b.value)
          c.args.nodes.now c.loop-step.nodes c.note_seen.new.nodes c.loop-step.invariant.1
          c.note_seen.ensures.late)
          c.grant_at-slot.ensures.late,
    )

pub unreachable-requires-2 : goal.unreachable-requires-2
unreachable-requires-2 g c =
    no_further _ _ _ _ _ _ c.loop-step.invariant.0 c.requires.telling (omega (arith, c.loop-step-test.false))
