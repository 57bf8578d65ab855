use Rattle.std.proofs.Common.{ℕ, ◌≡◌, ◌<◌, ◌^◌, ◌*◌, ◌%◌, Some, refl, arith, slice_get, ap, ◌∙◌, sym, subst}
use Rattle.std.specs.Int.{trailing_zeros, bit_not}
use Rattle.std.specs.Prelude.{bit_and}
use Rattle.std.proofs.Common.{w64}
use Rattle.std.proofs.lemmas.Option.{slice_get_read}
use Rattle.std.proofs.lemmas.Nat.Bits.{bit_at-trailing_zeros}
use Rattle.hls_tree_passes.proofs.Levels.{among_end, least_on, next_others, next_fewer, next_smaller}
use Rattle.hls_tree_passes.proofs.Voices.{agree}
use Rattle.hls_tree_passes.proofs.Quiet.{IsHearing, hearing_start, hearing_skip, hearing_step}
use Rattle.hls_tree_passes.proofs.asking.tell_news.Goals as goal
use Rattle.hls_tree_passes.proofs.asking.tell_news.Goals.{then-asks-has_bit, else-asks-has_bit}

pub loop-left-init : goal.loop-left-init
loop-left-init g c = hearing_start _ _ _ _ _ c.requires.roll c.requires.laid c.requires.posted c.requires.voices
    c.requires.late c.requires.quiet (omega arith)

pub bounds-schedulers-at : goal.bounds-schedulers-at
bounds-schedulers-at g c = c.requires.within _ (c.loop-left.invariant.asking.among.some _
    (least_on c.loop-left.left (omega (arith, c.loop-left.auto.left-fits)) c.loop-left-test.true))

pub asks_at-asks-requires : goal.asks_at-asks-requires
asks_at-asks-requires g c = record {
  posted = c.loop-left.invariant.asking.among.posted c.key-key.result;
  late = c.loop-left.invariant.late.late;
}

pub tell_ports-requires : goal.tell_ports-requires
tell_ports-requires g c = record {
  laid = c.loop-left.invariant.asking.among.laid;
  posted = c.loop-left.invariant.asking.among.posted;
  late = c.loop-left.invariant.late.late;
}

pub loop-left-smaller : goal.loop-left-smaller
loop-left-smaller g c = next_smaller c.loop-left.left (omega (arith, c.loop-left.auto.left-fits)) c.loop-left-test.true

pub loop-left-preserved : goal.loop-left-preserved
loop-left-preserved g c =
    let fits : c.loop-left.left < 2 ^ 64 = omega (arith, c.loop-left.auto.left-fits) in
    let on = least_on c.loop-left.left fits c.loop-left-test.true in
    let others = next_others c.loop-left.left fits c.loop-left-test.true in
    let fewer = next_fewer c.loop-left.left fits c.loop-left-test.true in
    let lt : trailing_zeros w64 c.loop-left.left < 64 =
    (bit_at-trailing_zeros w64 c.loop-left.left (omega (arith, c.loop-left-test.true)) fits).0 in
    let at : slice_get c.args.schedulers.now (trailing_zeros w64 c.loop-left.left)
    ≡ Some c.index-schedulers-at.result =
    slice_get_read c.args.schedulers.now _ (trailing_zeros w64 c.loop-left.left) c.index-schedulers-at.result refl
    (c.requires.within _ (c.loop-left.invariant.asking.among.some _ on)) c.index-schedulers-at.is in
    let key_at = at ∙ ap Some (sym c.key-key.ensures.key) in
    let next : ℕ = bit_and c.loop-left.left
    (bit_not w64 (1 * 2 ^ trailing_zeros w64 c.loop-left.left % 2 ^ 64)) in
    elim c.if-asks-has_bit.branch [
      | then-asks-has_bit w ↦ subst (λ told. IsHearing (λ b. (goal.Scheduler-dyn g (b.vtable, b.value)).seen b.value)
          c.args.nodes.now c.if-asks-has_bit.nodes c.args.schedulers.now c.args.places next told) (sym w.told-is)
          (subst (λ nodes. IsHearing (λ b. (goal.Scheduler-dyn g (b.vtable, b.value)).seen b.value)
          c.args.nodes.now nodes c.args.schedulers.now c.args.places next w.with_bit-told.result) (sym w.nodes-is)
          (hearing_step _ _ _ _ _ _ _ _ _ _ _ _ key_at lt on others fewer
          (w.with_bit-told.ensures.here ∙ c.asks_at-asks.ensures) w.with_bit-told.ensures.others
          c.loop-left.invariant w.tell_ports.ensures.tells w.tell_ports.ensures.late))
      | else-asks-has_bit w ↦ subst (λ told. IsHearing (λ b. (goal.Scheduler-dyn g (b.vtable, b.value)).seen b.value)
          c.args.nodes.now c.if-asks-has_bit.nodes c.args.schedulers.now c.args.places next told) (sym w.told-is)
          (subst (λ nodes. IsHearing (λ b. (goal.Scheduler-dyn g (b.vtable, b.value)).seen b.value)
          c.args.nodes.now nodes c.args.schedulers.now c.args.places next c.loop-left.told) (sym w.nodes-is)
          (hearing_skip _ _ _ _ _ _ _ _ _ _ key_at lt others fewer
          (sym c.asks_at-asks.ensures ∙ agree _ _ w.if-asks-has_bit.false ∙ c.has_bit.ensures)
          c.loop-left.invariant))
    ]

pub returns-clause-telling : goal.returns-clause-telling
returns-clause-telling g c =
    among_end _ _ _ _ _ (omega (arith, c.loop-left-test.false)) c.loop-left.invariant.asking.among

pub returns-clause-alike : goal.returns-clause-alike
returns-clause-alike g c = c.loop-left.invariant.asking.among.alike

pub returns-clause-voices : goal.returns-clause-voices
returns-clause-voices g c = c.loop-left.invariant.asking.voices
