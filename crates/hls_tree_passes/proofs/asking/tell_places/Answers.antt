use Rattle.std.proofs.Common.{◌≡◌, Some, refl, arith, slice_get, ap, ◌∙◌, sym}
use Rattle.std.specs.Int.{trailing_zeros}
use Rattle.std.proofs.Common.{w64}
use Rattle.std.proofs.lemmas.Option.{slice_get_read}
use Rattle.hls_tree_passes.proofs.Levels.{among_start, among_step, among_end, least_on, next_others, next_fewer}
use Rattle.hls_tree_passes.proofs.Levels.{next_smaller}
use Rattle.hls_tree_nodes.proofs.Late.{stays_refl, stays_then}
use Rattle.hls_tree_passes.proofs.asking.tell_places.Goals as goal

pub loop-left-init : goal.loop-left-init
loop-left-init g c = record {
  among = among_start _ _ _ c.requires.roll c.requires.laid c.requires.posted;
  late = stays_refl _ _ c.requires.late;
}

pub bounds-schedulers-at : goal.bounds-schedulers-at
bounds-schedulers-at g c = c.requires.within _ (c.loop-left.invariant.among.some _
    (least_on c.loop-left.left (omega (arith, c.loop-left.auto.left-fits)) c.loop-left-test.true))

pub tell_ports-requires : goal.tell_ports-requires
tell_ports-requires g c = record {
  laid = c.loop-left.invariant.among.laid;
  posted = c.loop-left.invariant.among.posted;
  late = c.loop-left.invariant.late.late;
}

pub loop-left-smaller : goal.loop-left-smaller
loop-left-smaller g c = next_smaller c.loop-left.left (omega (arith, c.loop-left.auto.left-fits)) c.loop-left-test.true

pub loop-left-preserved : goal.loop-left-preserved
loop-left-preserved g c =
    let on = least_on c.loop-left.left (omega (arith, c.loop-left.auto.left-fits)) c.loop-left-test.true in
    let at : slice_get c.args.schedulers.now (trailing_zeros w64 c.loop-left.left)
    ≡ Some c.index-schedulers-at.result =
    slice_get_read c.args.schedulers.now _ (trailing_zeros w64 c.loop-left.left) c.index-schedulers-at.result refl
    (c.requires.within _ (c.loop-left.invariant.among.some _ on)) c.index-schedulers-at.is in
    record {
      among = among_step _ _ _ _ _ _ _ _ _ (at ∙ ap Some (sym c.key.ensures.key)) on
          (next_others c.loop-left.left (omega (arith, c.loop-left.auto.left-fits)) c.loop-left-test.true)
          (next_fewer c.loop-left.left (omega (arith, c.loop-left.auto.left-fits)) c.loop-left-test.true)
          c.loop-left.invariant.among c.tell_ports.ensures.tells;
      late = stays_then _ _ _ _ c.loop-left.invariant.late c.tell_ports.ensures.late;
    }

pub returns-clause-telling : goal.returns-clause-telling
returns-clause-telling g c =
    among_end _ _ _ _ _ (omega (arith, c.loop-left-test.false)) c.loop-left.invariant.among
