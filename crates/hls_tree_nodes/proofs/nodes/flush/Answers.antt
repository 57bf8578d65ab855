use Rattle.std.proofs.Common.{◌≡◌, Some, refl, sym, ap, ◌∙◌, slice_get, arith, true, false}
use Rattle.std.proofs.lemmas.Option.{slice_get_read}
use Rattle.hls_tree_nodes.proofs.Behind.{late_flat}
use Rattle.hls_tree_nodes.proofs.Roused.{up_start, up_step, up_end}
use Rattle.hls_tree_nodes.proofs.nodes.flush.Goals as goal

pub loop-id-init : goal.loop-id-init
loop-id-init g c = up_start _ _ _ c.requires.late

pub rouse-requires : goal.rouse-requires
rouse-requires g c = record { late = c.loop-id.invariant.late }

pub loop-id-preserved : goal.loop-id-preserved
loop-id-preserved g c =
    let at : slice_get c.args.schedulers.now c.loop-id.id-index ≡ Some c.id-item.result =
    slice_get_read c.args.schedulers.now _ c.loop-id.id-index c.id-item.result refl c.loop-id-test.true c.id-item.is in
    up_step _ _ _ _ _ _ c.key.result (at ∙ ap Some (sym c.key.ensures.key)) c.loop-id.invariant c.rouse.ensures.same
    c.rouse.ensures.late c.rouse.ensures.stored c.rouse.ensures.others

pub returns : goal.returns
returns g c = record {
  same = λ k. late_flat c.loop-id.nodes.tick _ ∙ up_end _ _ _ _ _ c.requires.roll (omega (arith, c.loop-id-test.false))
      c.loop-id.invariant k;
  flat = refl;
  late = record { lags = λ on. absurd (let clash : false ≡ true = on in cc); off = λ no. refl };
  tick = c.loop-id.invariant.tick;
}
