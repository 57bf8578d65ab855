use Rattle.std.proofs.Common.{subst, arith, refl, take}
use Rattle.std.proofs.lemmas.Option.{slice_get_read}
use Rattle.hls_core_stays.specs.Tallies.{AreTallies}
use Rattle.hls_core_stays.specs.Inside.Renewals.{renewed_all}
use Rattle.hls_core_stays.proofs.Renewed.{next_alike, renewed_next, renewed_whole}
use Rattle.hls_core_stays.proofs.stays.Stays.renew_each.Goals as goal

pub renew-requires-clause-close : goal.renew-requires-clause-close
renew-requires-clause-close g c =
    let at = slice_get_read c.args.ids.now _ c.loop-id.id-index c.id-item.result refl c.loop-id-test.true
    c.id-item.is in
    record {
      h = c.requires.may.h;
      stays = renewed_all c.requires.may.h c.requires.may.is.1.0 (take c.loop-id.id-index c.args.ids.now);
      are = c.loop-id.invariant.are c.requires.may.h c.requires.may.is.1.0 c.requires.may.tree c.requires.may.is.0
          c.requires.may.is.1.1;
      has = (next_alike c.args.self.now c.requires.may.h c.requires.may.is.1.0 c.args.ids.now c.loop-id.id-index
          c.id-item.result c.requires.may.is.1.1 at).has;
    }

pub loop-id-preserved : goal.loop-id-preserved
loop-id-preserved g c =
    let at = slice_get_read c.args.ids.now _ c.loop-id.id-index c.id-item.result refl c.loop-id-test.true
    c.id-item.is in
    record {
      are = λ h stays tree ready may.
          subst (AreTallies c.renew.new.self h)
          (renewed_next h stays c.args.ids.now c.loop-id.id-index c.id-item.result at)
          (c.renew.ensures.renewed h (renewed_all h stays (take c.loop-id.id-index c.args.ids.now)) tree ready
          (c.loop-id.invariant.are h stays tree ready may)
          (next_alike c.args.self.now h stays c.args.ids.now c.loop-id.id-index c.id-item.result may at));
      room = omega (
        arith,
        c.loop-id.invariant.room,
        c.renew.ensures.spare,
        c.loop-id-test.true,
      );
    }

pub returns : goal.returns
returns g c = λ h stays tree ready may.
    renewed_whole c.loop-id.self h stays c.args.ids.now c.loop-id.id-index (omega (arith, c.loop-id-test.false))
    (c.loop-id.invariant.are h stays tree ready may)
