use Rattle.std.proofs.Common.{◌+◌, ◌<◌, [], take, length, sym, subst, arith}
use Rattle.hls_report_text.specs.Content.{content_of}
use Rattle.hls_view_signs.specs.declared.moments.Gathering.{Gathering}
use Rattle.hls_view_signs.specs.Inside.Notes.{AreInOrder}
use Rattle.hls_view_signs.specs.Inside.Scenes.{AreSaid}
use Rattle.hls_view_signs.specs.Inside.Moments.{IsPut, AreMomentsOf, IsGathering}
use Rattle.hls_view_signs.proofs.MomentLaws.{moments_none, moments_put, moments_left, moments_all}
use Rattle.hls_view_signs.proofs.moments.moments_of.Goals.{then-scale-tick+then-tick-scale+in_ok-put}
use Rattle.hls_view_signs.proofs.moments.moments_of.Goals.{else-scale-tick}
use Rattle.hls_view_signs.proofs.moments.moments_of.Goals.{else-scale-tick-via-then-scale-tick+else-tick-scale}
use Rattle.hls_view_signs.proofs.moments.moments_of.Goals.{else-scale-tick-via-else-scale-tick}
use Rattle.hls_view_signs.proofs.moments.moments_of.Goals as goal

pub loop-at-init : goal.loop-at-init
loop-at-init c =
    let content = content_of c.args.report.now in
    record {
      gathering = record { sources = c.in_ok-of.ensures; following = c.new.ensures.following content };
      moments = subst (AreMomentsOf content c.args.scale.now []) (sym c.new-2.ensures.items)
          (moments_none content c.args.scale.now c.in_ok-notes.notes.items);
    }

pub put-requires-clause-order : goal.put-requires-clause-order
put-requires-clause-order c = subst AreInOrder (sym c.deref.ensures.value) c.in_ok-notes.ensures.order

pub put-requires-clause-notes : goal.put-requires-clause-notes
put-requires-clause-notes c =
    subst (AreSaid (content_of c.args.report.now) c.index.result.now.tick) (sym c.deref.ensures.value)
    (λ name k on. c.in_ok-notes.ensures.words c.index.result.now.tick name k c.if-scale-tick.true c.if-tick-scale.true
    on)

pub loop-at-preserved : goal.loop-at-preserved
loop-at-preserved c =
    let r = c.args.report.now in
    let content = content_of r in
    let scale = c.args.scale.now in
    let notes = c.in_ok-notes.notes.items in
    let at = c.loop-at.at in
    let a = c.index.result.now in
    let old = c.loop-at.gathering.moments.items in
    let lt : at < length notes =
    omega (arith, c.len-at-end.ensures, c.in_ok-notes.notes.ok.0, c.loop-at-test.true) in
    elim c.if-scale-tick.branch [
      | then-scale-tick+then-tick-scale+in_ok-put w ↦ record {
        gathering = subst (IsGathering r) (sym w.gathering-is) w.in_ok-put.ensures.gathering;
        moments = moments_put content scale notes at a old c.if-scale-tick.gathering.moments.items lt c.index.ensures
            w.if-scale-tick.true w.if-tick-scale.true
            (subst (λ (g : Gathering). IsPut content a.tick old g.moments.items) (sym w.gathering-is)
            w.in_ok-put.ensures.put)
            c.loop-at.invariant.moments;
      }
      | else-scale-tick w ↦ record {
        gathering = subst (IsGathering r) (sym w.gathering-is) c.loop-at.invariant.gathering;
        moments = subst (λ (g : Gathering). AreMomentsOf content scale (take (at + 1) notes) g.moments.items)
            (sym w.gathering-is)
            (elim w.else-scale-tick.branch [
              | else-scale-tick-via-then-scale-tick+else-tick-scale v ↦
                  let late = v.if-tick-scale.false in
                  moments_left content scale notes at a old lt c.index.ensures
                  (λ from to. omega (arith, from, to, late)) c.loop-at.invariant.moments
              | else-scale-tick-via-else-scale-tick v ↦
                  let soon = v.if-scale-tick.false in
                  moments_left content scale notes at a old lt c.index.ensures
                  (λ from to. omega (arith, from, to, soon)) c.loop-at.invariant.moments
            ]);
      }
    ]

pub returns : goal.returns
returns c =
    moments_all (content_of c.args.report.now) c.args.scale.now c.in_ok-notes.notes.items c.loop-at.at
    c.loop-at.gathering.moments.items
    (omega (arith, c.len-at-end.ensures, c.in_ok-notes.notes.ok.0, c.loop-at-test.false)) c.in_ok-notes.ensures
    c.loop-at.invariant.moments
