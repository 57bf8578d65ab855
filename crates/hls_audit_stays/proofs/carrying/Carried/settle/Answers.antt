use Rattle.std.proofs.Common.{◌≡◌, ◌∙◌, ◌≤◌, Some, length, slice_get, refl, subst}
use Rattle.std.proofs.lemmas.Option.{slice_get_read}
use Rattle.hls_audit_stays.proofs.CarryLaws.{settles_start, settles_more, settles_all, settles_none}
use Rattle.hls_audit_stays.proofs.carrying.Carried.settle.Goals as goal

pub returns-then-tick-self : goal.returns-then-tick-self
returns-then-tick-self c = settles_none c.args.self.now c.args.tick c.if-tick-self.true c.requires

pub loop-at-init : goal.loop-at-init
loop-at-init c = settles_start c.args.self.now

pub loop-at-preserved : goal.loop-at-preserved
loop-at-preserved c =
    let old = c.args.self.now in
    let now = c.loop-at.self in
    let fresh = c.loop-at.invariant.fresh in
    let here : slice_get old.fresh.items c.loop-at.at ≡ Some c.index-found.result.now =
    slice_get_read old.fresh.items c.len-at-end.result c.loop-at.at c.index-found.result.now
    (c.len-at-end.ensures ∙ old.fresh.ok.0) c.loop-at-test.true (rw fresh at c.index-found.ensures) in
    settles_more old now _ c.loop-at.at c.index-found.result.now c.len-place.result c.requires here
    (c.len-place.ensures ∙ now.stays.ok.0) c.in_ok-push.ensures.items c.in_ok-push-2.ensures.items refl refl refl
    c.loop-at.invariant

pub returns : goal.returns
returns c =
    let old = c.args.self.now in
    let past : length old.fresh.items ≤ c.loop-at.at =
    subst (λ n. n ≤ c.loop-at.at) (c.len-at-end.ensures ∙ old.fresh.ok.0) c.loop-at-test.false in
    settles_all old c.loop-at.self _ c.loop-at.at c.args.tick past c.loop-at.invariant refl refl c.clear.ensures.items
    refl refl refl
