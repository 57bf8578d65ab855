use Rattle.std.proofs.Common.{◌≡◌, ◌+◌, refl, sym, take, add-one, length}
use Rattle.std.specs.Prelude.{Some, slice_get}
use Rattle.std.proofs.lemmas.Option.{slice_get_read}
use Rattle.hls_derive.specs.Derivation.{end_of}
use Rattle.hls_check.proofs.Stepping.{end-next, more-hold, all-hold}
use Rattle.hls_check.proofs.checking.first_wrong.Goals as goal

pub loop-at-preserved : goal.loop-at-preserved
loop-at-preserved c =
    let steps = c.args.steps.now in
    let at = c.loop-at.at in
    let s = c.index-steps-at.result in
    let there : slice_get steps at ≡ Some s =
    slice_get_read steps (length steps) at s refl c.loop-at-test.true c.index-steps-at.is in
    let leads = c.converts.ensures.0 c.if-not-converts.false in
    let next : end_of c.args.from.now (take (at + 1) steps) ≡ s.to =
    rw add-one (end-next c.args.from.now steps at s there) in
    record {
      reached = sym next;
      valid = leads.to;
      held = more-hold c.args.from.now c.loop-at.reached steps at s there c.loop-at.invariant.reached leads
          c.loop-at.invariant.held;
    }

pub returns : goal.returns
returns c = all-hold c.args.from.now c.args.steps.now c.loop-at.at c.loop-at-test.false
    c.loop-at.invariant.held
