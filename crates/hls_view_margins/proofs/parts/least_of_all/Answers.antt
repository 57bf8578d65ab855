use Rattle.std.proofs.Common.{ℕ, ◌≡◌, arith, subst}
use Rattle.std.specs.Prelude.{Some}
use Rattle.hls_view_margins.specs.First.{IsFirstOf}
use Rattle.hls_view_margins.specs.Parts.{IsPart}
use Rattle.hls_view_margins.specs.declared.margin.Part.{Part}
use Rattle.hls_view_margins.specs.Inside.Sooner.{IsSoonerOf}
use Rattle.hls_view_margins.proofs.Runs.{no_run, all_none, all_more}
use Rattle.hls_view_margins.proofs.parts.least_of_all.Goals as goal

pub loop-tick-init : goal.loop-tick-init
loop-tick-init c = record {
  order = omega arith;
  run = λ f end tell within. no_run c.args.scale.now f c.args.lo;
  first = λ f end tell within. all_none c.args.scale.now f c.args.lo;
}

pub loop-tick-preserved : goal.loop-tick-preserved
loop-tick-preserved c =
    let order = c.run_since-since.ensures.order in
    record {
      order = omega arith;
      run = λ f end tell within.
          c.run_since-since.ensures.leads f end tell (omega arith) c.args.lo
          (c.loop-tick.invariant.run f end tell within);
      first = λ f end tell within.
          all_more c.args.scale.now f c.args.lo c.loop-tick.tick c.run_since-since.result c.loop-tick.first
          c.sooner-first.result order
          (c.run_since-since.ensures.leads f end tell (omega arith) c.args.lo
          (c.loop-tick.invariant.run f end tell within))
          (subst (λ (p : Part). IsSoonerOf c.args.scale.now c.loop-tick.first (Some p) c.sooner-first.result)
          (c.part_of.ensures f end tell (omega arith)) c.sooner-first.ensures)
          (c.loop-tick.invariant.first f end tell within);
    }

pub returns : goal.returns
returns c = λ f end tell within.
    let order = c.requires.order in
    let at : c.loop-tick.tick ≡ c.args.hi = omega arith in
    subst (λ (k : ℕ). IsFirstOf c.args.scale.now (IsPart f c.args.lo k) c.loop-tick.first) at
    (c.loop-tick.invariant.first f end tell within)
