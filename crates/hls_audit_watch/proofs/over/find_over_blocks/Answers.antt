use Rattle.std.proofs.Common.{◌≡◌, ℕ, ◌+◌, ◌-◌, ◌*◌, true, false, arith, ap, sym, ◌∙◌, inl, inr}
use Rattle.std.proofs.lemmas.Bool.{cases_lt}
use Rattle.hls_chron.specs.Parts.{all_parts, parts}
use Rattle.hls_chron.specs.Ticks.{one_if}
use Rattle.hls_guarantee.specs.Service.{schedule_of}
use Rattle.hls_guarantee.proofs.Excesses.{no_excess, next_excess}
use Rattle.hls_audit_watch.proofs.Overs.{blocks_found, blocks_nowhere}
use Rattle.hls_audit_watch.proofs.over.find_over_blocks.Goals as goal

pub loop-at-init : goal.loop-at-init
loop-at-init c = record {
  rate = c.parts-rate.ensures.parts;
  had = no_excess (parts c.args.x c.args.y) all_parts (2 * c.args.x * all_parts) (schedule_of c.args.served.now);
}

pub stays_within-requires-clause-small : goal.stays_within-requires-clause-small
stays_within-requires-clause-small c =
    let small = c.loop-at.invariant.had.small in omega (arith, small, c.most_excess-most.ensures.most)

pub loop-at-preserved : goal.loop-at-preserved
loop-at-preserved c =
    let sum : c.stays_within.new.self.had ≡
    c.loop-at.excess.had + all_parts * one_if (schedule_of c.args.served.now c.loop-at.at) - parts c.args.x c.args.y =
    c.stays_within.ensures.had
    ∙ ap
    (λ (r : ℕ). c.loop-at.excess.had + all_parts * one_if (schedule_of c.args.served.now c.loop-at.at) - r)
    c.loop-at.invariant.rate in
    let within = c.stays_within.ensures.within.0 c.if-not-stays_within.false in
    record {
      rate = c.stays_within.ensures.rate ∙ c.loop-at.invariant.rate;
      had = next_excess (parts c.args.x c.args.y) all_parts (2 * c.args.x * all_parts)
          (schedule_of c.args.served.now) c.loop-at.at c.loop-at.excess.had c.stays_within.new.self.had sum
          (omega (arith, within, c.most_excess-most.ensures.most)) c.loop-at.invariant.had;
    }

pub returns-then-not-stays_within : goal.returns-then-not-stays_within
returns-then-not-stays_within c =
    let sum : c.stays_within.new.self.had ≡
    c.loop-at.excess.had + all_parts * one_if (schedule_of c.args.served.now c.loop-at.at) - parts c.args.x c.args.y =
    c.stays_within.ensures.had
    ∙ ap
    (λ (r : ℕ). c.loop-at.excess.had + all_parts * one_if (schedule_of c.args.served.now c.loop-at.at) - r)
    c.loop-at.invariant.rate in
    blocks_found c.args.x c.args.y c.loop-at.at c.loop-at.excess.had c.stays_within.new.self.had c.args.served.now
    c.loop-at.invariant.had sum (elim (cases_lt c.most_excess-most.result c.stays_within.new.self.had) [
      | inl over ↦ omega (arith, over, c.most_excess-most.ensures.most)
      | inr le ↦
          absurd (let no : false ≡ true = sym c.if-not-stays_within.true ∙ c.stays_within.ensures.within.1 le in cc)
    ])

pub returns : goal.returns
returns c =
    blocks_nowhere c.args.x c.args.y c.loop-at.at c.loop-at.excess.had c.args.served.now c.loop-at.invariant.had
    (omega (arith, c.loop-at-test.false))
