use Rattle.std.proofs.Common.{◌<◌, true, length, length-set, arith, inl, inr, ◌∙◌}
use Rattle.std.proofs.lemmas.Bool.{cases_lt}
use Rattle.hls_audit_spans.proofs.Marks.{set_here, set_there}
use Rattle.hls_audit_spans.proofs.spans.turn_on.Goals as goal

pub loop-at-preserved : goal.loop-at-preserved
loop-at-preserved c =
    let list = c.loop-at.list in
    let at = c.loop-at.at in
    let v = c.loop-at.invariant in
    let test = c.loop-at-test.true in
    let long = v.long in
    let lower = v.lower in
    let within : at < length list = omega (arith, test, long, c.requires) in
    record {
      long = length-set list at true ∙ v.long;
      lower = omega (arith, lower);
      upper = λ some. omega (arith, test);
      on = λ t lo hi. elim (cases_lt t at) [
        | inl old ↦ set_there list at t (λ e. absurd (omega (arith, old, e))) ∙ v.on t lo old
        | inr new ↦ set_here list at t within (omega (arith, new, hi))
      ];
      before = λ t lt. set_there list at t (λ e. absurd (omega (arith, lt, lower, e))) ∙ v.before t lt;
      behind = λ t le. set_there list at t (λ e. absurd (omega (arith, le, e))) ∙ v.behind t (omega (arith, le));
    }

pub returns-clause-on : goal.returns-clause-on
returns-clause-on c = λ t lo hi. c.loop-at.invariant.on t lo (omega (arith, hi, c.loop-at-test.false))

pub returns-clause-behind : goal.returns-clause-behind
returns-clause-behind c = λ t le. elim (cases_lt t c.args.from) [
  | inl early ↦ c.loop-at.invariant.before t early
  | inr late ↦
      let lower = c.loop-at.invariant.lower in
      c.loop-at.invariant.behind t (elim (cases_lt c.args.from c.loop-at.at) [
        | inl some ↦ let upper = c.loop-at.invariant.upper some in omega (arith, upper, le)
        | inr none ↦ omega (arith, none, late)
      ])
]
