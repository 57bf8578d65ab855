-- Which step of a derivation fails first, and that a derivation is one where none does.
use Rattle.std.proofs.Common.{◌≡◌, ℕ, ◌+◌, List, length, refl, sym, subst, arith, inl, inr}
use Rattle.std.specs.Prelude.{Some, None, slice_get}
use Rattle.std.proofs.lemmas.Bool.{cases_lt}
use Rattle.std.proofs.lemmas.Option.{slice_get_within}
use Rattle.hls_guarantee.specs.declared.Guarantee.{Guarantee}
use Rattle.hls_derive.specs.declared.derivation.Place.{Place}
use Rattle.hls_derive.specs.declared.derivation.Step.{Step}
use Rattle.hls_derive.specs.declared.derivation.Derivation.{Derivation}
use Rattle.hls_derive.specs.Derivation.{end_of, last_of}
use Rattle.hls_derive.specs.Derives.{IsDerivation}
use Rattle.hls_check.specs.Checking.{FindsWrong, LendsAt, StepHolds, FailsFirst}
use Rattle.hls_check.proofs.Stepping.{follows-at, at-follows}

pub fails-start : {place : Place} {haves : List Guarantee} {want : Guarantee} {d : Derivation}
    → (slice_get haves d.sched.port ≡ Some d.from → ⊥) → FailsFirst place haves want d 0
fails-start not = record {
  before = λ j below. absurd (omega arith);
  fails = λ holds. not (holds.starts refl);
}

pub fails-before : {place : Place} {haves : List Guarantee} {want : Guarantee} {d : Derivation} (before :
    List Step)
    (at : ℕ) → before ≡ d.before → slice_get haves d.sched.port ≡ Some d.from
    → FindsWrong d.from before (Some at) → FailsFirst place haves want d (1 + at)
fails-before {place} {haves} {want} {d} before at same starts wrong =
    let found : FindsWrong d.from d.before (Some at) = subst (λ v. FindsWrong d.from v (Some at)) same wrong
    in
    let within = found.0 in
    record {
      before = λ j below. record {
        starts = λ _. starts;
        before = λ i is. found.1 i (omega arith);
        sched = λ is. absurd (omega arith);
        after = λ i is. absurd (omega arith);
        ends = λ is. absurd (omega arith);
      };
      fails = λ holds. found.2 (holds.before at refl);
    }

pub fails-sched : {place : Place} {haves : List Guarantee} {want : Guarantee} {d : Derivation} (before :
    List Step)
    → before ≡ d.before → slice_get haves d.sched.port ≡ Some d.from → FindsWrong d.from before None
    → (LendsAt place (end_of d.from before) d.sched → ⊥) → FailsFirst place haves want d (1 + length before)
fails-sched {place} {haves} {want} {d} before same starts held not =
    let P : List Step → Type 0 = λ v. FindsWrong d.from v None → (LendsAt place (end_of d.from v) d.sched → ⊥)
    → FailsFirst place haves want d (1 + length v) in
    let at : P d.before = λ all lacks. record {
      before = λ j below. record {
        starts = λ _. starts;
        before = λ i is. all i;
        sched = λ is. absurd (omega arith);
        after = λ i is. absurd (omega arith);
        ends = λ is. absurd (omega arith);
      };
      fails = λ holds. lacks (holds.sched refl);
    } in
    subst P (sym same) at held not

pub fails-after : {place : Place} {haves : List Guarantee} {want : Guarantee} {d : Derivation}
    (before after : List Step) (at : ℕ) → before ≡ d.before → after ≡ d.after
    → slice_get haves d.sched.port ≡ Some d.from → FindsWrong d.from before None
    → LendsAt place (end_of d.from before) d.sched → FindsWrong d.sched.to after (Some at)
    → FailsFirst place haves want d (1 + length before + 1 + at)
fails-after {place} {haves} {want} {d} before after at same rest starts held lends wrong =
    let P : List Step → Type 0 = λ v. FindsWrong d.from v None → LendsAt place (end_of d.from v) d.sched
    → FailsFirst place haves want d (1 + length v + 1 + at) in
    let found : FindsWrong d.sched.to d.after (Some at) =
    subst (λ v. FindsWrong d.sched.to v (Some at)) rest wrong in
    let within = found.0 in
    let there : P d.before = λ all step. record {
      before = λ j below. record {
        starts = λ _. starts;
        before = λ i is. all i;
        sched = λ is. step;
        after = λ i is. found.1 i (omega arith);
        ends = λ is. absurd (omega arith);
      };
      fails = λ holds. found.2 (holds.after at (omega arith));
    } in
    subst P (sym same) there held lends

pub fails-end : {place : Place} {haves : List Guarantee} {want : Guarantee} {d : Derivation}
    (before after : List Step) → before ≡ d.before → after ≡ d.after
    → slice_get haves d.sched.port ≡ Some d.from → FindsWrong d.from before None
    → LendsAt place (end_of d.from before) d.sched → FindsWrong d.sched.to after None
    → (last_of d ≡ want → ⊥) → FailsFirst place haves want d (1 + length before + 1 + length after)
fails-end {place} {haves} {want} {d} before after same rest starts held lends follow not =
    let P : List Step → List Step → Type 0 = λ v w. FindsWrong d.from v None
    → LendsAt place (end_of d.from v) d.sched → FindsWrong d.sched.to w None
    → FailsFirst place haves want d (1 + length v + 1 + length w) in
    let there : P d.before d.after = λ all step more. record {
      before = λ j below. record {
        starts = λ _. starts;
        before = λ i is. all i;
        sched = λ is. step;
        after = λ i is. more i;
        ends = λ is. absurd (omega arith);
      };
      fails = λ holds. not (holds.ends (omega arith));
    } in
    subst (λ v. P v after) (sym same) (subst (λ w. P d.before w) (sym rest) there) held lends follow

pub holds-derivation : {place : Place} {haves : List Guarantee} {want : Guarantee} {d : Derivation}
    (before after : List Step) → before ≡ d.before → after ≡ d.after
    → slice_get haves d.sched.port ≡ Some d.from → FindsWrong d.from before None
    → LendsAt place (end_of d.from before) d.sched → FindsWrong d.sched.to after None → last_of d ≡ want
    → IsDerivation place haves want d
holds-derivation {place} {haves} {want} {d} before after same rest starts held lends follow ends =
    let step : LendsAt place (end_of d.from d.before) d.sched =
    subst (λ v. LendsAt place (end_of d.from v) d.sched) same lends in
    record {
      starts = starts;
      before = at-follows d.from d.before (subst (λ v. FindsWrong d.from v None) same held);
      kind = step.kind;
      sched = record { has = slice_get_within haves d.sched.port d.from starts; through = step.lends };
      after = at-follows d.sched.to d.after (subst (λ v. FindsWrong d.sched.to v None) rest follow);
      ends = ends;
    }

pub derivation-holds : (place : Place) (haves : List Guarantee) (want : Guarantee) (d : Derivation)
    → IsDerivation place haves want d → (k : ℕ) → StepHolds place haves want d k
derivation-holds place haves want d is k = record {
  starts = λ _. is.starts;
  before = λ i _. follows-at d.from d.before is.before i;
  sched = λ _. record { kind = is.kind; lends = is.sched.through };
  after = λ i _. follows-at d.sched.to d.after is.after i;
  ends = λ _. is.ends;
}

pub first-same : (place : Place) (haves : List Guarantee) (want : Guarantee) (d : Derivation) (j k : ℕ)
    → FailsFirst place haves want d j → FailsFirst place haves want d k → j ≡ k
first-same place haves want d j k one two = elim (cases_lt j k) [
  | inl less ↦ absurd (one.fails (two.before j less))
  | inr more ↦ elim (cases_lt k j) [
    | inl less ↦ absurd (two.fails (one.before k less))
    | inr most ↦ omega arith
  ]
]

pub steps-derivation : (place : Place) (haves : List Guarantee) (want : Guarantee) (d : Derivation)
    → ((k : ℕ) → StepHolds place haves want d k) → IsDerivation place haves want d
steps-derivation place haves want d hold =
    holds-derivation d.before d.after refl refl ((hold 0).starts refl) (λ i. (hold (1 + i)).before i refl)
    ((hold (1 + length d.before)).sched refl) (λ i. (hold (2 + length d.before + i)).after i refl)
    ((hold (2 + length d.before + length d.after)).ends refl)
