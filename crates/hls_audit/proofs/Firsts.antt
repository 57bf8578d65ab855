-- The first tick of each clause, and the least failure of all.
use Rattle.std.proofs.Common.{◌≡◌, ℕ, zero, suc, ◌+◌, ◌<◌, ◌≤◌, inl, inr, ◌⊎◌, refl, sym, ap, ◌∙◌, subst, arith}
use Rattle.std.specs.Prelude.{Bool, true, false, Option, Some, None, cond, nat_lt}
use Rattle.std.proofs.lemmas.Bool.{cases_lt, ltb-true, ltb-false, lt-ltb}
use Rattle.hls_report_text.specs.Content.{Content}
use Rattle.hls_report_text.specs.WellFormed.{IsContent}
use Rattle.hls_audit_clauses.specs.Clauses.{Clause, Placed, Leading, Ready, Supplied, Capped, Derived, Counted}
use Rattle.hls_audit_clauses.specs.Clauses.{number_of, Fails, IsAstray, RunsUnready, IsStarved, IsOverCap}
use Rattle.hls_audit_clauses.specs.Clauses.{IsMisplacedAt, IsUnderivedAt}
use Rattle.hls_audit.specs.declared.auditing.Outcome.{Outcome}
use Rattle.hls_audit.specs.declared.auditing.Outcome.TheVariants.{Kept, Broken}
use Rattle.hls_audit.specs.Audits.{IsAudit}
use Rattle.hls_audit_watch.specs.First.{IsFirstAt, FirstAt}
use Rattle.hls_audit.specs.Least.{IsLeastFailure, LeastOf}
use Rattle.hls_audit.specs.Inside.Failing.{sooner, bound}
use Rattle.hls_audit_threads.proofs.Formed.{stay_ends, command_early}
use Rattle.hls_audit_threads.proofs.OnPaths.{path_early}

-- ---- from the horizon on

pub astray_early : (c : Content) (t : ℕ) → IsContent c → IsAstray c t → t < c.horizon
astray_early c t formed m = path_early c t m.names formed m.path

pub unready_early : (c : Content) (t : ℕ) → IsContent c → RunsUnready c t → t < c.horizon
unready_early c t formed m = path_early c t m.names formed m.path

pub starved_early : (c : Content) (t : ℕ) → IsContent c → IsStarved c t → t < c.horizon
starved_early c t formed m =
    let ends = stay_ends c m.stay m.now.number formed m.now.listed in
    let now = m.now.until in omega (arith, ends, now)

pub over_early : (c : Content) (t : ℕ) → IsContent c → IsOverCap c t → t < c.horizon
over_early c t formed m =
    let ends = stay_ends c m.stay m.now.number formed m.now.listed in
    let now = m.now.until in omega (arith, ends, now)

-- ---- clauses by their numbers

clause_of : ℕ → Clause
clause_of zero = Placed
clause_of (suc zero) = Placed
clause_of (suc (suc zero)) = Leading
clause_of (suc (suc (suc zero))) = Ready
clause_of (suc (suc (suc (suc zero)))) = Supplied
clause_of (suc (suc (suc (suc (suc zero))))) = Capped
clause_of (suc (suc (suc (suc (suc (suc zero)))))) = Derived
clause_of (suc (suc (suc (suc (suc (suc (suc n))))))) = Counted

back : (a : Clause) → clause_of (number_of a) ≡ a
unfolding clause_of
back Placed = refl
back Leading = refl
back Ready = refl
back Supplied = refl
back Capped = refl
back Derived = refl
back Counted = refl

number_le : (a : Clause) → number_of a ≤ 7
number_le Placed = omega arith
number_le Leading = omega arith
number_le Ready = omega arith
number_le Supplied = omega arith
number_le Capped = omega arith
number_le Derived = omega arith
number_le Counted = omega arith

number_some : (a : Clause) → 1 ≤ number_of a
number_some Placed = omega arith
number_some Leading = omega arith
number_some Ready = omega arith
number_some Supplied = omega arith
number_some Capped = omega arith
number_some Derived = omega arith
number_some Counted = omega arith

number_same : (a b : Clause) → number_of a ≡ number_of b → a ≡ b
number_same a b e = sym (back a) ∙ ap clause_of e ∙ back b

-- one clause more
at_most : (few : ℕ) (other which : Clause) → number_of which ≡ few + 1 → number_of other ≤ few + 1
    → (number_of other ≤ few) ⊎ (other ≡ which)
at_most few other which is le = elim (cases_lt few (number_of other)) [
  | inl lt ↦ inr (number_same other which (omega (arith, is, le, lt)))
  | inr less ↦ inl less
]

-- ---- the least failure

pub least_none : (c : Content) → LeastOf c 0 Kept
least_none c clause t le = absurd (let some = number_some clause in omega (arith, some, le))

module _ (c : Content) (few : ℕ) (which : Clause) (is : number_of which ≡ few + 1) where
  none_kept : LeastOf c few Kept → ((t : ℕ) → ¬ Fails which c t) → LeastOf c (few + 1) Kept
  none_kept old none clause t le = elim (at_most few clause which is le) [
    | inl less ↦ old clause t less
    | inr same ↦ subst (λ (x : Clause). ¬ Fails x c t) (sym same) (none t)
  ]

  none_broken : (number s : ℕ) → IsLeastFailure c few number s → ((t : ℕ) → t < s → ¬ Fails which c t)
      → IsLeastFailure c (few + 1) number s
  none_broken number s old none = record {
    clause = old.clause;
    number_is = old.number_is;
    among = let few = old.among in omega (arith, few);
    fails = old.fails;
    earliest = λ other before le lt. elim (at_most few other which is le) [
      | inl less ↦ old.earliest other before less lt
      | inr same ↦ subst (λ (x : Clause). ¬ Fails x c before) (sym same) (none before lt)
    ];
    least = old.least;
  }

  new_broken : (t : ℕ) → ((other : Clause) (before : ℕ) → number_of other ≤ few → before ≤ t → ¬ Fails other c before)
      → IsFirstAt (Fails which c) t → IsLeastFailure c (few + 1) (few + 1) t
  new_broken t old first = record {
    clause = which;
    number_is = sym is;
    among = omega arith;
    fails = first.here;
    earliest = λ other before le lt. elim (at_most few other which is le) [
      | inl less ↦ old other before less (omega (arith, lt))
      | inr same ↦ subst (λ (x : Clause). ¬ Fails x c before) (sym same) (first.earliest before lt)
    ];
    least = λ other less. old other t (omega (arith, less)) (omega arith);
  }

  either : (number s t : ℕ) (b : Bool) → nat_lt t s ≡ b → IsLeastFailure c few number s → IsFirstAt (Fails which c) t
      → LeastOf c (few + 1) (cond b (Broken (few + 1) t) (Broken number s))
  either number s t true e old first =
      let lt : t < s = ltb-true t s e in
      new_broken t (λ other before le less. old.earliest other before le (omega (arith, less, lt))) first
  either number s t false e old first =
      let le : s ≤ t = ltb-false t s e in
      none_broken number s old (λ before less. first.earliest before (omega (arith, less, le)))

  pub least_more : (found : Outcome) (first : Option ℕ) → LeastOf c few found → FirstAt (Fails which c) first
      → LeastOf c (few + 1) (sooner found (few + 1) first)
  least_more Kept None old none = none_kept old none
  least_more (Broken number s) None old none = none_broken number s old (λ t lt. none t)
  least_more Kept (Some t) old first = new_broken t (λ other before le less. old other before le) first
  least_more (Broken number s) (Some t) old first = either number s t (nat_lt t s) refl old first

pub least_all : (c : Content) (found : Outcome) → LeastOf c 7 found → IsAudit c found
least_all c Kept none = λ clause t. none clause t (number_le clause)
least_all c (Broken number t) least = record {
  clause = least.clause;
  number_is = least.number_is;
  fails = least.fails;
  earliest = λ other before lt. least.earliest other before (number_le other) lt;
  least = least.least;
}

-- a clause that was tested below the failure alone
below_more : (c : Content) (few : ℕ) (which : Clause) (found : Outcome) (first : Option ℕ)
    → number_of which ≡ few + 1 → ((t : ℕ) → Fails which c t → t < c.horizon) → LeastOf c few found
    → FirstAt (λ t. Fails which c t × (t < bound found c.horizon)) first
    → LeastOf c (few + 1) (sooner found (few + 1) first)
below_more c few which Kept None is early old none =
    none_kept c few which is old (λ t fails. none t (fails, early t fails))
below_more c few which (Broken number s) None is early old none =
    none_broken c few which is number s old (λ t lt fails. none t (fails, lt))
below_more c few which Kept (Some t) is early old first =
    new_broken c few which is t (λ other before le less. old other before le)
    (record { here = first.here.0; earliest = λ k lt fails. first.earliest k lt (fails, early k fails) })
below_more c few which (Broken number s) (Some t) is early old first =
    let lt : t < s = first.here.1 in
    let on : nat_lt t s ≡ true = lt-ltb t s lt in
    subst (λ b. LeastOf c (few + 1) (cond b (Broken (few + 1) t) (Broken number s))) (sym on)
    (new_broken c few which is t
    (λ other before le less. old.earliest other before le (omega (arith, less, lt)))
    (record {
      here = first.here.0;
      earliest = λ k less fails. first.earliest k less (fails, omega (arith, less, lt));
    }))

pub step_below : (c : Content) (few next : ℕ) (which : Clause) (found more : Outcome) (first : Option ℕ) (end : ℕ)
    → next ≡ few + 1 → number_of which ≡ next → more ≡ sooner found next first → end ≡ bound found c.horizon
    → ((t : ℕ) → Fails which c t → t < c.horizon) → LeastOf c few found
    → FirstAt (λ t. Fails which c t × (t < end)) first → LeastOf c next more
step_below c few next which found more first end e is made at early old new =
    subst (LeastOf c next) (sym made)
    (subst (λ (n : ℕ). LeastOf c n (sooner found n first)) (sym e)
    (below_more c few which found first (is ∙ e) early old
    (subst (λ (n : ℕ). FirstAt (λ t. Fails which c t × (t < n)) first) at new)))

-- below the failure the clauses so far hold
pub placed_to : (c : Content) (few end : ℕ) (found : Outcome) → 1 ≤ few → end ≡ bound found c.horizon
    → LeastOf c few found → (t : ℕ) → t < end → ¬ IsMisplacedAt c t
placed_to c few end Kept some at old t lt = old Placed t some
placed_to c few end (Broken number s) some at old t lt = old.earliest Placed t some (omega (arith, at, lt))

pub underived_early : (c : Content) → IsContent c → (t : ℕ) → IsUnderivedAt c t → t < c.horizon
underived_early c formed t m =
    let early = command_early c m.a m.at formed m.command.there in
    let now = m.command.tick in omega (arith, early, now)

pub step : (c : Content) (few next : ℕ) (which : Clause) (found more : Outcome) (first : Option ℕ) → next ≡ few + 1
    → number_of which ≡ next → more ≡ sooner found next first → LeastOf c few found → FirstAt (Fails which c) first
    → LeastOf c next more
step c few next which found more first e is made old new =
    subst (LeastOf c next) (sym made)
    (subst (λ (n : ℕ). LeastOf c n (sooner found n first)) (sym e)
    (least_more c few which (is ∙ e) found first old new))
