-- The greatest bound so far, with one job more.
use Rattle.std.proofs.Common.{◌≡◌, ℕ, zero, suc, ◌+◌, ◌<◌, ◌≤◌, List, [], ◌∷◌}
use Rattle.std.proofs.Common.{inl, inr, refl, sym, ap, ◌∙◌, subst, arith}
use Rattle.std.proofs.Common.{length, get_or}
use Rattle.std.specs.Prelude.{Option, Some, None, nat_lt, max}
use Rattle.std.proofs.lemmas.Bool.{cases_Bool, cases_eq, ltb-true, ltb-false}
use Rattle.hls_view_jobs.specs.declared.job.Job.{Job}
use Rattle.hls_view_jobs.specs.Summaries.{IsAtMost, IsGreatestBound}
use Rattle.hls_view_jobs.specs.Inside.Running.{greater, IsGreatestSoFar}

-- what holds below a number, and at it, holds below the next
below_next : (P : ℕ → Type 0) (i : ℕ) → ((k : ℕ) → k < i → P k) → P i → (k : ℕ) → k < i + 1 → P k
below_next P i below here k lt = elim (cases_eq k i) [
  | inl same ↦ subst P (sym same) here
  | inr other ↦ below k (omega (arith, lt, other))
]

-- ---- the greatest bound

at_most_more : (most more : ℕ) (o : Option ℕ) → most ≤ more → IsAtMost most o → IsAtMost more o
at_most_more most more None le is = is
at_most_more most more (Some bound) le is = omega (arith, le, is)

bound_at : (most n : ℕ) (o : Option ℕ) → o ≡ Some n → n ≤ most → IsAtMost most o
bound_at most n o e le = subst (IsAtMost most) (sym e) le

one_more : (jobs : List Job) (i : ℕ) (o : Option ℕ) (bound : ℕ) → ((d : Job) → (get_or jobs i d).bound ≡ Some bound)
    → IsGreatestSoFar jobs i o → IsGreatestBound jobs (i + 1) (greater o bound)
one_more jobs i None bound is none = record {
  place = i;
  before = omega arith;
  there = is;
  all = λ k d early. below_next (λ k. IsAtMost bound (get_or jobs k d).bound) i
      (λ k lt. absurd (omega (arith, lt, none)))
      (bound_at bound bound (get_or jobs i d).bound (is d) (omega arith)) k early;
}
one_more jobs i (Some most) bound is so = elim (cases_Bool (nat_lt most bound)) [
  | inl less ↦
      let lt = ltb-true most bound less in
      let same : max most bound ≡ bound = omega (arith, lt) in
      rw same (record {
        place = i;
        before = omega arith;
        there = is;
        all = λ k d early. below_next (λ k. IsAtMost bound (get_or jobs k d).bound) i
            (λ k below. at_most_more most bound (get_or jobs k d).bound (omega (arith, lt)) (so.all k d below))
            (bound_at bound bound (get_or jobs i d).bound (is d) (omega arith)) k early;
      })
  | inr more ↦
      let le = ltb-false most bound more in
      let same : max most bound ≡ most = omega (arith, le) in
      let before = so.before in
      rw same (record {
        place = so.place;
        before = omega (arith, before);
        there = so.there;
        all = λ k d early. below_next (λ k. IsAtMost most (get_or jobs k d).bound) i (λ k below. so.all k d below)
            (bound_at most bound (get_or jobs i d).bound (is d) le) k early;
      })
]

same_default : (jobs : List Job) (i : ℕ) (d e : Job) → i < length jobs → get_or jobs i d ≡ get_or jobs i e
same_default [] i d e lt = absurd (omega (arith, lt))
same_default (job ∷ jobs) zero d e lt = refl
same_default (job ∷ jobs) (suc i) d e lt = same_default jobs i d e (omega (arith, lt))

pub bound_next : (jobs : List Job) (i : ℕ) (o : Option ℕ) (job : Job) (bound : ℕ) → i < length jobs
    → (get_or jobs i job).bound ≡ Some bound → IsGreatestSoFar jobs i o
    → IsGreatestBound jobs (i + 1) (greater o bound)
bound_next jobs i o job bound lt e so =
    one_more jobs i o bound (λ d. ap (λ (j : Job). j.bound) (same_default jobs i d job lt) ∙ e) so
