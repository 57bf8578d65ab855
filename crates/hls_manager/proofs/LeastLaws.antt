-- What one port more leaves of the least refusal so far.
use Rattle.std.proofs.Common.{◌≡◌, ◌⊎◌, inl, inr, ℕ, Option, Some, None, refl, ◌<◌, ◌≤◌, ◌+◌, arith, subst}
use Rattle.std.proofs.Common.{Bool, true, false}
use Rattle.std.specs.Prelude.{IfSome, nat_le, if◌then◌else◌}
use Rattle.std.proofs.lemmas.Bool.{cases_lt, leb-true, leb-false}
use Rattle.hls_report_text.specs.declared.refusal.Refusal.{Refusal}
use Rattle.hls_legal.specs.Answers.{number}
use Rattle.hls_manager.specs.Inside.Least.{lesser, IsLeastOf, IsLeastRefusal}

module _ (P : ℕ → Refusal → Type 0) (n : ℕ) where
  -- a port of the first n + 1
  at_one_more : (at : ℕ) → at < n + 1 → (at < n) ⊎ (at ≡ n)
  at_one_more at lt = elim (cases_lt at n) [
    | inl less ↦ inl less
    | inr le ↦ inr (omega (arith, lt, le))
  ]

  -- the next port has none
  module _ (none : (r : Refusal) → ¬ P n r) where
    none_here : (at : ℕ) (r : Refusal) → at < n + 1 → P at r → at < n
    none_here at r lt f = elim (at_one_more at lt) [
      | inl less ↦ less
      | inr here ↦ absurd (none r (subst (λ (k : ℕ). P k r) here f))
    ]

    pub less_by_none : (best : Option Refusal) → IsLeastRefusal P n best → IsLeastRefusal P (n + 1) best
    less_by_none None is = λ at other lt f. is at other (none_here at other lt f) f
    less_by_none (Some r) is =
        let port = is.port in
        let within = is.within in
        record {
          port = port;
          within = omega (arith, within);
          refuses = is.refuses;
          first = is.first;
          least = λ at other lt f. is.least at other (none_here at other lt f) f;
        }

  -- the next port has this one at least
  module _ (r : Refusal) (refuses : P n r) (least : (other : Refusal) → P n other → number r ≤ number other) where
    -- and it is the least so far
    newly : ((at : ℕ) (other : Refusal) → at < n → P at other → number r < number other) → IsLeastOf P (n + 1) r
    newly above = record {
      port = n;
      within = omega arith;
      refuses = refuses;
      first = above;
      least = λ at other lt f. elim (at_one_more at lt) [
        | inl less ↦ (let more = above at other less f in omega (arith, more))
        | inr here ↦ least other (subst (λ (k : ℕ). P k other) here f)
      ];
    }

    -- or that is from before
    kept : (best : Refusal) → IsLeastOf P n best → number best ≤ number r → IsLeastOf P (n + 1) best
    kept best is le =
        let within = is.within in
        record {
          port = is.port;
          within = omega (arith, within);
          refuses = is.refuses;
          first = is.first;
          least = λ at other lt f. elim (at_one_more at lt) [
            | inl less ↦ is.least at other less f
            | inr here ↦ (let more = least other (subst (λ (k : ℕ). P k other) here f) in omega (arith, le, more))
          ];
        }

    below : (best : Refusal) → IsLeastOf P n best → number r < number best → (at : ℕ) (other : Refusal) → at < n
        → P at other → number r < number other
    below best is lt at other less f = (let more = is.least at other less f in omega (arith, lt, more))

    pub less_by_one : (best : Option Refusal) → IsLeastRefusal P n best → IsLeastOf P (n + 1) (lesser best r)
    less_by_one None is = newly (λ at other lt f. absurd (is at other lt f))
    less_by_one (Some best) is = by (nat_le (number best) (number r)) refl
      where
        by : (b : Bool) → nat_le (number best) (number r) ≡ b → IsLeastOf P (n + 1) (if b then best else r)
        by true e = kept best is (leb-true (number best) (number r) e)
        by false e = newly (below best is (leb-false (number best) (number r) e))

-- what both have, the lesser has
pub lesser_keeps : (P : Refusal → Type 0) (best : Option Refusal) (r : Refusal) → IfSome best P → P r
    → P (lesser best r)
lesser_keeps P None r had has = has
lesser_keeps P (Some best) r had has = by (nat_le (number best) (number r))
  where
    by : (b : Bool) → P (if b then best else r)
    by true = had
    by false = has
