-- The sooner of two first numbers is the first of which the one or the other is so.
use Rattle.std.proofs.Common.{◌≡◌, ℕ, ◌⊎◌, Bool, true, false, refl, inl, inr, arith}
use Rattle.std.specs.Prelude.{Option, Some, None, nat_lt, cond}
use Rattle.std.proofs.lemmas.Bool.{ltb-true, ltb-false}
use Rattle.hls_audit_watch.specs.First.{IsFirstAt, FirstAt}
use Rattle.hls_audit_threads.specs.Inside.Least.{sooner_of}

-- R is so where P or Q is
pub record IsEither (P Q R : ℕ → Type 0) : Type 0 where
  pub left : (t : ℕ) → P t → R t
  pub right : (t : ℕ) → Q t → R t
  pub either : (t : ℕ) → R t → P t ⊎ Q t

sooner_by : (P Q R : ℕ → Type 0) (a b : ℕ) (v : Bool) → nat_lt b a ≡ v → IsEither P Q R → IsFirstAt P a →
    IsFirstAt Q b → FirstAt R (cond v (Some b) (Some a))
sooner_by P Q R a b true is e p q =
    let lt = ltb-true b a is in
    record {
      here = e.right b q.here;
      earliest = λ k early r. elim (e.either k r) [
        | inl s ↦ p.earliest k (omega (arith, early, lt)) s
        | inr s ↦ q.earliest k early s
      ];
    }
sooner_by P Q R a b false is e p q =
    let le = ltb-false b a is in
    record {
      here = e.left a p.here;
      earliest = λ k early r. elim (e.either k r) [
        | inl s ↦ p.earliest k early s
        | inr s ↦ q.earliest k (omega (arith, early, le)) s
      ];
    }

pub sooner_first : (P Q R : ℕ → Type 0) (one other : Option ℕ) → IsEither P Q R → FirstAt P one →
    FirstAt Q other → FirstAt R (sooner_of one other)
sooner_first P Q R None None e p q = λ t r. elim (e.either t r) [ inl s ↦ p t s | inr s ↦ q t s ]
sooner_first P Q R None (Some b) e p q = record {
  here = e.right b q.here;
  earliest = λ k early r. elim (e.either k r) [ inl s ↦ p k s | inr s ↦ q.earliest k early s ];
}
sooner_first P Q R (Some a) None e p q = record {
  here = e.left a p.here;
  earliest = λ k early r. elim (e.either k r) [ inl s ↦ p.earliest k early s | inr s ↦ q k s ];
}
sooner_first P Q R (Some a) (Some b) e p q = sooner_by P Q R a b (nat_lt b a) refl e p q
