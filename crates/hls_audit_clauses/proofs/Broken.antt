-- A report is broken in one way.
use Rattle.std.proofs.Common.{◌≡◌, ℕ, inl, inr, ◌<◌, ◌≤◌, sym, subst, arith}
use Rattle.std.proofs.lemmas.Bool.{cases_lt}
use Rattle.hls_report_text.specs.Content.{Content}
use Rattle.hls_audit_clauses.specs.Clauses.{Fails}
use Rattle.hls_audit_clauses.specs.Kept.{IsBroken}

not_before : (c : Content) (n m t u : ℕ) → IsBroken c n t → IsBroken c m u → u ≤ t
not_before c n m t u f g = elim (cases_lt t u) [
  | inl lt ↦ absurd (g.earliest f.clause t lt f.fails)
  | inr le ↦ le
]

not_below : (c : Content) (n m t u : ℕ) → t ≡ u → IsBroken c n t → IsBroken c m u → m ≤ n
not_below c n m t u same f g = elim (cases_lt n m) [
  | inl lt ↦ absurd (g.least f.clause (subst (λ (k : ℕ). k < m) f.number_is lt)
      (subst (Fails f.clause c) same f.fails))
  | inr le ↦ le
]

pub broken_once : (c : Content) (n m t u : ℕ) → IsBroken c n t → IsBroken c m u → (t ≡ u) × (n ≡ m)
broken_once c n m t u f g =
    let late = not_before c n m t u f g in
    let soon = not_before c m n u t g f in
    let same : t ≡ u = omega (arith, late, soon) in
    let more = not_below c n m t u same f g in
    let less = not_below c m n u t (sym same) g f in
    (same, omega (arith, more, less))
