-- The runs of a report, tick by tick, and the names of their paths.
use Rattle.std.proofs.Common.{◌≡◌, ℕ, zero, suc, ◌+◌, ◌<◌, ◌≤◌, List, [], ◌∷◌, ◌++◌, refl, ap, sym, subst, ◌∙◌}
use Rattle.std.proofs.Common.{length, get_or, map, inl, inr, arith}
use Rattle.std.specs.List.{AllByRecursion}
use Rattle.std.proofs.lemmas.Bool.{cases_eq}
use Rattle.std.proofs.Math.ListN.{get_or-append}
use Rattle.std.proofs.Math.Seq.{get_or-append_seam}
use Rattle.hls_text.specs.Lines.{Text}
use Rattle.hls_chron.specs.Name.{IsName}
use Rattle.hls_report_text.specs.declared.report.Run.{Run}
use Rattle.hls_audit.specs.Inside.Leading.{IsReached}
use Rattle.hls_view_lanes.specs.Inside.Paths.{AreRuns}

length-last : {A : Type 0} (xs : List A) (x : A) → length (xs ++ x ∷ []) ≡ length xs + 1
length-last [] x = omega arith
length-last (y ∷ xs) x = let more = length-last xs x in omega (arith, more)

pub runs-none : (runs : List Run) (all : List ℕ) → all ≡ [] → AreRuns runs 0 all
runs-none runs all e = subst (AreRuns runs 0) (sym e) (record {
  long = refl;
  each = λ t lt. absurd (omega (arith, lt));
})

pub runs-more : (runs : List Run) (t : ℕ) (all more : List ℕ) (at : ℕ) → more ≡ all ++ at ∷ [] → AreRuns runs t all
    → IsReached runs (t + 1) at → AreRuns runs (t + 1) more
runs-more runs t all more at e so_far here = subst (AreRuns runs (t + 1)) (sym e) (record {
  long = length-last all at ∙ ap (λ n. n + 1) so_far.long;
  each = λ i lt. elim (cases_eq i (length all)) [
    | inl same ↦
        let is : get_or (all ++ at ∷ []) i 0 ≡ at =
        ap (λ n. get_or (all ++ at ∷ []) n 0) same ∙ get_or-append_seam all at [] 0 in
        let now : t ≡ i = sym (same ∙ so_far.long) in
        subst (λ n. IsReached runs (i + 1) n) (sym is)
        (subst (λ n. IsReached runs (n + 1) at) now here)
    | inr ne ↦
        let long = length-last all at in
        let less : i < length all = omega (arith, lt, ne, long) in
        subst (λ n. IsReached runs (i + 1) n) (sym (get_or-append all (at ∷ []) 0 i less))
        (so_far.each i less)
  ];
})

-- ---- the names of a path

past : (names : List Text) (place : ℕ) → length names ≤ place → get_or names place [] ≡ []
past [] place le = refl
past (name ∷ names) zero le = absurd (omega (arith, le))
past (name ∷ names) (suc place) le = past names place (omega (arith, le))

named_at : (names : List Text) (places : List ℕ) (i : ℕ)
    → AllByRecursion IsName (map (λ place. get_or names place []) places) → i < length places
    → IsName (get_or names (get_or places i 0) [])
named_at names [] i named lt = absurd (omega (arith, lt))
named_at names (place ∷ places) zero named lt = named.0
named_at names (place ∷ places) (suc i) named lt = named_at names places i named.1 (omega (arith, lt))

-- each place has a name
pub name-there : (names : List Text) (places : List ℕ) (i : ℕ)
    → AllByRecursion IsName (map (λ place. get_or names place []) places) → i < length places
    → length names ≤ get_or places i 0 → ⊥
name-there names places i named lt le =
    let none : get_or names (get_or places i 0) [] ≡ [] = past names (get_or places i 0) le in
    let bad : IsName [] = subst (λ (t : Text). IsName t) none (named_at names places i named lt) in
    absurd (cc bad)
