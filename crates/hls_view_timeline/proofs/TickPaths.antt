-- The paths of a report, tick by tick.
use Rattle.std.proofs.Common.{◌≡◌, ℕ, ◌+◌, ◌<◌, List, [], ◌∷◌, ◌++◌, refl, ap, sym, subst, ◌∙◌}
use Rattle.std.proofs.Common.{length, get_or, inl, inr, arith}
use Rattle.std.specs.Prelude.{Option, None}
use Rattle.std.proofs.lemmas.Bool.{cases_eq}
use Rattle.std.proofs.Math.ListN.{get_or-append}
use Rattle.std.proofs.Math.Seq.{get_or-append_seam}
use Rattle.hls_text.specs.Lines.{Text}
use Rattle.hls_report_text.specs.declared.report.Path.{Path}
use Rattle.hls_report_text.specs.Content.{Content}
use Rattle.hls_view_timeline.specs.Inside.Paths.{IsPathOf, ArePaths}

pub length-last : {A : Type 0} (xs : List A) (x : A) → length (xs ++ x ∷ []) ≡ length xs + 1
length-last [] x = omega arith
length-last (y ∷ xs) x = let more = length-last xs x in omega (arith, more)

pub paths-none : (c : Content) (names : List Text) (paths : List (Option Path)) → paths ≡ []
    → ArePaths c names 0 paths
paths-none c names paths e = subst (ArePaths c names 0) (sym e) (record {
  long = refl;
  each = λ t lt. absurd (omega (arith, lt));
})

pub paths-more : (c : Content) (names : List Text) (t : ℕ) (paths more : List (Option Path)) (path : Option Path)
    → more ≡ paths ++ path ∷ [] → ArePaths c names t paths → IsPathOf c names t path → ArePaths c names (t + 1) more
paths-more c names t paths more path e so_far here = subst (ArePaths c names (t + 1)) (sym e) (record {
  long = length-last paths path ∙ ap (λ n. n + 1) so_far.long;
  each = λ i lt. elim (cases_eq i (length paths)) [
    | inl same ↦
        let is : get_or (paths ++ path ∷ []) i None ≡ path =
        ap (λ n. get_or (paths ++ path ∷ []) n None) same ∙ get_or-append_seam paths path [] None in
        let now : t ≡ i = sym (same ∙ so_far.long) in
        subst (λ (p : Option Path). IsPathOf c names i p) (sym is)
        (subst (λ n. IsPathOf c names n path) now here)
    | inr ne ↦
        let long = length-last paths path in
        let less : i < length paths = omega (arith, lt, ne, long) in
        subst (λ (p : Option Path). IsPathOf c names i p) (sym (get_or-append paths (path ∷ []) None i less))
        (so_far.each i less)
  ];
})
