-- The names of paths are no more than those that were noted.
use Rattle.std.proofs.Common.{◌≡◌, ℕ, zero, suc, ◌+◌, ◌^◌, ◌<◌, ◌≤◌, Bool, true, false, List, [], ◌∷◌}
use Rattle.std.proofs.Common.{◌++◌, length, get_or, map, take, refl, sym, ap, ◌∙◌, subst, arith, cond}
use Rattle.std.specs.Prelude.{Option, Some, None, not, ◌||◌, All}
use Rattle.std.specs.List.{list_any}
use Rattle.std.specs.Str.{bytes_eq}
use Rattle.std.proofs.lemmas.List.{length-append}
use Rattle.std.proofs.lemmas.List.Elements.{All-head, All-tail}
use Rattle.std.proofs.lemmas.Slice.Eq.{bytes_eq-Decides}
use Rattle.hls_text.specs.Lines.{Text}
use Rattle.hls_chron.specs.Ticks.{one_if}
use Rattle.hls_report_text.specs.declared.report.Path.{Path}
use Rattle.hls_report_text.specs.declared.report.Run.{Run}
use Rattle.hls_report_text.specs.Content.{path_names, stretch_of}
use Rattle.hls_report_text.specs.WellFormed.{with_name, with_names, with_path, FewNames}
use Rattle.hls_report_text.proofs.NameLaws.{AreIn, AreKnownIn}
use Rattle.hls_core_journal.specs.Ways.{names_by}
use Rattle.hls_core_journal.specs.Kept.{AreWithin}

-- whether a name is not yet known, and how many of some are not
abbrev new_to : List Text → Text → Bool
new_to known name = not (list_any (bytes_eq name) known)

abbrev unknown : List Text → List Text → ℕ
unknown known [] = 0
unknown known (name ∷ names) = one_if (new_to known name) + unknown known names

any_end : (name : Text) (known : List Text) (more : Text)
    → list_any (bytes_eq name) (known ++ more ∷ []) ≡ (list_any (bytes_eq name) known || bytes_eq name more)
any_end name [] more = by (bytes_eq name more)
  where
    by : (b : Bool) → (b || false) ≡ (false || b)
    by true = refl
    by false = refl
any_end name (k ∷ known) more = by (bytes_eq name k) (any_end name known more)
  where
    by : (b : Bool)
        → list_any (bytes_eq name) (known ++ more ∷ []) ≡ (list_any (bytes_eq name) known || bytes_eq name more)
        → (b || list_any (bytes_eq name) (known ++ more ∷ []))
        ≡ ((b || list_any (bytes_eq name) known) || bytes_eq name more)
    by true e = refl
    by false e = e

-- one more that is known leaves no more of one
one_less : (known : List Text) (more name : Text)
    → one_if (new_to (known ++ more ∷ []) name) ≤ one_if (new_to known name)
one_less known more name =
    subst (λ b. one_if (not b) ≤ one_if (new_to known name)) (sym (any_end name known more))
    (by (list_any (bytes_eq name) known) (bytes_eq name more))
  where
    by : (a b : Bool) → one_if (not (a || b)) ≤ one_if (not a)
    by true b = omega arith
    by false true = omega arith
    by false false = omega arith

no_more : (known : List Text) (more : Text) (names : List Text)
    → unknown (known ++ more ∷ []) names ≤ unknown known names
no_more known more [] = omega arith
no_more known more (name ∷ names) =
    let here = one_less known more name in
    let rest = no_more known more names in omega (arith, here, rest)

-- and one less where it is among them
one_here : (known : List Text) (more name : Text) → bytes_eq more name ≡ true
    → list_any (bytes_eq more) known ≡ false
    → one_if (new_to (known ++ more ∷ []) name) + 1 ≤ one_if (new_to known name)
one_here known more name same fresh =
    let e : more ≡ name = (bytes_eq-Decides more name).0 same in
    subst (λ n. one_if (new_to (known ++ more ∷ []) n) + 1 ≤ one_if (new_to known n)) e
    (subst (λ b. one_if (not b) + 1 ≤ one_if (new_to known more))
    (sym (any_end more known more ∙ ap (λ b. list_any (bytes_eq more) known || b) ((bytes_eq-Decides more more).1 refl)
    ∙ ap (λ b. b || true) fresh))
    (subst (λ b. 0 + 1 ≤ one_if (not b)) (sym fresh) (omega arith)))

fewer : (known : List Text) (more : Text) (names : List Text) → list_any (bytes_eq more) names ≡ true
    → list_any (bytes_eq more) known ≡ false → unknown (known ++ more ∷ []) names + 1 ≤ unknown known names
fewer known more [] there fresh = absurd (cc)
fewer known more (name ∷ names) there fresh =
    by (bytes_eq more name) refl there (λ e. fewer known more names e fresh)
  where
    by : (b : Bool) → bytes_eq more name ≡ b → (b || list_any (bytes_eq more) names) ≡ true
        → (list_any (bytes_eq more) names ≡ true → unknown (known ++ more ∷ []) names + 1 ≤ unknown known names)
        → one_if (new_to (known ++ more ∷ []) name) + unknown (known ++ more ∷ []) names + 1
        ≤ one_if (new_to known name) + unknown known names
    by true e f rest =
        let here = one_here known more name e fresh in
        let others = no_more known more names in omega (arith, here, others)
    by false e f rest =
        let here = one_less known more name in
        let others = rest f in omega (arith, here, others)

-- ---- known names, all of which are among some

abbrev Bounded : (names known : List Text) → Type 0
Bounded names known = length known + unknown known names ≤ length names

none_known : (names : List Text) → unknown [] names ≡ length names
none_known [] = refl
none_known (name ∷ names) = let rest = none_known names in omega (arith, rest)

bounded_name : (names known : List Text) (name : Text) → Bounded names known
    → list_any (bytes_eq name) names ≡ true → Bounded names (with_name known name)
bounded_name names known name few there = by (list_any (bytes_eq name) known) refl
  where
    by : (b : Bool) → list_any (bytes_eq name) known ≡ b → Bounded names (cond b known (known ++ name ∷ []))
    by true e = few
    by false e =
        let less = fewer known name names there e in
        let count = length-append known (name ∷ []) in omega (arith, less, count, few)

bounded_names : (names known more : List Text) → Bounded names known → AreKnownIn names more
    → Bounded names (with_names known more)
bounded_names names known [] few are = few
bounded_names names known (name ∷ more) few are =
    bounded_names names (with_name known name) more (bounded_name names known name few are.0) are.1

any_at : (names : List Text) (place : ℕ) → place < length names
    → list_any (bytes_eq (get_or names place [])) names ≡ true
any_at [] place lt = absurd (omega (arith, lt))
any_at (name ∷ names) zero lt =
    ap (λ b. b || list_any (bytes_eq name) names) ((bytes_eq-Decides name name).1 refl)
any_at (name ∷ names) (suc place) lt =
    by (bytes_eq (get_or names place []) name) (any_at names place (omega (arith, lt)))
  where
    by : (b : Bool) → list_any (bytes_eq (get_or names place [])) names ≡ true
        → (b || list_any (bytes_eq (get_or names place [])) names) ≡ true
    by true e = refl
    by false e = e

known_at : (names : List Text) (places : List ℕ) → AreIn names places
    → AreKnownIn names (map (λ place. get_or names place []) places)
known_at names [] within = tt
known_at names (place ∷ places) within = (any_at names place within.0, known_at names places within.1)

bounded_path : (names known : List Text) (path : Option Path) → Bounded names known
    → AreWithin (length names) path → Bounded names (with_path known (names_by names path))
bounded_path names known None few within = few
bounded_path names known (Some path) few within =
    bounded_names names known (path_names names path) few
    (known_at names (take path.len path.names) within)

runs_few : (names known : List Text) (runs : List Run) → Bounded names known → length names ≤ 2 ^ 16
    → All (λ (run : Run). AreWithin (length names) run.path) runs → FewNames known (map (stretch_of names) runs)
runs_few names known [] few most all = tt
runs_few names known (run ∷ runs) few most all =
    let P = λ (r : Run). AreWithin (length names) r.path in
    let next = bounded_path names known run.path few (All-head P run runs all) in (
      omega (arith, next, most),
      runs_few names (with_path known (names_by names run.path)) runs next most (All-tail P run runs all),
    )

pub few_names : (names : List Text) (runs : List Run) → length names ≤ 2 ^ 16
    → All (λ (run : Run). AreWithin (length names) run.path) runs → FewNames [] (map (stretch_of names) runs)
few_names names runs most all =
    runs_few names [] runs (let none = none_known names in omega (arith, none)) most all
