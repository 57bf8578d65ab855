-- The run of a tick, and the names of its path.
use Rattle.std.proofs.Common.{◌≡◌, ℕ, zero, suc, ◌+◌, ◌<◌, ◌≤◌, List, [], ◌∷◌, ◌++◌, refl, sym, ap, ◌∙◌, subst, arith}
use Rattle.std.proofs.Common.{length, get_or, take, map}
use Rattle.std.specs.Prelude.{Bool, true, false, cond, Option, Some, None, find, option_map, option_and_then, slice_get}
use Rattle.std.proofs.Math.Seq.{take-suc}
use Rattle.std.specs.List.{AllByRecursion}
use Rattle.std.proofs.lemmas.List.{map-append}
use Rattle.hls_text.specs.Lines.{Text}
use Rattle.hls_chron.specs.Name.{IsName}
use Rattle.hls_report_text.specs.declared.report.Run.{Run}
use Rattle.hls_report_text.specs.declared.report.Path.{Path}
use Rattle.hls_report_text.specs.declared.stretch.Stretch.{Stretch}
use Rattle.hls_report_text.specs.Content.{path_names, stretch_of}
use Rattle.hls_report_text.specs.WellFormed.{Cover, IsPath, HasShort}
use Rattle.hls_legal.specs.Schedule.{has_tick, path_at}
use Rattle.hls_view_tree.specs.Inside.Runs.{is_run_of}

-- the stretch of a tick is that of its run
stretch_found : (names : List Text) (runs : List Run) (t : ℕ)
    → find (has_tick t) (map (stretch_of names) runs) ≡ option_map (stretch_of names) (find (is_run_of t) runs)
stretch_found names [] t = refl
stretch_found names (run ∷ runs) t =
    elim (is_run_of t run) as (λ b.
    cond b (Some (stretch_of names run)) (find (has_tick t) (map (stretch_of names) runs))
    ≡ option_map (stretch_of names) (cond b (Some run) (find (is_run_of t) runs)))
    [ true ↦ refl | false ↦ stretch_found names runs t ]

pub path_found : (names : List Text) (runs : List Run) (t : ℕ) (found : Option Run) → found ≡ find (is_run_of t) runs
    → path_at (map (stretch_of names) runs) t
    ≡ option_and_then (λ (s : Stretch). s.path) (option_map (stretch_of names) found)
unfolding path_at
path_found names runs t found is =
    ap (option_and_then (λ (s : Stretch). s.path)) (stretch_found names runs t
    ∙ ap (option_map (stretch_of names)) (sym is))

-- what holds of all runs holds of the one that is found
abbrev pub HoldsIn : {X : Type 0} → (X → Type 0) → Option X → Type 0
HoldsIn P None = Unit {0}
HoldsIn P (Some x) = P x

found_holds : {X : Type 0} (P : X → Type 0) (test : X → Bool) (xs : List X) → AllByRecursion P xs
    → HoldsIn P (find test xs)
found_holds P test [] all = tt
found_holds P test (x ∷ xs) all =
    elim (test x) as (λ b. HoldsIn P (cond b (Some x) (find test xs)))
    [ true ↦ all.0 | false ↦ found_holds P test xs all.1 ]

paths_in : (names : List Text) (from : ℕ) (last : Option (Option (List Text))) (runs : List Run) (end : ℕ)
    → Cover from last (map (stretch_of names) runs) end
    → AllByRecursion (λ (run : Run). IsPath (option_map (path_names names) run.path)) runs
paths_in names from last [] end cover = tt
paths_in names from last (run ∷ runs) end cover =
    (cover.2, paths_in names (run.to + 1) (Some (option_map (path_names names) run.path)) runs end cover.4)

some_of : {X : Type 0} (P : X → Type 0) (found : Option X) (x : X) → found ≡ Some x → HoldsIn P found → P x
some_of P None x e holds = absurd (cc)
some_of P (Some y) x e holds = subst P (let same : y ≡ x = cc in same) holds

pub short_found : (runs : List Run) (t : ℕ) (run : Run) (path : Path)
    → AllByRecursion (λ (run : Run). HasShort run.path) runs → find (is_run_of t) runs ≡ Some run
    → run.path ≡ Some path → path.len ≤ 9
short_found runs t run path all is e =
    subst HasShort e (some_of (λ (run : Run). HasShort run.path) (find (is_run_of t) runs) run is
    (found_holds (λ (run : Run). HasShort run.path) (is_run_of t) runs all))

pub named_found : (names : List Text) (runs : List Run) (end t : ℕ) (run : Run) (path : Path)
    → Cover 0 None (map (stretch_of names) runs) end → find (is_run_of t) runs ≡ Some run → run.path ≡ Some path
    → AllByRecursion IsName (path_names names path)
named_found names runs end t run path cover is e =
    let P : Run → Type 0 = λ (run : Run). IsPath (option_map (path_names names) run.path) in
    let whole : IsPath (option_map (path_names names) run.path) =
    some_of P (find (is_run_of t) runs) run is
    (found_holds P (is_run_of t) runs (paths_in names 0 None runs end cover)) in
    (subst (λ (p : Option Path). IsPath (option_map (path_names names) p)) e whole).1

-- a name of a path is among those that the report has
each_named : (names : List Text) (places : List ℕ) (at : ℕ) → at < length places
    → AllByRecursion IsName (map (λ place. get_or names place []) places)
    → IsName (get_or names (get_or places at 0) [])
each_named names [] at lt all = absurd (omega (arith, lt))
each_named names (first ∷ places) zero lt all = all.0
each_named names (first ∷ places) (suc at) lt all = each_named names places at (omega (arith, lt)) all.1

got_none : (names : List Text) (place : ℕ) → slice_get names place ≡ None → get_or names place [] ≡ []
got_none [] zero e = refl
got_none [] (suc place) e = refl
got_none (name ∷ names) zero e = absurd (cc)
got_none (name ∷ names) (suc place) e = got_none names place e

got_some : (names : List Text) (place : ℕ) (name : Text) → slice_get names place ≡ Some name
    → get_or names place [] ≡ name
got_some [] zero name e = absurd (cc)
got_some [] (suc place) name e = absurd (cc)
got_some (first ∷ names) zero name e = cc
got_some (first ∷ names) (suc place) name e = got_some names place name e

pub never_missing : (names : List Text) (places : List ℕ) (at : ℕ) → at < length places
    → AllByRecursion IsName (map (λ place. get_or names place []) places) → slice_get names (get_or places at 0) ≡ None
    → ⊥
never_missing names places at lt all none =
    let bad : IsName [] = subst (λ (t : Text). IsName t) (got_none names (get_or places at 0) none)
    (each_named names places at lt all) in
    absurd (cc bad)

pub named_more : (names : List Text) (places : List ℕ) (at : ℕ) (name : Text) (items more : List Text)
    → at < length places → slice_get names (get_or places at 0) ≡ Some name → more ≡ items ++ name ∷ []
    → items ≡ map (λ place. get_or names place []) (take at places)
    → more ≡ map (λ place. get_or names place []) (take (at + 1) places)
named_more names places at name items more lt there new are =
    let g : ℕ → Text = λ place. get_or names place [] in
    new
    ∙ ap (λ (l : List Text). l ++ name ∷ []) are
    ∙ ap (λ (n : Text). map g (take at places) ++ n ∷ []) (sym (got_some names (get_or places at 0) name there))
    ∙ sym (ap (λ n. map g (take n places)) (let e : at + 1 ≡ suc at = omega arith in e)
    ∙ ap (map g) (take-suc places at 0 lt)
    ∙ map-append g (take at places) (get_or places at 0 ∷ []))
