-- The run that has a tick, and the stretch that it spells.
use Rattle.std.proofs.Common.{◌≡◌, ℕ, List, [], ◌∷◌, Option, Some, None, Bool, true, false, ◌&&◌, nat_le}
use Rattle.std.proofs.Common.{map, take, get_or, is_none, cond, refl, sym, ap, ◌∙◌}
use Rattle.std.specs.Prelude.{find, option_map, option_and_then}
use Rattle.hls_text.specs.Lines.{Text}
use Rattle.hls_report_text.specs.declared.report.Path.{Path}
use Rattle.hls_report_text.specs.declared.report.Run.{Run}
use Rattle.hls_report_text.specs.declared.stretch.Stretch.{Stretch}
use Rattle.hls_report_text.specs.Content.{path_names, stretch_of}
use Rattle.hls_legal.specs.Schedule.{has_tick, path_at, last_name, is_name, is_served}
use Rattle.hls_legal.proofs.Paths.{last_in, last_of_path}

pub find-map : {A B : Type 0} (f : A → B) (test : B → Bool) (xs : List A)
    → find test (map f xs) ≡ option_map f (find (λ x. test (f x)) xs)
find-map f test [] = refl
find-map f test (x ∷ xs) =
    elim (test (f x)) as (λ b. cond b (Some (f x)) (find test (map f xs))
    ≡ option_map f (cond b (Some x) (find (λ y. test (f y)) xs)))
    [ true ↦ refl | false ↦ find-map f test xs ]

abbrev pub run_has : ℕ → Run → Bool
run_has t run = nat_le run.from t && nat_le t run.to

abbrev pub path_by : List Text → Option Run → Option (List Text)
path_by names run = option_and_then (λ (r : Run). option_map (path_names names) r.path) run

and_then-map : (names : List Text) (run : Option Run)
    → option_and_then (λ (s : Stretch). s.path) (option_map (stretch_of names) run) ≡ path_by names run
and_then-map names None = refl
and_then-map names (Some run) = refl

pub path_of_run : (names : List Text) (items runs : List Run) (t : ℕ) (run : Option Run) → items ≡ runs
    → run ≡ find (run_has t) items → path_at (map (stretch_of names) runs) t ≡ path_by names run
unfolding path_at
path_of_run names items runs t run same found =
    ap (λ f. option_and_then (λ (s : Stretch). s.path) f)
    (find-map (stretch_of names) (has_tick t) runs)
    ∙ and_then-map names (find (run_has t) runs)
    ∙ ap (path_by names) (sym (found ∙ ap (find (run_has t)) same))

none_of_run : (names : List Text) (run : Run) → is_none (path_by names (Some run)) ≡ is_none run.path
none_of_run names run = elim (run.path) as (λ p. is_none (option_map (path_names names) p) ≡ is_none p)
    [ None ↦ refl | Some path ↦ refl ]

pub idle_of_run : (names : List Text) (items runs : List Run) (t : ℕ) (run : Run) → items ≡ runs
    → Some run ≡ find (run_has t) items
    → is_none run.path ≡ is_none (path_at (map (stretch_of names) runs) t)
idle_of_run names items runs t run same found =
    sym (ap is_none (path_of_run names items runs t (Some run) same found) ∙ none_of_run names run)

pub served_by : (stretches : List Stretch) (name : Text) (t : ℕ) (path : Option (List Text))
    → path_at stretches t ≡ path → is_served stretches name t ≡ is_name name (option_and_then last_name path)
unfolding is_served
served_by stretches name t path e = ap (λ p. is_name name (option_and_then last_name p)) e

pub served_by_path : (names : List Text) (items runs : List Run) (name : Text) (t : ℕ) (run : Run)
    (path : Path)
    → items ≡ runs → Some run ≡ find (run_has t) items → run.path ≡ Some path
    → is_served (map (stretch_of names) runs) name t ≡ is_name name (last_name (path_names names path))
served_by_path names items runs name t run path same found is =
    served_by (map (stretch_of names) runs) name t (Some (path_names names path))
    (path_of_run names items runs t (Some run) same found ∙ ap (option_map (path_names names)) is)

pub unserved_by_path : (names : List Text) (items runs : List Run) (name : Text) (t : ℕ) (run : Run)
    → items ≡ runs → Some run ≡ find (run_has t) items → run.path ≡ None
    → is_served (map (stretch_of names) runs) name t ≡ false
unserved_by_path names items runs name t run same found is =
    served_by (map (stretch_of names) runs) name t None
    (path_of_run names items runs t (Some run) same found ∙ ap (option_map (path_names names)) is)

pub unserved_by_none : (names : List Text) (items runs : List Run) (name : Text) (t : ℕ)
    → items ≡ runs → None ≡ find (run_has t) items → is_served (map (stretch_of names) runs) name t ≡ false
unserved_by_none names items runs name t same found =
    served_by (map (stretch_of names) runs) name t None (path_of_run names items runs t None same found)

pub ends_in_place : (names : List Text) (path : Path) (name text : Text) (place : Option ℕ)
    → place ≡ last_in (take path.len path.names)
    → is_name name (last_name (path_names names path))
    ≡ is_name name (option_map (λ at. get_or names at []) place)
ends_in_place names path name text place e =
    ap (is_name name) (last_of_path names (take path.len path.names)
    ∙ ap (option_map (λ at. get_or names at [])) (sym e))
