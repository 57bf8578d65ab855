-- Every content is some report's.
use Rattle.std.proofs.Common.{◌≡◌, ℕ, suc, ◌+◌, List, [], ◌∷◌, length, take, get_or, refl, sym, ap, ◌∙◌}
use Rattle.std.proofs.Common.{subst}
use Rattle.std.specs.Prelude.{map, option_map, Option, Some, None}
use Rattle.std.specs.List.{AllByRecursion}
use Rattle.std.proofs.Math.Seq.{take-append_seam}
use Rattle.std.proofs.lemmas.List.{append-nil}
use Rattle.hls_text.specs.Lines.{Text}
use Rattle.hls_report_text.specs.declared.report.Path.{Path}
use Rattle.hls_report_text.specs.declared.report.Run.{Run}
use Rattle.hls_report_text.specs.declared.report.Report.{Report}
use Rattle.hls_report_text.specs.declared.stretch.Stretch.{Stretch}
use Rattle.hls_report_text.specs.Content.{Content, path_names, stretch_of, content_of}
use Rattle.hls_report_text.specs.WellFormed.{IsPath, Cover, with_path, HasShort, IsContent, IsWellFormed}
use Rattle.hls_report_text.specs.WellFormed.{names_after}
use Rattle.hls_report_text.proofs.NameLaws.{Grows, grows_none, grows_on, names_grow, AreKnownIn, all_known}
use Rattle.hls_report_text.proofs.NameLaws.{grown_known, place_of, found_places}

pub path_grows : (known : List Text) (path : Option (List Text)) → Grows known (with_path known path)
path_grows known None = grows_none known
path_grows known (Some names) = names_grow known names

pub stretches_grow : (known : List Text) (ss : List Stretch) → Grows known (names_after known ss)
stretches_grow known [] = grows_none known
stretches_grow known (s ∷ more) =
    grows_on known (with_path known s.path) (names_after (with_path known s.path) more)
    (path_grows known s.path) (stretches_grow (with_path known s.path) more)

-- ---- from stretches to runs

abbrev pub path_of : List Text → List Text → Path
path_of known names = record { len = length names; names = map (place_of known) names }

abbrev pub run_of : List Text → Stretch → Run
run_of known s = record { from = s.from; to = s.to; path = option_map (path_of known) s.path }

abbrev pub IsKnownPath : List Text → Option (List Text) → Type 0
IsKnownPath known None = Unit {0}
IsKnownPath known (Some names) = AreKnownIn known names

take_all : (ns : List ℕ) → take (length ns) ns ≡ ns
take_all ns = ap (λ (xs : List ℕ). take (length ns) xs) (sym (append-nil ns)) ∙ take-append_seam ns []

length_map : (f : Text → ℕ) (names : List Text) → length (map f names) ≡ length names
length_map f [] = refl
length_map f (name ∷ names) = ap suc (length_map f names)

names_back : (known names : List Text) → AreKnownIn known names → path_names known (path_of known names)
    ≡ names
names_back known names are =
    ap (λ (n : ℕ). map (λ place. get_or known place []) (take n (map (place_of known) names)))
    (sym (length_map (place_of known) names))
    ∙ ap (λ (ps : List ℕ). map (λ place. get_or known place []) ps) (take_all (map (place_of known) names))
    ∙ found_places known names are

path_back : (known : List Text) (path : Option (List Text)) → IsKnownPath known path
    → option_map (path_names known) (option_map (path_of known) path) ≡ path
path_back known None are = refl
path_back known (Some names) are = ap (λ (ns : List Text). Some ns) (names_back known names are)

abbrev stretched : (from to : ℕ) → Option (List Text) → Stretch
stretched from to path = record { from = from; to = to; path = path }

runs_back : (known : List Text) (ss : List Stretch) → AllByRecursion (λ s. IsKnownPath known s.path) ss
    → map (stretch_of known) (map (run_of known) ss) ≡ ss
runs_back known [] are = refl
runs_back known (s ∷ ss) are =
    ap (λ (p : Option (List Text)). stretched s.from s.to p ∷ map (stretch_of known) (map (run_of known) ss))
    (path_back known s.path are.0)
    ∙ ap (λ (ts : List Stretch). s ∷ ts) (runs_back known ss are.1)

path_known : (known : List Text) (path : Option (List Text)) → IsKnownPath (with_path known path) path
path_known known None = tt
path_known known (Some names) = all_known known names

path_stays : (known more : List Text) (path : Option (List Text)) → Grows known more
    → IsKnownPath known path → IsKnownPath more path
path_stays known more None g are = tt
path_stays known more (Some names) g are = grown_known known more names g are

paths_known : (known : List Text) (ss : List Stretch)
    → AllByRecursion (λ s. IsKnownPath (names_after known ss) s.path) ss
paths_known known [] = tt
paths_known known (s ∷ more) = (
  path_stays (with_path known s.path) (names_after (with_path known s.path) more) s.path
      (stretches_grow (with_path known s.path) more) (path_known known s.path),
  paths_known (with_path known s.path) more,
)

path_short : (known : List Text) (path : Option (List Text)) → IsPath path
    → HasShort (option_map (path_of known) path)
path_short known None is = tt
path_short known (Some names) is = is.0.1

runs_short : (known : List Text) (from : ℕ) (last : Option (Option (List Text))) (ss : List Stretch)
    (end : ℕ) → Cover from last ss end → AllByRecursion (λ run. HasShort run.path) (map (run_of known) ss)
runs_short known from last [] end cover = tt
runs_short known from last (s ∷ ss) end cover = (
  path_short known s.path cover.2,
  runs_short known (s.to + 1) (Some s.path) ss end cover.4,
)

-- ---- reports

pub report_of : Content → Report
report_of c = record {
  version = c.version;
  horizon = c.horizon;
  depth = c.depth;
  answered = c.answered;
  names = names_after [] c.stretches;
  runs = map (run_of (names_after [] c.stretches)) c.stretches;
  accounts = c.accounts;
  idle = c.idle;
}

with_stretches : Content → List Stretch → Content
with_stretches c ss = record {
  version = c.version;
  horizon = c.horizon;
  depth = c.depth;
  answered = c.answered;
  stretches = ss;
  accounts = c.accounts;
  idle = c.idle;
}

pub report_back : (c : Content) → content_of (report_of c) ≡ c
unfolding report_of with_stretches
report_back c =
    ap (with_stretches c) (runs_back (names_after [] c.stretches) c.stretches (paths_known [] c.stretches))

pub some_report : (c : Content) → IsContent c → (r : Report) × IsWellFormed r × (content_of r ≡ c)
unfolding report_of
some_report c is = (
  report_of c,
  record {
    paths = runs_short (names_after [] c.stretches) 0 None c.stretches c.horizon is.cover;
    content = subst IsContent (sym (report_back c)) is;
  },
  report_back c,
)
