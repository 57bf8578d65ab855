-- The flame, run by run and name by name.
use Rattle.std.proofs.Common.{◌≡◌, ℕ, ◌+◌, ◌<◌, List, [], ◌∷◌, ◌++◌, true, false, refl, ap, ap₂, sym, ◌∙◌, append_assoc}
use Rattle.std.proofs.Common.{length, get_or, take, drop, map}
use Rattle.std.specs.Prelude.{Option, Some, None, option_map}
use Rattle.std.proofs.lemmas.List.{drop_more, take_more}
use Rattle.hls_text.specs.Lines.{Text}
use Rattle.hls_report_text.specs.declared.report.Path.{Path}
use Rattle.hls_report_text.specs.declared.report.Run.{Run}
use Rattle.hls_report_text.specs.declared.stretch.Stretch.{Stretch}
use Rattle.hls_report_text.specs.Content.{path_names, stretch_of}
use Rattle.hls_view_trace.specs.declared.event.Place.{Place}
use Rattle.hls_view_trace.specs.declared.event.Event.{Event}
use Rattle.hls_view_tracks.specs.Flame.{names_in, begins, last_tick, slice_of, slices_below, flame}
use Rattle.hls_view_tracks.specs.Inside.Paths.{places_in, named}

pub names-named : (names : List Text) (path : Option Path)
    → names_in (option_map (path_names names) path) ≡ named names (places_in path)
names-named names None = refl
names-named names (Some path) = refl

-- ---- the last tick

on : (above : List Text) (last : ℕ) (s : Stretch) (more : List Stretch) → begins above (names_in s.path) ≡ true
    → last_tick above last (s ∷ more) ≡ last_tick above s.to more
on above last s more is = rw is refl

off : (above : List Text) (last : ℕ) (s : Stretch) (more : List Stretch) → begins above (names_in s.path) ≡ false
    → last_tick above last (s ∷ more) ≡ last
off above last s more is = rw is refl

at : (names : List Text) (above : List ℕ) (last i : ℕ) (run : Run) (more : List Run) (all : ℕ)
    → i < length more → get_or more i run ≡ run
    → all ≡ last_tick (named names above) last (map (stretch_of names) (drop i more))
    → all ≡ last_tick (named names above) last (stretch_of names run ∷ map (stretch_of names) (drop (i + 1) more))
at names above last i run more all less is so_far =
    so_far
    ∙ ap (λ (rs : List Run). last_tick (named names above) last (map (stretch_of names) rs)) (drop_more more i run less)
    ∙ ap (λ (r : Run). last_tick (named names above) last
    (stretch_of names r ∷ map (stretch_of names) (drop (i + 1) more))) is

pub goes_on : (names : List Text) (above places : List ℕ) (last i : ℕ) (run : Run) (more : List Run) (all : ℕ)
    → i < length more → get_or more i run ≡ run → places ≡ places_in run.path
    → begins (named names above) (named names places) ≡ true
    → all ≡ last_tick (named names above) last (map (stretch_of names) (drop i more))
    → all ≡ last_tick (named names above) run.to (map (stretch_of names) (drop (i + 1) more))
goes_on names above places last i run more all less is same begun so_far =
    let on_it : begins (named names above) (names_in (stretch_of names run).path) ≡ true =
    ap (begins (named names above)) (names-named names run.path ∙ ap (named names) (sym same)) ∙ begun in
    at names above last i run more all less is so_far
    ∙ on (named names above) last (stretch_of names run) (map (stretch_of names) (drop (i + 1) more)) on_it

pub goes_off : (names : List Text) (above places : List ℕ) (last i : ℕ) (run : Run) (more : List Run) (all : ℕ)
    → i < length more → get_or more i run ≡ run → places ≡ places_in run.path
    → begins (named names above) (named names places) ≡ false
    → all ≡ last_tick (named names above) last (map (stretch_of names) (drop i more))
    → last ≡ all
goes_off names above places last i run more all less is same begun so_far =
    let off_it : begins (named names above) (names_in (stretch_of names run).path) ≡ false =
    ap (begins (named names above)) (names-named names run.path ∙ ap (named names) (sym same)) ∙ begun in
    sym (at names above last i run more all less is so_far
    ∙ off (named names above) last (stretch_of names run) (map (stretch_of names) (drop (i + 1) more)) off_it)

-- ---- the slices of a run

abbrev pub below : Place → (names : List Text) → (before : List ℕ) → Run → List Run → (above places : List ℕ)
    → List Event
below place names before run more above places =
    slices_below place (named names before) (stretch_of names run) (map (stretch_of names) more) (named names above)
    (named names places)

map-more : (names : List Text) (above : List ℕ) (place : ℕ)
    → named names (above ++ place ∷ []) ≡ named names above ++ get_or names place [] ∷ []
map-more names [] place = refl
map-more names (other ∷ above) place = ap (λ (ts : List Text). get_or names other [] ∷ ts) (map-more names above place)

pub one_more : (place : Place) (names : List Text) (before : List ℕ) (run : Run) (more : List Run) (places : List ℕ)
    (i : ℕ) (old new all : List Event) → i < length places
    → new ≡ old ++ slice_of place (named names before) (stretch_of names run) (map (stretch_of names) more)
    (named names (take (i + 1) places)) (get_or names (get_or places i 0) [])
    → old ++ below place names before run more (take i places) (drop i places) ≡ all
    → new ++ below place names before run more (take (i + 1) places) (drop (i + 1) places) ≡ all
one_more place names before run more places i old new all less grown so_far =
    let name = get_or names (get_or places i 0) [] in
    let rest = named names (drop (i + 1) places) in
    let first : named names (take (i + 1) places) ≡ named names (take i places) ++ name ∷ [] =
    ap (named names) (take_more places i 0 less) ∙ map-more names (take i places) (get_or places i 0) in
    let piece = λ (above : List Text). slice_of place (named names before) (stretch_of names run)
    (map (stretch_of names) more) above name in
    let others = λ (above : List Text). slices_below place (named names before) (stretch_of names run)
    (map (stretch_of names) more) above rest in
    let step : below place names before run more (take i places) (drop i places)
    ≡ piece (named names (take (i + 1) places)) ++ others (named names (take (i + 1) places)) =
    ap (λ (ps : List ℕ). below place names before run more (take i places) ps) (drop_more places i 0 less)
    ∙ ap (λ (above : List Text). piece above ++ others above) (sym first) in
    ap (λ (es : List Event). es ++ others (named names (take (i + 1) places))) grown
    ∙ append_assoc old (piece (named names (take (i + 1) places))) (others (named names (take (i + 1) places)))
    ∙ ap (λ (es : List Event). old ++ es) (sym step) ∙ so_far

-- ---- run by run

pub run_more : (place : Place) (names : List Text) (before places : List ℕ) (run : Run) (more : List Run)
    (old new all : List Event) → places ≡ places_in run.path
    → new ≡ old ++ below place names before run more [] (places_in run.path)
    → old ++ flame place (named names before) (map (stretch_of names) (run ∷ more)) ≡ all
    → new ++ flame place (named names places) (map (stretch_of names) more) ≡ all
run_more place names before places run more old new all same grown so_far =
    let here = names-named names run.path in
    let next = λ (path : List Text). flame place path (map (stretch_of names) more) in
    let slices = λ (path : List Text). slices_below place (named names before) (stretch_of names run)
    (map (stretch_of names) more) [] path in
    ap₂ (λ (es : List Event) (ps : List ℕ). es ++ next (named names ps)) grown same
    ∙ append_assoc old (slices (named names (places_in run.path))) (next (named names (places_in run.path)))
    ∙ ap (λ (path : List Text). old ++ (slices path ++ next path)) (sym here) ∙ so_far
