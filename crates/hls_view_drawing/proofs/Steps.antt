-- What the loops of this crate leave.
use Rattle.std.proofs.Common.{◌≡◌, ◌∙◌, ◌+◌, ◌++◌, ◌∷◌, [], ℕ, List, map, flat_map, refl, ap, sym, arith}
use Rattle.std.specs.List.{range_with_len}
use Rattle.std.proofs.lemmas.List.{flat_map_more}
use Rattle.std.proofs.lemmas.List.FromFn.{map-range_with_len_more}
use Rattle.std.proofs.lemmas.List.Folds.{flat_map-map}
use Rattle.std.specs.Prelude.{Option, None, get_or}
use Rattle.hls_text.specs.Lines.{Text}
use Rattle.hls_report_text.specs.declared.report.Report.{Report}
use Rattle.hls_report_text.specs.declared.report.Run.{Run}
use Rattle.hls_report_text.specs.Content.{content_of, stretch_of}
use Rattle.hls_view_scale.specs.declared.scale.Scale.{Scale}
use Rattle.hls_view_tale.specs.declared.label.Label.{Label}
use Rattle.hls_view_lanes.specs.declared.counts.Counts.{Counts}
use Rattle.hls_view_signs.specs.declared.signs.Signs.{Signs}
use Rattle.hls_view_tights.specs.declared.tights.Tight.{Tight}
use Rattle.hls_view_drawing.specs.Rows.{RowData, no_counts, no_signs, row_of, row_at}
use Rattle.hls_view_drawing.specs.Strips.{StripData, strip_if, run_strips, leaf_if, leaf_at}

-- ---- the strips of runs are those of stretches

pub runs_shown : (s : Scale) (r : Report) (names : List Text) (runs : List Run) (all : List StripData) → names ≡ r.names
    → runs ≡ r.runs → all ≡ flat_map (λ (run : Run). strip_if s (stretch_of names run)) runs
    → all ≡ run_strips (content_of r) s
runs_shown s r names runs all e f is =
    is
    ∙ ap (λ (ns : List Text). flat_map (λ (run : Run). strip_if s (stretch_of ns run)) runs) e
    ∙ ap (λ (rs : List Run). flat_map (λ (run : Run). strip_if s (stretch_of r.names run)) rs) f
    ∙ sym (flat_map-map (strip_if s) (stretch_of r.names) r.runs)

-- ---- rows by their numbers

pub map-snoc : {A B : Type 0} (f : A → B) (xs : List A) (x : A) → map f (xs ++ x ∷ []) ≡ map f xs ++ f x ∷ []
map-snoc f [] x = refl
map-snoc f (y ∷ xs) x = ap (λ zs. f y ∷ zs) (map-snoc f xs x)

pub row_found : (s : Scale) (ways : List (List Label)) (counts : List Counts) (signs : List Signs)
    (tights : List (Option Tight)) (n : ℕ) (way : List Label) (cs : Counts) (ss : Signs) (tight : Option Tight)
    (row : RowData) → way ≡ get_or ways n [] → cs ≡ get_or counts n no_counts → ss ≡ get_or signs n no_signs
    → tight ≡ get_or tights n None → row ≡ row_of s ways way cs ss tight → row ≡ row_at s ways counts signs tights n
row_found s ways counts signs tights n way cs ss tight row e f g h is =
    is
    ∙ ap (λ (x : List Label). row_of s ways x cs ss tight) e
    ∙ ap (λ (x : Counts). row_of s ways (get_or ways n []) x ss tight) f
    ∙ ap (λ (x : Signs). row_of s ways (get_or ways n []) (get_or counts n no_counts) x tight) g
    ∙ ap (λ (x : Option Tight). row_of s ways (get_or ways n []) (get_or counts n no_counts) (get_or signs n no_signs)
    x) h

pub leaf_found : (column : ℕ) (ways : List (List Label)) (counts : List Counts) (n : ℕ) (way : List Label) (cs : Counts)
    → way ≡ get_or ways n [] → cs ≡ get_or counts n no_counts
    → leaf_if column way cs ≡ leaf_at column ways counts n
leaf_found column ways counts n way cs e f =
    ap (λ (x : List Label). leaf_if column x cs) e ∙ ap (λ (x : Counts). leaf_if column (get_or ways n []) x) f

pub texts-more : (f : ℕ → Text) (n : ℕ) → flat_map f (range_with_len 0 n) ++ f n ≡ flat_map f (range_with_len 0 (n + 1))
texts-more f n =
    ap (λ (t : Text). t ++ f n) (sym (flat_map-map (λ (t : Text). t) f (range_with_len 0 n)))
    ∙ flat_map_more (λ (t : Text). t) [] (map f (range_with_len 0 n)) (f n)
    ∙ ap (λ (ts : List Text). flat_map (λ (t : Text). t) ts) (sym (map-range_with_len_more f 0 n n (omega arith)))
    ∙ flat_map-map (λ (t : Text). t) f (range_with_len 0 (n + 1))
