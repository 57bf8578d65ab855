-- Paths that were told of late are told again.
use Rattle.std.proofs.Common.{◌≡◌, ℕ, suc, zero, ◌^◌, ◌<◌, ◌≤◌, Bool, true, false, List, [], ◌∷◌}
use Rattle.std.proofs.Common.{length, get_or, take, refl, sym, ap, ◌∙◌, subst, arith, set, replicate}
use Rattle.std.specs.Prelude.{codes, ◌||◌, option_map, slice_get, Option, Some, None}
use Rattle.std.specs.List.{AllByRecursion, list_any}
use Rattle.std.specs.Str.{bytes_eq}
use Rattle.hls_text.specs.Lines.{Text}
use Rattle.hls_report.specs.declared.recent_paths.Told.{Told}
use Rattle.hls_report_text.specs.declared.report.Path.{Path}
use Rattle.hls_report_text.specs.Content.{path_names}
use Rattle.hls_report_text.specs.ReportText.{path_text}
use Rattle.hls_report_text.specs.WellFormed.{IsPath, with_name, with_names, with_path}
use Rattle.hls_report.specs.Inside.RunLines.{IsInside, IsPathTold, IsRecent}
use Rattle.hls_report_text.proofs.NameLaws.{Grows, grown_in, grown_names, equal-self, named_at, AreIn}
use Rattle.hls_report_text.proofs.NameLaws.{AreKnownIn}
use Rattle.hls_report_text.proofs.Contents.{path_grows}

-- ---- names that are known are not put behind them again

any_at : (known : List Text) (place : ℕ) → place < length known
    → list_any (bytes_eq (get_or known place [])) known ≡ true
any_at [] place lt = absurd (omega (arith, lt))
any_at (k ∷ known) zero lt = rw (equal-self k) refl
any_at (k ∷ known) (suc place) lt =
    by_test (bytes_eq (get_or known place []) k) (any_at known place (omega arith))
  where
    by_test : (b : Bool) → list_any (bytes_eq (get_or known place [])) known ≡ true
        → (b || list_any (bytes_eq (get_or known place [])) known) ≡ true
    by_test true more = refl
    by_test false more = more

known_at : (known : List Text) (places : List ℕ) → AreIn known places → AreKnownIn known (named_at known places)
known_at known [] are = tt
known_at known (place ∷ places) are = (any_at known place are.0, known_at known places are.1)

none_new : (known names : List Text) → AreKnownIn known names → known ≡ with_names known names
none_new known [] are = refl
none_new known (name ∷ names) are =
    let same : with_name known name ≡ known = rw are.0 refl in
    none_new known names are.1 ∙ ap (λ (ns : List Text). with_names ns names) (sym same)

nothing_new : (known : List Text) (path : Option Path) → IsInside known path
    → known ≡ with_path known (option_map (path_names known) path)
nothing_new known None inside = refl
nothing_new known (Some path) inside =
    none_new known (path_names known path) (known_at known (take path.len path.names) inside)

-- ---- a path that was told is told again

told_again : (known new : List Text) (words : Text) (path : Option Path) → IsPathTold known new words path
    → IsPathTold new new words path
told_again known new words path t = record {
  short = t.short;
  inside = t.inside;
  is = t.is;
  words = t.words;
  added = nothing_new new path t.inside;
  few = t.few;
}

inside_stays : (known more : List Text) (path : Option Path) → Grows known more → IsInside known path
    → IsInside more path
inside_stays known more None g inside = tt
inside_stays known more (Some path) g inside = grown_in known more (take path.len path.names) g inside

names_stay : (known more : List Text) (path : Option Path) → Grows known more → IsInside known path
    → option_map (path_names known) path ≡ option_map (path_names more) path
names_stay known more None g inside = refl
names_stay known more (Some path) g inside =
    ap (λ (ns : List Text). Some ns) (sym (grown_names known more (take path.len path.names) g inside))

told_on : (known more : List Text) (words : Text) (path : Option Path) → Grows known more
    → length more ≤ 2 ^ 16 → IsPathTold known known words path → IsPathTold more more words path
told_on known more words path g few t =
    let same = names_stay known more path g t.inside in
    let inside = inside_stays known more path g t.inside in record {
      short = t.short;
      inside = inside;
      is = subst (λ (p : Option (List Text)). IsPath p) same t.is;
      words = t.words ∙ ap path_text same;
      added = nothing_new more path inside;
      few = few;
    }

-- ---- all of them

all_on : (known more : List Text) (recent : List Told) → Grows known more → length more ≤ 2 ^ 16
    → AllByRecursion (IsRecent known) recent → AllByRecursion (IsRecent more) recent
all_on known more [] g few are = tt
all_on known more (told ∷ recent) g few are = (
  told_on known more told.words.now told.path g few are.0,
  all_on known more recent g few are.1,
)

all_set : (P : Told → Type 0) (recent : List Told) (place : ℕ) (told : Told) → AllByRecursion P recent
    → P told → AllByRecursion P (set recent place told)
all_set P [] place told are is = tt
all_set P (first ∷ recent) zero told are is = (is, are.1)
all_set P (first ∷ recent) (suc place) told are is = (are.0, all_set P recent place told are.1 is)

all_alike : (P : Told → Type 0) (count : ℕ) (told : Told) → P told
    → AllByRecursion P (replicate count told)
all_alike P zero told is = tt
all_alike P (suc count) told is = (is, all_alike P count told is)

-- at first each of them is `idle`
pub all_idle : (known : List Text) (count : ℕ) (idle : Told) → length known ≤ 2 ^ 16
    → idle.words.now ≡ codes "idle" → idle.path ≡ None → AllByRecursion (IsRecent known) (replicate count idle)
all_idle known count idle few words path =
    all_alike (IsRecent known) count idle
    (subst (λ (p : Option Path). IsPathTold known known idle.words.now p) (sym path) (record {
      short = tt;
      inside = tt;
      is = tt;
      words = words;
      added = refl;
      few = few;
    }))

pub recent_at : (P : Told → Type 0) (recent : List Told) (place : ℕ) (told : Told)
    → AllByRecursion P recent → slice_get recent place ≡ Some told → P told
recent_at P [] place told are e = absurd cc
recent_at P (first ∷ recent) zero told are e =
    let same : first ≡ told = cc in subst P same are.0
recent_at P (first ∷ recent) (suc place) told are e = recent_at P recent place told are.1 e

pub recent_kept : (known new : List Text) (recent : List Told) (place : ℕ) (told : Told)
    → AllByRecursion (IsRecent known) recent → IsPathTold known new told.words.now told.path
    → AllByRecursion (IsRecent new) (set recent place told)
recent_kept known new recent place told are t =
    all_set (IsRecent new) recent place told
    (all_on known new recent (subst (Grows known) (sym t.added)
    (path_grows known (option_map (path_names new) told.path))) t.few are)
    (told_again known new told.words.now told.path t)
