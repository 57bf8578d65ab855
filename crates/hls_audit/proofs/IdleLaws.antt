-- Idle ticks, run by run.
use Rattle.std.proofs.Common.{◌≡◌, ℕ, zero, suc, ◌+◌, ◌-◌, ◌<◌, ◌≤◌, List, [], ◌∷◌, Bool, true, false, length, map}
use Rattle.std.proofs.Common.{get_or}
use Rattle.std.proofs.Common.{refl, sym, ap, ◌∙◌, subst, arith}
use Rattle.std.specs.Prelude.{Option, Some, None, slice_get, option_map, is_none, is_some, not}
use Rattle.std.proofs.lemmas.Option.{slice_get_past}
use Rattle.hls_text.specs.Lines.{Text}
use Rattle.hls_chron.specs.Ticks.{count, one_if}
use Rattle.hls_chron.proofs.CountLaws.{count-none, count-push, count-add, count-le}
use Rattle.hls_report_text.specs.declared.report.Path.{Path}
use Rattle.hls_report_text.specs.declared.report.Run.{Run}
use Rattle.hls_report_text.specs.declared.report.Report.{Report}
use Rattle.hls_report_text.specs.Content.{content_of, path_names, stretch_of}
use Rattle.hls_report_text.specs.WellFormed.{Cover, IsContent}
use Rattle.hls_legal.specs.Schedule.{path_at}
use Rattle.hls_legal.specs.Accounts.{idle_of}
use Rattle.hls_audit_threads.proofs.RunLaws.{run_since, path_is}
use Rattle.hls_audit_threads.proofs.MarkedLaws.{run_few}

-- ---- ticks in a row that are all counted, and that all are not

all_counted : (f : ℕ → Bool) (i n : ℕ) → ((t : ℕ) → i ≤ t → t < i + n → f t ≡ true) → count f i n ≡ n
all_counted f i zero on = count-none f i
all_counted f i (suc n) on =
    let rest = all_counted f i n (λ t lo hi. on t lo (omega (arith, hi))) in
    let here : one_if (f (i + n)) ≡ 1 = ap one_if (on (i + n) (omega arith) (omega arith)) in
    let push = count-push f i n in omega (arith, rest, here, push)

none_counted : (f : ℕ → Bool) (i n : ℕ) → ((t : ℕ) → i ≤ t → t < i + n → f t ≡ false) → count f i n ≡ 0
none_counted f i zero off = count-none f i
none_counted f i (suc n) off =
    let rest = none_counted f i n (λ t lo hi. off t lo (omega (arith, hi))) in
    let here : one_if (f (i + n)) ≡ 0 = ap one_if (off (i + n) (omega arith) (omega arith)) in
    let push = count-push f i n in omega (arith, rest, here, push)

-- ---- where runs begin

abbrev pub start_of : (end : ℕ) → Option Run → ℕ
start_of end None = end
start_of end (Some run) = run.from

-- the next one begins where one ends
run_after : (names : List Text) (from : ℕ) (last : Option (Option (List Text))) (runs : List Run) (end at : ℕ)
    (run : Run) → Cover from last (map (stretch_of names) runs) end → slice_get runs at ≡ Some run
    → start_of end (slice_get runs (suc at)) ≡ run.to + 1
run_after names from last [] end at run cover there = absurd (cc)
run_after names from last (r ∷ []) end zero run cover there =
    let same : r ≡ run = cc in
    let ends = cover.4 in
    subst (λ (x : Run). end ≡ x.to + 1) same (omega (arith, ends))
run_after names from last (r ∷ s ∷ runs) end zero run cover there =
    let same : r ≡ run = cc in subst (λ (x : Run). s.from ≡ x.to + 1) same cover.4.0
run_after names from last (r ∷ runs) end (suc at) run cover there =
    run_after names (r.to + 1) (Some (stretch_of names r).path) runs end at run cover.4 there

-- ---- how many are idle before a run

abbrev pub is_idle : Report → ℕ → Bool
is_idle r t = is_none (path_at (content_of r).stretches t)

abbrev pub IsCounted : Report → (at idle : ℕ) → Type 0
IsCounted r at idle = idle ≡ count (is_idle r) 0 (start_of r.horizon (slice_get r.runs at))

pub counted_first : (r : Report) → IsContent (content_of r) → IsCounted r 0 0
counted_first r formed = by r.runs refl
  where
    by : (runs : List Run) → r.runs ≡ runs → IsCounted r 0 0
    by [] e =
        let none : 0 ≡ r.horizon =
        subst (λ (l : List Run). Cover 0 None (map (stretch_of r.names) l) r.horizon) e formed.cover in
        let starts : start_of r.horizon (slice_get r.runs 0) ≡ 0 =
        ap (λ (l : List Run). start_of r.horizon (slice_get l 0)) e ∙ sym none in
        sym (ap (count (is_idle r) 0) starts ∙ count-none (is_idle r) 0)
    by (run ∷ runs) e =
        let cover = subst (λ (l : List Run). Cover 0 None (map (stretch_of r.names) l) r.horizon) e formed.cover in
        let starts : start_of r.horizon (slice_get r.runs 0) ≡ 0 =
        ap (λ (l : List Run). start_of r.horizon (slice_get l 0)) e ∙ cover.0 in
        sym (ap (count (is_idle r) 0) starts ∙ count-none (is_idle r) 0)

pub counted_few : (r : Report) (at idle : ℕ) (run : Run) → slice_get r.runs at ≡ Some run → IsCounted r at idle
    → idle ≤ run.from
counted_few r at idle run there is =
    let starts : start_of r.horizon (slice_get r.runs at) ≡ run.from = ap (start_of r.horizon) there in
    let few = count-le (is_idle r) 0 (start_of r.horizon (slice_get r.runs at)) in omega (arith, is, starts, few)

none_mapped : (names : List Text) (path : Option Path) → is_none (option_map (path_names names) path) ≡ is_none path
none_mapped names None = refl
none_mapped names (Some path) = refl

pub none_if : (path : Option Path) (b : Bool) → is_some path ≡ not b → is_none path ≡ b
none_if None true e = refl
none_if None false e = absurd (let wrong : false ≡ true = e in cc)
none_if (Some path) true e = absurd (let wrong : true ≡ false = e in cc)
none_if (Some path) false e = refl

-- a tick of a run is idle where the run is
idle_as : (r : Report) (at t : ℕ) (run : Run) → IsContent (content_of r) → slice_get r.runs at ≡ Some run
    → run.from ≤ t → t ≤ run.to → is_idle r t ≡ is_none run.path
idle_as r at t run formed there lo hi =
    ap is_none (path_is (content_of r) r.names r.runs t at run formed refl there lo hi)
    ∙ none_mapped r.names run.path

-- up to the end of a run
count_past : (r : Report) (at : ℕ) (run : Run) → IsContent (content_of r) → slice_get r.runs at ≡ Some run
    → count (is_idle r) 0 (start_of r.horizon (slice_get r.runs (at + 1)))
    ≡ count (is_idle r) 0 (start_of r.horizon (slice_get r.runs at))
    + count (is_idle r) run.from (run.to + 1 - run.from)
count_past r at run formed there =
    let order = (run_since r.names 0 None r.runs r.horizon at run formed.cover there).1 in
    let up : suc at ≡ at + 1 = omega arith in
    let starts : start_of r.horizon (slice_get r.runs at) ≡ run.from = ap (start_of r.horizon) there in
    let ends : start_of r.horizon (slice_get r.runs (at + 1)) ≡ run.from + (run.to + 1 - run.from) =
    ap (λ n. start_of r.horizon (slice_get r.runs n)) (sym up)
    ∙ run_after r.names 0 None r.runs r.horizon at run formed.cover there ∙ omega (arith, order) in
    let first : 0 + run.from ≡ run.from = omega arith in
    ap (count (is_idle r) 0) ends ∙ count-add (is_idle r) 0 run.from (run.to + 1 - run.from)
    ∙ ap (λ i. count (is_idle r) 0 run.from + count (is_idle r) i (run.to + 1 - run.from)) first
    ∙ ap (λ n. count (is_idle r) 0 n + count (is_idle r) run.from (run.to + 1 - run.from)) (sym starts)

pub counted_idle : (r : Report) (at idle : ℕ) (run : Run) → IsContent (content_of r) → slice_get r.runs at ≡ Some run
    → is_none run.path ≡ true → IsCounted r at idle → IsCounted r (at + 1) (idle + (run.to + 1 - run.from))
counted_idle r at idle run formed there on is =
    let past = count_past r at run formed there in
    let all = all_counted (is_idle r) run.from (run.to + 1 - run.from)
    (λ t lo hi. idle_as r at t run formed there lo (omega (arith, lo, hi)) ∙ on) in
    omega (arith, past, all, is)

pub counted_busy : (r : Report) (at idle : ℕ) (run : Run) → IsContent (content_of r) → slice_get r.runs at ≡ Some run
    → is_none run.path ≡ false → IsCounted r at idle → IsCounted r (at + 1) idle
counted_busy r at idle run formed there off is =
    let past = count_past r at run formed there in
    let none = none_counted (is_idle r) run.from (run.to + 1 - run.from)
    (λ t lo hi. idle_as r at t run formed there lo (omega (arith, lo, hi)) ∙ off) in
    omega (arith, past, none, is)

pub counted_all : (r : Report) (at idle : ℕ) → length r.runs ≤ at → IsCounted r at idle
    → idle ≡ idle_of (content_of r)
counted_all r at idle past is =
    is ∙ ap (λ (o : Option Run). count (is_idle r) 0 (start_of r.horizon o)) (slice_get_past r.runs at past)

-- ---- a run as it is read

pub run_fits : (r : Report) (items : List Run) (at : ℕ) (run : Run) → IsContent (content_of r) → items ≡ r.runs
    → at < length items → run ≡ get_or items at run → run.to < 1000000
run_fits r items at run formed same lt is =
    let few = run_few r items at run formed same (subst (λ (l : List Run). at < length l) same lt) in
    subst (λ (x : Run). x.to < 1000000) (sym is) few
