-- Runs that are kept in rows.
use Rattle.std.proofs.Common.{◌≡◌, ℕ, ◌+◌, ◌<◌, ◌≤◌, List, [], ◌∷◌, ◌++◌, length, refl, sym, ap, ◌∙◌, arith, subst}
use Rattle.std.proofs.Common.{inl, inr, ◌⊎◌}
use Rattle.std.proofs.Common.{append_assoc, append-nil, Bool, true, false, nat_eq}
use Rattle.std.specs.Option.{option_eq}
use Rattle.std.specs.Prelude.{◌&&◌, Option, Some, None, All, slice_get}
use Rattle.std.specs.Cmp.Lexicographic.{pointwise, same_text}
use Rattle.std.proofs.lemmas.Bool.{eqb-true}
use Rattle.std.proofs.lemmas.List.{length-append, map_push}
use Rattle.std.proofs.lemmas.List.Elements.{All-nil, All-head, All-tail, All-push, All-weaker}
use Rattle.std.proofs.lemmas.Option.{get_or_from_slice_get, slice_get_within}
use Rattle.hls_report_text.specs.declared.report.Path.{Path}
use Rattle.hls_report_text.specs.declared.report.Run.{Run}
use Rattle.hls_report_text.specs.contracts.report.PathPartialEq.TheImpl.{eq-value}
use Rattle.hls_core_journal.specs.Inside.Rows.{way_at, run_by, runs_by, AreRows}
use Rattle.hls_core_journal.specs.declared.kept_rows.Row.{Row}
use Rattle.hls_core_journal.proofs.Lists.{HasLast, last_or_none, changed_last, no_last, all_front}

abbrev run : (from to : ℕ) → Option Path → Run
run from to path = record { from = from; to = to; path = path }

-- ---- one path

both : (a b : Bool) → (a && b) ≡ true → (a ≡ true) × (b ≡ true)
both true b e = (refl, e)
both false b e = absurd (let no : false ≡ true = e in cc)

path_same : (p q : Path) → eq-value.it p q ≡ true → p ≡ q
path_same p q e =
    let apart = both (nat_eq p.len q.len) (pointwise nat_eq p.names q.names) e in
    let len = eqb-true p.len q.len apart.0 in
    let names = same_text p.names q.names (sym apart.1) in
    λ i. record { len = len i; names = names i }

pub way_same : (p q : Option Path) → option_eq eq-value.it p q ≡ true → p ≡ q
way_same None None e = refl
way_same (Some p) (Some q) e = ap (λ (path : Path). Some path) (path_same p q e)
way_same None (Some q) e = absurd (let no : false ≡ true = e in cc)
way_same (Some p) None e = absurd (let no : false ≡ true = e in cc)

-- ---- the last row

length_zero : {A : Type 0} (xs : List A) → length xs ≡ 0 → xs ≡ []
length_zero [] e = refl
length_zero (x ∷ xs) e = absurd (omega (arith, e))

abbrev IsLongerRow : (rows next : List Row) (tick : ℕ) → Type 0
IsLongerRow rows next tick =
    (front : List Row) (row : Row) → rows ≡ front ++ row ∷ [] → next ≡ front ++ (record row { to = tick }) ∷ []

pub longer_runs : (ways : List (Option Path)) (rows next : List Row) (items : List Run) (tick : ℕ)
    → runs_by ways rows ≡ items → IsLongerRow rows next tick
    → (front : List Run) (one : Run) → items ≡ front ++ one ∷ []
    → runs_by ways next ≡ front ++ (record one { to = tick }) ∷ []
longer_runs ways rows next items tick is longer front one e = by (last_or_none rows)
  where
    longer_run : Run → Run
    longer_run r = record r { to = tick }

    by : (rows ≡ []) ⊎ HasLast rows → runs_by ways next ≡ front ++ (record one { to = tick }) ∷ []
    by (inl none) = absurd (no_last front one (sym (ap (runs_by ways) none) ∙ is ∙ e))
    by (inr l) =
        ap (runs_by ways) (longer l.front l.last l.is)
        ∙ map_push (run_by ways) l.front (record l.last { to = tick })
        ∙ changed_last longer_run (runs_by ways l.front) front (run_by ways l.last) one
        (sym (map_push (run_by ways) l.front l.last) ∙ sym (ap (runs_by ways) l.is) ∙ is ∙ e)

pub longer_rows : (ways : List (Option Path)) (rows next : List Row) (tick : ℕ) → AreRows ways rows
    → IsLongerRow rows next tick → length next ≡ length rows → AreRows ways next
longer_rows ways rows next tick are longer count = record {
  known = by (last_or_none rows);
  few = (let fewer = are.few in omega (arith, fewer, count));
}
  where
    Known : Row → Type 0
    Known row = row.way < length ways

    by : (rows ≡ []) ⊎ HasLast rows → All (λ (row : Row). row.way < length ways) next
    by (inl none) = subst (All Known) (sym (length_zero next (count ∙ ap length none))) (All-nil Known)
    by (inr l) =
        let all = all_front Known l.front l.last (subst (All Known) l.is are.known) in
        subst (All Known) (sym (longer l.front l.last l.is))
        (All-push Known l.front (record l.last { to = tick }) all.0 all.1)

-- ---- a row more

-- rows keep their runs where more paths come
same_rows : (ways new : List (Option Path)) (rows : List Row) → All (λ (row : Row). row.way < length ways) rows
    → ((at : ℕ) → at < length ways → way_at new at ≡ way_at ways at) → runs_by new rows ≡ runs_by ways rows
same_rows ways new [] all before = refl
same_rows ways new (row ∷ rows) all before =
    let P = λ (r : Row). r.way < length ways in
    ap (λ (path : Option Path). run row.from row.to path ∷ runs_by new rows)
    (before row.way (All-head P row rows all))
    ∙ ap (λ (l : List Run). run_by ways row ∷ l) (same_rows ways new rows (All-tail P row rows all) before)

abbrev row_of : (tick place : ℕ) → Row
row_of tick place = record { from = tick; to = tick; way = place }

pub pushed_row : (ways new : List (Option Path)) (rows next : List Row) (items : List Run) (place tick : ℕ)
    (path : Option Path) → runs_by ways rows ≡ items → AreRows ways rows
    → ((at : ℕ) → at < length ways → way_at new at ≡ way_at ways at) → slice_get new place ≡ Some path
    → next ≡ rows ++ row_of tick place ∷ [] → runs_by new next ≡ items ++ run tick tick path ∷ []
pushed_row ways new rows next items place tick path is are before there push =
    ap (runs_by new) push
    ∙ map_push (run_by new) rows (row_of tick place)
    ∙ ap (λ (l : List Run). l ++ run_by new (row_of tick place) ∷ []) (same_rows ways new rows are.known before ∙ is)
    ∙ ap (λ (p : Option Path). items ++ run tick tick p ∷ []) (get_or_from_slice_get new place path _ there)

pub pushed_rows : (ways new : List (Option Path)) (rows : List Row) (place tick : ℕ) (path : Option Path)
    → AreRows ways rows → length ways ≤ length new → length new ≤ length ways + 1 → slice_get new place ≡ Some path
    → AreRows new (rows ++ row_of tick place ∷ [])
pushed_rows ways new rows place tick path are more few there = record {
  known =
      All-push (λ (row : Row). row.way < length new) rows (row_of tick place)
      (All-weaker (λ (row : Row). row.way < length ways) (λ (row : Row). row.way < length new)
      (λ row lt. omega (arith, lt, more)) rows are.known)
      (slice_get_within new place path there);
  few =
      (let count = length-append rows (row_of tick place ∷ []) in
      let fewer = are.few in omega (arith, count, fewer, few));
}

-- ---- a row that was read

pub read_row : (ways : List (Option Path)) (done all : List Run) (old new : List Row) (row : Row)
    → done ++ runs_by ways old ≡ all → old ≡ row ∷ new
    → (done ++ run_by ways row ∷ []) ++ runs_by ways new ≡ all
read_row ways done all old new row is e =
    append_assoc done (run_by ways row ∷ []) (runs_by ways new)
    ∙ ap (λ (rows : List Row). done ++ runs_by ways rows) (sym e) ∙ is

pub read_all : (ways : List (Option Path)) (done all : List Run) (left : List Row)
    → done ++ runs_by ways left ≡ all → left ≡ [] → done ≡ all
read_all ways done all left is e =
    sym (append-nil done) ∙ ap (λ (rows : List Row). done ++ runs_by ways rows) (sym e) ∙ is

pub known_first : (count : ℕ) (old new : List Row) (row : Row) → All (λ (row : Row). row.way < count) old
    → old ≡ row ∷ new → row.way < count
known_first count old new row all e =
    let P = λ (r : Row). r.way < count in All-head P row new (subst (All P) e all)

pub known_rest : (count : ℕ) (old new : List Row) (row : Row) → All (λ (row : Row). row.way < count) old
    → old ≡ row ∷ new → All (λ (row : Row). row.way < count) new
known_rest count old new row all e =
    let P = λ (r : Row). r.way < count in All-tail P row new (subst (All P) e all)
