-- Tallies of columns, turned round into the counts of rows.
use Rattle.std.proofs.Common.{◌≡◌, ℕ, zero, suc, ◌+◌, ◌-◌, ◌<◌, ◌≤◌, List, [], ◌∷◌, Bool, refl, ap, sym}
use Rattle.std.proofs.Common.{◌∙◌, length, map, take, arith}
use Rattle.std.specs.Prelude.{get_or}
use Rattle.std.specs.List.{range_with_len, count_by}
use Rattle.std.proofs.lemmas.List.{same_lists, get_or-map, length-map}
use Rattle.std.proofs.lemmas.List.FromFn.{length-map-range_with_len, get_or-map-range_with_len}
use Rattle.hls_report_text.specs.Content.{Content}
use Rattle.hls_view_tale.specs.declared.label.Label.{Label}
use Rattle.hls_view_scale.specs.declared.scale.Scale.{Scale}
use Rattle.hls_view_scale.specs.Columns.{column_from, ticks_in}
use Rattle.hls_view_lanes.specs.declared.tick_facts.Facts.{Facts}
use Rattle.hls_view_lanes.specs.declared.tallies.Tally.{Tally}
use Rattle.hls_view_lanes.specs.declared.counts.Counts.{Counts}
use Rattle.hls_view_lanes.specs.Facts.{facts, idle_facts, all_facts}
use Rattle.hls_view_lanes.specs.Lanes.{count_in, by_column, counts_of, all_counts}
use Rattle.hls_view_lanes.specs.Inside.Tallies.{tally, tally_at, counts_at, no_tally, no_tallies, all_with}
use Rattle.hls_view_lanes.specs.Inside.Telling.{all_lanes, tallies}
use Rattle.hls_view_lanes.proofs.Counting.{tallies-more}

-- ---- rows as lanes

pub facts-by-lanes : (c : Content) (rows : List (List Label)) (t : ℕ)
    → all_facts c rows t ≡ map (λ (lane : ℕ → Facts). lane t) (all_lanes c rows)
facts-by-lanes c [] t = refl
facts-by-lanes c (row ∷ rows) t = ap (λ (fs : List Facts). facts c t row ∷ fs) (facts-by-lanes c rows t)

counts-by-lanes : (c : Content) (s : Scale) (rows : List (List Label))
    → all_counts c s rows ≡ map (counts_of s) (all_lanes c rows)
counts-by-lanes c s [] = refl
counts-by-lanes c s (row ∷ rows) =
    ap (λ (cs : List Counts). counts_of s (λ t. facts c t row) ∷ cs) (counts-by-lanes c s rows)

pub lanes-long : (c : Content) (rows : List (List Label)) → length (all_lanes c rows) ≡ length rows + 1
lanes-long c [] = refl
lanes-long c (row ∷ rows) = let rest = lanes-long c rows in omega (arith, rest)

-- ---- places of columns

abbrev column : Scale → List (ℕ → Facts) → (k : ℕ) → List Tally
column s lanes k = map (λ (lane : ℕ → Facts). tally lane (column_from s k) (ticks_in s k)) lanes

turned-part : (s : Scale) (lanes : List (ℕ → Facts)) (i : ℕ) (none : ℕ → Facts) (part : Tally → ℕ)
    (fact : Facts → Bool) → i < length lanes
    → ((lane : ℕ → Facts) (a n : ℕ) → part (tally lane a n) ≡ count_by (λ t. fact (lane t)) (range_with_len a n))
    → (ks : List ℕ) → map (λ (ts : List Tally). part (tally_at ts i)) (map (column s lanes) ks)
    ≡ map (count_in s (λ t. fact (get_or lanes i none t))) ks
turned-part s lanes i none part fact lt is [] = refl
turned-part s lanes i none part fact lt is (k ∷ ks) =
    let there =
    get_or-map (λ (lane : ℕ → Facts). tally lane (column_from s k) (ticks_in s k)) lanes i none no_tally lt in
    let one = ap part there ∙ is (get_or lanes i none) (column_from s k) (ticks_in s k) in
    ap (λ n. n ∷ map (λ (ts : List Tally). part (tally_at ts i)) (map (column s lanes) ks)) one
    ∙ ap (λ (ns : List ℕ). count_in s (λ t. fact (get_or lanes i none t)) k ∷ ns)
    (turned-part s lanes i none part fact lt is ks)

turned-one : (s : Scale) (lanes : List (ℕ → Facts)) (i : ℕ) (none : ℕ → Facts) → i < length lanes → (ks : List ℕ)
    → ks ≡ range_with_len 0 s.columns
    → counts_at (map (column s lanes) ks) i ≡ counts_of s (get_or lanes i none)
turned-one s lanes i none lt ks all =
    let make : List ℕ → List ℕ → List ℕ → Counts = (λ a b c. record { here = a; ready = b; served = c }) in
    let lane : ℕ → Facts = get_or lanes i none in
    let h = turned-part s lanes i none (λ (t : Tally). t.here) (λ (f : Facts). f.here) lt (λ l a n. refl) ks
    ∙ ap (map (count_in s (λ t. (lane t).here))) all in
    let r = turned-part s lanes i none (λ (t : Tally). t.ready) (λ (f : Facts). f.ready) lt (λ l a n. refl) ks
    ∙ ap (map (count_in s (λ t. (lane t).ready))) all in
    let u = turned-part s lanes i none (λ (t : Tally). t.served) (λ (f : Facts). f.served) lt (λ l a n. refl) ks
    ∙ ap (map (count_in s (λ t. (lane t).served))) all in
    let columns = map (column s lanes) ks in
    ap (λ (a : List ℕ). make a (map (λ (ts : List Tally). (tally_at ts i).ready) columns)
    (map (λ (ts : List Tally). (tally_at ts i).served) columns)) h
    ∙ ap (λ (b : List ℕ). make (by_column s (λ t. (lane t).here)) b
    (map (λ (ts : List Tally). (tally_at ts i).served) columns)) r
    ∙ ap (λ (c : List ℕ). make (by_column s (λ t. (lane t).here)) (by_column s (λ t. (lane t).ready)) c) u

turned : (s : Scale) (lanes : List (ℕ → Facts)) (none : ℕ → Facts)
    → map (counts_at (map (column s lanes) (range_with_len 0 s.columns))) (range_with_len 0 (length lanes))
    ≡ map (counts_of s) lanes
turned s lanes none =
    let at = counts_at (map (column s lanes) (range_with_len 0 s.columns)) in
    let long = length-map-range_with_len at 0 (length lanes) in
    same_lists (map at (range_with_len 0 (length lanes))) (map (counts_of s) lanes)
    (long ∙ sym (length-map lanes (counts_of s)))
    (λ i d lt. let within : i < length lanes = omega (arith, lt, long) in
    get_or-map-range_with_len at 0 (length lanes) i i d within (omega arith)
    ∙ turned-one s lanes i none within (range_with_len 0 s.columns) refl
    ∙ sym (get_or-map (counts_of s) lanes i none d within))

pub all-turned : (c : Content) (s : Scale) (rows : List (List Label)) (columns : List (List Tally)) (places : ℕ)
    → columns ≡ map (λ k. tallies c rows (column_from s k) (ticks_in s k)) (range_with_len 0 s.columns)
    → places ≡ length rows + 1
    → map (counts_at columns) (range_with_len 0 places) ≡ all_counts c s rows
all-turned c s rows columns places is long =
    ap (λ (cs : List (List Tally)). map (counts_at cs) (range_with_len 0 places)) is
    ∙ ap (λ n. map (counts_at (map (column s (all_lanes c rows)) (range_with_len 0 s.columns))) (range_with_len 0 n))
    (long ∙ sym (lanes-long c rows))
    ∙ turned s (all_lanes c rows) (idle_facts c) ∙ sym (counts-by-lanes c s rows)

-- ---- tick by tick

none-by-lanes : (c : Content) (rows : List (List Label)) (from : ℕ)
    → no_tallies rows ≡ map (λ (lane : ℕ → Facts). tally lane from 0) (all_lanes c rows)
none-by-lanes c [] from = refl
none-by-lanes c (row ∷ rows) from = ap (λ (ts : List Tally). no_tally ∷ ts) (none-by-lanes c rows from)

pub tallies-first : (c : Content) (rows : List (List Label)) (from : ℕ)
    → no_tallies rows ≡ tallies c rows from (from - from)
tallies-first c rows from =
    let none : 0 ≡ from - from = omega arith in
    none-by-lanes c rows from ∙ ap (tallies c rows from) none

pub tallies-next : (c : Content) (rows : List (List Label)) (from tick : ℕ) (ts : List Tally) (fs : List Facts)
    → from ≤ tick → tick < 4294967295 → ts ≡ tallies c rows from (tick - from) → fs ≡ all_facts c rows tick
    → all_with ts fs ≡ tallies c rows from (tick + 1 - from)
tallies-next c rows from tick ts fs le few were are =
    let n = tick - from in
    let all = all_lanes c rows in
    let now : tick ≡ from + (tick - from) = omega (arith, le) in
    let one : suc (tick - from) ≡ tick + 1 - from = omega (arith, le) in
    ap (λ (l : List Tally). all_with l fs) were
    ∙ ap (all_with (tallies c rows from n))
    (are ∙ facts-by-lanes c rows tick ∙ ap (λ t. map (λ (lane : ℕ → Facts). lane t) all) now)
    ∙ tallies-more all from n (omega (arith, few))
    ∙ ap (tallies c rows from) one

-- ---- lists by their ends

all-taken : (i : ℕ) (columns : List (List Tally)) → length columns ≤ i → take i columns ≡ columns
all-taken zero [] le = refl
all-taken zero (ts ∷ columns) le = absurd (omega (arith, le))
all-taken (suc i) [] le = refl
all-taken (suc i) (ts ∷ columns) le =
    ap (λ (l : List (List Tally)). ts ∷ l) (all-taken i columns (omega (arith, le)))

pub counted : (columns : List (List Tally)) (place i : ℕ) (h h' r r' s s' : List ℕ) → length columns ≤ i
    → h' ≡ h → h ≡ map (λ (ts : List Tally). (tally_at ts place).here) (take i columns)
    → r' ≡ r → r ≡ map (λ (ts : List Tally). (tally_at ts place).ready) (take i columns)
    → s' ≡ s → s ≡ map (λ (ts : List Tally). (tally_at ts place).served) (take i columns)
    → (let one : Counts = record { here = h'; ready = r'; served = s' } in one) ≡ counts_at columns place
counted columns place i h h' r r' s s' le eh fh er fr es fs =
    let make : List ℕ → List ℕ → List ℕ → Counts = (λ a b c. record { here = a; ready = b; served = c }) in
    ap (λ (a : List ℕ). make a r' s') (eh ∙ fh) ∙
    ap (λ (b : List ℕ). make (map (λ (ts : List Tally). (tally_at ts place).here) (take i columns)) b s') (er ∙ fr)
    ∙ ap (λ (c : List ℕ). make (map (λ (ts : List Tally). (tally_at ts place).here) (take i columns))
    (map (λ (ts : List Tally). (tally_at ts place).ready) (take i columns)) c) (es ∙ fs)
    ∙ ap (λ (l : List (List Tally)). counts_at l place) (all-taken i columns le)
