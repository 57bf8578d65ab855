-- The bars of a picture with a tick to each column.
use Rattle.std.proofs.Common.{◌≡◌, ℕ, ◌+◌, ◌-◌, ◌*◌, ◌<◌, ◌≤◌, min, List, [], ◌∷◌, Bool}
use Rattle.std.proofs.Common.{true, false, refl, sym, ap, ◌∙◌, ◌&&◌, cond, map, length, get_or, arith}
use Rattle.std.specs.Prelude.{Option, Some, slice_get, nat_lt}
use Rattle.std.specs.List.{range_with_len, count_by, sum_by}
use Rattle.std.proofs.lemmas.List.{get_or_append_left, get_or_at, get_or-map, length-map}
use Rattle.std.proofs.lemmas.List.FromFn.{get_or-map-range_with_len, length-map-range_with_len}
use Rattle.std.proofs.lemmas.List.Sums.{sum_by-cons}
use Rattle.std.proofs.lemmas.Option.{slice_get-get_or}
use Rattle.hls_report_text.specs.Content.{Content}
use Rattle.hls_audit_stays.proofs.Lists.{get_front}
use Rattle.hls_view_scale.specs.declared.scale.Scale.{Scale}
use Rattle.hls_view_scale.specs.Measures.{ticks_shown, ceiling}
use Rattle.hls_view_tale.specs.declared.label.Label.{Label}
use Rattle.hls_view_lanes.specs.declared.tick_facts.Facts.{Facts}
use Rattle.hls_view_lanes.specs.declared.counts.Counts.{Counts}
use Rattle.hls_view_lanes.specs.Facts.{facts, idle_facts}
use Rattle.hls_view_lanes.specs.Lanes.{count_in, counts_of, all_counts}
use Rattle.hls_view_lanes.specs.Leaves.{is_leaf, goes_to}
use Rattle.hls_view_signs.specs.declared.signs.Signs.{Signs}
use Rattle.hls_view_tights.specs.declared.tights.Tight.{Tight}
use Rattle.hls_view_drawing.specs.Rows.{RowData, row_at, idle_row, all_rows, no_counts}
use Rattle.hls_view_place_laws.specs.Reading.{is_strong}

-- ---- one tick to a column

columns-are : (s : Scale) → s.ticks ≡ 1 → s.columns ≡ s.to + 1 - s.from
columns-are s one =
    let n = ticks_shown s.from s.to in
    let whole : ceiling n 1 ≡ n = omega arith in
    s.columns_are ∙ ap (ceiling n) (sym s.ticks_are ∙ one) ∙ whole

count-one : (is : ℕ → Bool) (t : ℕ) → count_by is (range_with_len t 1) ≡ cond (is t) 1 0
count-one is t =
    let e = sum_by-cons (λ u. cond (is u) 1 0) t [] in
    let none : sum_by (λ u. cond (is u) 1 0) [] ≡ 0 = refl in
    omega (arith, e, none)

one-count : (s : Scale) (is : ℕ → Bool) (column : ℕ) → s.ticks ≡ 1 → s.from + column ≤ s.to
    → count_in s is column ≡ cond (is (s.from + column)) 1 0
one-count s is column one within =
    let from : s.from + column * s.ticks ≡ s.from + column = ap (λ q. s.from + column * q) one ∙ times column in
    let few : min (s.to + 1 - s.from - column * s.ticks) s.ticks ≡ 1 =
    ap (λ q. min (s.to + 1 - s.from - column * q) q) one ∙ least s.from s.to column within in
    ap (λ a. count_by is (range_with_len a (min (s.to + 1 - s.from - column * s.ticks) s.ticks))) from
    ∙ ap (λ n. count_by is (range_with_len (s.from + column) n)) few
    ∙ count-one is (s.from + column)
  where
    times : (k : ℕ) → s.from + k * 1 ≡ s.from + k
    times k = omega arith

    least : (from to k : ℕ) → from + k ≤ to → min (to + 1 - from - k * 1) 1 ≡ 1
    least from to k le = omega (arith, le)

served-at : (s : Scale) (lane : ℕ → Facts) (column : ℕ) → s.ticks ≡ 1 → s.from + column ≤ s.to
    → get_or (counts_of s lane).served column 0 ≡ cond (lane (s.from + column)).served 1 0
served-at s lane column one within =
    let columns = columns-are s one in
    let lt : column < s.columns = omega (arith, columns, within) in
    get_or-map-range_with_len (count_in s (λ t. (lane t).served)) 0 s.columns column column 0 lt (omega arith)
    ∙ one-count s (λ t. (lane t).served) column one within

positive : (b : Bool) → nat_lt 0 (cond b 1 0) ≡ b
positive true = refl
positive false = refl

-- ---- the rows of the picture

module _ (c : Content) (s : Scale) (ways : List (List Label)) (signs : List Signs) (tights : List (Option Tight)) where
  abbrev pub counts : List Counts
  counts = all_counts c s ways

  abbrev pub row : ℕ → RowData
  row number = row_at s ways counts signs tights number

  abbrev pub last_row : RowData
  last_row = idle_row (get_or counts (length ways) no_counts)

  abbrev pub rows : List RowData
  rows = all_rows s ways counts signs tights

  pub row-there : (number : ℕ) → number < length ways → slice_get rows number ≡ Some (row number)
  row-there number lt =
      let long = length-map-range_with_len row 0 (length ways) in
      get_front (map row (range_with_len 0 (length ways))) (last_row ∷ []) number (row number)
      (slice_get-get_or (map row (range_with_len 0 (length ways))) number (row number) (omega (arith, long, lt))
      ∙ ap (λ r. Some r)
      (get_or-map-range_with_len row 0 (length ways) number number (row number) lt (omega arith)))

  lanes-long : length (map (λ way. counts_of s (λ t. facts c t way)) ways) ≡ length ways
  lanes-long = length-map ways (λ way. counts_of s (λ t. facts c t way))

  counts-at : (number : ℕ) → number < length ways
      → get_or counts number no_counts ≡ counts_of s (λ t. facts c t (get_or ways number []))
  counts-at number lt =
      get_or_append_left (map (λ way. counts_of s (λ t. facts c t way)) ways) (counts_of s (idle_facts c) ∷ [])
      no_counts number (let long = lanes-long in omega (arith, long, lt))
      ∙ get_or-map (λ way. counts_of s (λ t. facts c t way)) ways number [] no_counts lt

  idle-at : get_or counts (length ways) no_counts ≡ counts_of s (idle_facts c)
  idle-at =
      get_or_at (map (λ way. counts_of s (λ t. facts c t way)) ways) (counts_of s (idle_facts c)) [] no_counts
      (length ways) lanes-long

  -- a bar is there where the tick goes
  pub strong-row : (number column : ℕ) → s.ticks ≡ 1 → s.from + column ≤ s.to → number < length ways
      → is_strong column (row number) ≡ goes_to c (s.from + column) (get_or ways number [])
  strong-row number column one within lt =
      let way = get_or ways number [] in
      ap (λ (k : Counts). is_leaf way && nat_lt 0 (get_or k.served column 0)) (counts-at number lt)
      ∙ ap (λ n. is_leaf way && nat_lt 0 n) (served-at s (λ t. facts c t way) column one within)
      ∙ ap (λ b. is_leaf way && b) (positive (facts c (s.from + column) way).served)

  pub strong-last : (column : ℕ) → s.ticks ≡ 1 → s.from + column ≤ s.to
      → is_strong column last_row ≡ (idle_facts c (s.from + column)).served
  strong-last column one within =
      ap (λ (k : Counts). true && nat_lt 0 (get_or k.served column 0)) idle-at
      ∙ ap (λ n. true && nat_lt 0 n) (served-at s (idle_facts c) column one within)
      ∙ positive (idle_facts c (s.from + column)).served
