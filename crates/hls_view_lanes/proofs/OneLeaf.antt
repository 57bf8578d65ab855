-- Each tick goes to one row that ends in a thread, or is idle; so these rows share out the ticks.
use Rattle.std.proofs.Common.{◌≡◌, ℕ, zero, suc, ◌+◌, ◌-◌, ◌<◌, ◌≤◌, List, [], ◌∷◌, true, false, refl, ap, sym, subst}
use Rattle.std.proofs.Common.{◌∙◌, ◌&&◌, ◌||◌, Bool, cond, inl, inr, arith}
use Rattle.std.specs.Prelude.{Option, Some, slice_get, find, option_and_then, is_none}
use Rattle.std.specs.List.{range_with_len, sum_by, count_by}
use Rattle.std.proofs.lemmas.List.Sums.{sum_by-cons}
use Rattle.hls_text.specs.Lines.{Text}
use Rattle.hls_report_text.specs.Content.{Content}
use Rattle.hls_legal.specs.Schedule.{path_at}
use Rattle.hls_view_tale.specs.declared.label.Label.{Label}
use Rattle.hls_view_lanes.specs.Likeness.{is_like, begins, is_same}
use Rattle.hls_view_lanes.specs.Rows.{ways_at, has_row, rows_of}
use Rattle.hls_view_lanes.specs.Facts.{spells, given_at, is_through, facts, idle_facts}
use Rattle.hls_view_lanes.specs.Standing.{AreApart}
use Rattle.hls_view_lanes.specs.Leaves.{is_leaf, IsDown, IsGiven, goes_to}
use Rattle.hls_view_lanes.proofs.Selves.{first-of, second-of, like-parts, like-through, same-thread}
use Rattle.hls_view_lanes.proofs.LeafLaws.{wrong, back, idle-alone}
use Rattle.hls_view_lanes.proofs.RowLaws.{ways-have-rows, rows-apart}

-- ---- ways that read alike

through : (a b c : List Label) → begins a b ≡ true → begins b c ≡ true → begins a c ≡ true
through [] b c e f = refl
through (l ∷ a) [] c e f = wrong false refl e
through (l ∷ a) (m ∷ b) [] e f = wrong false refl f
through (l ∷ a) (m ∷ b) (n ∷ c) e f =
    ap (λ x. x && begins a c) (like-through l m n (first-of (is_like l m) (begins a b) e)
    (first-of (is_like m n) (begins b c) f))
    ∙ through a b c (second-of (is_like l m) (begins a b) e) (second-of (is_like m n) (begins b c) f)

-- two rows that read as one way
alike : (row other way : List Label) → is_same row way ≡ true → is_same other way ≡ true → is_same other row ≡ true
alike row other way e f =
    let out = first-of (begins row way) (begins way row) e in
    let home = second-of (begins row way) (begins way row) e in
    let far = first-of (begins other way) (begins way other) f in
    let near = second-of (begins other way) (begins way other) f in
    ap (λ x. x && begins row other) (through other way row far home) ∙ through row way other out near

-- a row that reads as a way down to a thread ends in a thread
leaf-back : (row way : List Label) → IsDown way → begins row way ≡ true → begins way row ≡ true → is_leaf row ≡ true
leaf-back [] [] down e f = absurd down
leaf-back [] (m ∷ way) down e f = wrong false refl f
leaf-back (l ∷ row) [] down e f = absurd down
leaf-back (l ∷ []) (m ∷ []) down e f =
    let same = (like-parts l m (first-of (is_like l m) true e)).sort in
    same-thread l.sort m.sort same ∙ down
leaf-back (l ∷ []) (m ∷ next ∷ way) down e f = wrong false refl (second-of (is_like m l) false f)
leaf-back (l ∷ other ∷ row) (m ∷ []) down e f = wrong false refl (second-of (is_like l m) false e)
leaf-back (l ∷ other ∷ row) (m ∷ next ∷ way) down e f =
    leaf-back (other ∷ row) (next ∷ way) down.1 (second-of (is_like l m) (begins (other ∷ row) (next ∷ way)) e)
    (second-of (is_like m l) (begins (next ∷ way) (other ∷ row)) f)

both-by : (leaf to from : Bool) → (leaf ≡ true → to ≡ true → from ≡ true) → (to ≡ true → from ≡ true → leaf ≡ true)
    → (leaf && to) ≡ (to && from)
both-by true true true f g = refl
both-by true true false f g = sym (f refl refl)
both-by true false from f g = refl
both-by false true true f g = g refl refl
both-by false true false f g = refl
both-by false false from f g = refl

leaf-or-not : (row way : List Label) → IsDown way → (is_leaf row && begins row way) ≡ is_same row way
leaf-or-not row way down =
    both-by (is_leaf row) (begins row way) (begins way row) (λ leaf e. back row way leaf down e)
    (λ e f. leaf-back row way down e f)

-- ---- of rows that are apart one reads as a way

or_first : (a b : Bool) → (a || b) ≡ false → a ≡ false
or_first true b e = e
or_first false b e = refl

or_second : (a b : Bool) → (a || b) ≡ false → b ≡ false
or_second true b e = absurd (let no : true ≡ false = e in cc)
or_second false b e = e

or_right : (a b : Bool) → b ≡ true → (a || b) ≡ true
or_right true b e = refl
or_right false b e = e

not-true : (b : Bool) → (b ≡ true → ⊥) → b ≡ false
not-true true f = absurd (f refl)
not-true false f = refl

none-here : (rows : List (List Label)) (way : List Label) → has_row rows way ≡ false
    → count_by (λ row. is_same row way) rows ≡ 0
none-here [] way e = refl
none-here (row ∷ rows) way e =
    sum_by-cons (λ (r : List Label). cond (is_same r way) 1 0) row rows
    ∙ ap (λ b. cond b 1 0 + count_by (λ r. is_same r way) rows) (or_first (is_same row way) (has_row rows way) e)
    ∙ ap (λ n. 0 + n) (none-here rows way (or_second (is_same row way) (has_row rows way) e))

found-step : (first : List Label) (rows : List (List Label)) (row way : List Label) → is_same row way ≡ true
    → (has_row rows way ≡ true → has_row rows row ≡ true) → (b : Bool) → is_same first way ≡ b
    → (b || has_row rows way) ≡ true → has_row (first ∷ rows) row ≡ true
found-step first rows row way same more true is e =
    ap (λ x. x || has_row rows row) (alike row first way same is)
found-step first rows row way same more false is e = or_right (is_same first row) (has_row rows row) (more e)

found-alike : (rows : List (List Label)) (row way : List Label) → is_same row way ≡ true → has_row rows way ≡ true
    → has_row rows row ≡ true
found-alike [] row way same e = e
found-alike (first ∷ rows) row way same e =
    found-step first rows row way same (λ h. found-alike rows row way same h) (is_same first way) refl e

one-step : (row : List Label) (rows : List (List Label)) (way : List Label) → has_row rows row ≡ false
    → (has_row rows way ≡ true → count_by (λ r. is_same r way) rows ≡ 1) → (b : Bool) → is_same row way ≡ b
    → (b || has_row rows way) ≡ true → count_by (λ r. is_same r way) (row ∷ rows) ≡ 1
one-step row rows way apart more true is e =
    let none = not-true (has_row rows way) (λ h. wrong (has_row rows row) apart (found-alike rows row way is h)) in
    sum_by-cons (λ (r : List Label). cond (is_same r way) 1 0) row rows
    ∙ ap (λ b. cond b 1 0 + count_by (λ r. is_same r way) rows) is ∙ ap (λ n. 1 + n) (none-here rows way none)
one-step row rows way apart more false is e =
    sum_by-cons (λ (r : List Label). cond (is_same r way) 1 0) row rows
    ∙ ap (λ b. cond b 1 0 + count_by (λ r. is_same r way) rows) is ∙ ap (λ n. 0 + n) (more e)

one-here : (rows : List (List Label)) (way : List Label) → AreApart rows → has_row rows way ≡ true
    → count_by (λ row. is_same row way) rows ≡ 1
one-here [] way apart e = absurd (let no : false ≡ true = e in cc)
one-here (row ∷ rows) way apart e =
    one-step row rows way apart.0 (λ h. one-here rows way apart.1 h) (is_same row way) refl e

count-alike : (p q : List Label → Bool) (rows : List (List Label)) → ((row : List Label) → p row ≡ q row)
    → count_by p rows ≡ count_by q rows
count-alike p q [] f = refl
count-alike p q (row ∷ rows) f =
    sum_by-cons (λ (r : List Label). cond (p r) 1 0) row rows
    ∙ ap (λ b. cond b 1 0 + count_by p rows) (f row)
    ∙ ap (λ n. cond (q row) 1 0 + n) (count-alike p q rows f)
    ∙ sym (sum_by-cons (λ (r : List Label). cond (q r) 1 0) row rows)

count-never : (p : List Label → Bool) (rows : List (List Label)) → ((row : List Label) → p row ≡ false)
    → count_by p rows ≡ 0
count-never p [] f = refl
count-never p (row ∷ rows) f =
    sum_by-cons (λ (r : List Label). cond (p r) 1 0) row rows
    ∙ ap (λ b. cond b 1 0 + count_by p rows) (f row) ∙ ap (λ n. 0 + n) (count-never p rows f)

-- ---- a tick

found-at : (test : List Label → Bool) (ways : List (List Label)) (way : List Label) → find test ways ≡ Some way
    → (i : ℕ) × (slice_get ways i ≡ Some way)
found-at test [] way e = absurd (cc)
found-at test (first ∷ ways) way e = by (test first) e (λ f. found-at test ways way f)
  where
    by : (b : Bool) → cond b (Some first) (find test ways) ≡ Some way
        → (find test ways ≡ Some way → (i : ℕ) × (slice_get ways i ≡ Some way))
        → (i : ℕ) × (slice_get (first ∷ ways) i ≡ Some way)
    by true f more = (zero, f)
    by false f more = let found = more f in (suc found.0, found.1)

given-there : (c : Content) (t : ℕ) (names : List Text) (way : List Label) → path_at c.stretches t ≡ Some names
    → given_at c t ≡ Some way → (i : ℕ) × (slice_get (ways_at c t) i ≡ Some way)
given-there c t names way path given =
    found-at (spells names) (ways_at c t) way
    (sym (ap (λ (p : Option (List Text)). option_and_then (λ names. find (spells names) (ways_at c t)) p) path) ∙ given)

leaf-false : (a b : Bool) → b ≡ false → (a && b) ≡ false
leaf-false true b e = e
leaf-false false b e = refl

leaves-at : (c : Content) (from ticks t : ℕ) → from ≤ t → t < from + ticks → IsGiven c t
    → count_by (goes_to c t) (rows_of c from ticks) + cond (idle_facts c t).served 1 0 ≡ 1
leaves-at c from ticks t le lt (inl none) =
    let idle = idle-alone c t none in
    let no = count-never (goes_to c t) (rows_of c from ticks)
    (λ row. leaf-false (is_leaf row) (facts c t row).served (idle.1 row)) in
    ap (λ n. n + cond (idle_facts c t).served 1 0) no ∙ ap (λ b. 0 + cond b 1 0) idle.0
leaves-at c from ticks t le lt (inr w) =
    let there = given-there c t w.names w.way w.path w.given in
    let now : t ≡ from + (t - from) = omega (arith, le) in
    let here : slice_get (ways_at c (from + (t - from))) there.0 ≡ Some w.way =
    subst (λ n. slice_get (ways_at c n) there.0 ≡ Some w.way) now there.1 in
    let row = ways-have-rows c from ticks (t - from) there.0 w.way (omega (arith, le, lt)) here in
    let one = count-alike (goes_to c t) (λ r. is_same r w.way) (rows_of c from ticks)
    (λ r. ap (λ (g : Option (List Label)). is_leaf r && is_through r g) w.given ∙ leaf-or-not r w.way w.down)
    ∙ one-here (rows_of c from ticks) w.way (rows-apart c from ticks) row in
    ap (λ n. n + cond (idle_facts c t).served 1 0) one
    ∙ ap (λ (p : Option (List Text)). 1 + cond (is_none p) 1 0) w.path

-- ---- ticks in a row

total-none : (c : Content) (rows : List (List Label))
    → sum_by (λ (row : List Label). count_by (λ t. goes_to c t row) []) rows ≡ 0
total-none c [] = refl
total-none c (row ∷ rows) =
    sum_by-cons (λ (row : List Label). count_by (λ t. goes_to c t row) []) row rows
    ∙ ap (λ n. 0 + n) (total-none c rows)

total-more : (c : Content) (t : ℕ) (ts : List ℕ) (rows : List (List Label))
    → sum_by (λ (row : List Label). count_by (λ t. goes_to c t row) (t ∷ ts)) rows
    ≡ count_by (goes_to c t) rows + sum_by (λ (row : List Label). count_by (λ t. goes_to c t row) ts) rows
total-more c t ts [] = refl
total-more c t ts (row ∷ rows) =
    let more = sum_by-cons (λ (row : List Label). count_by (λ t. goes_to c t row) (t ∷ ts)) row rows in
    let here = sum_by-cons (λ (s : ℕ). cond (goes_to c s row) 1 0) t ts in
    let rest = total-more c t ts rows in
    let one = sum_by-cons (λ (row : List Label). cond (goes_to c t row) 1 0) row rows in
    let all = sum_by-cons (λ (row : List Label). count_by (λ t. goes_to c t row) ts) row rows in
    omega (arith, more, here, rest, one, all)

pub shared : (c : Content) (from ticks a n : ℕ) → from ≤ a → a + n ≤ from + ticks
    → ((t : ℕ) → a ≤ t → t < a + n → IsGiven c t)
    → sum_by (λ row. count_by (λ t. goes_to c t row) (range_with_len a n)) (rows_of c from ticks)
    + count_by (λ t. (idle_facts c t).served) (range_with_len a n) ≡ n
shared c from ticks a zero le lt given = ap (λ n. n + 0) (total-none c (rows_of c from ticks))
shared c from ticks a (suc n) le lt given =
    let rows = rows_of c from ticks in
    let more = total-more c a (range_with_len (a + 1) n) rows in
    let idle = sum_by-cons (λ (t : ℕ). cond (idle_facts c t).served 1 0) a (range_with_len (a + 1) n) in
    let here = leaves-at c from ticks a le (omega (arith, lt)) (given a (omega arith) (omega arith)) in
    let rest = shared c from ticks (a + 1) n (omega (arith, le)) (omega (arith, lt))
    (λ t l u. given t (omega (arith, l)) (omega (arith, u))) in
    omega (arith, more, idle, here, rest)
