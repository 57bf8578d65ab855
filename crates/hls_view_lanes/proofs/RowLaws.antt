-- Rows as they come: none is lost, none stands twice, and each is a way of some tick.
use Rattle.std.proofs.Common.{◌≡◌, ℕ, zero, suc, ◌+◌, ◌-◌, ◌<◌, ◌≤◌, List, [], ◌∷◌, ◌++◌, true, false, refl, ap, sym}
use Rattle.std.proofs.Common.{subst, ◌∙◌, ◌&&◌, ◌||◌, Bool, cond, take, drop, fold, length, inl, inr, arith}
use Rattle.std.specs.Prelude.{Some, slice_get, map}
use Rattle.std.specs.List.{list_any, insert, range_with_len, AllByRecursion}
use Rattle.std.proofs.lemmas.Bool.{cases_eq}
use Rattle.std.proofs.lemmas.List.Folds.{list_any-append}
use Rattle.std.proofs.lemmas.List.FromFn.{map-range_with_len_more}
use Rattle.std.proofs.lemmas.List.Sums.{fold-append}
use Rattle.hls_report_text.specs.Content.{Content}
use Rattle.hls_view_tale.specs.declared.label.Label.{Label}
use Rattle.hls_view_lanes.specs.Likeness.{begins, is_same}
use Rattle.hls_view_lanes.specs.Rows.{ways_at, ways_by_stays, has_row, reach, above_of, with_row, beginnings, with_rows}
use Rattle.hls_view_lanes.specs.Rows.{rows_of}
use Rattle.hls_view_lanes.specs.Standing.{AreApart, IsSomeWay}
use Rattle.hls_view_lanes.specs.Inside.Kept.{HaveRows}
use Rattle.hls_view_lanes.proofs.Alls.{all-at, all-from, all-weaker, all-inserted}
use Rattle.hls_view_lanes.proofs.Selves.{same-self}
use Rattle.hls_view_lanes.proofs.Stays.{by-stays-all, all-by-stays, ways-begin}

or_either : (a b p : Bool) → (a || b) ≡ true → (a || (p || b)) ≡ true
or_either true b p e = refl
or_either false b true e = refl
or_either false b false e = e

or_middle : (a b p : Bool) → p ≡ true → (a || (p || b)) ≡ true
or_middle true b p e = refl
or_middle false b true e = refl
or_middle false b false e = absurd (let no : false ≡ true = e in cc)

or_none : (a b p : Bool) → (a || b) ≡ false → p ≡ false → (a || (p || b)) ≡ false
or_none true b p e f = e
or_none false b true e f = absurd (let no : true ≡ false = f in cc)
or_none false b false e f = e

whole : {A : Type 0} (i : ℕ) (xs : List A) → take i xs ++ drop i xs ≡ xs
whole zero xs = refl
whole (suc i) [] = refl
whole (suc i) (x ∷ xs) = ap (λ ys. x ∷ ys) (whole i xs)

any_insert : (test : List Label → Bool) (rows : List (List Label)) (i : ℕ) (way : List Label)
    → list_any test (insert rows i way) ≡ (list_any test (take i rows) || (test way || list_any test (drop i rows)))
any_insert test rows i way = list_any-append test (take i rows) (way ∷ drop i rows)

any_whole : (test : List Label → Bool) (rows : List (List Label)) (i : ℕ)
    → (list_any test (take i rows) || list_any test (drop i rows)) ≡ list_any test rows
any_whole test rows i =
    sym (list_any-append test (take i rows) (drop i rows)) ∙ ap (list_any test) (whole i rows)

insert_keeps : (rows : List (List Label)) (i : ℕ) (way other : List Label) → has_row rows other ≡ true
    → has_row (insert rows i way) other ≡ true
insert_keeps rows i way other had =
    let test = (λ (row : List Label). is_same row other) in
    any_insert test rows i way
    ∙ or_either (list_any test (take i rows)) (list_any test (drop i rows)) (test way) (any_whole test rows i ∙ had)

insert_has : (rows : List (List Label)) (i : ℕ) (way : List Label) → has_row (insert rows i way) way ≡ true
insert_has rows i way =
    let test = (λ (row : List Label). is_same row way) in
    any_insert test rows i way
    ∙ or_middle (list_any test (take i rows)) (list_any test (drop i rows)) (test way) (same-self way)

-- ---- no row is lost

keeps : (rows : List (List Label)) (way other : List Label) (b : Bool) → has_row rows other ≡ true
    → has_row (cond b rows (insert rows (reach (above_of way) rows) way)) other ≡ true
keeps rows way other true had = had
keeps rows way other false had = insert_keeps rows (reach (above_of way) rows) way other had

has : (rows : List (List Label)) (way : List Label) (b : Bool) → has_row rows way ≡ b
    → has_row (cond b rows (insert rows (reach (above_of way) rows) way)) way ≡ true
has rows way true is = is
has rows way false is = insert_has rows (reach (above_of way) rows) way

all_keep : (rows ways : List (List Label)) (other : List Label) → has_row rows other ≡ true
    → has_row (fold with_row rows ways) other ≡ true
all_keep rows [] other had = had
all_keep rows (way ∷ ways) other had =
    all_keep (with_row rows way) ways other (keeps rows way other (has_row rows way) had)

all_have : (rows ways : List (List Label)) → HaveRows (fold with_row rows ways) ways
all_have rows [] = tt
all_have rows (way ∷ ways) = (
  all_keep (with_row rows way) ways way (has rows way (has_row rows way) refl),
  all_have (with_row rows way) ways,
)

ranged-at : (P : List Label → Type 0) (f : ℕ → List Label) (a n k : ℕ)
    → AllByRecursion P (map f (range_with_len a n)) → k < n → P (f (a + k))
ranged-at P f a zero k all lt = absurd (omega (arith, lt))
ranged-at P f a (suc n) zero all lt = let here : a ≡ a + 0 = omega arith in subst (λ m. P (f m)) here all.0
ranged-at P f a (suc n) (suc k) all lt =
    let there : a + 1 + k ≡ a + suc k = omega arith in
    subst (λ m. P (f m)) there (ranged-at P f (a + 1) n k all.1 (omega (arith, lt)))

-- a way is the last of its beginnings
take-whole : (way : List Label) → take (length way) way ≡ way
take-whole [] = refl
take-whole (l ∷ way) = ap (λ (w : List Label). l ∷ w) (take-whole way)

set_keeps : (rows : List (List Label)) (way other : List Label) (b : Bool) → has_row rows other ≡ true
    → has_row (cond b rows (fold with_row rows (beginnings way))) other ≡ true
set_keeps rows way other true had = had
set_keeps rows way other false had = all_keep rows (beginnings way) other had

set_has : (rows : List (List Label)) (way : List Label) (b : Bool) → has_row rows way ≡ b
    → has_row (cond b rows (fold with_row rows (beginnings way))) way ≡ true
set_has rows way true is = is
set_has rows way false is =
    let all = fold with_row rows (beginnings way) in
    let none : 0 + length way ≡ length way = omega arith in
    subst (λ (w : List Label). has_row all w ≡ true) (ap (λ n. take n way) none ∙ take-whole way)
    (ranged-at (λ (w : List Label). has_row all w ≡ true) (λ n. take n way) 0 (length way + 1) (length way)
    (all_have rows (beginnings way)) (omega arith))

sets_keep : (rows ways : List (List Label)) (other : List Label) → has_row rows other ≡ true
    → has_row (fold with_rows rows ways) other ≡ true
sets_keep rows [] other had = had
sets_keep rows (way ∷ ways) other had =
    sets_keep (with_rows rows way) ways other (set_keeps rows way other (has_row rows way) had)

-- rows that are there are not added again
pub have-after : (rows ways : List (List Label)) → HaveRows (fold with_rows rows ways) ways
have-after rows [] = tt
have-after rows (way ∷ ways) = (
  sets_keep (with_rows rows way) ways way (set_has rows way (has_row rows way) refl),
  have-after (with_rows rows way) ways,
)

with-had : (rows more : List (List Label)) (b : Bool) → b ≡ true → cond b rows more ≡ rows
with-had rows more true e = refl
with-had rows more false e = absurd (let no : false ≡ true = e in cc)

pub had-before : (rows ways : List (List Label)) → HaveRows rows ways → fold with_rows rows ways ≡ rows
had-before rows [] had = refl
had-before rows (way ∷ ways) had =
    let same = with-had rows (fold with_row rows (beginnings way)) (has_row rows way) had.0 in
    ap (λ (all : List (List Label)). fold with_rows all ways) same ∙ had-before rows ways had.1

pub ways-have-rows : (c : Content) (from ticks t i : ℕ) (way : List Label) → t < ticks
    → slice_get (ways_at c (from + t)) i ≡ Some way → has_row (rows_of c from ticks) way ≡ true
unfolding rows_of
ways-have-rows c from zero t i way lt is = absurd (omega (arith, lt))
ways-have-rows c from (suc ticks) t i way lt is =
    let rows = rows_of c from ticks in
    let ways = ways_by_stays c (from + ticks) in
    let P = (λ (w : List Label). has_row (fold with_rows rows ways) w ≡ true) in
    elim (cases_eq t ticks) [
      | inl same ↦
          all-at P (ways_at c (from + ticks)) i way (all-by-stays P c (from + ticks) (have-after rows ways))
          (subst (λ n. slice_get (ways_at c (from + n)) i ≡ Some way) same is)
      | inr ne ↦ sets_keep rows ways way (ways-have-rows c from ticks t i way (omega (arith, lt, ne)) is)
    ]

-- ---- no row stands twice

and_turned : (a b : Bool) → (a && b) ≡ (b && a)
and_turned true true = refl
and_turned true false = refl
and_turned false true = refl
and_turned false false = refl

turned : (a b : List Label) → is_same a b ≡ is_same b a
turned a b = and_turned (begins a b) (begins b a)

or_first : (a b : Bool) → (a || b) ≡ false → a ≡ false
or_first true b e = e
or_first false b e = refl

or_second : (a b : Bool) → (a || b) ≡ false → b ≡ false
or_second true b e = absurd (let no : true ≡ false = e in cc)
or_second false b e = e

insert_apart : (rows : List (List Label)) (i : ℕ) (way : List Label) → has_row rows way ≡ false → AreApart rows
    → AreApart (insert rows i way)
insert_apart rows zero way none apart = (none, apart)
insert_apart [] (suc i) way none apart = (refl, tt)
insert_apart (row ∷ rows) (suc i) way none apart =
    let test = (λ (other : List Label). is_same other row) in
    let first : is_same row way ≡ false = or_first (is_same row way) (has_row rows way) none in
    let rest : has_row rows way ≡ false = or_second (is_same row way) (has_row rows way) none in (
      any_insert test rows i way ∙ or_none (list_any test (take i rows)) (list_any test (drop i rows)) (test way)
          (any_whole test rows i ∙ apart.0) (turned way row ∙ first),
      insert_apart rows i way rest apart.1,
    )

stays_apart : (rows : List (List Label)) (way : List Label) (b : Bool) → has_row rows way ≡ b → AreApart rows
    → AreApart (cond b rows (insert rows (reach (above_of way) rows) way))
stays_apart rows way true is apart = apart
stays_apart rows way false is apart = insert_apart rows (reach (above_of way) rows) way is apart

all_apart : (rows ways : List (List Label)) → AreApart rows → AreApart (fold with_row rows ways)
all_apart rows [] apart = apart
all_apart rows (way ∷ ways) apart =
    all_apart (with_row rows way) ways (stays_apart rows way (has_row rows way) refl apart)

set_apart : (rows : List (List Label)) (way : List Label) (b : Bool) → AreApart rows
    → AreApart (cond b rows (fold with_row rows (beginnings way)))
set_apart rows way true apart = apart
set_apart rows way false apart = all_apart rows (beginnings way) apart

sets_apart : (rows ways : List (List Label)) → AreApart rows → AreApart (fold with_rows rows ways)
sets_apart rows [] apart = apart
sets_apart rows (way ∷ ways) apart = sets_apart (with_rows rows way) ways (set_apart rows way (has_row rows way) apart)

pub rows-apart : (c : Content) (from ticks : ℕ) → AreApart (rows_of c from ticks)
unfolding rows_of
rows-apart c from zero = (refl, tt)
rows-apart c from (suc ticks) =
    sets_apart (rows_of c from ticks) (ways_by_stays c (from + ticks)) (rows-apart c from ticks)

-- ---- each row is a way of some tick

with_all : (P : List Label → Type 0) (rows : List (List Label)) (way : List Label) (b : Bool) → P way
    → AllByRecursion P rows → AllByRecursion P (cond b rows (insert rows (reach (above_of way) rows) way))
with_all P rows way true p all = all
with_all P rows way false p all = all-inserted P rows (reach (above_of way) rows) way p all

ranged_all : (P : List Label → Type 0) (f : ℕ → List Label) (a n : ℕ) (rows : List (List Label)) → ((k : ℕ) → P (f k))
    → AllByRecursion P rows → AllByRecursion P (fold with_row rows (map f (range_with_len a n)))
ranged_all P f a zero rows each all = all
ranged_all P f a (suc n) rows each all =
    ranged_all P f (a + 1) n (with_row rows (f a)) each (with_all P rows (f a) (has_row rows (f a)) (each a) all)

set_all : (P : List Label → Type 0) (rows : List (List Label)) (way : List Label) (b : Bool)
    → ((n : ℕ) → P (take n way)) → AllByRecursion P rows
    → AllByRecursion P (cond b rows (fold with_row rows (beginnings way)))
set_all P rows way true each all = all
set_all P rows way false each all = ranged_all P (λ n. take n way) 0 (length way + 1) rows each all

sets_all : (P : List Label → Type 0) (rows ways : List (List Label))
    → AllByRecursion (λ way. (n : ℕ) → P (take n way)) ways → AllByRecursion P rows
    → AllByRecursion P (fold with_rows rows ways)
sets_all P rows [] each all = all
sets_all P rows (way ∷ ways) each all =
    sets_all P (with_rows rows way) ways each.1 (set_all P rows way (has_row rows way) each.0 all)

later : (c : Content) (from ticks : ℕ) (row : List Label) → IsSomeWay c from ticks row
    → IsSomeWay c from (suc ticks) row
later c from ticks row (inl top) = inl top
later c from ticks row (inr way) =
    let early = way.early in
    inr (record { t = way.t; early = omega (arith, early); number = way.number; there = way.there })

pub rows-are-ways : (c : Content) (from ticks : ℕ) → AllByRecursion (IsSomeWay c from ticks) (rows_of c from ticks)
unfolding rows_of
rows-are-ways c from zero = (inl refl, tt)
rows-are-ways c from (suc ticks) =
    let P = IsSomeWay c from (suc ticks) in
    let t = from + ticks in
    sets_all P (rows_of c from ticks) (ways_by_stays c t)
    (by-stays-all (λ way. (n : ℕ) → P (take n way)) c t
    (ways-begin P c t (inl refl)
    (all-from P (ways_at c t)
    (λ i way is. inr (record { t = ticks; early = omega arith; number = i; there = is })))))
    (all-weaker (IsSomeWay c from ticks) P (rows_of c from ticks) (later c from ticks) (rows-are-ways c from ticks))

-- ---- one beginning more

pub more-rows : (rows all : List (List Label)) (way : List Label) (n : ℕ)
    → all ≡ fold with_row rows (map (λ k. take k way) (range_with_len 0 n))
    → with_row all (take n way) ≡ fold with_row rows (map (λ k. take k way) (range_with_len 0 (n + 1)))
more-rows rows all way n e =
    let begun = map (λ k. take k way) (range_with_len 0 n) in
    ap (λ (some : List (List Label)). with_row some (take n way)) e
    ∙ sym (fold-append with_row rows begun (take n way ∷ []))
    ∙ ap (fold with_row rows) (sym (map-range_with_len_more (λ k. take k way) 0 n n (omega arith)))

-- ---- one tick more

pub rows-more : (c : Content) (from tick : ℕ) → from ≤ tick
    → rows_of c from (tick + 1 - from) ≡ fold with_rows (rows_of c from (tick - from)) (ways_by_stays c tick)
unfolding rows_of
rows-more c from tick le =
    let one : tick + 1 - from ≡ suc (tick - from) = omega (arith, le) in
    let now : from + (tick - from) ≡ tick = omega (arith, le) in
    ap (rows_of c from) one ∙ ap (λ t. fold with_rows (rows_of c from (tick - from)) (ways_by_stays c t)) now

pub rows-first : (c : Content) (from : ℕ) → rows_of c from (from - from) ≡ [] ∷ []
unfolding rows_of
rows-first c from = let none : from - from ≡ 0 = omega arith in ap (rows_of c from) none

last_range : {A : Type 0} (f : ℕ → A) (a n : ℕ)
    → map f (range_with_len a (suc n)) ≡ map f (range_with_len a n) ++ f (a + n) ∷ []
last_range f a zero = let here : a ≡ a + 0 = omega arith in ap (λ t. f t ∷ []) here
last_range f a (suc n) =
    let here : a + 1 + n ≡ a + suc n = omega arith in
    ap (λ xs. f a ∷ xs) (last_range f (a + 1) n ∙ ap (λ t. map f (range_with_len (a + 1) n) ++ f t ∷ []) here)

pub range-more : {A : Type 0} (f : ℕ → A) (from tick : ℕ) → from ≤ tick
    → map f (range_with_len from (tick + 1 - from)) ≡ map f (range_with_len from (tick - from)) ++ f tick ∷ []
range-more f from tick le =
    let one : tick + 1 - from ≡ suc (tick - from) = omega (arith, le) in
    let now : from + (tick - from) ≡ tick = omega (arith, le) in
    ap (λ n. map f (range_with_len from n)) one ∙ last_range f from (tick - from)
    ∙ ap (λ t. map f (range_with_len from (tick - from)) ++ f t ∷ []) now

pub range-none : {A : Type 0} (f : ℕ → A) (from : ℕ) → map f (range_with_len from (from - from)) ≡ []
range-none f from =
    let none : from - from ≡ 0 = omega arith in ap (λ n. map f (range_with_len from n)) none
