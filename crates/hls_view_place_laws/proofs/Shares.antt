-- How the leaves below a row share out its ticks.
use Rattle.std.proofs.Common.{◌≡◌, ℕ, zero, suc, ◌+◌, ◌-◌, ◌*◌, ◌<◌, ◌≤◌, min, List, [], ◌∷◌, Bool, true, false}
use Rattle.std.proofs.Common.{inl, inr, refl, sym, ap, subst, ◌∙◌, ◌&&◌, cond, filter, arith}
use Rattle.std.specs.Prelude.{Option, is_none}
use Rattle.std.specs.List.{range_with_len, sum_by, count_by}
use Rattle.std.proofs.lemmas.List.Sums.{sum_by-cons}
use Rattle.hls_text.specs.Lines.{Text}
use Rattle.hls_report_text.specs.Content.{Content}
use Rattle.hls_report_text.specs.WellFormed.{IsContent}
use Rattle.hls_view_tale.specs.declared.label.Label.{Label}
use Rattle.hls_view_scale.specs.declared.scale.Scale.{Scale}
use Rattle.hls_view_scale.specs.Columns.{column_from, ticks_in}
use Rattle.hls_view_lanes.specs.Likeness.{is_like, begins}
use Rattle.hls_view_lanes.specs.Rows.{rows_of}
use Rattle.hls_view_lanes.specs.Facts.{is_through, facts, idle_facts}
use Rattle.hls_view_lanes.specs.Leaves.{is_leaf, IsDown, IsGiven, HasWay, goes_to}
use Rattle.hls_view_lanes.proofs.Selves.{first-of, second-of, like-through}
use Rattle.hls_view_lanes.proofs.LeafLaws.{wrong, back, idle-alone}
use Rattle.hls_view_lanes.proofs.OneLeaf.{shared}
use Rattle.hls_view_place_laws.specs.Tales.{TellsUpTo}
use Rattle.hls_view_place_laws.specs.Shares.{shown_rows, leaves_below, served_in, idle_in}
use Rattle.hls_view_place_laws.proofs.Ticks.{tick-given}

-- ---- sums

one-term : {X : Type 0} (p : X → Bool) (x : X) → count_by p (x ∷ []) ≡ cond (p x) 1 0
one-term p x =
    let e = sum_by-cons (λ y. cond (p y) 1 0) x [] in
    let none : sum_by (λ y. cond (p y) 1 0) [] ≡ 0 = refl in
    omega (arith, e, none)

sum-same : {X : Type 0} (f g : X → ℕ) (xs : List X) → ((x : X) → f x ≡ g x) → sum_by f xs ≡ sum_by g xs
sum-same f g [] same = refl
sum-same f g (x ∷ xs) same =
    let one = sum_by-cons f x xs in
    let two = sum_by-cons g x xs in
    let here = same x in
    let rest = sum-same f g xs same in
    omega (arith, one, two, here, rest)

sum-none : {X : Type 0} (f : X → ℕ) (xs : List X) → ((x : X) → f x ≡ 0) → sum_by f xs ≡ 0
sum-none f [] none = refl
sum-none f (x ∷ xs) none =
    let one = sum_by-cons f x xs in
    let here = none x in
    let rest = sum-none f xs none in
    omega (arith, one, here, rest)

-- those that a filter leaves, by tests of all
count-filter : {X : Type 0} (p q : X → Bool) (xs : List X)
    → count_by q (filter p xs) ≡ count_by (λ x. p x && q x) xs
count-filter p q [] = refl
count-filter {X = X} p q (x ∷ xs) =
    let all = sum_by-cons (λ y. cond (p y && q y) 1 0) x xs in
    let rest = count-filter p q xs in
    by (p x) (sum_by-cons (λ y. cond (q y) 1 0) x (filter p xs)) rest ∙ sym all
  where
    by : (b : Bool) → count_by q (x ∷ filter p xs) ≡ cond (q x) 1 0 + count_by q (filter p xs)
        → count_by q (filter p xs) ≡ count_by (λ y. p y && q y) xs
        → count_by q (cond b (x ∷ filter p xs) (filter p xs))
        ≡ cond (b && q x) 1 0 + count_by (λ y. p y && q y) xs
    by true one rest = omega (arith, one, rest)
    by false one rest = omega (arith, rest)

-- ticks by ticks and rows by rows
turned : (q : ℕ → List Label → Bool) (t : ℕ) (ts : List ℕ) (rows : List (List Label))
    → sum_by (λ row. count_by (λ t. q t row) (t ∷ ts)) rows
    ≡ count_by (q t) rows + sum_by (λ row. count_by (λ t. q t row) ts) rows
turned q t ts [] = refl
turned q t ts (row ∷ rows) =
    let more = sum_by-cons (λ (r : List Label). count_by (λ t. q t r) (t ∷ ts)) row rows in
    let here = sum_by-cons (λ (s : ℕ). cond (q s row) 1 0) t ts in
    let rest = turned q t ts rows in
    let one = sum_by-cons (λ (r : List Label). cond (q t r) 1 0) row rows in
    let all = sum_by-cons (λ (r : List Label). count_by (λ t. q t r) ts) row rows in
    omega (arith, more, here, rest, one, all)

-- ---- at one tick

through : (a b c : List Label) → begins a b ≡ true → begins b c ≡ true → begins a c ≡ true
through [] b c e f = refl
through (l ∷ a) [] c e f = wrong false refl e
through (l ∷ a) (m ∷ b) [] e f = wrong false refl f
through (l ∷ a) (m ∷ b) (n ∷ c) e f =
    ap (λ x. x && begins a c) (like-through l m n (first-of (is_like l m) (begins a b) e)
    (first-of (is_like m n) (begins b c) f))
    ∙ through a b c (second-of (is_like l m) (begins a b) e) (second-of (is_like m n) (begins b c) f)

same-tests : (leaf below to whole : Bool) → (leaf ≡ true → to ≡ true → whole ≡ true → below ≡ true)
    → (below ≡ true → to ≡ true → whole ≡ true) → ((leaf && below) && to) ≡ ((leaf && to) && whole)
same-tests false below to whole f g = refl
same-tests true true true whole f g = sym (g refl refl)
same-tests true true false whole f g = refl
same-tests true false true true f g = f refl refl refl
same-tests true false true false f g = refl
same-tests true false false whole f g = refl

-- a leaf to which the way leads is below a row where the way is
leaf-below : (row leaf way : List Label) → IsDown way
    → ((is_leaf leaf && begins row leaf) && begins leaf way) ≡ ((is_leaf leaf && begins leaf way) && begins row way)
leaf-below row leaf way down =
    same-tests (is_leaf leaf) (begins row leaf) (begins leaf way) (begins row way)
    (λ is to whole. through row way leaf whole (back leaf way is down to))
    (λ below to. through row leaf way below to)

with-true : (b : Bool) → ◌≡◌ {A = ℕ} (cond (b && true) 1 0) (cond b 1 0)
with-true true = refl
with-true false = refl

with-false : (b : Bool) → ◌≡◌ {A = ℕ} (cond (b && false) 1 0) 0
with-false true = refl
with-false false = refl

times : {X : Type 0} (p : X → Bool) (b : Bool) (xs : List X) → count_by (λ x. p x && b) xs ≡ cond b (count_by p xs) 0
times p true xs = sum-same (λ x. cond (p x && true) 1 0) (λ x. cond (p x) 1 0) xs (λ x. with-true (p x))
times p false xs = sum-none (λ x. cond (p x && false) 1 0) xs (λ x. with-false (p x))

-- a tick that is not idle goes to one leaf
pub one-leaf : (c : Content) (from ticks t : ℕ) → from ≤ t → t < from + ticks → (w : HasWay c t)
    → count_by (goes_to c t) (rows_of c from ticks) ≡ 1
one-leaf c from ticks t le lt w =
    let rows = rows_of c from ticks in
    let all = shared c from ticks t 1 le (omega (arith, lt))
    (λ u low high. (let e : t ≡ u = omega (arith, low, high) in subst (λ n. IsGiven c n) e (inr w))) in
    let each = sum-same (λ (row : List Label). count_by (λ u. goes_to c u row) (t ∷ []))
    (λ (row : List Label). cond (goes_to c t row) 1 0) rows
    (λ row. one-term (λ u. goes_to c u row) t) in
    let idle = one-term (λ u. (idle_facts c u).served) t
    ∙ ap (λ (p : Option (List Text)). cond (is_none p) 1 0) w.path in
    omega (arith, all, each, idle)

at-tick : (c : Content) (from ticks t : ℕ) (row : List Label) → from ≤ t → t < from + ticks → IsGiven c t
    → count_by (λ leaf. (facts c t leaf).served) (leaves_below (rows_of c from ticks) row)
    ≡ cond (facts c t row).served 1 0
at-tick c from ticks t row le lt (inl none) =
    let nobody = (idle-alone c t none).1 in
    sum-none (λ leaf. cond (facts c t leaf).served 1 0) (leaves_below (rows_of c from ticks) row)
    (λ leaf. ap (λ b. cond b 1 0) (nobody leaf))
    ∙ ap (λ b. cond b 1 0) (sym (nobody row))
at-tick c from ticks t row le lt (inr w) =
    let rows = rows_of c from ticks in
    let served = λ (leaf : List Label). (facts c t leaf).served in
    let is : (leaf : List Label) → served leaf ≡ begins leaf w.way =
    λ leaf. ap (is_through leaf) w.given in
    count-filter (λ leaf. is_leaf leaf && begins row leaf) served rows
    ∙ sum-same (λ leaf. cond ((is_leaf leaf && begins row leaf) && served leaf) 1 0)
    (λ leaf. cond (goes_to c t leaf && served row) 1 0) rows
    (λ leaf. ap (λ b. cond ((is_leaf leaf && begins row leaf) && b) 1 0) (is leaf)
    ∙ ap (λ b. cond b 1 0) (leaf-below row leaf w.way w.down)
    ∙ ap (λ b. cond ((is_leaf leaf && b) && begins row w.way) 1 0) (sym (is leaf))
    ∙ ap (λ b. cond (goes_to c t leaf && b) 1 0) (sym (is row)))
    ∙ times (goes_to c t) (served row) rows
    ∙ ap (λ n. cond (served row) n 0) (one-leaf c from ticks t le lt w)

-- ---- ticks in a row

all-ticks : (c : Content) (from ticks a n : ℕ) (row : List Label)
    → ((t : ℕ) → a ≤ t → t < a + n → (from ≤ t) × (t < from + ticks) × IsGiven c t)
    → sum_by (λ leaf. count_by (λ t. (facts c t leaf).served) (range_with_len a n))
    (leaves_below (rows_of c from ticks) row)
    ≡ count_by (λ t. (facts c t row).served) (range_with_len a n)
all-ticks c from ticks a zero row each =
    sum-none (λ leaf. count_by (λ t. (facts c t leaf).served) []) (leaves_below (rows_of c from ticks) row)
    (λ leaf. refl)
all-ticks c from ticks a (suc n) row each =
    let leaves = leaves_below (rows_of c from ticks) row in
    let more = turned (λ t leaf. (facts c t leaf).served) a (range_with_len (a + 1) n) leaves in
    let whole = sum_by-cons (λ (t : ℕ). cond (facts c t row).served 1 0) a (range_with_len (a + 1) n) in
    let now = each a (omega arith) (omega arith) in
    let here = at-tick c from ticks a row now.0 now.1 now.2 in
    let rest = all-ticks c from ticks (a + 1) n row
    (λ t l u. each t (omega (arith, l)) (omega (arith, u))) in
    omega (arith, more, whole, here, rest)

idle-or-not : (c : Content) (t : ℕ) → IsGiven c t
    → cond (facts c t []).served 1 0 + cond (idle_facts c t).served 1 0 ≡ 1
idle-or-not c t (inl none) =
    let i = idle-alone c t none in
    ap (λ b. cond b 1 0 + cond (idle_facts c t).served 1 0) (i.1 []) ∙ ap (λ b. 0 + cond b 1 0) i.0
idle-or-not c t (inr w) =
    ap (λ b. cond b 1 0 + cond (idle_facts c t).served 1 0) (ap (is_through []) w.given)
    ∙ ap (λ (p : Option (List Text)). 1 + cond (is_none p) 1 0) w.path

served-or-idle : (c : Content) (a n : ℕ) → ((t : ℕ) → a ≤ t → t < a + n → IsGiven c t)
    → count_by (λ t. (facts c t []).served) (range_with_len a n)
    + count_by (λ t. (idle_facts c t).served) (range_with_len a n) ≡ n
served-or-idle c a zero each = refl
served-or-idle c a (suc n) each =
    let some = sum_by-cons (λ (t : ℕ). cond (facts c t []).served 1 0) a (range_with_len (a + 1) n) in
    let idle = sum_by-cons (λ (t : ℕ). cond (idle_facts c t).served 1 0) a (range_with_len (a + 1) n) in
    let here = idle-or-not c a (each a (omega arith) (omega arith)) in
    let rest = served-or-idle c (a + 1) n (λ t l u. each t (omega (arith, l)) (omega (arith, u))) in
    omega (arith, some, idle, here, rest)

-- ---- columns

inside : (from to past ticks t : ℕ) → from + past ≤ t → t < from + past + min (to + 1 - from - past) ticks
    → (from ≤ t) × (t < from + (to + 1 - from)) × (t ≤ to)
inside from to past ticks t low high = (omega (arith, low), omega (arith, low, high), omega (arith, low, high))

in-column : (c : Content) (s : Scale) (column t : ℕ) → IsContent c → TellsUpTo c s.to → column_from s column ≤ t
    → t < column_from s column + ticks_in s column
    → (s.from ≤ t) × (t < s.from + (s.to + 1 - s.from)) × IsGiven c t
in-column c s column t formed tells low high =
    let r = inside s.from s.to (column * s.ticks) s.ticks t low high in
    let last = r.2 in (
      r.0,
      r.1,
      tick-given c t formed (λ clause u few le. tells clause u few (omega (arith, le, last))),
    )

pub column-of-leaves : (c : Content) (s : Scale) (column : ℕ) (row : List Label) → IsContent c → TellsUpTo c s.to
    → sum_by (served_in c s column) (leaves_below (shown_rows c s) row) ≡ served_in c s column row
column-of-leaves c s column row formed tells =
    all-ticks c s.from (s.to + 1 - s.from) (column_from s column) (ticks_in s column) row
    (λ t low high. in-column c s column t formed tells low high)

pub column-shared : (c : Content) (s : Scale) (column : ℕ) → IsContent c → TellsUpTo c s.to
    → sum_by (served_in c s column) (leaves_below (shown_rows c s) []) + idle_in c s column ≡ ticks_in s column
column-shared c s column formed tells =
    ap (λ n. n + idle_in c s column) (column-of-leaves c s column [] formed tells)
    ∙ served-or-idle c (column_from s column) (ticks_in s column)
    (λ t low high. (in-column c s column t formed tells low high).2)
