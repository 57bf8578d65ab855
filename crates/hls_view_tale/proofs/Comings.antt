-- How many commands came up to a tick.
use Rattle.std.proofs.Common.{◌≡◌, ℕ, zero, suc, ◌+◌, ◌<◌, ◌≤◌, List, [], ◌∷◌, inl, inr}
use Rattle.std.proofs.Common.{refl, sym, ap, ◌∙◌, subst, arith, cond, length, get_or, take}
use Rattle.std.specs.Prelude.{Bool, Some, nat_le, slice_get, filter}
use Rattle.std.proofs.lemmas.Bool.{cases_eq, cases_lt, le-leb, lt-leb}
use Rattle.std.proofs.lemmas.List.{length-take-le}
use Rattle.std.proofs.lemmas.Option.{slice_get_read, slice_get_within, get_or_from_slice_get}
use Rattle.hls_report_text.specs.declared.report.Answered.{Answered}
use Rattle.hls_report_text.specs.WellFormed.{AreAnswered}
use Rattle.hls_audit_clauses.specs.Names.{tree_of, tree_at}
use Rattle.hls_view_tale.specs.Hierarchies.{came_by}

-- none of the first so many commands comes behind a tick
abbrev pub AreEarly : List Answered → (t came : ℕ) → Type 0
AreEarly all t came = (k : ℕ) (a : Answered) → k < came → slice_get all k ≡ Some a → a.tick ≤ t

-- none of the others comes before it or in it
abbrev pub AreLate : List Answered → (t came : ℕ) → Type 0
AreLate all t came = (k : ℕ) (a : Answered) → came ≤ k → slice_get all k ≡ Some a → t < a.tick

pub up_to : (t came : ℕ) (all : List Answered) → AreEarly all t came → AreLate all t came
    → filter (λ (a : Answered). nat_le a.tick t) all ≡ take came all
up_to t zero [] early late = refl
up_to t (suc came) [] early late = refl
up_to t zero (a ∷ all) early late =
    ap (λ (b : Bool). cond b (a ∷ filter (λ (a : Answered). nat_le a.tick t) all)
    (filter (λ (a : Answered). nat_le a.tick t) all)) (lt-leb a.tick t (late 0 a (omega arith) refl))
    ∙ up_to t zero all (λ k b lt. absurd (omega (arith, lt))) (λ k b le. late (suc k) b (omega arith))
up_to t (suc came) (a ∷ all) early late =
    ap (λ (b : Bool). cond b (a ∷ filter (λ (a : Answered). nat_le a.tick t) all)
    (filter (λ (a : Answered). nat_le a.tick t) all)) (le-leb a.tick t (early 0 a (omega arith) refl))
    ∙ ap (λ (l : List Answered). a ∷ l)
    (up_to t came all (λ k b lt. early (suc k) b (omega (arith, lt))) (λ k b le. late (suc k) b (omega (arith, le))))

-- ticks never fall
tail_late : (version horizon last : ℕ) (xs : List Answered) (j : ℕ) (b : Answered) → AreAnswered version horizon last xs
    → slice_get xs j ≡ Some b → last ≤ b.tick
tail_late version horizon last [] j b are e = absurd (cc)
tail_late version horizon last (a ∷ xs) zero b are e =
    let same : a ≡ b = cc in
    subst (λ (x : Answered). last ≤ x.tick) same are.2
tail_late version horizon last (a ∷ xs) (suc j) b are e =
    let first = are.2 in
    let rest = tail_late version horizon a.tick xs j b are.4 e in omega (arith, first, rest)

late_from : (version horizon last t : ℕ) (xs : List Answered) (i k : ℕ) (a b : Answered)
    → AreAnswered version horizon last xs → slice_get xs i ≡ Some a → t < a.tick → i ≤ k → slice_get xs k ≡ Some b
    → t < b.tick
late_from version horizon last t [] i k a b are e late le f = absurd (cc)
late_from version horizon last t (x ∷ xs) zero zero a b are e late le f =
    let same : a ≡ b = cc in
    subst (λ (y : Answered). t < y.tick) same late
late_from version horizon last t (x ∷ xs) zero (suc k) a b are e late le f =
    let same : a ≡ x = cc in
    let first : t < x.tick = subst (λ (y : Answered). t < y.tick) same late in
    let rest = tail_late version horizon x.tick xs k b are.4 f in omega (arith, first, rest)
late_from version horizon last t (x ∷ xs) (suc i) zero a b are e late le f = absurd (omega (arith, le))
late_from version horizon last t (x ∷ xs) (suc i) (suc k) a b are e late le f =
    late_from version horizon x.tick t xs i k a b are.4 e late (omega (arith, le)) f

-- so many came, where the next one comes later
pub came_before : (version horizon : ℕ) (all : List Answered) (t came : ℕ) (a : Answered)
    → AreAnswered version horizon 0 all → AreEarly all t came → came < length all → a ≡ get_or all came a
    → t < a.tick → came ≡ came_by t all
came_before version horizon all t came a are early lt is late =
    let there : slice_get all came ≡ Some a = slice_get_read all (length all) came a refl lt is in
    sym (ap (λ (l : List Answered). length l)
    (up_to t came all early (λ k b le f. late_from version horizon 0 t all came k a b are there late le f))
    ∙ length-take-le came all (omega (arith, lt)))

-- all came
pub came_all : (all : List Answered) (t came : ℕ) → AreEarly all t came → length all ≤ came → came ≤ length all
    → came ≡ came_by t all
came_all all t came early le within =
    sym (ap (λ (l : List Answered). length l)
    (up_to t came all early (λ k b far f. let lt = slice_get_within all k b f in absurd (omega (arith, lt, le, far))))
    ∙ length-take-le came all within)

pub early_more : (all : List Answered) (t came : ℕ) (a : Answered) → came < length all → a ≡ get_or all came a
    → a.tick ≤ t → AreEarly all t came → AreEarly all t (came + 1)
early_more all t came a lt is le early k b less f =
    elim (cases_eq k came) [
      | inl same ↦
          let at : slice_get all came ≡ Some b = subst (λ n. slice_get all n ≡ Some b) same f in
          let one : a ≡ b = is ∙ get_or_from_slice_get all came b a at in
          subst (λ (x : Answered). x.tick ≤ t) one le
      | inr ne ↦ early k b (omega arith) f
    ]

-- those that came are the first so many
none_early : (version horizon last t : ℕ) (all : List Answered) → AreAnswered version horizon last all → t < last
    → filter (λ (a : Answered). nat_le a.tick t) all ≡ []
none_early version horizon last t [] are late = refl
none_early version horizon last t (a ∷ all) are late =
    let first = are.2 in
    let behind : t < a.tick = omega (arith, first, late) in
    ap (λ (b : Bool). cond b (a ∷ filter (λ (a : Answered). nat_le a.tick t) all)
    (filter (λ (a : Answered). nat_le a.tick t) all)) (lt-leb a.tick t behind)
    ∙ none_early version horizon a.tick t all are.4 behind

taken : (version horizon last t : ℕ) (all : List Answered) → AreAnswered version horizon last all
    → take (length (filter (λ (a : Answered). nat_le a.tick t) all)) all
    ≡ filter (λ (a : Answered). nat_le a.tick t) all
taken version horizon last t [] are = refl
taken version horizon last t (a ∷ all) are =
    let rest = filter (λ (a : Answered). nat_le a.tick t) all in
    elim (cases_lt t a.tick) [
      | inl late ↦
          let none : (cond (nat_le a.tick t) (a ∷ rest) rest) ≡ [] =
          ap (λ (b : Bool). cond b (a ∷ rest) rest) (lt-leb a.tick t late)
          ∙ none_early version horizon a.tick t all are.4 late in
          ap (λ (l : List Answered). take (length l) (a ∷ all)) none ∙ sym none
      | inr early ↦
          let one : (cond (nat_le a.tick t) (a ∷ rest) rest) ≡ a ∷ rest =
          ap (λ (b : Bool). cond b (a ∷ rest) rest) (le-leb a.tick t early) in
          ap (λ (l : List Answered). take (length l) (a ∷ all)) one
          ∙ ap (λ (l : List Answered). a ∷ l) (taken version horizon a.tick t all are.4)
          ∙ sym one
    ]

-- the tree is that of the tick
pub tree_came : (version horizon last : ℕ) (all : List Answered) (t : ℕ) → AreAnswered version horizon last all
    → tree_of (take (came_by t all) all) ≡ tree_at t all
tree_came version horizon last all t are = ap tree_of (taken version horizon last t all are)
