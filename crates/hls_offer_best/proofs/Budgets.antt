-- The cheapest of the budgets that were tried, period by period, is the cheapest.
use Rattle.std.proofs.Common.{◌≡◌, ℕ, ◌+◌, ◌*◌, ◌-◌, ◌/◌, ◌≤◌, ◌<◌, ◌⊎◌, inl}
use Rattle.std.proofs.Common.{inr, Bool, true, false, List, length, refl, sym, subst, arith, below_more}
use Rattle.std.specs.Prelude.{Option, Some, None, Result, Ok, Err, IfOk, IfSome, slice_get}
use Rattle.std.proofs.Math.Nat.{mul-le-mul_right, div-mul-le_self}
use Rattle.std.proofs.lemmas.Nat.{le-div}
use Rattle.std.proofs.lemmas.Bool.{cases_lt}
use Rattle.std.proofs.lemmas.Option.{slice_get_read}
use Rattle.hls_chron.specs.declared.plain.Terms.TheVariants.{Res}
use Rattle.hls_chron.specs.Ranges.{TermsInRange}
use Rattle.hls_chron.specs.Parts.{all_parts, parts}
use Rattle.hls_guarantee.specs.declared.Guarantee.{Guarantee}
use Rattle.hls_guarantee.specs.declared.Guarantee.TheVariants.{All, Null, Resb, Resc, Psbe}
use Rattle.hls_guarantee.specs.Limits.{IsNarrow, IsValid}
use Rattle.hls_search_laws.proofs.Makes.{narrow-valid}
use Rattle.hls_offer_laws.specs.Candidates.{IsSize}
use Rattle.hls_offer_laws.proofs.SizeLaws.{spreads-some, provides-some}
use Rattle.hls_offer_best.specs.declared.reservations.Need.{Need}
use Rattle.hls_offer_best.specs.declared.reservations.Budget.{Budget}
use Rattle.hls_offer_best.specs.Reservations.{ComesFirst, IsCheapestIfAny, IsOf, Meets}
use Rattle.hls_offer_best.specs.Inside.Trying.{ComesFirstOf, IsHad, budget, TriedPeriod}

no-size : ⊥ ⊎ ⊥ → ⊥
no-size (inl none) = none
no-size (inr none) = none

size-some : (wanted : Guarantee) (x y : ℕ) → IsValid wanted → 1 ≤ y → IsSize wanted x y → 1 ≤ x
size-some All x y valid pos is = absurd (no-size is)
size-some Null x y valid pos (inl is) = omega (arith, is)
size-some Null x y valid pos (inr is) = absurd is
size-some (Resb true ticks period) x y valid pos is = absurd (no-size is)
size-some (Resb false ticks period) x y valid pos (inl (inl own)) = omega (arith, own.1, valid.some)
size-some (Resb false ticks period) x y valid pos (inl (inr least)) = omega (arith, least.1.meets.0, valid.some)
size-some (Resb false ticks period) x y valid pos (inr least) =
    spreads-some ticks period x y valid.some pos least.1.meets
size-some (Resc true ticks period) x y valid pos is = absurd (no-size is)
size-some (Resc false ticks period) x y valid pos (inl least) = omega (arith, least.meets.0, valid.some)
size-some (Resc false ticks period) x y valid pos (inr least) =
    spreads-some ticks period x y valid.some pos least.meets
size-some (Psbe s d) x y valid pos (inl least) = provides-some s d x y valid.some pos least.meets
size-some (Psbe s d) x y valid pos (inr is) = absurd is

pub ranged : (wanted : Guarantee) (b : Budget) (y : ℕ) → IsNarrow wanted → 1 ≤ y → y ≤ 10000 → b.y ≡ y
    → IsSize wanted b.x y → b.x ≤ y → TermsInRange (Res false b.x b.y)
ranged wanted b y narrow pos small same size le =
    let some : 1 ≤ b.x = size-some wanted b.x y (narrow-valid wanted narrow) pos size in
    (some, omega arith, omega arith)

pub if-ok-at : {A E : Type 0} (P : A → Type 0) (r : Result A E) (x : A) → r ≡ Ok x → IfOk r P → P x
if-ok-at P (Ok v) x same held = (let e : v ≡ x = cc in subst P e held)
if-ok-at P (Err e) x same held = absurd (let no : ⊥ = cc in no)

-- ---- the order

parts-more : (x z y : ℕ) → 1 ≤ y → x ≤ z → parts x y ≤ parts z y
unfolding parts
parts-more x z y pos le =
    let over : x * all_parts ≤ z * all_parts = mul-le-mul_right all_parts le in
    let low = div-mul-le_self (x * all_parts + y - 1) y in
    le-div ((x * all_parts + y - 1) / y) (z * all_parts + y - 1) y pos (omega (arith, over, low))

less-or-same : (a b : ℕ) → a ≤ b → (a < b) ⊎ (a ≡ b)
less-or-same a b le = elim (cases_lt a b) [ inl less ↦ inl less | inr more ↦ inr (omega arith) ]

first-more : (x z y : ℕ) → 1 ≤ y → x ≤ z → ComesFirst (budget x y) (budget z y)
first-more x z y pos le = elim (less-or-same (parts x y) (parts z y) (parts-more x z y pos le)) [
  | inl less ↦ inl less
  | inr same ↦ inr (same, omega arith)
]

first-trans : (a b c : Budget) → ComesFirst a b → ComesFirst b c → ComesFirst a c
first-trans a b c (inl one) (inl two) = inl (omega arith)
first-trans a b c (inl one) (inr two) = inl (omega (arith, two.0))
first-trans a b c (inr one) (inl two) = inl (omega (arith, one.0))
first-trans a b c (inr one) (inr two) = inr (omega (arith, one.0, two.0), omega (arith, one.1, two.1))

-- ---- period by period

abbrev pub TriedBelow : Need → (periods : List ℕ) → Option Budget → (n : ℕ) → Type 0
TriedBelow need periods best n =
    (k : ℕ) → k < n → (y : ℕ) → slice_get periods k ≡ Some y → TriedPeriod need best y

pub tried-more : (need : Need) (periods : List ℕ) (best less : Option Budget) (n y : ℕ)
    → slice_get periods n ≡ Some y → ((b : Budget) → ComesFirstOf best b → ComesFirstOf less b)
    → TriedBelow need periods best n → TriedPeriod need less y → TriedBelow need periods less (n + 1)
tried-more need periods best less n y there kept before here =
    below_more (λ k. (z : ℕ) → slice_get periods k ≡ Some z → TriedPeriod need less z) n
    (λ k under z at x size le meets. kept (budget x z) (before k under z at x size le meets))
    (λ z at. (let same : y ≡ z = cc in subst (λ v. TriedPeriod need less v) same here))

-- what the law says of reservations
abbrev pub HasSizes : Need → Type 0
HasSizes need = (hard : Bool) (b : Budget) → TermsInRange (Res hard b.x b.y) → Meets need hard b
    → (size : ℕ) × IsSize need.wanted size b.y × (size ≤ b.x) × Meets need false (budget size b.y)

smaller-first : (need : Need) (periods : List ℕ) (best : Option Budget) (n : ℕ) → length periods ≤ n
    → TriedBelow need periods best n → HasSizes need → (hard : Bool) (b : Budget) → IsOf periods b
    → Meets need hard b → (size : ℕ) × (size ≤ b.x) × ComesFirstOf best (budget size b.y)
smaller-first need periods best n all tried sizes hard b of meets =
    let size = sizes hard b of.range meets in
    let at = of.period in
    let there : slice_get periods at.0 ≡ Some b.y =
    slice_get_read periods (length periods) at.0 b.y refl at.1 (sym at.2) in (
      size.0,
      size.2,
      tried at.0 (omega (arith, at.1)) b.y there size.0 size.1 (omega (
        arith,
        size.2,
        of.range.1,
      )) size.3,
    )

pub cheapest-of-all : (need : Need) (periods : List ℕ) (best : Option Budget) (n : ℕ) → length periods ≤ n
    → TriedBelow need periods best n → IfSome best (λ b. IsHad need periods b) → HasSizes need
    → IsCheapestIfAny need periods best
cheapest-of-all need periods None n all tried had sizes =
    λ hard b of meets. (let its = smaller-first need periods None n all tried sizes hard b of meets in its.2)
cheapest-of-all need periods (Some best) n all tried had sizes = record {
  of = had.0;
  meets = had.1;
  first = λ hard b of meets.
      let its = smaller-first need periods (Some best) n all tried sizes hard b of meets in
      first-trans best (budget its.0 b.y) b its.2 (first-more its.0 b.x b.y (omega (
        arith,
        of.range.0,
        of.range.1,
      )) its.1);
}
