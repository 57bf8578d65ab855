-- The order of surpluses, and the first with the least.
use Rattle.std.proofs.Common.{◌≡◌, ℕ, ◌*◌, ◌≤◌, List, [], ◌∷◌, ◌++◌, ◌⊎◌, inl, inr, ap, ◌∙◌, arith, append_assoc}
use Rattle.std.proofs.Math.Nat.{mul-le-mul_left}
use Rattle.std.specs.List.{AllByRecursion}
use Rattle.hls_frac.specs.declared.Frac.{Frac}
use Rattle.hls_frac.specs.Frac.{IsAtMost}
use Rattle.hls_frac.proofs.Quotients.{at_most-total, at_most-trans}
use Rattle.hls_view_margins.specs.declared.margin.Distance.{Distance}
use Rattle.hls_view_margins.specs.declared.margin.Distance.TheVariants.{Above, Below}
use Rattle.hls_view_tights.specs.declared.tights.Tight.{Tight}
use Rattle.hls_view_tights.specs.Surpluses.{IsNoMore, IsFirstLeast}

-- ---- a fraction of 0

zero_num : (a b c d : ℕ) → 1 ≤ d → c ≡ 0 → a * d ≤ c * b → a ≡ 0
zero_num a b c d some none most =
    let times : a * 1 ≤ a * d = mul-le-mul_left a some in
    omega (arith, times, ap (λ x. x * b) none)

at_most_zero : (f g : Frac) → g.num ≡ 0 → IsAtMost f g → f.num ≡ 0
at_most_zero f g none most = zero_num f.num f.den g.num g.den g.positive none most

zero_at_most : (f g : Frac) → f.num ≡ 0 → IsAtMost f g
zero_at_most f g none = omega (arith, ap (λ x. x * g.den) none)

-- ---- a total order

pub total : (a b : Distance) → IsNoMore a b ⊎ IsNoMore b a
total (Above f) (Above g) = at_most-total f g
total (Above f) (Below g) = inr tt
total (Below f) (Above g) = inl tt
total (Below f) (Below g) = at_most-total g f

pub trans : (a b c : Distance) → IsNoMore a b → IsNoMore b c → IsNoMore a c
trans (Above f) (Above g) (Above h) low high = at_most-trans f g h low high
trans (Above f) (Above g) (Below h) low high = (at_most_zero f g high.0 low, high.1)
trans (Above f) (Below g) (Above h) low high = zero_at_most f h low.0
trans (Above f) (Below g) (Below h) low high = (low.0, at_most_zero h g low.1 high)
trans (Below f) (Above g) (Above h) low high = tt
trans (Below f) (Above g) (Below h) low high = zero_at_most h f high.1
trans (Below f) (Below g) (Above h) low high = tt
trans (Below f) (Below g) (Below h) low high = at_most-trans h g f high low

more_total : (a b : Distance) → (IsNoMore a b → ⊥) → IsNoMore b a
more_total a b more = elim (total a b) [ inl most ↦ absurd (more most) | inr least ↦ least ]

-- ---- one more behind

all_behind : (P : Tight → Type 0) (xs : List Tight) (x : Tight) → AllByRecursion P xs → P x
    → AllByRecursion P (xs ++ x ∷ [])
all_behind P [] x all one = (one, tt)
all_behind P (y ∷ xs) x all one = (all.0, all_behind P xs x all.1 one)

all_over : (least next : Tight) (xs : List Tight) → (IsNoMore least.surplus next.surplus → ⊥)
    → AllByRecursion (λ (t : Tight). IsNoMore t.surplus least.surplus → ⊥) xs
    → AllByRecursion (λ (t : Tight). IsNoMore t.surplus next.surplus → ⊥) xs
all_over least next [] more all = tt
all_over least next (t ∷ xs) more all = (
  λ no. all.0 (trans t.surplus next.surplus least.surplus no (more_total least.surplus next.surplus more)),
  all_over least next xs more all.1,
)

all_beyond : (least next : Tight) (xs : List Tight) → (IsNoMore least.surplus next.surplus → ⊥)
    → AllByRecursion (λ (t : Tight). IsNoMore least.surplus t.surplus) xs
    → AllByRecursion (λ (t : Tight). IsNoMore t.surplus next.surplus → ⊥) xs
all_beyond least next [] more all = tt
all_beyond least next (t ∷ xs) more all =
    (λ no. more (trans least.surplus t.surplus next.surplus all.0 no), all_beyond least next xs more all.1)

all_joined : (P : Tight → Type 0) (xs : List Tight) (x : Tight) (ys : List Tight) → AllByRecursion P xs → P x
    → AllByRecursion P ys → AllByRecursion P (xs ++ x ∷ ys)
all_joined P [] x ys front one back = (one, back)
all_joined P (y ∷ xs) x ys front one back = (front.0, all_joined P xs x ys front.1 one back)

pub first_one : (all : List Tight) (next : Tight) → all ≡ [] → IsFirstLeast (all ++ next ∷ []) next
first_one all next none = record {
  front = [];
  back = [];
  are = ap (λ (l : List Tight). l ++ next ∷ []) none;
  before = tt;
  behind = tt;
}

pub least_stays : (all : List Tight) (least next : Tight) → IsNoMore least.surplus next.surplus
    → IsFirstLeast all least → IsFirstLeast (all ++ next ∷ []) least
least_stays all least next most is = record {
  front = is.front;
  back = is.back ++ next ∷ [];
  are = ap (λ (l : List Tight). l ++ next ∷ []) is.are ∙ append_assoc is.front (least ∷ is.back) (next ∷ []);
  before = is.before;
  behind = all_behind (λ (t : Tight). IsNoMore least.surplus t.surplus) is.back next is.behind most;
}

pub next_least : (all : List Tight) (least next : Tight) → (IsNoMore least.surplus next.surplus → ⊥)
    → IsFirstLeast all least → IsFirstLeast (all ++ next ∷ []) next
next_least all least next more is = record {
  front = is.front ++ least ∷ is.back;
  back = [];
  are = ap (λ (l : List Tight). l ++ next ∷ []) is.are;
  before = all_joined (λ (t : Tight). IsNoMore t.surplus next.surplus → ⊥) is.front least is.back
      (all_over least next is.front more is.before) more (all_beyond least next is.back more is.behind);
  behind = tt;
}
