-- What one tick more makes of a guarantee that is kept so far, and of its cap.
use Rattle.std.proofs.Common.{◌≡◌, ℕ, suc, ◌+◌, ◌-◌, ◌*◌, ◌<◌, ◌≤◌, Bool, true, false, List, [], ◌∷◌}
use Rattle.std.proofs.Common.{◌++◌, length, sym, ap, ◌∙◌, subst, arith, inl, inr}
use Rattle.std.specs.Prelude.{min, IsTrue, leb, ◌↔◌}
use Rattle.std.proofs.lemmas.Bool.{cases_lt, leb-true, le-leb}
use Rattle.hls_audit_watch.specs.declared.cuts.Cuts.{Cuts}
use Rattle.hls_audit_watch.specs.Inside.Carried.{IsCarried, IsCapCarried}
use Rattle.hls_frac.specs.declared.Frac.{Frac}
use Rattle.hls_chron.specs.Ticks.{one_if, count}
use Rattle.hls_chron.specs.Parts.{all_parts, parts}
use Rattle.hls_chron.proofs.CountLaws.{count-none, count-within}
use Rattle.hls_guarantee.specs.declared.Guarantee.{Guarantee}
use Rattle.hls_guarantee.specs.declared.Guarantee.TheVariants.{All, Null, Resb, Resc, Psbe}
use Rattle.hls_guarantee.specs.Service.{schedule_of, service_before, EveryPartOf}
use Rattle.hls_guarantee.specs.Satisfaction.{IsReserved, ListSatisfies}
use Rattle.hls_guarantee.specs.Cap.{ListKeepsCap}
use Rattle.hls_guarantee.specs.Limits.{IsValid}
use Rattle.hls_guarantee.proofs.Slides.{reserved-part, reserved-none, reserved-same}
use Rattle.hls_guarantee.proofs.Debts.{Debt, no_debt, next_debt, over_debt}
use Rattle.hls_guarantee.proofs.Excesses.{Excess, no_excess, next_excess, over_excess}
use Rattle.hls_guarantee.proofs.Promises.{satisfies-agree, satisfies-part, keeps_cap-agree, keeps_cap-part}
use Rattle.hls_audit_watch.proofs.Endings.{length-more, old-at, new-at, count-old, count-new, every-more}
use Rattle.hls_audit_watch.specs.Inside.Periods.{IsPeriod}

-- what is kept was kept a tick earlier
pub satisfies_before : (g : Guarantee) (l : List Bool) (b : Bool) → ListSatisfies g (l ++ b ∷ []) →
    ListSatisfies g l
satisfies_before g l b s =
    let long = length-more l b in
    let f : ℕ → Bool = schedule_of (l ++ b ∷ []) in
    satisfies-agree g f (schedule_of l) 0 (length l) (λ t lo hi. old-at l b t hi)
    (satisfies-part g f 0 (length (l ++ b ∷ [])) 0 (length l) (omega arith) (omega arith) s)

pub capped_before : (g : Guarantee) (l : List Bool) (b : Bool) → ListKeepsCap g (l ++ b ∷ []) → ListKeepsCap g l
capped_before g l b s =
    let long = length-more l b in
    let f : ℕ → Bool = schedule_of (l ++ b ∷ []) in
    keeps_cap-agree g f (schedule_of l) 0 (length l) (λ t lo hi. old-at l b t hi)
    (keeps_cap-part g f 0 (length (l ++ b ∷ [])) 0 (length l) (omega arith) (omega arith) s)

-- every tick
pub all_more : (l : List Bool) (b : Bool) → ListSatisfies All l → b ≡ true → ListSatisfies All (l ++ b ∷ [])
all_more l b s is = λ t lo hi. elim (cases_lt t (length l)) [
  | inl old ↦ old-at l b t old ∙ s t lo old
  | inr new ↦
      let long = length-more l b in
      let e : t ≡ length l = omega arith in
      ap (λ (n : ℕ). schedule_of (l ++ b ∷ []) n) e ∙ (new-at l b ∙ is)
]

pub all_last : (l : List Bool) (b : Bool) → ListSatisfies All (l ++ b ∷ []) → b ≡ true
all_last l b s = let long = length-more l b in sym (new-at l b) ∙ s (length l) (omega arith) (omega arith)

-- by windows
pub window_more : (hard : Bool) (x y n got : ℕ) (l : List Bool) (b : Bool) → x ≤ y →
    n ≡ min y (length l + 1) → got ≡ service_before (schedule_of (l ++ b ∷ [])) y (length l + 1) →
    IsReserved hard x y n got → ListSatisfies (Resc hard x y) l → ListSatisfies (Resc hard x y) (l ++ b ∷ [])
window_more hard x y n got l b fits len is r s =
    every-more (λ i n got. n ≤ y → IsReserved hard x y n got) l b s
    (λ i le. record { enough = omega arith; capped = λ h. omega arith })
    (λ i m end le. reserved-part hard x y (schedule_of (l ++ b ∷ [])) (length l + 1 - y) (min y (length l + 1)) i
    (suc m) (omega arith) (omega arith) (reserved-same hard x y n _ got _ len is r))

pub window_last : (hard : Bool) (x y n got : ℕ) (l : List Bool) (b : Bool) →
    n ≡ min y (length l + 1) → got ≡ service_before (schedule_of (l ++ b ∷ [])) y (length l + 1) →
    ListSatisfies (Resc hard x y) (l ++ b ∷ []) → IsReserved hard x y n got
window_last hard x y n got l b len is s =
    let long = length-more l b in
    reserved-same hard x y _ n _ got (sym len) (sym is)
    (s (length l + 1 - y) (min y (length l + 1)) (omega arith) (omega arith) (omega arith))

pub cap_more : (x y got : ℕ) (l : List Bool) (b : Bool) →
    got ≡ service_before (schedule_of (l ++ b ∷ [])) y (length l + 1) → got ≤ x →
    ListKeepsCap (Resc true x y) l → ListKeepsCap (Resc true x y) (l ++ b ∷ [])
cap_more x y got l b is few s =
    every-more (λ i n got. n ≤ y → got ≤ x) l b s (λ i le. omega arith)
    (λ i m end le.
    let w = count-within (schedule_of (l ++ b ∷ [])) (length l + 1 - y) (min y (length l + 1)) i (suc m) (omega arith)
    (omega arith) in
    omega (arith, w.less, is, few))

pub cap_last : (x y got : ℕ) (l : List Bool) (b : Bool) →
    got ≡ service_before (schedule_of (l ++ b ∷ [])) y (length l + 1) →
    ListKeepsCap (Resc true x y) (l ++ b ∷ []) → got ≤ x
cap_last x y got l b is s =
    let long = length-more l b in
    let few = s (length l + 1 - y) (min y (length l + 1)) (omega arith) (omega arith) (omega arith) in
    omega (arith, is, few)

-- by a share
debt_on : (rate whole allowed d : ℕ) (l : List Bool) (b : Bool) →
    Debt rate whole allowed (schedule_of l) (length l) d →
    Debt rate whole allowed (schedule_of (l ++ b ∷ [])) (length l) d
debt_on rate whole allowed d l b o = record {
  owed = record {
    most = λ i n end.
        let e = count-old l b i n (omega arith) in
        let m = o.owed.most i n end in
        omega (arith, m, ap (λ (k : ℕ). whole * k) e);
    from = o.owed.from;
    ticks = o.owed.ticks;
    ends = o.owed.ends;
    met =
        let ends = o.owed.ends in
        let e = count-old l b o.owed.from o.owed.ticks (omega arith) in
        let m = o.owed.met in
        omega (arith, m, ap (λ (k : ℕ). whole * k) e);
  };
  small = o.small;
  fine = λ i n lo hi.
      let e = count-old l b i n hi in
      let m = o.fine i n lo hi in
      omega (arith, m, ap (λ (k : ℕ). whole * k) e);
}

paid-at : (whole : ℕ) (l : List Bool) (b : Bool) →
    whole * one_if (schedule_of (l ++ b ∷ []) (length l)) ≡ whole * one_if b
paid-at whole l b = ap (λ (v : Bool). whole * one_if v) (new-at l b)

pub debt_more : (rate whole allowed d e : ℕ) (l : List Bool) (b : Bool) → e ≡ d + rate - whole * one_if b →
    e ≤ allowed → Debt rate whole allowed (schedule_of l) (length l) d →
    Debt rate whole allowed (schedule_of (l ++ b ∷ [])) (length (l ++ b ∷ [])) e
debt_more rate whole allowed d e l b is small o =
    let paid = paid-at whole l b in
    subst (λ n. Debt rate whole allowed (schedule_of (l ++ b ∷ [])) n e) (sym (length-more l b))
    (next_debt rate whole allowed (schedule_of (l ++ b ∷ [])) (length l) d e (omega arith) small
    (debt_on rate whole allowed d l b o))

pub debt_lost : (rate whole allowed d e : ℕ) (l : List Bool) (b : Bool) → e ≡ d + rate - whole * one_if b →
    allowed < e → Debt rate whole allowed (schedule_of l) (length l) d →
    EveryPartOf (λ i n got. rate * n ≤ whole * got + allowed) (l ++ b ∷ []) → ⊥
debt_lost rate whole allowed d e l b is over o each =
    let paid = paid-at whole l b in
    let long = length-more l b in
    over_debt rate whole allowed (schedule_of (l ++ b ∷ [])) (length l) d e (length (l ++ b ∷ [])) (omega arith) over
    (omega arith) (debt_on rate whole allowed d l b o) each

pub share_every : (s d : Frac) (l : List Bool) →
    EveryPartOf (λ i n got. s.num * d.den * n ≤ d.den * s.den * got + d.num * s.den) l →
    ListSatisfies (Psbe s d) l
share_every s d l each = λ i n lo hi. let h = each i n lo hi in omega (arith, h)

pub every_share : (s d : Frac) (l : List Bool) → ListSatisfies (Psbe s d) l →
    EveryPartOf (λ i n got. s.num * d.den * n ≤ d.den * s.den * got + d.num * s.den) l
every_share s d l each = λ i n lo hi. let h = each i n lo hi in omega (arith, h)

-- the cap of hard blocks
excess_on : (rate whole allowed d : ℕ) (l : List Bool) (b : Bool) →
    Excess rate whole allowed (schedule_of l) (length l) d →
    Excess rate whole allowed (schedule_of (l ++ b ∷ [])) (length l) d
excess_on rate whole allowed d l b o = record {
  had = record {
    most = λ i n end.
        let e = count-old l b i n (omega arith) in
        let m = o.had.most i n end in
        omega (arith, m, ap (λ (k : ℕ). k * whole) e);
    from = o.had.from;
    ticks = o.had.ticks;
    ends = o.had.ends;
    met =
        let ends = o.had.ends in
        let e = count-old l b o.had.from o.had.ticks (omega arith) in
        let m = o.had.met in
        omega (arith, m, ap (λ (k : ℕ). k * whole) e);
  };
  small = o.small;
  fine = λ i n lo hi.
      let e = count-old l b i n hi in
      let m = o.fine i n lo hi in
      omega (arith, m, ap (λ (k : ℕ). k * whole) e);
}

pub excess_more : (rate whole allowed d e : ℕ) (l : List Bool) (b : Bool) → e ≡ d + whole * one_if b - rate →
    e ≤ allowed → Excess rate whole allowed (schedule_of l) (length l) d →
    Excess rate whole allowed (schedule_of (l ++ b ∷ [])) (length (l ++ b ∷ [])) e
excess_more rate whole allowed d e l b is small o =
    let paid = paid-at whole l b in
    subst (λ n. Excess rate whole allowed (schedule_of (l ++ b ∷ [])) n e) (sym (length-more l b))
    (next_excess rate whole allowed (schedule_of (l ++ b ∷ [])) (length l) d e (omega arith) small
    (excess_on rate whole allowed d l b o))

pub excess_lost : (rate whole allowed d e : ℕ) (l : List Bool) (b : Bool) → e ≡ d + whole * one_if b - rate →
    allowed < e → Excess rate whole allowed (schedule_of l) (length l) d →
    EveryPartOf (λ i n got. got * whole ≤ rate * n + allowed) (l ++ b ∷ []) → ⊥
excess_lost rate whole allowed d e l b is over o each =
    let paid = paid-at whole l b in
    let long = length-more l b in
    over_excess rate whole allowed (schedule_of (l ++ b ∷ [])) (length l) d e (length (l ++ b ∷ [])) (omega arith) over
    (omega arith) (excess_on rate whole allowed d l b o) each

-- no tick
pub satisfies_none : (g : Guarantee) → IsValid g → ListSatisfies g []
satisfies_none All v = λ t lo hi. absurd (omega arith)
satisfies_none Null v = tt
satisfies_none (Resc hard x y) v = λ i n lo hi le.
    let z : n ≡ 0 = omega arith in
    subst (λ k. IsReserved hard x y k (count (schedule_of []) i k)) (sym z)
    (reserved-none hard x y (schedule_of []) i v.fits)
satisfies_none (Resb hard x y) v = (
  0,
  omega (arith, v.some, v.fits),
  λ i n lo hi piece.
      let z : n ≡ 0 = omega arith in
      subst (λ k. IsReserved hard x y k (count (schedule_of []) i k)) (sym z)
      (reserved-none hard x y (schedule_of []) i v.fits),
)
satisfies_none (Psbe s d) v =
    let none : Debt (s.num * d.den) (d.den * s.den) (d.num * s.den) (schedule_of []) 0 0 =
    no_debt (s.num * d.den) (d.den * s.den) (d.num * s.den) (schedule_of []) in
    share_every s d [] none.fine

pub keeps_cap_none : (g : Guarantee) → ListKeepsCap g []
keeps_cap_none All = tt
keeps_cap_none Null = tt
keeps_cap_none (Resc true x y) = λ i n lo hi le.
    let z : n ≡ 0 = omega arith in
    subst (λ k. count (schedule_of []) i k ≤ x) (sym z)
    (let none = count-none (schedule_of []) i in omega arith)
keeps_cap_none (Resc false x y) = tt
keeps_cap_none (Resb true x y) =
    let none : Excess (parts x y) all_parts (2 * x * all_parts) (schedule_of []) 0 0 =
    no_excess (parts x y) all_parts (2 * x * all_parts) (schedule_of []) in
    none.fine
keeps_cap_none (Resb false x y) = tt
keeps_cap_none (Psbe s d) = tt

-- the service in the last ticks
pub window-got : (y w : ℕ) (l : List Bool) (b : Bool) (start got : ℕ) → IsPeriod y w (length l + 1) →
    start ≡ length l + 1 - w → got ≡ count (schedule_of l) start (length l - start) + one_if b →
    got ≡ service_before (schedule_of (l ++ b ∷ [])) y (length l + 1)
window-got y w l b start got p is sum =
    let some = p.some in
    let most = p.most in
    let from : start ≡ length l + 1 - y = elim (cases_lt w y) [
      | inl more ↦ let short = p.short more in omega arith
      | inr le ↦ omega arith
    ] in
    let ticks : suc (length l - start) ≡ min y (length l + 1) = elim (cases_lt w y) [
      | inl more ↦ let short = p.short more in omega arith
      | inr le ↦ omega arith
    ] in
    sum ∙ (sym (count-new l b start (length l - start) (omega arith)) ∙
    (ap (λ (n : ℕ). count (schedule_of (l ++ b ∷ [])) start n) ticks ∙
    ap (λ (t : ℕ). count (schedule_of (l ++ b ∷ [])) t (min y (length l + 1))) from))

-- a guarantee that is known
pub hard_windows : (g : Guarantee) (hard : Bool) (x y got : ℕ) (l : List Bool) (b : Bool) → g ≡ Resc hard x y →
    hard ≡ true → got ≡ service_before (schedule_of (l ++ b ∷ [])) y (length l + 1) → ListKeepsCap g l →
    IsTrue (leb got x) ↔ ListKeepsCap g (l ++ b ∷ [])
hard_windows g hard x y got l b is on sum s =
    let known : g ≡ Resc true x y = is ∙ ap (λ (h : Bool). Resc h x y) on in
    let kept : ListKeepsCap (Resc true x y) l = subst (λ h. ListKeepsCap h l) known s in
    subst (λ h. IsTrue (leb got x) ↔ ListKeepsCap h (l ++ b ∷ [])) (sym known) (
      λ few. cap_more x y got l b sum (leb-true got x few) kept,
      λ each. le-leb got x (cap_last x y got l b sum each),
    )

over-none : (n m : ℕ) → (m < n → ⊥) → n ≤ m
over-none n m none = elim (cases_lt m n) [ inl lt ↦ absurd (none lt) | inr le ↦ le ]

pub hard_blocks : (g : Guarantee) (hard : Bool) (x y d e : ℕ) (l : List Bool) (b within : Bool) →
    g ≡ Resb hard x y → hard ≡ true → e ≡ d + all_parts * one_if b - parts x y →
    (IsTrue within ↔ (e ≤ 2 * x * all_parts)) → IsCapCarried g d l →
    IsTrue within ↔ ListKeepsCap g (l ++ b ∷ [])
hard_blocks g hard x y d e l b within is on sum few s =
    let known : g ≡ Resb true x y = is ∙ ap (λ (h : Bool). Resb h x y) on in
    let kept : IsCapCarried (Resb true x y) d l = subst (λ h. IsCapCarried h d l) known s in
    subst (λ h. IsTrue within ↔ ListKeepsCap h (l ++ b ∷ [])) (sym known) (
      λ yes.
          let next = excess_more (parts x y) all_parts (2 * x * all_parts) d e l b sum (few.0 yes) kept in
          next.fine,
      λ each.
          few.1
          (over-none e (2 * x * all_parts)
          (λ over. excess_lost (parts x y) all_parts (2 * x * all_parts) d e l b sum over kept each)),
    )

pub hard_blocks_carried : (g : Guarantee) (hard : Bool) (x y d e : ℕ) (l : List Bool) (b within : Bool) →
    g ≡ Resb hard x y → hard ≡ true → e ≡ d + all_parts * one_if b - parts x y →
    (IsTrue within ↔ (e ≤ 2 * x * all_parts)) → IsCapCarried g d l →
    IsTrue within → IsCapCarried g e (l ++ b ∷ [])
hard_blocks_carried g hard x y d e l b within is on sum few s met =
    let known : g ≡ Resb true x y = is ∙ ap (λ (h : Bool). Resb h x y) on in
    let kept : IsCapCarried (Resb true x y) d l = subst (λ h. IsCapCarried h d l) known s in
    subst (λ h. IsCapCarried h e (l ++ b ∷ [])) (sym known)
    (excess_more (parts x y) all_parts (2 * x * all_parts) d e l b sum (few.0 met) kept)

pub share_kept : (g : Guarantee) (s d : Frac) (w had debt : ℕ) (cuts : Cuts) (l : List Bool) (b within : Bool) →
    g ≡ Psbe s d → debt ≡ had + s.num * d.den - d.den * s.den * one_if b →
    (IsTrue within ↔ (debt ≤ d.num * s.den)) → IsCarried g w had cuts l →
    IsTrue within ↔ ListSatisfies g (l ++ b ∷ [])
share_kept g s d w had debt cuts l b within is sum few o =
    let kept : IsCarried (Psbe s d) w had cuts l = subst (λ h. IsCarried h w had cuts l) is o in
    subst (λ h. IsTrue within ↔ ListSatisfies h (l ++ b ∷ [])) (sym is) (
      λ yes.
          let next = debt_more (s.num * d.den) (d.den * s.den) (d.num * s.den) had debt l b sum (few.0 yes) kept in
          share_every s d (l ++ b ∷ []) next.fine,
      λ each.
          few.1
          (over-none debt (d.num * s.den)
          (λ over. debt_lost (s.num * d.den) (d.den * s.den) (d.num * s.den) had debt l b sum over kept
          (every_share s d (l ++ b ∷ []) each))),
    )

pub share_carried : (g : Guarantee) (s d : Frac) (w had debt : ℕ) (cuts later : Cuts) (l : List Bool)
    (b within : Bool) → g ≡ Psbe s d → debt ≡ had + s.num * d.den - d.den * s.den * one_if b →
    (IsTrue within ↔ (debt ≤ d.num * s.den)) → IsCarried g w had cuts l → IsTrue within →
    IsCarried g w debt later (l ++ b ∷ [])
share_carried g s d w had debt cuts later l b within is sum few o met =
    let kept : IsCarried (Psbe s d) w had cuts l = subst (λ h. IsCarried h w had cuts l) is o in
    subst (λ h. IsCarried h w debt later (l ++ b ∷ [])) (sym is)
    (debt_more (s.num * d.den) (d.den * s.den) (d.num * s.den) had debt l b sum (few.0 met) kept)
