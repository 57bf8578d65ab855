-- The cap of a whole list, tick by tick.
use Rattle.std.proofs.Common.{◌≡◌, ℕ, suc, ◌+◌, ◌-◌, ◌*◌, ◌<◌, ◌≤◌, Bool, true, false, List, length, refl, sym, ap}
use Rattle.std.proofs.Common.{◌∙◌, arith, inl, inr}
use Rattle.std.specs.Prelude.{min}
use Rattle.std.proofs.lemmas.Bool.{cases_lt}
use Rattle.std.proofs.lemmas.List.{get_or_past}
use Rattle.hls_chron.specs.Parts.{all_parts, parts}
use Rattle.hls_chron.specs.Ticks.{one_if, count}
use Rattle.hls_chron.proofs.CountLaws.{count-none, count-push, count-add, count-within}
use Rattle.hls_guarantee.specs.declared.Guarantee.{Guarantee}
use Rattle.hls_guarantee.specs.declared.Guarantee.TheVariants.{Resb, Resc}
use Rattle.hls_guarantee.specs.Cap.{KeepsCap}
use Rattle.hls_guarantee.specs.Service.{schedule_of, service_before}
use Rattle.hls_guarantee.proofs.Excesses.{Excess, over_excess}
use Rattle.hls_audit_watch.specs.First.{IsFirstAt}
use Rattle.hls_audit_watch.specs.Shortages.{IsOver}

-- where the first ticks keep a cap, none of them is over
none_over : (g : Guarantee) (served : List Bool) (at : ℕ) →
    ((k : ℕ) → k < at → KeepsCap g (schedule_of served) 0 (k + 1)) → length served ≤ at →
    (k : ℕ) → IsOver g served k → ⊥
none_over g served at kept long k over = elim (cases_lt k at) [
  | inl old ↦ over.over (kept k old)
  | inr past ↦
      let off = get_or_past served k false (omega arith) in
      absurd (let no : false ≡ true = sym off ∙ over.now in cc)
]

-- ---- by hard blocks

blocks-before : (x y at d k : ℕ) (served : List Bool) →
    Excess (parts x y) all_parts (2 * x * all_parts) (schedule_of served) at d → k < at →
    KeepsCap (Resb true x y) (schedule_of served) 0 (k + 1)
blocks-before x y at d k served o lt = λ i n lo hi. o.fine i n lo (omega (arith, lt, hi))

pub blocks_nowhere : (x y at d : ℕ) (served : List Bool) →
    Excess (parts x y) all_parts (2 * x * all_parts) (schedule_of served) at d → length served ≤ at →
    (k : ℕ) → IsOver (Resb true x y) served k → ⊥
blocks_nowhere x y at d served o long =
    none_over (Resb true x y) served at (λ k lt. blocks-before x y at d k served o lt) long

grown : (rate whole allowed d e : ℕ) (b : Bool) → e ≡ d + whole * one_if b - rate → d ≤ allowed → allowed < e →
    b ≡ true
grown rate whole allowed d e true is small over = refl
grown rate whole allowed d e false is small over =
    let none : whole * one_if false ≡ 0 = omega arith in
    absurd (omega (arith, is, small, over, none))

pub blocks_found : (x y at d e : ℕ) (served : List Bool) →
    Excess (parts x y) all_parts (2 * x * all_parts) (schedule_of served) at d →
    e ≡ d + all_parts * one_if (schedule_of served at) - parts x y → 2 * x * all_parts < e →
    IsFirstAt (IsOver (Resb true x y) served) at
blocks_found x y at d e served o is over = record {
  here = record {
    now = grown (parts x y) all_parts (2 * x * all_parts) d e (schedule_of served at) is o.small over;
    over = λ each. over_excess (parts x y) all_parts (2 * x * all_parts) (schedule_of served) at d e (at + 1) is over
        (omega arith) o each;
  };
  earliest = λ k lt before. before.over (blocks-before x y at d k served o lt);
}

-- ---- by hard windows

at_window : (f : ℕ → Bool) (y k a m : ℕ) → k - y ≡ a → min y k ≡ m → service_before f y k ≡ count f a m
at_window f y k a m start ticks =
    ap (λ (n : ℕ). count f (k - y) n) ticks ∙ ap (λ (t : ℕ). count f t m) start

pub slide_early : (f : ℕ → Bool) (y at got : ℕ) → at < y → got ≡ service_before f y at →
    got + one_if (f at) ≡ service_before f y (at + 1)
slide_early f y at got lt is =
    let old = at_window f y at 0 at (omega (arith, lt)) (omega (arith, lt)) in
    let new = at_window f y (at + 1) 0 (suc at) (omega (arith, lt)) (omega (arith, lt)) in
    let push = count-push f 0 at in
    let here : one_if (f (0 + at)) ≡ one_if (f at) =
    ap (λ (t : ℕ). one_if (f t)) (let e : 0 + at ≡ at = omega arith in e) in
    omega (arith, is, old, new, push, here)

pub slide_late : (f : ℕ → Bool) (y at got : ℕ) → y ≤ at → got ≡ service_before f y at →
    got + one_if (f at) ≡ service_before f y (at + 1) + one_if (f (at - y))
slide_late f y at got le is =
    let old = at_window f y at (at - y) y refl (omega (arith, le)) in
    let new = at_window f y (at + 1) (at - y + 1) y (omega (arith, le)) (omega (arith, le)) in
    let push = count-push f (at - y) y in
    let last : one_if (f (at - y + y)) ≡ one_if (f at) =
    ap (λ (t : ℕ). one_if (f t)) (let e : at - y + y ≡ at = omega (arith, le) in e) in
    let split = count-add f (at - y) 1 y in
    let whole : count f (at - y) (1 + y) ≡ count f (at - y) (suc y) =
    ap (λ (n : ℕ). count f (at - y) n) (let e : 1 + y ≡ suc y = omega arith in e) in
    let one = count-push f (at - y) 0 in
    let none = count-none f (at - y) in
    let first : one_if (f (at - y + 0)) ≡ one_if (f (at - y)) =
    ap (λ (t : ℕ). one_if (f t)) (let e : at - y + 0 ≡ at - y = omega arith in e) in
    omega (arith, is, old, new, push, last, split, whole, one, none, first)

-- the service of the window before a tick, and the cap so far
pub record IsSlid (x y : ℕ) (served : List Bool) (at got : ℕ) : Type 0 where
  pub got_is : got ≡ service_before (schedule_of served) y at
  pub few : got ≤ x
  pub kept : KeepsCap (Resc true x y) (schedule_of served) 0 at

pub slid_none : (x y : ℕ) (served : List Bool) → IsSlid x y served 0 0
slid_none x y served =
    let start = at_window (schedule_of served) y 0 0 0 (omega arith) (omega arith) in
    let none = count-none (schedule_of served) 0 in
    record {
      got_is = omega (arith, start, none);
      few = omega arith;
      kept = λ i n lo hi le.
          let empty : n ≡ 0 = omega (arith, hi) in
          let no = count-none (schedule_of served) i in
          let e : count (schedule_of served) i n ≡ count (schedule_of served) i 0 =
          ap (λ (m : ℕ). count (schedule_of served) i m) empty in
          omega (arith, no, e);
    }

pub slid_more : (x y at had got : ℕ) (served : List Bool) → IsSlid x y served at had →
    got ≡ service_before (schedule_of served) y (at + 1) → got ≤ x → IsSlid x y served (at + 1) got
slid_more x y at had got served s is few = record {
  got_is = is;
  few = few;
  kept = λ i n lo hi le. elim (cases_lt at (i + n)) [
    | inr old ↦ s.kept i n lo old le
    | inl new ↦
        let w = count-within (schedule_of served) (at + 1 - y) (min y (at + 1)) i n (omega (arith, new, hi, le))
        (omega (arith, new, hi, le)) in
        omega (arith, w.less, is, few)
  ];
}

windows-before : (x y at k : ℕ) (served : List Bool) → KeepsCap (Resc true x y) (schedule_of served) 0 at → k < at →
    KeepsCap (Resc true x y) (schedule_of served) 0 (k + 1)
windows-before x y at k served kept lt = λ i n lo hi le. kept i n lo (omega (arith, lt, hi)) le

pub windows_nowhere : (x y at got : ℕ) (served : List Bool) → IsSlid x y served at got → length served ≤ at →
    (k : ℕ) → IsOver (Resc true x y) served k → ⊥
windows_nowhere x y at got served s long =
    none_over (Resc true x y) served at (λ k lt. windows-before x y at k served s.kept lt) long

more_served : (x had got more : ℕ) (b : Bool) → more ≡ had + one_if b → got ≤ more → had ≤ x → x < got → b ≡ true
more_served x had got more true is few small over = refl
more_served x had got more false is few small over = absurd (omega (arith, is, few, small, over))

rises : (f : ℕ → Bool) (y at had got : ℕ) → had ≡ service_before f y at → got ≡ service_before f y (at + 1) →
    got ≤ had + one_if (f at)
rises f y at had got before after = elim (cases_lt at y) [
  | inl early ↦ omega (arith, slide_early f y at had early before, after)
  | inr late ↦ omega (arith, slide_late f y at had late before, after)
]

pub windows_found : (x y at had got : ℕ) (served : List Bool) → IsSlid x y served at had →
    got ≡ service_before (schedule_of served) y (at + 1) → x < got → IsFirstAt (IsOver (Resc true x y) served) at
windows_found x y at had got served s is above = record {
  here = record {
    now = more_served x had got (had + one_if (schedule_of served at)) (schedule_of served at) refl
        (rises (schedule_of served) y at had got s.got_is is) s.few above;
    over = λ each.
        let few = each (at + 1 - y) (min y (at + 1)) (omega arith) (omega arith) (omega arith) in
        omega (arith, few, is, above);
  };
  earliest = λ k lt before. before.over (windows-before x y at k served s.kept lt);
}
