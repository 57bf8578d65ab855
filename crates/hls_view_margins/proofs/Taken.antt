-- What is kept is kept with less service, as long as no more is taken away than is to spare.
use Rattle.std.proofs.Common.{◌≡◌, ℕ, ◌+◌, ◌-◌, ◌*◌, ◌≤◌, Bool, true, false, arith, inl, inr, refl, ap}
use Rattle.std.proofs.lemmas.Bool.{cases_lt}
use Rattle.std.proofs.Math.Nat.{mul-le-mul_right}
use Rattle.std.specs.Prelude.{Option, Some, None, min}
use Rattle.hls_frac.specs.declared.Frac.{Frac}
use Rattle.hls_chron.specs.Parts.{all_parts}
use Rattle.hls_guarantee.specs.declared.Guarantee.{Guarantee}
use Rattle.hls_guarantee.specs.declared.Guarantee.TheVariants.{All, Null, Resb, Resc, Psbe}
use Rattle.hls_guarantee.specs.Cap.{KeepsCap}
use Rattle.hls_guarantee.specs.Limits.{IsValid, IsReservation}
use Rattle.hls_guarantee.specs.Satisfaction.{Satisfies}
use Rattle.hls_view_margins.specs.declared.margin.Part.{Part}
use Rattle.hls_view_margins.specs.declared.margin.Distance.TheVariants.{Above, Below}
use Rattle.hls_view_margins.specs.declared.margin.Spare.{Spare}
use Rattle.hls_view_margins.specs.declared.margin.Spare.TheVariants.{Unjudged, Over, Least}
use Rattle.hls_view_margins.specs.declared.scale.Scale.{Scale}
use Rattle.hls_view_margins.specs.Scales.{MeasuresSpare}
use Rattle.hls_view_margins.specs.First.{has, wants, IsFirst}
use Rattle.hls_view_margins.specs.Parts.{part, IsPart}
use Rattle.hls_view_margins.specs.Cuts.{IsBest, IsBestOf}
use Rattle.hls_view_margins.specs.Rows.{IsRow, IsWhole}
use Rattle.hls_view_margins.specs.Judged.{IsJudgedIn, HasOverWindow, IsSpareBy, IsSpare}
use Rattle.hls_view_margins.specs.Kept.{KeepsWindows, IsSpared, LacksAtMost}
use Rattle.hls_view_margins.proofs.Keeps.{all_has, share_has, res_has, ticks_kept, share_kept, windows_kept}
use Rattle.hls_view_margins.proofs.Blocky.{AreReserved, best_reserved, blocks_in, empty_kept}
use Rattle.hls_view_margins.proofs.Enclosing.{enclosing}
use Rattle.hls_view_margins.proofs.Existing.{some_best}

-- what a part has beyond what it wants covers so many ticks
abbrev Covers : (scale : Scale) (k : ℕ) (p : Part) → Type 0
Covers scale k p = wants scale p + k * scale.unit ≤ has scale p

covers_by : (h w unit k num den : ℕ) → 1 ≤ den → w ≤ h → num * unit ≡ (h - w) * den → k * den ≤ num
    → w + k * unit ≤ h
covers_by h w unit k num den some le is few = elim (cases_lt (h - w) (k * unit)) [
  | inr within ↦ omega (arith, within, le)
  | inl beyond ↦
      let more : (h - w + 1) * den ≤ (k * unit) * den = mul-le-mul_right den (omega (arith, beyond)) in
      let less : (k * den) * unit ≤ num * unit = mul-le-mul_right unit few in
      absurd (omega (arith, more, less, is, some))
]

covers_first : (scale : Scale) (such : Part → Type 0) (k : ℕ) (p q : Part) → IsFirst scale such p → Covers scale k p
    → such q → Covers scale k q
covers_first scale such k p q first covers is = let more = (first.first q is).no_more in omega (arith, covers, more)

spared : (kept : Guarantee) (scale : Scale) (f g : ℕ → Bool) (lo hi k : ℕ) (spare : Spare)
    → IsSpareBy kept scale f g lo hi spare → IsSpared spare k → (p : Part) → IsJudgedIn kept scale f g lo hi p
    → Covers scale k p
spared kept scale f g lo hi k Unjudged is few p judged = absurd (is.1 p judged)
spared kept scale f g lo hi k Over is few p judged = absurd few
spared kept scale f g lo hi k (Least q (Below v)) is few p judged = absurd few
spared kept scale f g lo hi k (Least q (Above v)) is few p judged =
    let positive = v.positive in
    covers_first scale (IsJudgedIn kept scale f g lo hi) k q p is.1
    (covers_by (has scale q) (wants scale q) scale.unit k v.num v.den positive is.2.0 is.2.1 few) judged

spared_never : (kept : Guarantee) (scale : Scale) (f g : ℕ → Bool) (lo hi k : ℕ) (spare : Spare)
    → IsSpareBy kept scale f g lo hi spare → IsSpared spare k → HasOverWindow kept f g lo hi → ⊥
spared_never kept scale f g lo hi k Unjudged is few = is.0
spared_never kept scale f g lo hi k Over is few = absurd few
spared_never kept scale f g lo hi k (Least q d) is few = is.0

-- the same part with more service
of_more : (more less : ℕ → Bool) (lo hi : ℕ) (p : Part) → IsPart less lo hi p
    → IsPart more lo hi (part more p.from p.ticks)
of_more more less lo hi p is = record { some = is.some; begins = is.begins; ends = is.ends; got = refl }

-- ---- every tick, windows and shares

left_all : (scale : Scale) (f g h : ℕ → Bool) (lo hi k : ℕ) → MeasuresSpare All scale → LacksAtMost k g h lo hi
    → ((p : Part) → IsJudgedIn All scale f g lo hi p → Covers scale k p) → (p : Part)
    → IsJudgedIn All scale f h lo hi p → wants scale p ≤ has scale p
left_all scale f g h lo hi k is lacks covers p judged =
    let inside = judged.judged.is in
    let low = judged.window.row.begins in
    let high = judged.window.row.ends in
    let begins = inside.begins in
    let ends = inside.ends in
    let got = inside.got in
    let q = part g p.from p.ticks in
    let c = covers q
    (record {
      from = judged.from;
      until = judged.until;
      window = judged.window;
      judged = record { is = of_more g h judged.from judged.until p inside; long = judged.judged.long };
    }) in
    let few = lacks.lacks p.from p.ticks (omega (arith, low, begins)) (omega (arith, high, ends)) in
    let one = is.units in
    let unit : k * scale.unit ≡ k * 1 = ap (λ (u : ℕ). k * u) one in
    let was = all_has scale q is in
    let now = all_has scale p is in
    omega (arith, c, few, unit, was.0, was.1, now.0, now.1, got)

left_windows : (scale : Scale) (hard : Bool) (x y : ℕ) (f g h : ℕ → Bool) (lo hi k : ℕ)
    → MeasuresSpare (Resc hard x y) scale → LacksAtMost k g h lo hi
    → ((p : Part) → IsJudgedIn (Resc hard x y) scale f g lo hi p → Covers scale k p) → (p : Part)
    → IsJudgedIn (Resc hard x y) scale f h lo hi p → wants scale p ≤ has scale p
left_windows scale hard x y f g h lo hi k is lacks covers p judged =
    let inside = judged.judged.is in
    let low = judged.window.row.begins in
    let high = judged.window.row.ends in
    let begins = inside.begins in
    let ends = inside.ends in
    let got = inside.got in
    let q = part g p.from p.ticks in
    let c = covers q
    (record {
      from = judged.from;
      until = judged.until;
      window = judged.window;
      judged = record { is = of_more g h judged.from judged.until p inside; long = judged.judged.long };
    }) in
    let few = lacks.lacks p.from p.ticks (omega (arith, low, begins)) (omega (arith, high, ends)) in
    let one = is.units in
    let unit : k * scale.unit ≡ k * 1 = ap (λ (u : ℕ). k * u) one in
    let was = res_has scale x y q is in
    let now = res_has scale x y p is in
    omega (arith, c, few, unit, was.0, was.1, now.0, now.1, got)

-- the cap of less service
cap_left : (kept : Guarantee) (g h : ℕ → Bool) (lo hi k : ℕ) → LacksAtMost k g h lo hi → KeepsCap kept g lo hi
    → KeepsCap kept h lo hi
cap_left All g h lo hi k lacks cap = tt
cap_left Null g h lo hi k lacks cap = tt
cap_left (Psbe s d) g h lo hi k lacks cap = tt
cap_left (Resb false x y) g h lo hi k lacks cap = tt
cap_left (Resc false x y) g h lo hi k lacks cap = tt
cap_left (Resc true x y) g h lo hi k lacks cap = λ i n low high short.
    let less = lacks.fewer i n low high in
    let most = cap i n low high short in
    omega (arith, less, most)
cap_left (Resb true x y) g h lo hi k lacks cap = λ i n low high.
    let less = mul-le-mul_right all_parts (lacks.fewer i n low high) in
    let most = cap i n low high in
    omega (arith, less, most)

-- ---- blocks

blocks_left : (scale : Scale) (hard : Bool) (x y : ℕ) (f g h : ℕ → Bool) (lo hi k from until : ℕ) (b : Part)
    → MeasuresSpare (Resb hard x y) scale → LacksAtMost k g h lo hi
    → ((p : Part) → IsJudgedIn (Resb hard x y) scale f g lo hi p → Covers scale k p) → IsWhole f lo hi from until
    → (best : IsBest scale g from until hard x y (min y (until - from)) b)
    → AreReserved hard x y h from until best.offset
blocks_left scale hard x y f g h lo hi k from until b is lacks covers whole best =
    let old = best_reserved scale hard x y f g lo hi from until b is
    (λ p judged. let c = covers p judged in omega (arith, c)) whole best in
    let low = whole.row.begins in
    let high = whole.row.ends in
    let one = is.units in
    let unit : k * scale.unit ≡ k * 1 = ap (λ (u : ℕ). k * u) one in
    record {
      enough = λ p piece.
          let inside = piece.at.is in
          let begins = inside.begins in
          let ends = inside.ends in
          let got = inside.got in
          let q = part g p.from p.ticks in
          let c = covers q
          (record {
            from = from;
            until = until;
            window = whole;
            judged = record {
              one = b;
              best = best;
              piece = record {
                number = piece.number;
                at = record { is = of_more g h from until p inside; piece = piece.at.piece };
              };
            };
          }) in
          let few = lacks.lacks p.from p.ticks (omega (arith, low, begins)) (omega (arith, high, ends)) in
          let was = res_has scale x y q is in
          omega (arith, c, few, unit, was.0, was.1, got);
      capped = λ is_hard p piece.
          let inside = piece.at.is in
          let begins = inside.begins in
          let ends = inside.ends in
          let got = inside.got in
          let most = old.capped is_hard (part g p.from p.ticks)
          (record {
            number = piece.number;
            at = record { is = of_more g h from until p inside; piece = piece.at.piece };
          }) in
          let less = lacks.fewer p.from p.ticks (omega (arith, low, begins)) (omega (arith, high, ends)) in
          omega (arith, most, less, got);
    }

-- ---- shares

share_left : (sn sd dn dd n was now k : ℕ) → was ≤ now + k → sn * n * dd + k * (sd * dd) ≤ (was * dd + dn) * sd
    → sn * n * dd ≤ (now * dd + dn) * sd
share_left sn sd dn dd n was now k few le =
    let most : (was * dd) * sd ≤ ((now + k) * dd) * sd = mul-le-mul_right sd (mul-le-mul_right dd few) in
    omega (arith, most, le)

left_shares : (scale : Scale) (s d : Frac) (f g h : ℕ → Bool) (lo hi k : ℕ) → MeasuresSpare (Psbe s d) scale
    → LacksAtMost k g h lo hi → ((p : Part) → IsJudgedIn (Psbe s d) scale f g lo hi p → Covers scale k p)
    → (p : Part) → IsJudgedIn (Psbe s d) scale f h lo hi p → wants scale p ≤ has scale p
left_shares scale s d f g h lo hi k is lacks covers p judged =
    let inside = judged.judged in
    let low = judged.window.row.begins in
    let high = judged.window.row.ends in
    let begins = inside.begins in
    let ends = inside.ends in
    let got = inside.got in
    let q = part g p.from p.ticks in
    let c = covers q
    (record {
      from = judged.from;
      until = judged.until;
      window = judged.window;
      judged = of_more g h judged.from judged.until p inside;
    }) in
    let few = lacks.lacks p.from p.ticks (omega (arith, low, begins)) (omega (arith, high, ends)) in
    let one = is.units in
    let unit : k * scale.unit ≡ k * (s.den * d.den) = ap (λ (u : ℕ). k * u) one in
    let was = share_has scale s d q is in
    let now = share_has scale s d p is in
    let left = share_left s.num s.den d.num d.den p.ticks q.got p.got k (omega (arith, few, got))
    (omega (arith, c, unit, was.0, was.1)) in
    omega (arith, left, now.0, now.1)

-- ---- all

blocks_spared : (scale : Scale) (hard : Bool) (x y : ℕ) (f g h : ℕ → Bool) (lo hi k i j from until : ℕ)
    (best : Option Part) → IsReservation x y → MeasuresSpare (Resb hard x y) scale → LacksAtMost k g h lo hi
    → ((p : Part) → IsJudgedIn (Resb hard x y) scale f g lo hi p → Covers scale k p)
    → (HasOverWindow (Resb hard x y) f g lo hi → ⊥) → IsWhole f lo hi from until → from ≤ i → j ≤ until
    → IsBestOf scale g from until hard x y (min y (until - from)) best → Satisfies (Resb hard x y) h i j
blocks_spared scale hard x y f g h lo hi k i j from until None fits is lacks covers never whole low high none =
    absurd (never (record { from = from; until = until; window = whole; over = none }))
blocks_spared scale hard x y f g h lo hi k i j from until (Some b) fits is lacks covers never whole low high best =
    let some = whole.some in
    let within = best.within in
    blocks_in scale hard x y h from until i j best.offset fits low high (omega (arith, some)) (omega (arith, within))
    (blocks_left scale hard x y f g h lo hi k from until b is lacks covers whole best)

blocks_keep : (scale : Scale) (hard : Bool) (x y : ℕ) (f g h : ℕ → Bool) (lo hi k i j : ℕ) → IsReservation x y
    → MeasuresSpare (Resb hard x y) scale → LacksAtMost k g h lo hi
    → ((p : Part) → IsJudgedIn (Resb hard x y) scale f g lo hi p → Covers scale k p)
    → (HasOverWindow (Resb hard x y) f g lo hi → ⊥) → IsRow f lo hi i j → Satisfies (Resb hard x y) h i j
blocks_keep scale hard x y f g h lo hi k i j fits is lacks covers never row = elim (cases_lt i j) [
  | inl some ↦
      let in_one = enclosing f lo hi i j some row in
      let best = some_best scale g in_one.from in_one.until hard x y (min y (in_one.until - in_one.from))
      in_one.whole.some (omega arith) in
      blocks_spared scale hard x y f g h lo hi k i j in_one.from in_one.until best.0 fits is lacks covers never
      in_one.whole in_one.low in_one.high best.1
  | inr none ↦ empty_kept hard x y h i j fits none
]

pub spared_keeps : (kept : Guarantee) (f g h : ℕ → Bool) (lo hi k : ℕ) (spare : Spare) → IsValid kept
    → IsSpare kept f g lo hi spare → KeepsCap kept g lo hi → IsSpared spare k → LacksAtMost k g h lo hi
    → KeepsWindows kept f h lo hi
spared_keeps All f g h lo hi k spare valid is cap few lacks = λ i j row.
    ticks_kept is.scale f h lo hi i j is.measure
    (left_all is.scale f g h lo hi k is.measure lacks (spared All is.scale f g lo hi k spare is.by few)) row
spared_keeps Null f g h lo hi k spare valid is cap few lacks = λ i j row. tt
spared_keeps (Resc hard x y) f g h lo hi k spare valid is cap few lacks = λ i j row.
    windows_kept is.scale hard x y f h lo hi i j valid is.measure
    (left_windows is.scale hard x y f g h lo hi k is.measure lacks
    (spared (Resc hard x y) is.scale f g lo hi k spare is.by few))
    (cap_left (Resc hard x y) g h lo hi k lacks cap) row
spared_keeps (Resb hard x y) f g h lo hi k spare valid is cap few lacks = λ i j row.
    blocks_keep is.scale hard x y f g h lo hi k i j valid is.measure lacks
    (spared (Resb hard x y) is.scale f g lo hi k spare is.by few)
    (spared_never (Resb hard x y) is.scale f g lo hi k spare is.by few) row
spared_keeps (Psbe s d) f g h lo hi k spare valid is cap few lacks = λ i j row.
    share_kept is.scale s d f h lo hi i j is.measure
    (left_shares is.scale s d f g h lo hi k is.measure lacks (spared (Psbe s d) is.scale f g lo hi k spare is.by few))
    row
