-- What is fine keeps its guarantee in every window.
use Rattle.std.proofs.Common.{◌≡◌, ℕ, zero, suc, ◌+◌, ◌-◌, ◌*◌, ◌≤◌, Bool, true, false, arith, inl, inr}
use Rattle.std.proofs.Common.{refl}
use Rattle.std.proofs.lemmas.Bool.{cases_lt, false≢true}
use Rattle.std.specs.Prelude.{min}
use Rattle.hls_frac.specs.declared.Frac.{Frac}
use Rattle.hls_chron.specs.Ticks.{one_if, count}
use Rattle.hls_guarantee.specs.declared.Guarantee.{Guarantee}
use Rattle.hls_guarantee.specs.declared.Guarantee.TheVariants.{All, Resc, Psbe}
use Rattle.hls_guarantee.specs.Cap.{KeepsCap}
use Rattle.hls_guarantee.specs.Limits.{IsReservation}
use Rattle.hls_guarantee.specs.Satisfaction.{Satisfies, HasShare}
use Rattle.hls_view_margins.specs.declared.margin.Part.{Part}
use Rattle.hls_view_margins.specs.declared.margin.Distance.{Distance}
use Rattle.hls_view_margins.specs.declared.margin.Distance.TheVariants.{Above, Below}
use Rattle.hls_view_margins.specs.declared.margin.Spare.{Spare}
use Rattle.hls_view_margins.specs.declared.margin.Spare.TheVariants.{Unjudged, Over, Least}
use Rattle.hls_view_margins.specs.declared.scale.Scale.{Scale}
use Rattle.hls_view_margins.specs.Scales.{IsLine, IsScale, MeasuresSpare}
use Rattle.hls_view_margins.specs.First.{has, wants}
use Rattle.hls_view_margins.specs.Parts.{part}
use Rattle.hls_view_margins.specs.Distances.{IsDistance}
use Rattle.hls_view_margins.specs.Rows.{IsRow, IsWhole}
use Rattle.hls_view_margins.specs.Judged.{IsJudgedIn, IsSpareBy}
use Rattle.hls_view_margins.specs.Kept.{IsAbove, IsFine}
use Rattle.hls_view_margins.proofs.Ons.{count_one}
use Rattle.hls_view_margins.proofs.Caps.{line_at, enough_all, longer}
use Rattle.hls_view_margins.proofs.Enclosing.{enclosing}

above_distance : (scale : Scale) (p : Part) (d : Distance) → IsDistance scale p d → IsAbove d
    → wants scale p ≤ has scale p
above_distance scale p (Above f) is above = is.0
above_distance scale p (Below f) is above = absurd above

-- all judged parts have what they want
pub fine_all : (kept : Guarantee) (scale : Scale) (f g : ℕ → Bool) (lo hi : ℕ) (spare : Spare)
    → IsSpareBy kept scale f g lo hi spare → IsFine spare → (p : Part) → IsJudgedIn kept scale f g lo hi p
    → wants scale p ≤ has scale p
fine_all kept scale f g lo hi Unjudged is fine p judged = absurd (is.1 p judged)
fine_all kept scale f g lo hi Over is fine p judged = absurd fine
fine_all kept scale f g lo hi (Least q d) is fine p judged =
    enough_all scale (IsJudgedIn kept scale f g lo hi) q p is.1 (above_distance scale q d is.2 fine) judged

-- ---- every tick

pub all_has : (scale : Scale) (p : Part) → MeasuresSpare All scale → (has scale p ≡ p.got) × (wants scale p ≡ p.ticks)
all_has scale p is =
    let h = line_at scale.has 0 0 1 p.ticks p.got is.has in
    let w = line_at scale.wants 0 1 0 p.ticks p.got is.wants in
    (omega (arith, h), omega (arith, w))

served_one : (b : Bool) → 1 ≤ one_if b → b ≡ true
served_one true le = refl
served_one false le = absurd (omega (arith, le))

pub ticks_kept : (scale : Scale) (f g : ℕ → Bool) (lo hi i j : ℕ) → MeasuresSpare All scale
    → ((p : Part) → IsJudgedIn All scale f g lo hi p → wants scale p ≤ has scale p) → IsRow f lo hi i j
    → Satisfies All g i j
ticks_kept scale f g lo hi i j is enough row = λ t after before.
    let in_one = enclosing f lo hi i j (omega (arith, after, before)) row in
    let low = in_one.low in
    let high = in_one.high in
    let p = part g t 1 in
    let le = enough p
    (record {
      from = in_one.from;
      until = in_one.until;
      window = in_one.whole;
      judged = record {
        is = record {
          some = omega arith;
          begins = omega (arith, low, after);
          ends = omega (arith, high, before);
          got = refl;
        };
        long = refl;
      };
    }) in
    let h = all_has scale p is in
    let one = count_one g t in
    served_one (g t) (omega (arith, le, h.0, h.1, one))

-- ---- shares

pub share_has : (scale : Scale) (s d : Frac) (p : Part) → MeasuresSpare (Psbe s d) scale
    → (has scale p ≡ (p.got * d.den + d.num) * s.den) × (wants scale p ≡ s.num * p.ticks * d.den)
share_has scale s d p is =
    let h = line_at scale.has (d.num * s.den) 0 (s.den * d.den) p.ticks p.got is.has in
    let w = line_at scale.wants 0 (s.num * d.den) 0 p.ticks p.got is.wants in
    (omega (arith, h), omega (arith, w))

share_none : (s d : Frac) (got : ℕ) → HasShare s d 0 got
share_none s d got = omega arith

pub share_kept : (scale : Scale) (s d : Frac) (f g : ℕ → Bool) (lo hi i j : ℕ) → MeasuresSpare (Psbe s d) scale
    → ((p : Part) → IsJudgedIn (Psbe s d) scale f g lo hi p → wants scale p ≤ has scale p) → IsRow f lo hi i j
    → (a n : ℕ) → i ≤ a → a + n ≤ j → HasShare s d n (count g a n)
share_kept scale s d f g lo hi i j is enough row a zero after before = share_none s d (count g a 0)
share_kept scale s d f g lo hi i j is enough row a (suc n) after before =
    let in_one = enclosing f lo hi i j (omega (arith, after, before)) row in
    let low = in_one.low in
    let high = in_one.high in
    let p = part g a (suc n) in
    let le = enough p
    (record {
      from = in_one.from;
      until = in_one.until;
      window = in_one.whole;
      judged = record {
        some = omega arith;
        begins = omega (arith, low, after);
        ends = omega (arith, high, before);
        got = refl;
      };
    }) in
    let h = share_has scale s d p is in
    omega (arith, le, h.0, h.1)

-- ---- windows

pub res_has : (scale : Scale) (x y : ℕ) (p : Part) → IsScale scale (λ l. IsLine l y 0 1) (λ l. IsLine l x 1 0) 1
    → (has scale p ≡ y + p.got) × (wants scale p ≡ x + p.ticks)
res_has scale x y p is =
    let h = line_at scale.has y 0 1 p.ticks p.got is.has in
    let w = line_at scale.wants x 1 0 p.ticks p.got is.wants in
    (omega (arith, h), omega (arith, w))

-- a part of what has enough has enough
pub window_enough : (scale : Scale) (hard : Bool) (x y : ℕ) (f g : ℕ → Bool) (lo hi from until a n : ℕ)
    → IsReservation x y → IsScale scale (λ l. IsLine l y 0 1) (λ l. IsLine l x 1 0) 1
    → ((p : Part) → IsJudgedIn (Resc hard x y) scale f g lo hi p → wants scale p ≤ has scale p)
    → IsWhole f lo hi from until → from ≤ a → a + n ≤ until → n ≤ y → x + n ≤ y + count g a n
window_enough scale hard x y f g lo hi from until a n fits is enough whole after before short =
    let long : ℕ = min y (until - from) in
    let one = fits.some in
    let most = fits.fits in
    let some = whole.some in
    let l = longer g from until long a n (omega (arith, some)) (omega (arith, after, before, short)) after before in
    let p = part g l.from long in
    let low = l.low in
    let high = l.high in
    let le = enough p
    (record {
      from = from;
      until = until;
      window = whole;
      judged = record {
        is = record { some = omega (arith, one, most, some); begins = low; ends = high; got = refl };
        long = refl;
      };
    }) in
    let h = res_has scale x y p is in
    let few = l.few in
    omega (arith, le, h.0, h.1, few)

window_cap : (hard : Bool) (x y : ℕ) (g : ℕ → Bool) (lo hi a n : ℕ) → KeepsCap (Resc hard x y) g lo hi → lo ≤ a
    → a + n ≤ hi → n ≤ y → hard ≡ true → count g a n ≤ x
window_cap true x y g lo hi a n cap low high short hard = cap a n low high short
window_cap false x y g lo hi a n cap low high short hard = absurd (false≢true hard)

pub windows_kept : (scale : Scale) (hard : Bool) (x y : ℕ) (f g : ℕ → Bool) (lo hi i j : ℕ) → IsReservation x y
    → MeasuresSpare (Resc hard x y) scale
    → ((p : Part) → IsJudgedIn (Resc hard x y) scale f g lo hi p → wants scale p ≤ has scale p)
    → KeepsCap (Resc hard x y) g lo hi → IsRow f lo hi i j → Satisfies (Resc hard x y) g i j
windows_kept scale hard x y f g lo hi i j fits is enough cap row = λ a n after before short.
    let begins = row.begins in
    let ends = row.ends in
    let most = fits.fits in
    record {
      enough = elim (cases_lt i j) [
        | inl some ↦
            let in_one = enclosing f lo hi i j some row in
            let low = in_one.low in
            let high = in_one.high in
            window_enough scale hard x y f g lo hi in_one.from in_one.until a n fits is enough in_one.whole
            (omega (arith, low, after)) (omega (arith, high, before)) short
        | inr none ↦ omega (arith, after, before, none, most)
      ];
      capped = λ is_hard.
          window_cap hard x y g lo hi a n cap (omega (arith, begins, after)) (omega (arith, ends, before)) short
          is_hard;
    }
