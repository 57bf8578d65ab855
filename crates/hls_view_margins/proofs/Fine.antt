-- What keeps its guarantee in every window is fine.
use Rattle.std.proofs.Common.{◌≡◌, ℕ, zero, suc, ◌+◌, ◌-◌, ◌*◌, ◌/◌, ◌%◌, ◌<◌, ◌≤◌, Bool, true, false, sym}
use Rattle.std.proofs.Common.{subst, arith}
use Rattle.std.proofs.Common.{ap, inl, inr}
use Rattle.std.proofs.lemmas.Bool.{cases_lt}
use Rattle.std.proofs.Math.Nat.{mul-le-mul_left, mul-le-mul_right}
use Rattle.std.specs.Prelude.{Option, Some, None, min}
use Rattle.hls_chron.specs.Ticks.{one_if, count}
use Rattle.hls_guarantee.specs.declared.Guarantee.{Guarantee}
use Rattle.hls_guarantee.specs.declared.Guarantee.TheVariants.{All, Null, Resb, Resc, Psbe}
use Rattle.hls_guarantee.specs.Pieces.{piece_start}
use Rattle.hls_guarantee.specs.Limits.{IsValid, IsReservation}
use Rattle.hls_guarantee.specs.Service.{EveryPart}
use Rattle.hls_guarantee.specs.Satisfaction.{Satisfies, IsReserved, InPiece, HasShare}
use Rattle.hls_view_margins.specs.declared.margin.Part.{Part}
use Rattle.hls_view_margins.specs.declared.margin.Distance.{Distance}
use Rattle.hls_view_margins.specs.declared.margin.Distance.TheVariants.{Above, Below}
use Rattle.hls_view_margins.specs.declared.margin.Spare.{Spare}
use Rattle.hls_view_margins.specs.declared.margin.Spare.TheVariants.{Unjudged, Over, Least}
use Rattle.hls_view_margins.specs.declared.scale.Scale.{Scale}
use Rattle.hls_view_margins.specs.Scales.{MeasuresSpare}
use Rattle.hls_view_margins.specs.First.{has, wants, IsFirstOf}
use Rattle.hls_view_margins.specs.Cuts.{IsCutPiece, IsAllowed, IsBest}
use Rattle.hls_view_margins.specs.Distances.{IsDistance}
use Rattle.hls_view_margins.specs.Judged.{IsJudged, IsOver, IsSpareBy}
use Rattle.hls_view_margins.specs.Kept.{IsAbove, IsFine, KeepsWindows}
use Rattle.hls_view_margins.proofs.Walks.{piece_from, piece_end}
use Rattle.hls_view_margins.proofs.Bests.{some_piece}
use Rattle.hls_view_margins.proofs.Ons.{count_one}
use Rattle.hls_view_margins.proofs.Keeps.{all_has, share_has, res_has}
use Rattle.hls_view_margins.proofs.Blocky.{AreReserved}
use Rattle.hls_view_margins.proofs.Existing.{some_found}

-- ---- an offset from the beginning of a window for an offset from tick 0

-- the cuts are before the same ticks
record Turned (y e lo : ℕ) : Type 0 where
  pub by : ℕ
  pub small : by < y
  pub cut : ℕ
  pub same : lo + by ≡ e + cut * y

turned_at : (y e lo q r : ℕ) → 1 ≤ y → e < y → e + lo * y - lo ≡ y * q + r → r < y → Turned y e lo
turned_at y e lo q r some small is less =
    let long : lo * 1 ≤ lo * y = mul-le-mul_left lo some in
    let order : q ≤ lo = elim (cases_lt lo q) [
      | inl more ↦
          let most : (lo + 1) * y ≤ q * y = mul-le-mul_right y (omega (arith, more)) in
          absurd (omega (arith, is, most, small, long))
      | inr le ↦ le
    ] in
    let split : lo * y ≡ (q + (lo - q)) * y = ap (λ (m : ℕ). m * y) (omega (arith, order)) in
    record { by = r; small = less; cut = lo - q; same = omega (arith, is, split, long) }

turned : (y e lo : ℕ) → 1 ≤ y → e < y → Turned y e lo
turned y e lo some small =
    turned_at y e lo ((e + lo * y - lo) / y) ((e + lo * y - lo) % y) some small (omega (arith, some))
    (omega (arith, some))

-- ---- some cut of a window that is kept has enough in each piece

in_turned : (y e lo hi by cut k i n : ℕ) → by < y → lo + by ≡ e + cut * y → lo ≤ hi → i ≡ lo + piece_start by y k
    → i + n ≡ min (lo + piece_start by y (suc k)) hi → InPiece e y i n
in_turned y e lo hi by cut zero i n small same order from until = record {
  cut = cut;
  starts = omega (arith, from, same, small);
  ends = omega (arith, until, same);
}
in_turned y e lo hi by cut (suc k) i n small same order from until =
    let split : (cut + suc k) * y ≡ cut * y + (k * y + y) = omega arith in
    record {
      cut = cut + suc k;
      starts = omega (arith, from, same, split);
      ends = omega (arith, until, same, split);
    }

pub record HasReserved (hard : Bool) (x y : ℕ) (g : ℕ → Bool) (lo hi : ℕ) : Type 0 where
  pub offset : ℕ
  pub within : offset < min y (hi - lo)
  pub are : AreReserved hard x y g lo hi offset

reserved_by : (hard : Bool) (x y : ℕ) (g : ℕ → Bool) (lo hi offset e : ℕ)
    → EveryPart (λ i n got. InPiece e y i n → IsReserved hard x y n got) g lo hi
    → ((p : Part) → IsCutPiece g lo hi offset y p → InPiece e y p.from p.ticks)
    → AreReserved hard x y g lo hi offset
reserved_by hard x y g lo hi offset e each inside = record {
  enough = λ p piece.
      let is = piece.at.is in
      let got = is.got in
      let enough = (each p.from p.ticks is.begins is.ends (inside p piece)).enough in
      omega (arith, enough, got);
  capped = λ is_hard p piece.
      let is = piece.at.is in
      let got = is.got in
      let most = (each p.from p.ticks is.begins is.ends (inside p piece)).capped is_hard in
      omega (arith, most, got);
}

-- the window is one piece
whole_piece : (y e lo hi by cut : ℕ) (g : ℕ → Bool) → by < y → lo + by ≡ e + cut * y → hi ≤ lo + by → (p : Part)
    → IsCutPiece g lo hi 0 y p → InPiece e y p.from p.ticks
whole_piece y e lo hi by cut g small same short p piece =
    let is = piece.at.is in
    let begins = is.begins in
    let ends = is.ends in record {
      cut = cut;
      starts = omega (arith, same, begins, small);
      ends = omega (arith, same, ends, short);
    }

some_reserved : (hard : Bool) (x y : ℕ) (g : ℕ → Bool) (lo hi : ℕ) → IsReservation x y → lo < hi
    → Satisfies (Resb hard x y) g lo hi → HasReserved hard x y g lo hi
some_reserved hard x y g lo hi fits some kept =
    let one = fits.some in
    let most = fits.fits in
    let turn = turned y kept.0 lo (omega (arith, one, most)) kept.1 in
    let small = turn.small in
    elim (cases_lt turn.by (hi - lo)) [
      | inl within ↦ record {
        offset = turn.by;
        within = omega (arith, within, small);
        are = reserved_by hard x y g lo hi turn.by kept.0 kept.2
            (λ p piece.
            in_turned y kept.0 lo hi turn.by turn.cut piece.number p.from p.ticks small turn.same (omega (arith, some))
            (piece_from g lo hi turn.by y piece.number p piece.at)
            (piece_end g lo hi turn.by y piece.number p (omega (arith, some)) piece.at));
      }
      | inr beyond ↦ record {
        offset = 0;
        within = omega (arith, one, most, some);
        are = reserved_by hard x y g lo hi 0 kept.0 kept.2
            (whole_piece y kept.0 lo hi turn.by turn.cut g small turn.same (omega (arith, beyond, some)));
      }
    ]

-- ---- so the best cut has

reserved_allowed : (hard : Bool) (x y : ℕ) (g : ℕ → Bool) (lo hi e : ℕ) → AreReserved hard x y g lo hi e
    → IsAllowed g lo hi hard x y e
reserved_allowed hard x y g lo hi e are is_hard has =
    let most = are.capped is_hard has.one has.is in let over = has.over in omega (arith, most, over)

first_most : (scale : Scale) (hard : Bool) (x y : ℕ) (g : ℕ → Bool) (lo hi k e : ℕ) (b : Part) (least : Option Part)
    → MeasuresSpare (Resb hard x y) scale → lo < hi → e < y → e < k → AreReserved hard x y g lo hi e
    → IsBest scale g lo hi hard x y k b → IsFirstOf scale (IsCutPiece g lo hi e y) least
    → wants scale b ≤ has scale b
first_most scale hard x y g lo hi k e b None is some small within are best first =
    absurd (some_piece scale g lo hi e y some small first)
first_most scale hard x y g lo hi k e b (Some q) is some small within are best first =
    let more = best.best e q within (reserved_allowed hard x y g lo hi e are) first in
    let enough = are.enough q first.is in
    let h = res_has scale x y q is in
    omega (arith, more, enough, h.0, h.1)

best_enough : (scale : Scale) (hard : Bool) (x y : ℕ) (g : ℕ → Bool) (lo hi : ℕ) (b p : Part) → IsReservation x y
    → MeasuresSpare (Resb hard x y) scale → lo < hi → Satisfies (Resb hard x y) g lo hi
    → (best : IsBest scale g lo hi hard x y (min y (hi - lo)) b) → IsCutPiece g lo hi best.offset y p
    → wants scale p ≤ has scale p
best_enough scale hard x y g lo hi b p fits is some kept best piece =
    let one = fits.some in
    let most = fits.fits in
    let good = some_reserved hard x y g lo hi fits some kept in
    let within = good.within in
    let found = some_found scale g lo hi good.offset y x (omega (arith, some)) (omega (arith, one, most)) in
    let enough = first_most scale hard x y g lo hi (min y (hi - lo)) good.offset b found.0.least is some
    (omega (arith, within)) within good.are best found.1.least in
    let more = (best.least.first p piece).no_more in
    omega (arith, enough, more)

-- ---- all judged parts

one_served : (b : Bool) → b ≡ true → 1 ≤ one_if b
one_served true on = omega arith
one_served false on = absurd (let wrong : false ≡ true = on in cc)

judged_enough : (kept : Guarantee) (scale : Scale) (g : ℕ → Bool) (from until : ℕ) (p : Part) → IsValid kept
    → MeasuresSpare kept scale → from < until → Satisfies kept g from until → IsJudged kept scale g from until p
    → wants scale p ≤ has scale p
judged_enough All scale g from until p valid is some kept judged =
    let long = judged.long in
    let begins = judged.is.begins in
    let ends = judged.is.ends in
    let got = judged.is.got in
    let same : count g p.from p.ticks ≡ count g p.from 1 = ap (λ (k : ℕ). count g p.from k) long in
    let one = count_one g p.from in
    let on = one_served (g p.from) (kept p.from begins (omega (arith, ends, long))) in
    let h = all_has scale p is in
    omega (arith, h.0, h.1, long, got, same, one, on)
judged_enough Null scale g from until p valid is some kept judged = absurd judged
judged_enough (Resc hard x y) scale g from until p valid is some kept judged =
    let long = judged.long in
    let got = judged.is.got in
    let enough = (kept p.from p.ticks judged.is.begins judged.is.ends (omega (arith, long))).enough in
    let h = res_has scale x y p is in
    omega (arith, h.0, h.1, enough, got)
judged_enough (Resb hard x y) scale g from until p valid is some kept judged =
    best_enough scale hard x y g from until judged.one p valid is some kept judged.best judged.piece
judged_enough (Psbe s d) scale g from until p valid is some kept judged =
    let share = kept p.from p.ticks judged.begins judged.ends in
    let got = judged.got in
    let whole : HasShare s d p.ticks p.got = subst (λ (k : ℕ). HasShare s d p.ticks k) (sym got) share in
    let h = share_has scale s d p is in
    omega (arith, h.0, h.1, whole)

never_over : (kept : Guarantee) (g : ℕ → Bool) (from until : ℕ) → IsValid kept → from < until
    → Satisfies kept g from until → IsOver kept g from until → ⊥
never_over All g from until valid some kept over = over
never_over Null g from until valid some kept over = over
never_over (Resc hard x y) g from until valid some kept over = over
never_over (Resb hard x y) g from until valid some kept over =
    let good = some_reserved hard x y g from until valid some kept in
    over good.offset good.within (reserved_allowed hard x y g from until good.offset good.are)
never_over (Psbe s d) g from until valid some kept over = over

above_enough : (scale : Scale) (p : Part) (d : Distance) → IsDistance scale p d → wants scale p ≤ has scale p
    → IsAbove d
above_enough scale p (Above f) is le = tt
above_enough scale p (Below f) is le = let less = is.0 in absurd (omega (arith, less, le))

pub kept_fine : (kept : Guarantee) (scale : Scale) (f g : ℕ → Bool) (lo hi : ℕ) (spare : Spare) → IsValid kept
    → MeasuresSpare kept scale → KeepsWindows kept f g lo hi → IsSpareBy kept scale f g lo hi spare → IsFine spare
kept_fine kept scale f g lo hi Unjudged valid measure keeps is = tt
kept_fine kept scale f g lo hi Over valid measure keeps is =
    absurd (never_over kept g is.from is.until valid is.window.some (keeps is.from is.until is.window.row) is.over)
kept_fine kept scale f g lo hi (Least p d) valid measure keeps is =
    let in_one = is.1.is in
    above_enough scale p d is.2
    (judged_enough kept scale g in_one.from in_one.until p valid measure in_one.window.some
    (keeps in_one.from in_one.until in_one.window.row) in_one.judged)
