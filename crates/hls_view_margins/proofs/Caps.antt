-- The cap is kept exactly where the room is not negative.
use Rattle.std.proofs.Common.{◌≡◌, ℕ, zero, suc, ◌+◌, ◌-◌, ◌*◌, ◌<◌, ◌≤◌, Bool, true, false, arith, inl, inr}
use Rattle.std.proofs.Common.{refl, ap, ◌∙◌}
use Rattle.std.proofs.lemmas.Bool.{cases_lt}
use Rattle.std.specs.Prelude.{Option, Some, None, min}
use Rattle.hls_chron.specs.Parts.{all_parts, parts}
use Rattle.hls_chron.specs.Ticks.{count}
use Rattle.hls_chron.proofs.CountLaws.{count-none, count-within}
use Rattle.hls_guarantee.specs.declared.Guarantee.{Guarantee}
use Rattle.hls_guarantee.specs.declared.Guarantee.TheVariants.{All, Null, Resb, Resc, Psbe}
use Rattle.hls_guarantee.specs.Cap.{KeepsCap}
use Rattle.hls_guarantee.specs.Limits.{IsValid}
use Rattle.hls_view_margins.specs.declared.margin.Part.{Part}
use Rattle.hls_view_margins.specs.declared.margin.Distance.{Distance}
use Rattle.hls_view_margins.specs.declared.margin.Distance.TheVariants.{Above, Below}
use Rattle.hls_view_margins.specs.declared.margin.Room.{Room}
use Rattle.hls_view_margins.specs.declared.scale.Line.{Line}
use Rattle.hls_view_margins.specs.declared.scale.Scale.{Scale}
use Rattle.hls_view_margins.specs.Scales.{at, IsLine, IsScale}
use Rattle.hls_view_margins.specs.First.{has, wants, IsFirst}
use Rattle.hls_view_margins.specs.Parts.{part, IsPart, IsLong}
use Rattle.hls_view_margins.specs.Rooms.{IsRoomOf}
use Rattle.hls_view_margins.specs.Distances.{IsRoundedDown}
use Rattle.hls_view_margins.specs.Kept.{IsAbove, IsRoomy}

-- a line's number, by the line's numbers
pub line_at : (line : Line) (base tick got n g : ℕ) → IsLine line base tick got
    → at line n g ≡ base + tick * n + got * g
line_at line base tick got n g is =
    ap (λ (k : ℕ). k + line.tick * n + line.got * g) is.to_begin
    ∙ ap (λ (k : ℕ). base + k * n + line.got * g) is.each_tick
    ∙ ap (λ (k : ℕ). base + tick * n + k * g) is.each_got

-- what is above is no less
pub above_rounded : (scale : Scale) (p : Part) (d : Distance) → IsRoundedDown scale p d → IsAbove d
    → wants scale p ≤ has scale p
above_rounded scale p (Above f) is above = let low = is.2 in omega (arith, low)
above_rounded scale p (Below f) is above = absurd above

pub rounded_above : (scale : Scale) (p : Part) (d : Distance) → IsRoundedDown scale p d
    → wants scale p ≤ has scale p → IsAbove d
rounded_above scale p (Above f) is le = tt
rounded_above scale p (Below f) is le = let less = is.4 in absurd (omega (arith, less, le))

pub enough_all : (scale : Scale) (such : Part → Type 0) (p q : Part) → IsFirst scale such p
    → wants scale p ≤ has scale p → such q → wants scale q ≤ has scale q
enough_all scale such p q first le is = let more = (first.first q is).no_more in omega (arith, le, more)

-- a part lies in a longer one
pub record Longer (f : ℕ → Bool) (lo hi long i n : ℕ) : Type 0 where
  pub from : ℕ
  pub low : lo ≤ from
  pub high : from + long ≤ hi
  pub more : count f i n ≤ count f from long
  pub few : n + count f from long ≤ long + count f i n

longer_at : (f : ℕ → Bool) (lo hi long i n from : ℕ) → lo ≤ from → from + long ≤ hi → from ≤ i → i + n ≤ from + long
    → Longer f lo hi long i n
longer_at f lo hi long i n from low high begins ends =
    let within = count-within f from long i n begins ends in
    let idle = within.idle in
    record { from = from; low = low; high = high; more = within.less; few = omega (arith, idle) }

pub longer : (f : ℕ → Bool) (lo hi long i n : ℕ) → lo + long ≤ hi → n ≤ long → lo ≤ i → i + n ≤ hi
    → Longer f lo hi long i n
longer f lo hi long i n fits le low high = elim (cases_lt hi (i + long)) [
  | inr within ↦ longer_at f lo hi long i n i low within (omega arith) (omega (arith, le))
  | inl beyond ↦
      longer_at f lo hi long i n (hi - long) (omega (arith, fits)) (omega (arith, fits)) (omega (arith, beyond))
      (omega (arith, high, fits))
]

-- ---- by windows

window_has : (scale : Scale) (x : ℕ) (p : Part) → IsScale scale (λ l. IsLine l x 0 0) (λ l. IsLine l 0 0 1) 1
    → (has scale p ≡ x) × (wants scale p ≡ p.got)
window_has scale x p is =
    let h = line_at scale.has x 0 0 p.ticks p.got is.has in
    let w = line_at scale.wants 0 0 1 p.ticks p.got is.wants in
    (omega (arith, h), omega (arith, w))

pub windows_capped : (scale : Scale) (f : ℕ → Bool) (lo hi x y : ℕ) (p : Part) → 1 ≤ y → lo < hi
    → IsScale scale (λ l. IsLine l x 0 0) (λ l. IsLine l 0 0 1) 1
    → IsFirst scale (IsLong f lo hi (min y (hi - lo))) p → wants scale p ≤ has scale p
    → KeepsCap (Resc true x y) f lo hi
windows_capped scale f lo hi x y p one some is first le = λ i n low high short.
    let long : ℕ = min y (hi - lo) in
    let l = longer f lo hi long i n (omega (arith, some)) (omega (arith, low, high, short)) low high in
    let l_low = l.low in
    let l_high = l.high in
    let l_more = l.more in
    let q = part f l.from long in
    let enough = enough_all scale (IsLong f lo hi long) p q first le
    (record {
      is = record { some = omega (arith, one, some); begins = l_low; ends = l_high; got = refl };
      long = refl;
    }) in
    let h = window_has scale x q is in
    omega (arith, enough, h.0, h.1, l_more)

pub capped_windows : (scale : Scale) (f : ℕ → Bool) (lo hi x y : ℕ) (p : Part)
    → IsScale scale (λ l. IsLine l x 0 0) (λ l. IsLine l 0 0 1) 1
    → IsLong f lo hi (min y (hi - lo)) p → KeepsCap (Resc true x y) f lo hi → wants scale p ≤ has scale p
capped_windows scale f lo hi x y p is long cap =
    let l = long.long in
    let h = window_has scale x p is in
    let c = cap p.from p.ticks long.is.begins long.is.ends (omega (arith, l)) in
    let g = long.is.got in
    omega (arith, h.0, h.1, c, g)

-- ---- by blocks

block_has : (scale : Scale) (x u w : ℕ) (p : Part)
    → IsScale scale (λ l. IsLine l (2 * x * w) u 0) (λ l. IsLine l 0 0 w) w
    → (has scale p ≡ 2 * x * w + u * p.ticks) × (wants scale p ≡ w * p.got)
block_has scale x u w p is =
    let h = line_at scale.has (2 * x * w) u 0 p.ticks p.got is.has in
    let v = line_at scale.wants 0 0 w p.ticks p.got is.wants in
    (omega (arith, h), omega (arith, v))

block_enough : (x u w n got count : ℕ) → got ≡ count → w * got ≤ 2 * x * w + u * n → count * w ≤ u * n + 2 * x * w
block_enough x u w n got count e le = let same = ap (λ (k : ℕ). w * k) e in omega (arith, le, same)

enough_block : (x u w n got count : ℕ) → got ≡ count → count * w ≤ u * n + 2 * x * w → w * got ≤ 2 * x * w + u * n
enough_block x u w n got count e le = let same = ap (λ (k : ℕ). w * k) e in omega (arith, le, same)

none_block : (x u w count : ℕ) → count ≡ 0 → count * w ≤ u * 0 + 2 * x * w
none_block x u w count e = let same = ap (λ (k : ℕ). k * w) e in omega (arith, same)

pub blocks_capped : (scale : Scale) (f : ℕ → Bool) (lo hi x u w : ℕ) (p : Part)
    → IsScale scale (λ l. IsLine l (2 * x * w) u 0) (λ l. IsLine l 0 0 w) w
    → IsFirst scale (IsPart f lo hi) p → wants scale p ≤ has scale p
    → (i n : ℕ) → lo ≤ i → i + n ≤ hi → count f i n * w ≤ u * n + 2 * x * w
blocks_capped scale f lo hi x u w p is first le i zero low high = none_block x u w (count f i 0) (count-none f i)
blocks_capped scale f lo hi x u w p is first le i (suc n) low high =
    let q = part f i (suc n) in
    let enough = enough_all scale (IsPart f lo hi) p q first le
    (record { some = omega arith; begins = low; ends = high; got = refl }) in
    let h = block_has scale x u w q is in
    block_enough x u w (suc n) q.got (count f i (suc n)) refl (omega (arith, enough, h.0, h.1))

pub capped_blocks : (scale : Scale) (f : ℕ → Bool) (lo hi x u w : ℕ) (p : Part)
    → IsScale scale (λ l. IsLine l (2 * x * w) u 0) (λ l. IsLine l 0 0 w) w → IsPart f lo hi p
    → ((i n : ℕ) → lo ≤ i → i + n ≤ hi → count f i n * w ≤ u * n + 2 * x * w) → wants scale p ≤ has scale p
capped_blocks scale f lo hi x u w p is inside cap =
    let h = block_has scale x u w p is in
    let c = enough_block x u w p.ticks p.got (count f p.from p.ticks) inside.got
    (cap p.from p.ticks inside.begins inside.ends) in
    omega (arith, h.0, h.1, c)

-- ---- rooms

pub room_keeps : (kept : Guarantee) (f : ℕ → Bool) (lo hi : ℕ) (room : Option Room) → IsValid kept → lo < hi
    → IsRoomOf kept f lo hi room → IsRoomy room → KeepsCap kept f lo hi
room_keeps All f lo hi room valid some is roomy = tt
room_keeps Null f lo hi room valid some is roomy = tt
room_keeps (Psbe s d) f lo hi room valid some is roomy = tt
room_keeps (Resb false x y) f lo hi room valid some is roomy = tt
room_keeps (Resc false x y) f lo hi room valid some is roomy = tt
room_keeps (Resb true x y) f lo hi None valid some is roomy = absurd is
room_keeps (Resc true x y) f lo hi None valid some is roomy = absurd is
room_keeps (Resb true x y) f lo hi (Some room) valid some is roomy =
    blocks_capped is.scale f lo hi x (parts x y) all_parts room.part is.measure is.first
    (above_rounded is.scale room.part room.left is.left roomy)
room_keeps (Resc true x y) f lo hi (Some room) valid some is roomy =
    let one = valid.some in
    let fits = valid.fits in
    windows_capped is.scale f lo hi x y room.part (omega (arith, one, fits)) some is.measure is.first
    (above_rounded is.scale room.part room.left is.left roomy)

pub cap_roomy : (kept : Guarantee) (f : ℕ → Bool) (lo hi : ℕ) (room : Option Room) → IsRoomOf kept f lo hi room
    → KeepsCap kept f lo hi → IsRoomy room
cap_roomy kept f lo hi None is cap = tt
cap_roomy All f lo hi (Some room) is cap = absurd is.measure
cap_roomy Null f lo hi (Some room) is cap = absurd is.measure
cap_roomy (Psbe s d) f lo hi (Some room) is cap = absurd is.measure
cap_roomy (Resb false x y) f lo hi (Some room) is cap = absurd is.measure
cap_roomy (Resc false x y) f lo hi (Some room) is cap = absurd is.measure
cap_roomy (Resb true x y) f lo hi (Some room) is cap =
    rounded_above is.scale room.part room.left is.left
    (capped_blocks is.scale f lo hi x (parts x y) all_parts room.part is.measure is.first.is cap)
cap_roomy (Resc true x y) f lo hi (Some room) is cap =
    rounded_above is.scale room.part room.left is.left
    (capped_windows is.scale f lo hi x y room.part is.measure is.first.is cap)
