-- The room is that of the part that has least of it.
use Rattle.std.proofs.Common.{◌≡◌, ℕ, ◌-◌, ◌<◌, Bool, true, false, sym, subst, arith}
use Rattle.std.specs.Prelude.{Option, Some, None, min}
use Rattle.hls_guarantee.specs.declared.Guarantee.{Guarantee}
use Rattle.hls_guarantee.specs.declared.Guarantee.TheVariants.{Resb, Resc}
use Rattle.hls_guarantee.specs.Limits.{IsReservation}
use Rattle.hls_view_margins.specs.declared.margin.Part.{Part}
use Rattle.hls_view_margins.specs.declared.margin.Room.{Room}
use Rattle.hls_view_margins.specs.declared.scale.Scale.{Scale}
use Rattle.hls_view_margins.specs.Scales.{MeasuresRoom}
use Rattle.hls_view_margins.specs.First.{IsFirstOf}
use Rattle.hls_view_margins.specs.Parts.{part, IsPart, IsLong}
use Rattle.hls_view_margins.specs.Rooms.{IsCapped, IsUncapped, IsRoomOf}
use Rattle.hls_view_margins.specs.Inside.Roomy.{IsRoomBy}
use Rattle.hls_view_margins.proofs.Windows.{some_long}

room_found : (kept : Guarantee) (scale : Scale) (f : ℕ → Bool) (lo hi : ℕ) (some : Part) (least : Option Part)
    (room : Option Room) → MeasuresRoom kept scale → IsCapped kept f lo hi some
    → IsFirstOf scale (IsCapped kept f lo hi) least → IsRoomBy scale least room → IsRoomOf kept f lo hi room
room_found kept scale f lo hi some None room measure capped first by = absurd (first some capped)
room_found kept scale f lo hi some (Some p) room measure capped first by =
    subst (IsRoomOf kept f lo hi) (sym by.1)
    (record { scale = scale; measure = measure; first = first; left = by.2 })

pub window_room : (hard : Bool) (x y : ℕ) (scale : Scale) (f : ℕ → Bool) (lo hi : ℕ) (least : Option Part)
    (room : Option Room) → hard ≡ true → IsReservation x y → lo < hi → MeasuresRoom (Resc true x y) scale
    → IsFirstOf scale (IsLong f lo hi (min y (hi - lo))) least → IsRoomBy scale least room
    → IsRoomOf (Resc hard x y) f lo hi room
window_room hard x y scale f lo hi least room is fits less measure first by =
    let one = fits.some in
    let most = fits.fits in
    subst (λ (b : Bool). IsRoomOf (Resc b x y) f lo hi room) (sym is)
    (room_found (Resc true x y) scale f lo hi (part f lo (min y (hi - lo))) least room measure
    (some_long f lo hi (min y (hi - lo)) (omega (arith, one, most, less)) (omega (arith, less))) first by)

pub block_room : (hard : Bool) (x y : ℕ) (scale : Scale) (f : ℕ → Bool) (lo hi : ℕ) (least : Option Part)
    (room : Option Room) → hard ≡ true → lo < hi → MeasuresRoom (Resb true x y) scale
    → IsFirstOf scale (IsPart f lo hi) least → IsRoomBy scale least room → IsRoomOf (Resb hard x y) f lo hi room
block_room hard x y scale f lo hi least room is less measure first by =
    subst (λ (b : Bool). IsRoomOf (Resb b x y) f lo hi room) (sym is)
    (room_found (Resb true x y) scale f lo hi (part f lo 1) least room measure
    (some_long f lo hi 1 (omega arith) (omega (arith, less))).is first by)

pub soft_windows : (hard : Bool) (x y : ℕ) → hard ≡ false → IsUncapped (Resc hard x y)
soft_windows hard x y is = subst (λ (b : Bool). IsUncapped (Resc b x y)) (sym is) tt

pub soft_blocks : (hard : Bool) (x y : ℕ) → hard ≡ false → IsUncapped (Resb hard x y)
soft_blocks hard x y is = subst (λ (b : Bool). IsUncapped (Resb b x y)) (sym is) tt
