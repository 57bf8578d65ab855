-- Spare and room tell whether a stay is kept.
use Rattle.std.proofs.Common.{ℕ, Bool}
use Rattle.hls_guarantee.specs.declared.Guarantee.{Guarantee}
use Rattle.hls_guarantee.specs.declared.Guarantee.TheVariants.{All, Null, Resb, Resc, Psbe}
use Rattle.hls_guarantee.specs.Cap.{KeepsCap}
use Rattle.hls_guarantee.specs.Limits.{IsValid}
use Rattle.hls_view_margins.specs.declared.margin.Spare.{Spare}
use Rattle.hls_view_margins.specs.declared.margin.Spare.TheVariants.{Unjudged, Over, Least}
use Rattle.hls_view_margins.specs.declared.scale.Scale.{Scale}
use Rattle.hls_view_margins.specs.Judged.{HasOverWindow, IsSpareBy, IsSpare}
use Rattle.hls_view_margins.specs.Kept.{IsFine, KeepsWindows}
use Rattle.hls_view_margins.proofs.Keeps.{fine_all, ticks_kept, share_kept, windows_kept}
use Rattle.hls_view_margins.proofs.Blocky.{blocks_kept}
use Rattle.hls_view_margins.proofs.Fine.{kept_fine}

fine_never : (kept : Guarantee) (scale : Scale) (f g : ℕ → Bool) (lo hi : ℕ) (spare : Spare)
    → IsSpareBy kept scale f g lo hi spare → IsFine spare → HasOverWindow kept f g lo hi → ⊥
fine_never kept scale f g lo hi Unjudged is fine = is.0
fine_never kept scale f g lo hi Over is fine = absurd fine
fine_never kept scale f g lo hi (Least p d) is fine = is.0

pub fine_keeps : (kept : Guarantee) (f g : ℕ → Bool) (lo hi : ℕ) (spare : Spare) → IsValid kept
    → IsSpare kept f g lo hi spare → KeepsCap kept g lo hi → IsFine spare → KeepsWindows kept f g lo hi
fine_keeps All f g lo hi spare valid is cap fine = λ i j row.
    ticks_kept is.scale f g lo hi i j is.measure (fine_all All is.scale f g lo hi spare is.by fine) row
fine_keeps Null f g lo hi spare valid is cap fine = λ i j row. tt
fine_keeps (Resc hard x y) f g lo hi spare valid is cap fine = λ i j row.
    windows_kept is.scale hard x y f g lo hi i j valid is.measure
    (fine_all (Resc hard x y) is.scale f g lo hi spare is.by fine) cap row
fine_keeps (Resb hard x y) f g lo hi spare valid is cap fine = λ i j row.
    blocks_kept is.scale hard x y f g lo hi i j valid is.measure
    (fine_all (Resb hard x y) is.scale f g lo hi spare is.by fine)
    (fine_never (Resb hard x y) is.scale f g lo hi spare is.by fine) row
fine_keeps (Psbe s d) f g lo hi spare valid is cap fine = λ i j row.
    share_kept is.scale s d f g lo hi i j is.measure (fine_all (Psbe s d) is.scale f g lo hi spare is.by fine) row

pub keeps_fine : (kept : Guarantee) (f g : ℕ → Bool) (lo hi : ℕ) (spare : Spare) → IsValid kept
    → IsSpare kept f g lo hi spare → KeepsWindows kept f g lo hi → IsFine spare
keeps_fine kept f g lo hi spare valid is keeps = kept_fine kept is.scale f g lo hi spare valid is.measure keeps is.by
