-- What is carried along to decide a guarantee, where it is kept so far, and its cap, where that is.
use Rattle.std.specs.Prelude.{◌≡◌, ℕ, ◌*◌, Bool, true, List, length}
use Rattle.hls_chron.specs.Parts.{all_parts, parts}
use Rattle.hls_guarantee.specs.declared.Guarantee.{Guarantee}
use Rattle.hls_guarantee.specs.declared.Guarantee.TheVariants.{Resb, Psbe}
use Rattle.hls_guarantee.specs.Service.{schedule_of}
use Rattle.hls_guarantee.proofs.Debts.{Debt}
use Rattle.hls_guarantee.proofs.Excesses.{Excess}
use Rattle.hls_audit_watch.specs.declared.cuts.Cuts.{Cuts}
use Rattle.hls_audit_watch.specs.Inside.Cuts.{AreCuts}

-- there is a place for each offset
abbrev pub HasPlaces : Guarantee → (w places : ℕ) → Type 0
HasPlaces (Resb hard x y) w places = places ≡ w
HasPlaces _ w places = Unit {0}

-- by blocks the broken offsets; by a share the greatest debt
abbrev pub IsCarried : Guarantee → (w debt : ℕ) → Cuts → List Bool → Type 0
IsCarried (Resb hard x y) w debt cuts list = AreCuts hard x y w cuts.from cuts.broken.items cuts.free list
IsCarried (Psbe s d) w debt cuts list =
    Debt (s.num * d.den) (d.den * s.den) (d.num * s.den) (schedule_of list) (length list) debt
IsCarried _ w debt cuts list = Unit {0}

-- by blocks what each tick pays
abbrev pub HasRate : Guarantee → (rate : ℕ) → Type 0
HasRate (Resb hard x y) rate = rate ≡ parts x y
HasRate _ rate = Unit {0}

-- by hard blocks the greatest excess
abbrev pub IsCapCarried : Guarantee → (excess : ℕ) → List Bool → Type 0
IsCapCarried (Resb true x y) excess list =
    Excess (parts x y) all_parts (2 * x * all_parts) (schedule_of list) (length list) excess
IsCapCarried _ excess list = Unit {0}
