-- The most that a hard guarantee lets a seat get of the ticks from lo on and before hi, ready or not.
use Rattle.std.specs.Prelude.{ℕ, ◌+◌, ◌*◌, ◌≤◌, Bool, true, List, length}
use Rattle.hls_chron.specs.Parts.{all_parts, parts}
use Rattle.hls_guarantee.specs.declared.Guarantee.{Guarantee}
use Rattle.hls_guarantee.specs.declared.Guarantee.TheVariants.{Resb, Resc}
use Rattle.hls_guarantee.specs.Service.{EveryPart, schedule_of}

-- by blocks at most the share of the ticks and 2 * x; by windows at most x of any y ticks
abbrev pub KeepsCap : Guarantee → (served : ℕ → Bool) (lo hi : ℕ) → Type 0
KeepsCap (Resb true x y) served lo hi =
    EveryPart (λ i n got. got * all_parts ≤ parts x y * n + 2 * x * all_parts) served lo hi
KeepsCap (Resc true x y) served lo hi = EveryPart (λ i n got. n ≤ y → got ≤ x) served lo hi
KeepsCap _ served lo hi = Unit {0}

-- the same of a list of served and unserved ticks
abbrev pub ListKeepsCap : Guarantee → List Bool → Type 0
ListKeepsCap g list = KeepsCap g (schedule_of list) 0 (length list)
