-- The pieces of a list at each offset, of which only those that end here are looked at.
use Rattle.std.specs.Prelude.{◌≡◌, ℕ, ◌+◌, ◌-◌, ◌%◌, ◌<◌, ◌≤◌, Bool, true, false, List, [], ◌∷◌, ◌++◌}
use Rattle.std.specs.Prelude.{length, min, slice_index_or}
use Rattle.hls_chron.specs.Ticks.{count}
use Rattle.hls_guarantee.specs.Service.{schedule_of, EveryPartOf}
use Rattle.hls_guarantee.specs.Satisfaction.{IsReserved, InPiece}

-- the ticks from t on to the end are reserved
pub record IsReservedSince (hard : Bool) (x y : ℕ) (list : List Bool) (t : ℕ) : Type 0 where
  pub is : IsReserved hard x y (length list - t) (count (schedule_of list) t (length list - t))

-- each part of each piece at an offset is reserved
pub record IsKeptAt (hard : Bool) (x y w : ℕ) (list : List Bool) (e : ℕ) : Type 0 where
  pub each : EveryPartOf (λ i n got. InPiece e w i n → IsReserved hard x y n got) list

-- each offset at which the list was cut is told broken or not; from is the first tick since which all is reserved, of
-- the last ones, and free the first offset that is not broken
pub record AreCuts (hard : Bool) (x y w from : ℕ) (broken : List Bool) (free : ℕ) (list : List Bool) :
    Type 0 where
  pub within : from ≤ length list
  pub near : length list ≤ from + w
  pub since : (t : ℕ) → from ≤ t → t < length list → IsReservedSince hard x y list t
  pub marked : (t : ℕ) → t < from → length list ≤ t + w → slice_index_or broken (t % w) false ≡ true
  pub whole : length list ≤ w → 0 < from → IsReservedSince hard x y list 0 → ⊥
  pub kept : (e : ℕ) → e < min (length list) w → slice_index_or broken e false ≡ false →
      IsKeptAt hard x y w list e
  pub failed : (e : ℕ) → e < min (length list) w → slice_index_or broken e false ≡ true →
      IsKeptAt hard x y w list e → ⊥
  pub passed : (e : ℕ) → e < free → slice_index_or broken e false ≡ true
  pub free_within : free ≤ min (length list) w

-- the same while one tick more is taken in
pub record AreCutting (hard : Bool) (x y w from : ℕ) (broken : List Bool) (free : ℕ) (list : List Bool)
    (served : Bool) : Type 0 where
  pub within : from ≤ length list + 1
  pub near : length list + 1 ≤ from + w
  pub marked : (t : ℕ) → t < from → length list + 1 ≤ t + w → slice_index_or broken (t % w) false ≡ true
  pub whole : length list + 1 ≤ w → 0 < from → IsReservedSince hard x y (list ++ served ∷ []) 0 → ⊥
  pub before : (e : ℕ) → e < min (length list + 1) w → slice_index_or broken e false ≡ false →
      IsKeptAt hard x y w list e
  pub failed : (e : ℕ) → e < min (length list + 1) w → slice_index_or broken e false ≡ true →
      IsKeptAt hard x y w (list ++ served ∷ []) e → ⊥
  pub passed : (e : ℕ) → e < free → slice_index_or broken e false ≡ true
  pub free_within : free ≤ min (length list) w
