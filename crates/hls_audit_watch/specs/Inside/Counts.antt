-- Counts of service in a ring.
use Rattle.hls_chron.specs.Ranges.{longest_horizon}
use Rattle.std.specs.Prelude.{◌≡◌, ℕ, ◌+◌, ◌%◌, ◌<◌, ◌≤◌, Bool, List, length, slice_index_or}
use Rattle.hls_chron.specs.Ticks.{count}
use Rattle.hls_guarantee.specs.Service.{schedule_of}

-- of each of the last ticks, and of the next, the service of the ticks before it
pub record AreCounts (period pushed place total : ℕ) (before : List ℕ) (list : List Bool) : Type 0 where
  pub some : 1 ≤ period
  pub room : length before ≡ period
  pub few : length list ≤ longest_horizon
  pub pushed_is : pushed ≡ length list
  pub place_is : place ≡ length list % period
  pub total_is : total ≡ count (schedule_of list) 0 (length list)
  pub before_is : (t : ℕ) → t ≤ length list → length list < t + period →
      slice_index_or before (t % period) 0 ≡ count (schedule_of list) 0 t
