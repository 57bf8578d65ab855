-- The service that a schedule gives, a count of ticks. A schedule is a test on ticks, true at those that
-- are served.
use Rattle.std.specs.Prelude.{◌≡◌, ℕ, ◌+◌, ◌-◌, ◌≤◌, min, Bool, true, false, List, length, slice_index_or}
use Rattle.hls_chron.specs.Ticks.{count}

-- P holds of every part of the ticks from lo on and before hi: of the n ticks from i on, and of their service
abbrev pub EveryPart : (P : (i n got : ℕ) → Type 0) (served : ℕ → Bool) (lo hi : ℕ) → Type 0
EveryPart P served lo hi = (i n : ℕ) → lo ≤ i → i + n ≤ hi → P i n (count served i n)

-- a list of served and unserved ticks as a schedule of the ticks from 0 on
abbrev pub schedule_of : List Bool → ℕ → Bool
schedule_of list t = slice_index_or list t false

-- P holds of every part of the list
abbrev pub EveryPartOf : (P : (i n got : ℕ) → Type 0) → List Bool → Type 0
EveryPartOf P list = EveryPart P (schedule_of list) 0 (length list)

-- the same ticks, and each that the first list serves the second serves too
pub record ServesMore (less more : List Bool) : Type 0 where
  pub same_length : length less ≡ length more
  pub served : (t : ℕ) → schedule_of less t ≡ true → schedule_of more t ≡ true

-- the service of the y ticks that end before tick k, or of as many as there are
abbrev pub service_before : (served : ℕ → Bool) (y k : ℕ) → ℕ
service_before served y k = count served (k - y) (min y k)
