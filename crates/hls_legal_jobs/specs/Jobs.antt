-- Jobs of the seat of a reservation: which ticks release one, and when it is in time.
use Rattle.std.specs.Prelude.{◌≡◌, ℕ, ◌+◌, ◌*◌, ◌-◌, ◌≤◌, ◌<◌, Bool, true, false}
use Rattle.hls_chron.specs.Ticks.{count}
use Rattle.hls_kinds.specs.declared.reservations.Reservation.{Reservation}

-- The last tick up to t that releases a job, from a tick on, is w.
pub record IsJobOf (from : ℕ) (released : ℕ → Bool) (w t : ℕ) : Type 0 where
  pub since : from ≤ w
  pub past : w ≤ t
  pub starts : released w ≡ true
  pub last : (u : ℕ) → w < u → u ≤ t → released u ≡ false

-- From a tick on, and before `now`, the seat asks for jobs alone: at first it has not asked for a period, or not since
-- its seating or settling; it asks from a release on, without a pause; the next release comes no sooner than in so many
-- periods; and the job asks on only while it was served less than so many budgets.
pub record AsksForJobs (r : Reservation) (periods : ℕ → ℕ) (from : ℕ) (released asks serves : ℕ → Bool)
    (now : ℕ) : Type 0
  where
    pub since : r.since ≤ from
    pub rested : (t : ℕ) → r.since ≤ t → t < from → t < now → from ≤ t + r.y → asks t ≡ false
    pub begins : (w : ℕ) → from ≤ w → w < now → released w ≡ true → asks w ≡ true
    pub apart : (w v : ℕ) → from ≤ w → w < v → v < now → released w ≡ true → released v ≡ true
        → w + periods w * r.y ≤ v
    pub goes_on : (t : ℕ) → from ≤ t → t < now → asks t ≡ true → released t ≡ false
        → (from < t) × (asks (t - 1) ≡ true)
    pub small : (w t : ℕ) → t < now → IsJobOf from released w t → asks t ≡ true
        → count serves w (t - w) < periods w * r.x

-- A job asks for so many ticks, up to a tick: while it was served fewer, and no further one was released.
pub record AsksFor (from : ℕ) (released asks serves : ℕ → Bool) (until w ticks : ℕ) : Type 0 where
  pub asks_on : (t : ℕ) → t < until → IsJobOf from released w t → count serves w (t - w) < ticks → asks t ≡ true

pub record AreInTime (r : Reservation) (periods : ℕ → ℕ) (from : ℕ) (released asks serves : ℕ → Bool) (now : ℕ)
    : Type 0 where
  -- each tick in which the seat asks is of a job, and lies less than its periods after its release
  pub known : (t : ℕ) → from ≤ t → t < now → asks t ≡ true → (w : ℕ) × IsJobOf from released w t
  pub soon : (w t : ℕ) → t < now → IsJobOf from released w t → asks t ≡ true → t < w + periods w * r.y
  -- a job that asks, served less than p budgets before, has time left up to p periods after its release for what is
  -- left of these budgets
  pub early : (w t p : ℕ) → t < now → IsJobOf from released w t → asks t ≡ true → count serves w (t - w) < p * r.x
      → t + 1 + p * r.x ≤ w + p * r.y + count serves w (t + 1 - w)
  -- where it asks for m ticks, no more than p budgets, it has them before p * y - (p * x - m) ticks have passed
  pub done : (w m p : ℕ) → from ≤ w → released w ≡ true → p ≤ periods w → m ≤ p * r.x
      → w + p * r.y + m ≤ now + p * r.x → AsksFor from released asks serves (w + (p * r.y + m - p * r.x)) w m
      → m ≤ count serves w (p * r.y + m - p * r.x)
