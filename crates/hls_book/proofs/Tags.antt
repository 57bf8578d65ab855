-- The tags of the seats of fair queueing with a quantum of Q ticks, and what a tick makes of them.
use Rattle.std.specs.Prelude.{◌≡◌, ℕ, ◌+◌, ◌*◌, ◌-◌, ◌≤◌, ◌<◌, ◌⊎◌, Bool, true, false, nat_lt, nat_eq, max}
use Rattle.std.specs.Prelude.{◌&&◌, if◌then◌else◌, Option, Some, None}
use Rattle.hls_chron.specs.Ticks.{one_if}
use Rattle.hls_kinds.specs.Slots.{sum_below}

-- of a slot: the weight, what a tick adds to the tag, and the finish tag; a free slot has weight 0
pub record Tag : Type 0 where
  pub w : ℕ
  pub step : ℕ
  pub f : ℕ

-- v, the slot of the turn, and the ticks that it has had; 0 where no turn is in force
pub record Clock : Type 0 where
  pub v : ℕ
  pub who : ℕ
  pub had : ℕ

-- the turn goes on
abbrev pub goes_on : Clock → (ℕ → Bool) → Bool
goes_on c asks = nat_lt 0 c.had && asks c.who

unfoldable pub one_more : (Q had : ℕ) → ℕ
one_more Q had = if nat_eq (had + 1) Q then 0 else had + 1

-- after a tick
unfoldable pub v_after : Clock → (ℕ → Tag) → (ℕ → Bool) → Option ℕ → ℕ
v_after c tags asks None = c.v
v_after c tags asks (Some k) = if goes_on c asks then c.v else max c.v (tags k).f

unfoldable pub who_after : Clock → Option ℕ → ℕ
who_after c None = c.who
who_after c (Some k) = k

unfoldable pub had_after : (Q : ℕ) → Clock → (ℕ → Bool) → Option ℕ → ℕ
had_after Q c asks None = if asks c.who then c.had else 0
had_after Q c asks (Some k) = if goes_on c asks then one_more Q c.had else one_more Q 0

abbrev pub clock_after : (Q : ℕ) → Clock → (ℕ → Tag) → (ℕ → Bool) → Option ℕ → Clock
clock_after Q c tags asks to =
    record { v = v_after c tags asks to; who = who_after c to; had = had_after Q c asks to }

unfoldable pub tag_after : ℕ → Tag → Option ℕ → ℕ → Tag
tag_after v c None k = c
tag_after v c (Some s) k =
    record { w = c.w; step = c.step; f = if nat_eq s k then max v c.f + c.step else c.f }

-- the slot that is served
pub record SfqServes (n : ℕ) (c : Clock) (tags : ℕ → Tag) (asks : ℕ → Bool) (k : ℕ) : Type 0 where
  pub slot : k < n
  pub ready : asks k ≡ true
  pub stays : goes_on c asks ≡ true → k ≡ c.who
  pub least : goes_on c asks ≡ false → (j : ℕ) → j < n → asks j ≡ true
      → max c.v (tags k).f ≤ max c.v (tags j).f

abbrev pub weights : (ℕ → Tag) → ℕ → ℕ
weights tags n = sum_below (λ k. (tags k).w) n

abbrev pub seats : (ℕ → Tag) → ℕ → ℕ
seats tags n = sum_below (λ k. one_if (nat_lt 0 (tags k).w)) n

-- what a seat may still have before v grows
unfoldable pub ahead : (Q v : ℕ) → Tag → ℕ
ahead Q v c = c.w * (Q * c.step - (c.f - v))

abbrev pub ahead_in : (Q v : ℕ) → (ℕ → Tag) → ℕ → ℕ
ahead_in Q v tags n = sum_below (λ k. ahead Q v (tags k)) n

-- the seats fit the total T and the number M
pub record HaveRoom (T M n : ℕ) (tags : ℕ → Tag) : Type 0 where
  pub weight : weights tags n ≤ T
  pub count : seats tags n ≤ M

-- what the tags keep
pub record AreTags (Q V n : ℕ) (c : Clock) (tags : ℕ → Tag) : Type 0 where
  pub steps : (k : ℕ) → k < n → 0 < (tags k).w → (tags k).w * (tags k).step ≡ V
  pub near : (k : ℕ) → k < n → (tags k).f ≤ c.v + Q * (tags k).step
  pub slot : 0 < c.had → c.who < n
  pub turn : 0 < c.had → c.had < Q
  pub even : 0 < c.had → (tags c.who).f ≡ c.v + c.had * (tags c.who).step

-- seatings, leavings and settlings between two ticks
pub record IsChurn (Q n : ℕ) (v : ℕ) (old new : ℕ → Tag) : Type 0 where
  pub each : (k : ℕ) → k < n
      → (new k ≡ old k) ⊎ ((((new k).w ≡ 0) × ((new k).f ≡ 0)) ⊎ ((new k).f ≡ v + Q * (new k).step))
