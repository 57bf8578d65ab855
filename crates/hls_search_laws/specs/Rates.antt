-- The rate at which a guarantee gives ticks, and the delay after which it does.
use Rattle.std.specs.Prelude.{ℕ, ◌*◌, ◌-◌, ◌<◌, ◌≤◌}
use Rattle.hls_guarantee.specs.declared.Guarantee.{Guarantee}
use Rattle.hls_guarantee.specs.declared.Guarantee.TheVariants.{All, Null, Resb, Resc, Psbe}

-- the rate num / den, after late / per ticks
pub record Pace : Type 0 where
  pub num : ℕ
  pub den : ℕ
  pub late : ℕ
  pub per : ℕ

-- any x of y ticks in a row may come last; of blocks, those of one may come first and those of the next last
abbrev pub pace_of : Guarantee → Pace
pace_of All = record { num = 1; den = 1; late = 0; per = 1 }
pace_of Null = record { num = 0; den = 1; late = 0; per = 1 }
pace_of (Resb hard x y) = record { num = x; den = y; late = 2 * (y - x); per = 1 }
pace_of (Resc hard x y) = record { num = x; den = y; late = y - x; per = 1 }
pace_of (Psbe s d) = record { num = s.num; den = s.den; late = d.num * s.den; per = d.den * s.num }

-- a higher rate
abbrev pub IsFaster : (h g : Guarantee) → Type 0
IsFaster h g = (pace_of g).num * (pace_of h).den < (pace_of h).num * (pace_of g).den

-- no higher rate, after no shorter delay
pub record IsNoBetter (h g : Guarantee) : Type 0 where
  pub rate : (pace_of h).num * (pace_of g).den ≤ (pace_of g).num * (pace_of h).den
  pub delay : (pace_of g).late * (pace_of h).per ≤ (pace_of h).late * (pace_of g).per
