-- Parts of the ticks from lo on and before hi, with the service that they had.
use Rattle.std.specs.Prelude.{◌≡◌, ℕ, ◌≤◌, Bool}
use Rattle.hls_chron.specs.Ticks.{count}
use Rattle.hls_view_margins.specs.declared.margin.Part.{Part}
use Rattle.hls_view_margins.specs.First.{end_of}

-- so many ticks from one on
abbrev pub part : (served : ℕ → Bool) → (from ticks : ℕ) → Part
part served from ticks = record { from = from; ticks = ticks; got = count served from ticks }

pub record IsPart (served : ℕ → Bool) (lo hi : ℕ) (p : Part) : Type 0 where
  pub some : 1 ≤ p.ticks
  pub begins : lo ≤ p.from
  pub ends : end_of p ≤ hi
  pub got : p.got ≡ count served p.from p.ticks

-- one of so many ticks
pub record IsLong (served : ℕ → Bool) (lo hi : ℕ) (ticks : ℕ) (p : Part) : Type 0 where
  pub is : IsPart served lo hi p
  pub long : p.ticks ≡ ticks
