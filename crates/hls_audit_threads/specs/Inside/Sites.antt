-- Clauses at one stay.
use Rattle.std.specs.Prelude.{◌≡◌, ℕ, ◌+◌, ◌≤◌, ◌<◌, true}
use Rattle.hls_guarantee.specs.Satisfaction.{Satisfies}
use Rattle.hls_guarantee.specs.Cap.{KeepsCap}
use Rattle.hls_report_text.specs.Content.{Content}
use Rattle.hls_legal.specs.declared.stay.Stay.{Stay}
use Rattle.hls_legal.specs.Schedule.{is_served}
use Rattle.hls_legal.specs.Ready.{is_ready}
use Rattle.hls_legal.specs.Accounts.{end_of, IsLongestWindow}

-- the tick is one of the stay
pub record IsIn (c : Content) (stay : Stay) (t : ℕ) : Type 0 where
  pub since : stay.since ≤ t
  pub until : t < end_of c stay

pub record Starves (c : Content) (t : ℕ) (stay : Stay) : Type 0 where
  pub now : IsIn c stay t
  pub ready : is_ready c stay.name t ≡ true
  pub from : ℕ
  pub window : IsLongestWindow c stay from (t + 1)
  pub short : ¬ Satisfies stay.kept (is_served c.stretches stay.name) from (t + 1)

pub record Exceeds (c : Content) (t : ℕ) (stay : Stay) : Type 0 where
  pub now : IsIn c stay t
  pub served : is_served c.stretches stay.name t ≡ true
  pub over : ¬ KeepsCap stay.kept (is_served c.stretches stay.name) stay.since (t + 1)
