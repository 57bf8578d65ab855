-- Where a thread lacks what is guaranteed, and where it gets more than the cap.
use Rattle.std.specs.Prelude.{◌≡◌, ℕ, ◌+◌, ◌-◌, ◌≤◌, ◌<◌, Bool, true, false, List}
use Rattle.hls_guarantee.specs.declared.Guarantee.{Guarantee}
use Rattle.hls_guarantee.specs.Service.{schedule_of}
use Rattle.hls_guarantee.specs.Satisfaction.{Satisfies}
use Rattle.hls_guarantee.specs.Cap.{KeepsCap}

-- a thread is ready in tick i, and the longest window that ends with it does not have what is guaranteed
pub record IsShort (kept : Guarantee) (ready served : List Bool) (i : ℕ) : Type 0 where
  pub now : schedule_of ready i ≡ true
  pub from : ℕ
  pub begins : from ≤ i
  pub all : (t : ℕ) → from ≤ t → t < i → schedule_of ready t ≡ true
  pub began : 0 < from → schedule_of ready (from - 1) ≡ false
  pub short : ¬ Satisfies kept (schedule_of served) from (i + 1)

-- a thread is served in tick i, and the ticks up to it exceed the cap
pub record IsOver (kept : Guarantee) (served : List Bool) (i : ℕ) : Type 0 where
  pub now : schedule_of served i ≡ true
  pub over : ¬ KeepsCap kept (schedule_of served) 0 (i + 1)
