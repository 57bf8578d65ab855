-- What a watch knows of the list that was pushed.
use Rattle.hls_chron.specs.Ranges.{longest_horizon}
use Rattle.std.specs.Prelude.{◌≡◌, ℕ, ◌%◌, ◌≤◌, Bool, IsTrue, ◌↔◌, List, length}
use Rattle.hls_guarantee.specs.declared.Guarantee.{Guarantee}
use Rattle.hls_guarantee.specs.Cap.{ListKeepsCap}
use Rattle.hls_guarantee.specs.Limits.{IsValid}
use Rattle.hls_guarantee.specs.Satisfaction.{ListSatisfies}
use Rattle.hls_audit_watch.specs.declared.capping.Excess.{Excess}
use Rattle.hls_audit_watch.specs.declared.cuts.Cuts.{Cuts}
use Rattle.hls_audit_watch.specs.Inside.Carried.{HasPlaces, HasRate, IsCarried, IsCapCarried}
use Rattle.hls_audit_watch.specs.Inside.Periods.{IsPeriodOf, IsCapPeriodOf}

-- whether the guarantee is kept, and what is carried along as long as it is
pub record IsKeeping (g : Guarantee) (ticks w debt : ℕ) (cuts : Cuts) (kept : Bool) (list : List Bool) :
    Type 0 where
  pub valid : IsValid g
  pub few : ticks ≤ longest_horizon
  pub within : length list ≤ ticks
  pub some : 1 ≤ w
  pub period : (n : ℕ) → n ≤ ticks → IsPeriodOf g w n
  pub room : HasPlaces g w (length cuts.broken.items)
  pub placed : cuts.place ≡ cuts.from % w
  pub kept_is : IsTrue kept ↔ ListSatisfies g list
  pub carried : IsTrue kept → IsCarried g w debt cuts list

-- whether the cap is kept, and what is carried along as long as it is
pub record IsCapping (g : Guarantee) (ticks w : ℕ) (excess : Excess) (capped : Bool) (list : List Bool) :
    Type 0 where
  pub valid : IsValid g
  pub few : ticks ≤ longest_horizon
  pub within : length list ≤ ticks
  pub period : (n : ℕ) → n ≤ ticks → IsCapPeriodOf g w n
  pub rate : HasRate g excess.rate
  pub capped_is : IsTrue capped ↔ ListKeepsCap g list
  pub carried : IsTrue capped → IsCapCarried g excess.had list
