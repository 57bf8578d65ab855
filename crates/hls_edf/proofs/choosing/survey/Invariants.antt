use Rattle.std.proofs.Common.{◌≡◌, ℕ, ◌<◌, ◌≤◌, ◌-◌, None, true, false}
use Rattle.hls_kinds.specs.Asks.{slot_asks}
use Rattle.hls_box.specs.Keys.{best_below}
use Rattle.hls_edf.specs.declared.servers.Need.TheVariants.{Budget}
use Rattle.hls_edf.specs.Choice.{deadline_asking}
use Rattle.hls_edf.specs.Inside.Candidates.{keyed}
use Rattle.hls_edf.specs.Inside.Outlook.{soonest_of}
use Rattle.hls_edf.proofs.choosing.survey.Given as goal

abbrev pub invariant-loop-slot : goal.invariant-loop-slot
invariant-loop-slot l = record {
  best : keyed l.found.best ≡ best_below (deadline_asking Budget l.servers l.state.book l.state.mask) l.slot;
  soonest : l.found.soonest ≡ soonest_of l.servers l.state.book l.state.mask l.slot;
  funded : (k : ℕ) → k < l.slot → slot_asks l.found.funded k ≡ false
      → deadline_asking Budget l.servers l.state.book l.state.mask k ≡ None;
  within : l.slot ≤ 32;
  asks : l.slot < 32 → slot_asks l.state.mask l.slot ≡ true;
}

abbrev pub decreases-loop-slot : goal.decreases-loop-slot
decreases-loop-slot l = 32 - l.slot
