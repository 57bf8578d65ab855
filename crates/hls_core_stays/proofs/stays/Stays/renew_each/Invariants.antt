use Rattle.std.proofs.Common.{◌-◌, ◌≤◌, List, length, take}
use Rattle.hls_machine.specs.Hierarchy.{Hierarchy, Stay}
use Rattle.hls_tree.specs.Trees.{IsTreeOf, IsReadyOf}
use Rattle.hls_core_stays.specs.Tallies.{AreTallies}
use Rattle.hls_core_stays.specs.Inside.Renewals.{AreRenewable, renewed_all}
use Rattle.hls_core_stays.proofs.stays.Stays.renew_each.Given as goal

abbrev pub invariant-loop-id : goal.invariant-loop-id
invariant-loop-id g l = record {
  are : (h : Hierarchy) (stays : List Stay) → IsTreeOf (λ z. (goal.Scheduler-dyn g z).seen z.1) l.tree h
      → IsReadyOf (λ z. (goal.Scheduler-dyn g z).seen z.1) l.tree h → AreRenewable l.fn.self h stays l.ids
      → AreTallies l.self h (renewed_all h stays (take l.id-index l.ids));
  room : length l.ids - l.id-index ≤ l.self.tallies.spare;
}
