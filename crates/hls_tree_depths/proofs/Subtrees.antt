-- A node is in a subtree where it is the upper one, or sits on a scheduler of the subtree.
use Rattle.std.proofs.Common.{◌≡◌, ◌≢◌, ℕ, zero, suc, ◌<◌, List, Option, Some, None, refl, sym, ap, ◌∙◌, subst}
use Rattle.std.proofs.Common.{arith, slice_get}
use Rattle.hls_machine.specs.Hierarchy.{Hierarchy, Loaded, Scheduler, Seat}
use Rattle.hls_machine.specs.Legal.{scheduler_at}
use Rattle.hls_machine.specs.Readings.{IsUnder, IsUnderBy}
use Rattle.hls_tree_nodes.specs.Shown.{seats_in}
use Rattle.hls_tree_nodes.proofs.Bare.{seats_same}
use Rattle.hls_tree_nodes.proofs.Snapshots.{Nodes}
use Rattle.hls_tree_depths.specs.Paths.{AreNodesOf}
use Rattle.hls_tree_depths.specs.Inside.Sums.{sum_under, greatest_over}
use Rattle.hls_tree_depths.specs.Subtrees.{IsSubtree, sum_at}
use Rattle.hls_tree_depths.specs.declared.below.Subtree.{Subtree}
use Rattle.hls_tree_depths.proofs.Chains.{over_each, top_seat}
use Rattle.hls_tree_depths.proofs.Heights.{seat_loaded, seat_on}

module _ (s : Nodes) (order : List ℕ) (h : Hierarchy) (upper : ℕ) (sub : Subtree) (of : AreNodesOf s order h)
    (is : IsSubtree h upper sub) where
  under_summed : (k : ℕ) (sched : Scheduler) → h.nodes k ≡ Some (Loaded sched)
      → 0 < sum_at order sub.sums k → IsUnder h upper k
  under_summed k sched there some =
      is.under k sched there (subst (λ l. 0 < sum_at l sub.sums k) (sym of.schedulers) some)

  summed_under : (k : ℕ) (sched : Scheduler) → h.nodes k ≡ Some (Loaded sched) → IsUnder h upper k
      → 0 < sum_at order sub.sums k
  summed_under k sched there under =
      subst (λ l. 0 < sum_at l sub.sums k) of.schedulers (is.all k sched there under)

  under_on : (lower port : ℕ) (seat : Seat) → slice_get (seats_in (s lower)) port ≡ Some seat
      → (parent : Option ℕ) → scheduler_at seat.place ≡ parent → 0 < sum_under (sum_at order sub.sums) parent
      → IsUnder h upper lower
  under_on lower port seat e None on some = absurd (omega (arith, some))
  under_on lower port seat e (Some p) on some =
      let parent = seat_loaded s of.laid h of.nodes lower port seat p e on in
      let up = under_summed p parent.0 parent.1 some in
      (suc up.0, (p, seat_on s of.laid h of.nodes lower port seat p e on, up.1))

  under_seated : (lower : ℕ) → 0 < greatest_over (sum_at order sub.sums) (seats_in (s lower)) → IsUnder h upper lower
  under_seated lower some =
      let top = top_seat (sum_at order sub.sums) (seats_in (s lower))
      (λ e. (let nothing : greatest_over (sum_at order sub.sums) (seats_in (s lower)) ≡ 0 =
      ap (greatest_over (sum_at order sub.sums)) e in omega (arith, nothing, some))) in
      let same = top.top in
      under_on lower top.port top.seat top.sits (scheduler_at top.seat.place) refl (omega (arith, same, some))

  summed_by : (lower count : ℕ) → IsUnderBy h upper count lower → lower ≢ sub.upper
      → 0 < greatest_over (sum_at order sub.sums) (seats_in (s lower))
  summed_by lower zero e ne = absurd (ne (e ∙ sym is.upper_is))
  summed_by lower (suc count) u ne =
      let p = u.0 in
      let sits : slice_get (seats_in (s lower)) u.1.port ≡ Some u.1.seat =
      ap (λ (l : List Seat). slice_get l u.1.port) (sym (seats_same (h.nodes lower) (s lower) (of.nodes lower)))
      ∙ u.1.sits in
      let on : scheduler_at u.1.seat.place ≡ Some p = ap scheduler_at u.1.at_place in
      let parent = seat_loaded s of.laid h of.nodes lower u.1.port u.1.seat p sits on in
      let some = summed_under p parent.0 parent.1 (count, u.2) in
      let over = over_each (sum_at order sub.sums) (seats_in (s lower)) u.1.port u.1.seat sits in
      let same : sum_under (sum_at order sub.sums) (scheduler_at u.1.seat.place)
      ≡ sum_at order sub.sums p = ap (sum_under (sum_at order sub.sums)) on in
      omega (arith, some, over, same)

  -- what the seats of a node tell, once the node is not the upper one
  pub under_answer : (lower key : ℕ) → key ≡ lower → 0 < greatest_over (sum_at order sub.sums) (seats_in (s key))
      → IsUnder h upper lower
  under_answer lower key e some = subst (IsUnder h upper) e (under_seated key some)

  pub other_answer : (lower key : ℕ) → key ≡ lower → greatest_over (sum_at order sub.sums) (seats_in (s key)) ≡ 0
      → lower ≢ sub.upper → ¬ IsUnder h upper lower
  other_answer lower key e none ne under =
      let u = subst (IsUnder h upper) (sym e) under in
      let some = summed_by key u.0 u.1 (λ on. ne (sym e ∙ on)) in
      omega (arith, some, none)
