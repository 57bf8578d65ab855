-- What is asked about paths, and what is answered.
use Rattle.std.proofs.Common.{◌≡◌, ◌⊎◌, inl, inr, ℕ, ◌+◌, ◌<◌, ◌≤◌, List, [], ◌∷◌, ◌++◌, length, get_or}
use Rattle.std.proofs.Common.{Option, Some, None, true, refl, sym, ap, ◌∙◌, subst, arith}
use Rattle.std.proofs.lemmas.Bool.{cases_eq}
use Rattle.hls_machine.specs.Hierarchy.{Hierarchy, Node, Loaded, Admitted, Scheduler, Seat, config_of}
use Rattle.hls_chron.specs.Kinds.{fair_queue}
use Rattle.hls_machine.specs.Readings.{IsUnder}
use Rattle.hls_machine.specs.Steps.{is_scheduler, reseated}
use Rattle.hls_tree_nodes.specs.Shown.{level_in}
use Rattle.hls_tree_nodes.proofs.Snapshots.{Nodes}
use Rattle.hls_tree_depths.specs.Paths.{AreNodesOf, IsPathSum, IsGreatestSum, MaySitAt, SitsAt, sum_on}
use Rattle.hls_tree_depths.specs.Paths.{one_each, fair_each}
use Rattle.hls_tree_depths.specs.Subtrees.{IsSubtree, sum_at}
use Rattle.hls_tree_depths.specs.Inside.Sums.{next_in, counts_in, IsSettled, AreSums}
use Rattle.hls_tree_depths.specs.declared.question.Counted.{Counted}
use Rattle.hls_tree_depths.specs.declared.question.Counted.TheVariants as counts
use Rattle.hls_tree_depths.proofs.Chains.{IsSolved, solved, reached, path_low}
use Rattle.hls_tree_depths.proofs.Elsewhere.{marked, unmarked, rank, moved_local, moved_low, moved_greatest}
use Rattle.hls_tree_depths.proofs.Heights.{levels_rank, levels_local, levels_low, levels_capped, level_eight}
use Rattle.hls_tree_depths.proofs.Heights.{right_there, below_yes, under_some, fair_same, scheduler_there}

config_reseated : (seat : Seat) (node : Option Node) → config_of (reseated seat node) ≡ config_of node
config_reseated seat None = refl
config_reseated seat (Some (Loaded s)) = refl
config_reseated seat (Some (Admitted t)) = refl

-- the same is counted in other words
sum_same : (one other : ℕ → ℕ) → ((k : ℕ) → one k ≡ other k) → (chain : List ℕ)
    → sum_on one chain ≡ sum_on other chain
sum_same one other same [] = refl
sum_same one other same (k ∷ chain) =
    let first = same k in
    let rest = sum_same one other same chain in
    omega (arith, first, rest)

path_same : (h : Hierarchy) (one other : ℕ → ℕ) → ((k : ℕ) → one k ≡ other k) → (k sum : ℕ)
    → IsPathSum h one k sum → IsPathSum h other k sum
path_same h one other same k sum x = record {
  above = x.above;
  chain = x.chain;
  sum_is = sym (sum_same one other same (x.above ++ k ∷ [])) ∙ x.sum_is;
  most = λ chain c.
      (let sums = sum_same one other same (chain ++ k ∷ []) in
      let low = x.most chain c in
      omega (arith, sums, low));
}

greatest_same : (h : Hierarchy) (one other : ℕ → ℕ) → ((k : ℕ) → one k ≡ other k) → (sum : ℕ)
    → IsGreatestSum h one sum → IsGreatestSum h other sum
greatest_same h one other same sum x = record {
  chain = x.chain;
  stands = x.stands;
  sum_is = sym (sum_same one other same x.chain) ∙ x.sum_is;
  greatest = λ chain c.
      (let sums = sum_same one other same chain in
      let low = x.greatest chain c in
      omega (arith, sums, low));
}

module _ (s : Nodes) (order : List ℕ) (h : Hierarchy) (of : AreNodesOf s order h) where
  fair : (k : ℕ) → fair_each h k ≡ counts_in counts.FairQueues s k
  fair k = fair_same (h.nodes k) (s k) (of.nodes k) (of.posted k)

  -- sums of what each counts, where each sits as it does
  module _ (counted : Counted) (sums : List ℕ) (are : AreSums (record { counted = counted; moved = None }) s order sums)
    where
      sums_settled : IsSettled (next_in (record { counted = counted; moved = None }) s) order sums
      sums_settled = are (λ k. level_in (s k)) (levels_local s of.laid h of.nodes order of.listed counted)
          (levels_low s of.laid h of.nodes order of.listed counted)

      sums_solved : IsSolved h (counts_in counted s) (sum_at order sums)
      sums_solved = solved h (counts_in counted s) (sum_at order sums) (λ k. level_in (s k))
          (levels_rank s of.laid h of.nodes)
          (levels_capped s of.laid h of.nodes order of.listed counted sums sums_settled)
          (λ k sched there. let eight = level_eight s of.laid h of.nodes k sched there in omega (arith, eight))

      path_read : (k : ℕ) (sched : Scheduler) → h.nodes k ≡ Some (Loaded sched)
          → IsPathSum h (counts_in counted s) k (sum_at order sums k)
      path_read k sched there =
          let up = reached h (counts_in counted s) (sum_at order sums) (λ k. level_in (s k))
          (levels_rank s of.laid h of.nodes) sums_solved k sched there in
          record {
            above = up.above;
            chain = up.chain;
            sum_is = up.sum_is;
            most = λ other c.
                (let low : 0 + sum_on (counts_in counted s) (other ++ k ∷ []) ≤ sum_at order sums k =
                path_low h (counts_in counted s) (sum_at order sums) (λ k. level_in (s k))
                (levels_rank s of.laid h of.nodes) sums_solved None other k c in
                omega (arith, low));
          }

  -- what is below one, by sums of that one
  module _ (upper : ℕ) (sums : List ℕ)
      (are : AreSums (record { counted = counts.Only upper; moved = None }) s order sums) where
    -- the sum of a scheduler is that of those that it sits on, and what it counts itself
    own_sum : (k : ℕ) (sched : Scheduler) → h.nodes k ≡ Some (Loaded sched) → sum_at order sums k
        ≡ next_in (record { counted = counts.Only upper; moved = None }) s (sum_at order sums) k
    own_sum = right_there s of.laid h of.nodes order of.listed
        (next_in (record { counted = counts.Only upper; moved = None }) s) sums
        (sums_settled (counts.Only upper) sums are)

    under_summed : (k : ℕ) (sched : Scheduler) → h.nodes k ≡ Some (Loaded sched) → 0 < sum_at order sums k
        → IsUnder h upper k
    under_summed k sched there some =
        let own = own_sum k sched there in
        below_yes s of.laid h of.nodes order of.listed upper sums (sums_settled (counts.Only upper) sums are)
        k (omega (arith, some, own))

    summed_under : (k : ℕ) (sched : Scheduler) → h.nodes k ≡ Some (Loaded sched) → IsUnder h upper k
        → 0 < sum_at order sums k
    summed_under k sched there under =
        let own = own_sum k sched there in
        let some = under_some s of.laid h of.nodes order of.listed upper sums
        (sums_settled (counts.Only upper) sums are) under.0 k under.1 in
        omega (arith, some, own)

    subtree_of : IsSubtree h upper (record { upper = upper; sums = sums })
    subtree_of = record {
      upper_is = refl;
      under = λ k sched there some.
          under_summed k sched there (subst (λ l. 0 < sum_at l sums k) of.schedulers some);
      all = λ k sched there under.
          subst (λ l. 0 < sum_at l sums k) (sym of.schedulers) (summed_under k sched there under);
    }

  pub subtree_read : (upper key : ℕ) (sums : List ℕ) → key ≡ upper
      → AreSums (record { counted = counts.Only key; moved = None }) s order sums
      → IsSubtree h upper (record { upper = upper; sums = sums })
  subtree_read upper key sums e are =
      subst (λ n. IsSubtree h n (record { upper = n; sums = sums })) e (subtree_of key sums are)

  pub shares_read : (id key : ℕ) (sums : List ℕ) → key ≡ id → is_scheduler (h.nodes id) ≡ true
      → AreSums (record { counted = counts.FairQueues; moved = None }) s order sums
      → (sum : ℕ) → sum ≡ sum_at order sums key → IsPathSum h (fair_each h) id sum
  shares_read id key sums e loaded are sum is =
      let there = scheduler_there (h.nodes id) loaded in
      let same : sum_at order sums id ≡ sum = ap (sum_at order sums) (sym e) ∙ sym is in
      path_same h (counts_in counts.FairQueues s) (fair_each h) (λ k. sym (fair k)) id sum
      (subst (IsPathSum h (counts_in counts.FairQueues s) id) same
      (path_read counts.FairQueues sums are id there.0 there.1))

  -- where one is thought to sit elsewhere
  module _ (id : ℕ) (parent : Option ℕ) (may : MaySitAt h id parent) (later : Hierarchy)
      (new : SitsAt h later id parent) where
    own : Scheduler
    own = (scheduler_there (h.nodes id) may.here).0

    own_there : h.nodes id ≡ Some (Loaded own)
    unfolding own
    own_there = (scheduler_there (h.nodes id) may.here).1

    no_mark : (p : ℕ) → parent ≡ Some p → marked s id 10 p ≡ 0
    no_mark p e = unmarked s of.laid h of.nodes id p (may.acyclic p e)

    parent_there : (p : ℕ) → parent ≡ Some p → (sched : Scheduler) × (h.nodes p ≡ Some (Loaded sched))
    parent_there p e = scheduler_there (h.nodes p) (may.there p e)

    moved_read : (counted : Counted) (sums : List ℕ)
        → AreSums (record { counted = counted; moved = Some (record { key = id; parent = parent }) }) s order sums
        → length order ≤ length sums → (sum count : ℕ) → count ≡ length order
        → ((at : ℕ) → at < count → get_or sums at 0 ≤ sum)
        → (sum ≡ 0) ⊎ ((at : ℕ) × (at < count) × (get_or sums at 0 ≡ sum))
        → IsGreatestSum later (counts_in counted s) sum
    moved_read counted sums are long sum count all most some =
        moved_greatest s of.laid h of.nodes id own own_there parent no_mark parent_there later new counted order
        of.listed sums
        (are (rank s of.laid h of.nodes id own own_there parent no_mark parent_there later new)
        (moved_local s of.laid h of.nodes id own own_there parent no_mark parent_there later new counted order
        of.listed)
        (moved_low s of.laid h of.nodes id own own_there parent no_mark parent_there later new counted order
        of.listed))
        long sum count all most some

    pub moved_answer : (counted : Counted) (key : ℕ) (up : Option ℕ) (sums : List ℕ) → key ≡ id → up ≡ parent
        → AreSums (record { counted = counted; moved = Some (record { key = key; parent = up }) }) s order sums
        → length order ≤ 64 → length sums ≡ 64 → (sum count : ℕ) → count ≡ length order
        → ((at : ℕ) → at < count → get_or sums at 0 ≤ sum)
        → (sum ≡ 0) ⊎ ((at : ℕ) × (at < count) × (get_or sums at 0 ≡ sum))
        → IsGreatestSum later (counts_in counted s) sum
    moved_answer counted key up sums e f are few long sum count all most some =
        let at_up : AreSums (record { counted = counted; moved = Some (record { key = key; parent = parent }) })
        s order sums =
        subst (λ o. AreSums (record { counted = counted; moved = Some (record { key = key; parent = o }) })
        s order sums) f are in
        let at_key : AreSums (record { counted = counted; moved = Some (record { key = id; parent = parent }) })
        s order sums =
        subst (λ n. AreSums (record { counted = counted; moved = Some (record { key = n; parent = parent }) })
        s order sums) e at_up in
        moved_read counted sums at_key (omega (arith, few, long)) sum count all most some

    pub each_read : (sum level : ℕ) → level ≡ sum → IsGreatestSum later (counts_in counts.Each s) sum
        → IsGreatestSum later one_each level
    each_read sum level e g =
        subst (IsGreatestSum later one_each) (sym e)
        (greatest_same later (counts_in counts.Each s) one_each (λ k. refl) sum g)

    fair_later : (k : ℕ) → counts_in counts.FairQueues s k ≡ fair_each later k
    fair_later k =
        elim (cases_eq k id) [
          | inl e ↦ sym (fair k) ∙ ap fair_queue (ap (λ c. config_of (h.nodes c)) e
              ∙ sym (config_reseated new.seat (h.nodes id)) ∙ ap config_of (sym new.own)
              ∙ ap (λ c. config_of (later.nodes c)) (sym e))
          | inr ne ↦ sym (fair k) ∙ ap (λ n. fair_queue (config_of n)) (sym (new.others k ne))
        ]

    pub fair_read : (sum shares : ℕ) → shares ≡ sum → IsGreatestSum later (counts_in counts.FairQueues s) sum
        → IsGreatestSum later (fair_each later) shares
    fair_read sum shares e g =
        subst (IsGreatestSum later (fair_each later)) (sym e)
        (greatest_same later (counts_in counts.FairQueues s) (fair_each later) fair_later sum g)
