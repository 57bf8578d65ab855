-- What is counted on paths of schedulers, in the hierarchies that nodes are of.
use Rattle.std.specs.Prelude.{◌≡◌, ◌≢◌, ℕ, ◌+◌, ◌≤◌, true, List, [], ◌∷◌, ◌++◌, Option, Some, None}
use Rattle.hls_machine.specs.Hierarchy.{Hierarchy, Seat, config_of}
use Rattle.hls_chron.specs.Kinds.{fair_queue}
use Rattle.hls_machine.specs.Legal.{IsChain, scheduler_at}
use Rattle.hls_machine.specs.Lists.{Lists}
use Rattle.hls_machine.specs.Readings.{IsUnder}
use Rattle.hls_machine.specs.Steps.{is_scheduler, reseated}
use Rattle.hls_tree_nodes.specs.Shown.{Shown, PostedIn, bare, bare_in}
use Rattle.hls_tree_nodes.specs.TreeOf.{IsLaid}

-- the nodes are those of the hierarchy, laid out as the walks know it, and the list has its schedulers
pub record AreNodesOf (s : ℕ → Option Shown) (order : List ℕ) (h : Hierarchy) : Type 0 where
  pub laid : IsLaid s
  pub nodes : (k : ℕ) → bare (h.nodes k) ≡ bare_in (s k)
  pub posted : (k : ℕ) → PostedIn (s k)
  pub schedulers : h.schedulers ≡ order
  pub listed : Lists order (λ k. is_scheduler (h.nodes k))

-- what the schedulers of a chain count together
abbrev pub sum_on : (count : ℕ → ℕ) → List ℕ → ℕ
sum_on count [] = 0
sum_on count (k ∷ chain) = count k + sum_on count chain

-- so much is counted on a path to a scheduler, itself included, and on no path to it more
pub record IsPathSum (h : Hierarchy) (count : ℕ → ℕ) (k sum : ℕ) : Type 0 where
  pub above : List ℕ
  pub chain : IsChain h None (above ++ k ∷ [])
  pub sum_is : sum_on count (above ++ k ∷ []) ≡ sum
  pub most : (other : List ℕ) → IsChain h None (other ++ k ∷ []) → sum_on count (other ++ k ∷ []) ≤ sum

-- so much is counted on a path, and on no path more
pub record IsGreatestSum (h : Hierarchy) (count : ℕ → ℕ) (sum : ℕ) : Type 0 where
  pub chain : List ℕ
  pub stands : IsChain h None chain
  pub sum_is : sum_on count chain ≡ sum
  pub greatest : (other : List ℕ) → IsChain h None other → sum_on count other ≤ sum

-- each counts, or fair queueing schedulers alone
abbrev pub one_each : (k : ℕ) → ℕ
one_each k = 1

abbrev pub fair_each : Hierarchy → (k : ℕ) → ℕ
fair_each h k = fair_queue (config_of (h.nodes k))

-- a scheduler may be thought to sit at a place that is not below it
pub record MaySitAt (h : Hierarchy) (k : ℕ) (parent : Option ℕ) : Type 0 where
  pub here : is_scheduler (h.nodes k) ≡ true
  pub there : (p : ℕ) → parent ≡ Some p → is_scheduler (h.nodes p) ≡ true
  pub acyclic : (p : ℕ) → parent ≡ Some p → ¬ IsUnder h k p

-- it sits there, and all others sit as before
pub record SitsAt (h later : Hierarchy) (k : ℕ) (parent : Option ℕ) : Type 0 where
  pub seat : Seat
  pub under : scheduler_at seat.place ≡ parent
  pub own : later.nodes k ≡ reseated seat (h.nodes k)
  pub others : (c : ℕ) → c ≢ k → later.nodes c ≡ h.nodes c
