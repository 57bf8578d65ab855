-- What the tree is asked of a place, and what it tells.
use Rattle.std.proofs.Common.{◌≡◌, ℕ, ◌≤◌, Option, Some, None, refl, arith, subst}
use Rattle.hls_chron.specs.declared.plain.Kind.{Kind}
use Rattle.hls_scenario.specs.declared.scenario.Spot.{Spot}
use Rattle.hls_scenario.specs.declared.scenario.Spot.TheVariants.{Cpu, Under}
use Rattle.hls_machine.specs.Hierarchy.{Hierarchy, Node, Loaded, Admitted}
use Rattle.hls_machine.specs.Hierarchy.{Seat as TakenSeat}
use Rattle.hls_machine.specs.Legal.{scheduler_at}
use Rattle.hls_machine.specs.Readings.{IsUnder}
use Rattle.hls_tree.specs.Offers.{MovesTo, IsNoCycle, moved_to}
use Rattle.hls_tree.specs.Reads.{IsParent, IsSort, IsGreatestLevel, AreMostShares, MayAskAbout}
use Rattle.hls_tree.specs.declared.seat.Sort.TheVariants as sorts
use Rattle.hls_manager.specs.Rederived.{IsLone}
use Rattle.hls_manager.specs.Inside.Shifts.{IsAtSpot, LevelsWithin, SharesWithin}

pub none_below : (h : Hierarchy) (k place : ℕ) (parent : Option ℕ) → parent ≡ Some place → ¬ IsUnder h k place
    → IsNoCycle h k parent
none_below h k place parent e free p f under =
    (let same : p ≡ place = cc in free (subst (λ (n : ℕ). IsUnder h k n) same under))

pub at_parent : (h : Hierarchy) (parent : Option ℕ) (spot : Spot) → IsAtSpot h parent spot → IsParent h parent
at_parent h None spot is = tt
at_parent h (Some p) (Under sched terms) is = is.1
at_parent h (Some p) Cpu is = absurd is

pub lone_by : (node : Option Node) (kind : Kind) (parent : Option ℕ) → IsSort node (sorts.Sched kind)
    → MovesTo parent node → IsLone node
lone_by None kind parent is may = absurd is
lone_by (Some (Admitted t)) kind parent is may = absurd is
lone_by (Some (Loaded s)) kind parent is may = record { scheduler = s; there = refl; lone = may }

pub ask_about : (h : Hierarchy) (k : ℕ) (kind : Kind) (parent : Option ℕ) (spot : Spot)
    → IsSort (h.nodes k) (sorts.Sched kind) → MovesTo parent (h.nodes k) → IsAtSpot h parent spot
    → IsNoCycle h k parent → MayAskAbout h k parent
ask_about h k kind parent spot is may at acyclic =
    let lone = lone_by (h.nodes k) kind parent is may in
    record {
      scheduler = lone.scheduler;
      there = lone.there;
      lone = lone.lone;
      there_is = at_parent h parent spot at;
      acyclic = acyclic;
    }

pub levels_low : (h : Hierarchy) (k : ℕ) (parent : Option ℕ) (level : ℕ) → level ≤ 8
    → ((seat : TakenSeat) → scheduler_at seat.place ≡ parent → IsGreatestLevel (moved_to h k seat) level)
    → LevelsWithin h k parent 8
levels_low h k parent level low greatest seat chain at on =
    (let le = (greatest seat at).greatest chain on in omega (arith, le, low))

pub shares_few : (h : Hierarchy) (k : ℕ) (parent : Option ℕ) (shares : ℕ) → shares ≤ 4
    → ((seat : TakenSeat) → scheduler_at seat.place ≡ parent → AreMostShares (moved_to h k seat) shares)
    → SharesWithin h k parent 4
shares_few h k parent shares few most seat chain at on =
    (let le = (most seat at).most chain on in omega (arith, le, few))
