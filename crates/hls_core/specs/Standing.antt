-- A tree and bursts, and the hierarchies that they are of.
use Rattle.hls_sched.specs.Seen.{Seen}
use Rattle.hls_machine.specs.Hierarchy.{Hierarchy}
use Rattle.hls_tree.specs.Trees.{IsTreeOf, IsReadyOf}
use Rattle.hls_tree.specs.declared.tree.Tree.{Tree}
use Rattle.hls_machine.specs.Legal.{IsReached}
use Rattle.hls_core.specs.Left.{IsLeft}
use Rattle.hls_core.specs.Bursts.{begun_in}
use Rattle.hls_core.specs.declared.bursts.Bursts.{Bursts}

-- V and P are what the checker knows a box by
module _ {V : Type 0} {P : V → Type 0} where
  -- they are of a hierarchy where a legal run leads
  pub record IsAt (seen : (x : V) × P x → Seen) (t : Tree V P) (bursts : Bursts) (h : Hierarchy) : Type 0 where
    pub tree : IsTreeOf seen t h
    pub ready : IsReadyOf seen t h
    pub left : IsLeft (begun_in bursts) h
    pub reached : IsReached h
