-- The moment at which a core stands between its commands.
use Rattle.std.specs.Prelude.{◌≡◌, Option}
use Rattle.std.specs.Fn.{Mut}
use Rattle.hls_guarantee.specs.declared.Guarantee.{Guarantee}
use Rattle.hls_sched.specs.Seen.{Seen}
use Rattle.hls_machine.specs.Legal.{IsReached}
use Rattle.hls_legal.specs.Moment.{Moment}
use Rattle.hls_tree.specs.Trees.{IsTreeOf}
use Rattle.hls_manager.specs.Outcomes.{boxes_in}
use Rattle.hls_core.specs.declared.cores.Core.{Core}

-- V and P are what the checker knows a box by, and W, Q and X a rule
module _ {V W : Type 0} {P : V → Type 0} {Q : W → Type 0}
    {X : Mut ((x : W) × Q x) (Guarantee × (Guarantee × Unit {0})) (Option Guarantee)} where
  -- a hierarchy that the tree is of and a legal run leads to, the boxes of the kit, and the depth in force
  pub record IsMomentOf (seen : (x : V) × P x → Seen) (c : Core V W P Q X) (m : Moment) : Type 0 where
    pub tree : IsTreeOf seen c.tree m.hierarchy
    pub reached : IsReached m.hierarchy
    pub boxes : m.boxes ≡ boxes_in c.kit
    pub depth : m.depth ≡ c.depth
