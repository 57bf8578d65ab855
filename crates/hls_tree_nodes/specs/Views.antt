-- How nodes as they are stored are seen.
use Rattle.std.specs.Prelude.{◌≡◌, ℕ, Option, Some, None, map, Bool, true, false, ◌==◌, ◌&&◌}
use Rattle.std.specs.declared.dyn_box.DynBox.{DynBox}
use Rattle.std.specs.declared.alloc.Global.{Global}
use Rattle.slab.specs.Slab.{Slab, get}
use Rattle.hls_sched.specs.Seen.{Seen}
use Rattle.hls_machine.specs.Hierarchy.{Processor, At}
use Rattle.hls_machine.specs.Hierarchy as legal
use Rattle.hls_tree_nodes.specs.Shown.{Post, What, Scheduler, Thread, Shown}
use Rattle.hls_tree_nodes.specs.Behind.{late}
use Rattle.hls_tree_nodes.specs.declared.node.Place.{Place}
use Rattle.hls_tree_nodes.specs.declared.node.Place.TheVariants as places
use Rattle.hls_tree_nodes.specs.declared.node.TakenSeat.{TakenSeat}
use Rattle.hls_tree_nodes.specs.declared.node.Node.{Node}
use Rattle.hls_tree_nodes.specs.declared.node.Body.{Body}
use Rattle.hls_tree_nodes.specs.declared.node.Body.TheVariants as bodies
use Rattle.hls_tree_nodes.specs.declared.node.Role.{Role}
use Rattle.hls_tree_nodes.specs.declared.node.Role.TheVariants as roles
use Rattle.hls_tree_nodes.specs.declared.station.Station.{Station}
use Rattle.hls_tree_nodes.specs.declared.nodes.Nodes.{Nodes}

abbrev pub place_view : Place → legal.Place
place_view places.Processor = Processor
place_view (places.At scheduler slot) = At scheduler slot

abbrev pub seat_view : TakenSeat → legal.Seat
seat_view s = record { place = place_view s.place; terms = s.terms; kept = s.kept }

abbrev pub place_of : TakenSeat → legal.Place
place_of s = place_view s.place

-- the scheduler and the slot of a place that is not the processor
abbrev pub told_place : Option legal.Place → Option (ℕ × ℕ)
told_place None = None
told_place (Some Processor) = None
told_place (Some (At p slot)) = Some (p, slot)

-- two places are the same
abbrev pub same_place : legal.Place → legal.Place → Bool
same_place Processor Processor = true
same_place (At p slot) (At q other) = p == q && slot == other
same_place _ _ = false

-- where a port sits, if anywhere, is this place
abbrev pub is_place : Option legal.Place → legal.Place → Bool
is_place None place = false
is_place (Some here) place = same_place here place

-- V and P are what the checker knows a box by
module _ {V : Type 0} {P : V → Type 0} where
  abbrev pub post_of : (DynBox V Global P → Seen) → Station V P → Post
  post_of show s = record {
    unit = show s.unit;
    config = s.config;
    mask = s.mask;
    granted = s.granted;
    lag = s.lag;
  }

  abbrev pub what_of : (DynBox V Global P → Seen) → Role V P → What
  what_of show (roles.Sched station) = Scheduler (post_of show station)
  what_of show (roles.Thread ready) = Thread ready

  abbrev pub shown : (DynBox V Global P → Seen) → Node V P → Shown
  shown show n = record {
    name = n.name;
    level = n.level;
    seats = map seat_view n.seats.items;
    what = what_of show n.role;
  }

  abbrev pub shown_opt : (DynBox V Global P → Seen) → Option (Node V P) → Option Shown
  shown_opt show None = None
  shown_opt show (Some n) = Some (shown show n)

  -- what is stored of the node of a number, if there is one
  abbrev pub stored_at : (DynBox V Global P → Seen) → Slab (Node V P) → ℕ → Option Shown
  stored_at show slab key = shown_opt show (get slab key)

  -- what is shown of it: boxes that are behind are shown as they would be if they were not
  abbrev pub shown_at : (DynBox V Global P → Seen) → Nodes V P → ℕ → Option Shown
  shown_at show nodes key = late nodes.behind nodes.tick (stored_at show nodes.slab key)

  -- the choice of a scheduler
  abbrev pub choice_body : (DynBox V Global P → Option ℕ) → Role V P → Option ℕ
  choice_body choice (roles.Sched station) = choice station.unit
  choice_body choice (roles.Thread ready) = None

  abbrev pub choice_opt : (DynBox V Global P → Option ℕ) → Option (Node V P) → Option ℕ
  choice_opt choice None = None
  choice_opt choice (Some n) = choice_body choice n.role

  abbrev pub choice_at : (DynBox V Global P → Option ℕ) → Nodes V P → ℕ → Option ℕ
  choice_at choice nodes key = choice_opt choice (get nodes.slab key)

  -- a body that was taken out, by what was shown of the node
  abbrev pub IsBody : (DynBox V Global P → Seen) → Body V P → What → Type 0
  IsBody show (bodies.Sched unit) (Scheduler post) = show unit ≡ post.unit
  IsBody show bodies.Thread (Thread ready) = Unit {0}
  IsBody show _ _ = ⊥
