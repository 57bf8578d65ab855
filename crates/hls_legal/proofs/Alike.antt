-- What a step leaves of a node: its name, its sort, its seats and its wake.
use Rattle.std.proofs.Common.{◌≡◌, ◌≢◌, ℕ, ◌++◌, ◌==◌, List, Bool, true, false, if◌then◌else◌, refl}
use Rattle.std.proofs.Common.{ap, ◌∙◌}
use Rattle.std.specs.Prelude.{Option, Some, None}
use Rattle.hls_chron.specs.declared.book.Event.{Event}
use Rattle.hls_machine.specs.Hierarchy.{Hierarchy, Node, Loaded, Admitted, Seat, Wake, Asleep, name_of}
use Rattle.hls_machine.specs.Hierarchy.{seats_of}
use Rattle.hls_machine.specs.Steps.{Hop, marked, renewed, reseated, roused, ticked, is_thread, seatings}
use Rattle.hls_machine.specs.Steps.{leavings}
use Rattle.hls_machine.specs.Steps.{nodes_after}
use Rattle.hls_machine.proofs.Kept.{at_same, at_other}

abbrev pub wake_of : Option Node → Wake
wake_of None = Asleep
wake_of (Some (Loaded s)) = Asleep
wake_of (Some (Admitted t)) = t.wake

pub record IsAlike (new old : Option Node) : Type 0 where
  pub name : name_of new ≡ name_of old
  pub sort : is_thread new ≡ is_thread old
  pub seats : seats_of new ≡ seats_of old
  pub wake : wake_of new ≡ wake_of old

alike_self : (node : Option Node) → IsAlike node node
alike_self any = record { name = refl; sort = refl; seats = refl; wake = refl }

pub alike_then : (a b c : Option Node) → IsAlike a b → IsAlike b c → IsAlike a c
alike_then a b c f g = record {
  name = f.name ∙ g.name;
  sort = f.sort ∙ g.sort;
  seats = f.seats ∙ g.seats;
  wake = f.wake ∙ g.wake;
}

pub alike_eq : (a b : Option Node) → a ≡ b → IsAlike a b
alike_eq a b e = record {
  name = ap name_of e;
  sort = ap is_thread e;
  seats = ap seats_of e;
  wake = ap wake_of e;
}

alike-renewed : (b : Bool) (now : ℕ) (node : Option Node) → IsAlike (renewed b now node) node
alike-renewed false now any = alike_self any
alike-renewed true now None = alike_self None
alike-renewed true now (Some (Loaded s)) = record { name = refl; sort = refl; seats = refl; wake = refl }
alike-renewed true now (Some (Admitted t)) = record { name = refl; sort = refl; seats = refl; wake = refl }

alike-marked : (es : List Event) (node : Option Node) → IsAlike (marked es node) node
alike-marked es None = alike_self None
alike-marked es (Some (Loaded s)) = record { name = refl; sort = refl; seats = refl; wake = refl }
alike-marked es (Some (Admitted t)) = record { name = refl; sort = refl; seats = refl; wake = refl }

pub alike-ticked : (mask : ℕ) (hop : Option Hop) (node : Option Node) → IsAlike (ticked mask hop node) node
alike-ticked mask hop None = alike_self None
alike-ticked mask hop (Some (Loaded s)) = record { name = refl; sort = refl; seats = refl; wake = refl }
alike-ticked mask hop (Some (Admitted t)) = record { name = refl; sort = refl; seats = refl; wake = refl }

-- all but the wake
pub record IsAlmost (new old : Option Node) : Type 0 where
  pub name : name_of new ≡ name_of old
  pub sort : is_thread new ≡ is_thread old
  pub seats : seats_of new ≡ seats_of old

pub almost-roused : (how : Wake) (node : Option Node) → IsAlmost (roused how node) node
almost-roused how None = record { name = refl; sort = refl; seats = refl }
almost-roused how (Some (Loaded s)) = record { name = refl; sort = refl; seats = refl }
almost-roused how (Some (Admitted t)) = record { name = refl; sort = refl; seats = refl }

pub wake-roused : (how : Wake) (node : Option Node) → is_thread node ≡ true → wake_of (roused how node) ≡ how
wake-roused how None is = absurd (cc)
wake-roused how (Some (Loaded s)) is = absurd (cc)
wake-roused how (Some (Admitted t)) is = refl

-- all but the seats
pub record IsMoved (new old : Option Node) : Type 0 where
  pub name : name_of new ≡ name_of old
  pub sort : is_thread new ≡ is_thread old
  pub wake : wake_of new ≡ wake_of old

pub moved-reseated : (seat : Seat) (node : Option Node) → IsMoved (reseated seat node) node
moved-reseated seat None = record { name = refl; sort = refl; wake = refl }
moved-reseated seat (Some (Loaded s)) = record { name = refl; sort = refl; wake = refl }
moved-reseated seat (Some (Admitted t)) = record { name = refl; sort = refl; wake = refl }

-- a node that a command is not on, and the one that it is on
module _ (h : Hierarchy) (k : ℕ) (node : Option Node) (below : ℕ → Bool) where
  abbrev events : ℕ → List Event
  events c = leavings (seats_of (h.nodes k)) c ++ seatings (seats_of node) c

  pub alike_other : (c : ℕ) → c ≢ k → IsAlike (nodes_after h k node below c) (h.nodes c)
  alike_other c ne =
      alike_then (nodes_after h k node below c) (marked (events c) (h.nodes c)) (h.nodes c)
      (alike_then (nodes_after h k node below c) (if c == k then node else marked (events c) (h.nodes c))
      (marked (events c) (h.nodes c))
      (alike-renewed (below c) h.now (if c == k then node else marked (events c) (h.nodes c)))
      (alike_eq (if c == k then node else marked (events c) (h.nodes c)) (marked (events c) (h.nodes c))
      (at_other c k node (marked (events c) (h.nodes c)) ne)))
      (alike-marked (events c) (h.nodes c))

  pub alike_same : (c : ℕ) → c ≡ k → IsAlike (nodes_after h k node below c) node
  alike_same c e =
      alike_then (nodes_after h k node below c) (if c == k then node else marked (events c) (h.nodes c)) node
      (alike-renewed (below c) h.now (if c == k then node else marked (events c) (h.nodes c)))
      (alike_eq (if c == k then node else marked (events c) (h.nodes c)) node
      (at_same c k node (marked (events c) (h.nodes c)) e))
