-- What is there to be seen of a hierarchy.
use Rattle.std.proofs.Common.{◌≡◌, ◌≢◌, ℕ, List, [], ◌∷◌, Option, Some, None, true}
use Rattle.std.proofs.Common.{slice_get, refl, sym, ap, ◌∙◌}
use Rattle.std.specs.Prelude.{option_map}
use Rattle.std.specs.List.{AllByRecursion}
use Rattle.hls_scenario.specs.declared.scenario.Item.{Item}
use Rattle.hls_scenario.specs.Grammar.{AreItems, IsCommand}
use Rattle.hls_text.specs.Lines.{Text}
use Rattle.hls_chron.specs.declared.plain.Kind.{Kind}
use Rattle.hls_machine.specs.Hierarchy.{Hierarchy, Node, Loaded, Admitted, Seat, SeatHolder, seat_of, name_of}
use Rattle.hls_tree.specs.Lists.{is_on}
use Rattle.hls_tree.specs.Reads.{IsLoaded, IsSort, taken_on}
use Rattle.hls_tree.specs.declared.seat.Sort.TheVariants.{Sched}
use Rattle.hls_manager.proofs.Rederivals.{filter_passes}
use Rattle.hls_manager.proofs.Versions.{of_either}

all_commands : (version horizon last : ℕ) (items : List Item) → AreItems version horizon last items
    → AllByRecursion (λ item. IsCommand 2 item.command) items
all_commands version horizon last [] are = tt
all_commands version horizon last (item ∷ items) are =
    (of_either version item.command are.0, all_commands version horizon item.tick items are.3)

pub read_commands : (items all : List Item) (version horizon : ℕ) → items ≡ all → AreItems version horizon 0 all
    → AllByRecursion (λ item. IsCommand 2 item.command) items
read_commands items all version horizon same are = rw same (all_commands version horizon 0 all are)

none_on : (seat : Option Seat) (p : ℕ) → is_on (option_map (λ (s : Seat). s.place) seat) p ≡ true → seat ≢ None
none_on None p e none = cc
none_on (Some seat) p e none = cc

-- who holds a seat on a scheduler has it
pub holds : (h : Hierarchy) (p at node port : ℕ)
    → slice_get (taken_on h p) at ≡ Some (record { node = node; port = port }) → seat_of (h.nodes node) port ≢ None
holds h p at node port e =
    none_on (seat_of (h.nodes node) port) p
    (filter_passes (λ (s : SeatHolder).
    is_on (option_map (λ (seat : Seat). seat.place) (seat_of (h.nodes s.node) s.port)) p)
    h.seats at (record { node = node; port = port }) e)

-- and is there
pub sits : (h : Hierarchy) (node port : ℕ) → seat_of (h.nodes node) port ≢ None → h.nodes node ≢ None
sits h node port has none = has (ap (λ (n : Option Node). seat_of n port) none)

pub loaded : (node : Option Node) (kind : Kind) → IsSort node (Sched kind) → IsLoaded node
loaded None kind is = absurd is
loaded (Some (Loaded s)) kind is = record { scheduler = s; there = refl }
loaded (Some (Admitted t)) kind is = absurd is

pub named : (there : Option Node) (name : Text) → name_of there ≡ Some name → there ≢ None
named there name has gone = (let lost = sym has ∙ ap name_of gone in cc)
