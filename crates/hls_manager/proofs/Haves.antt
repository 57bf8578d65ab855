-- What the ports of a scheduler are guaranteed, read port by port.
use Rattle.std.proofs.Common.{◌≡◌, ◌≢◌, inl, inr, ℕ, ◌<◌, ◌≤◌, ◌+◌, ◌++◌, [], ◌∷◌, Option, Some, None, sym, ap}
use Rattle.std.proofs.Common.{◌∙◌, subst}
use Rattle.std.proofs.Common.{length, take, option_map, arith}
use Rattle.std.proofs.lemmas.List.{take_more, take_all, length-map}
use Rattle.std.proofs.lemmas.Option.{slice_get-map, slice_get_within, slice_get_cases, get_or_from_slice_get}
use Rattle.hls_chron.specs.Kinds.{port_count}
use Rattle.hls_guarantee.specs.declared.Guarantee.{Guarantee}
use Rattle.hls_machine.specs.Hierarchy.{Node, Loaded, Admitted, Seat, seat_of, seats_of, config_of, haves_of}
use Rattle.hls_tree.specs.Reads.{IsLoaded}
use Rattle.hls_tree.specs.Trees.{IsPorted}

-- a scheduler has a seat for each of its ports
ports_are : (node : Option Node) → IsLoaded node → IsPorted node
    → length (seats_of node) ≡ port_count (config_of node)
ports_are node is ported =
    subst (λ (n : Option Node). length (seats_of n) ≡ port_count (config_of n)) (sym is.there)
    (subst (λ (n : Option Node). IsPorted n) is.there ported)

pub has_port : (node : Option Node) → IsLoaded node → IsPorted node → (port : ℕ) → port < port_count (config_of node)
    → seat_of node port ≢ None
has_port node is ported port within none =
    let ports = ports_are node is ported in
    let cases = (slice_get_cases (seats_of node) port).1 in
    elim cases [
      | inl c ↦ absurd (let here = c.2 in cc)
      | inr c ↦ absurd (let few = c.0 in omega (arith, few, ports, within))
    ]

-- no node has more guarantees than ports
few_haves : (node : Option Node) → IsPorted node → length (haves_of node) ≤ port_count (config_of node)
few_haves None ported = omega arith
few_haves (Some (Loaded s)) ported =
    (let kept = length-map s.ports (λ (seat : Seat). seat.kept) in omega (arith, kept, ported))
few_haves (Some (Admitted t)) ported = omega arith

-- all are read
pub all_read : (node : Option Node) → IsPorted node → (port : ℕ) → port_count (config_of node) ≤ port
    → take port (haves_of node) ≡ haves_of node
all_read node ported port end =
    let few = few_haves node ported in take_all port (haves_of node) (omega (arith, few, end))

-- one more is read
pub one_more : (node : Option Node) (port : ℕ) (kept : Guarantee)
    → option_map (λ (seat : Seat). seat.kept) (seat_of node port) ≡ Some kept
    → take (port + 1) (haves_of node) ≡ take port (haves_of node) ++ kept ∷ []
one_more node port kept e =
    let at = slice_get-map (λ (seat : Seat). seat.kept) (seats_of node) port ∙ e in
    take_more (haves_of node) port kept (slice_get_within (haves_of node) port kept at)
    ∙ ap (λ (g : Guarantee). take port (haves_of node) ++ g ∷ [])
    (get_or_from_slice_get (haves_of node) port kept kept at)
