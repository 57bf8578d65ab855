-- The places of a hierarchy that is given.
use Rattle.std.proofs.Common.{◌≢◌, ℕ, List, sym, subst}
use Rattle.std.specs.Prelude.{None, ◌↔◌}
use Rattle.std.specs.List.{Contains, AllPairs}
use Rattle.hls_report_text.specs.Content.{Content}
use Rattle.hls_report_text.specs.WellFormed.{IsContent}
use Rattle.hls_audit_clauses.specs.Names.{tree_at}
use Rattle.hls_view_tale.specs.declared.place.Place.{Place}
use Rattle.hls_view_tale.specs.declared.hierarchy.Hierarchy.{Hierarchy}
use Rattle.hls_view_tale.specs.Places.{labels_of}
use Rattle.hls_view_tale.specs.Hierarchies.{IsHierarchy, places_at}
use Rattle.hls_view_place_laws.specs.Tales.{TellsUpTo}
use Rattle.hls_view_place_laws.specs.Ways.{IsWayDown}
use Rattle.hls_view_place_laws.proofs.Among.{contained, in-contained, all-differ}
use Rattle.hls_view_place_laws.proofs.Ticks.{place-down, down-place, places-once}

pub places-down : (c : Content) (t : ℕ) (h : Hierarchy) → IsContent c → TellsUpTo c t → IsHierarchy c t h
    → (place : Place) → Contains h.places.items place ↔ IsWayDown (tree_at t c.answered) None (labels_of place)
places-down c t h formed tells is place = (
  λ has. place-down c t formed tells place
      (in-contained place (places_at c t) (subst (λ (l : List Place). Contains l place) is.places has)),
  λ down. subst (λ (l : List Place). Contains l place) (sym is.places)
      (contained place (places_at c t) (down-place c t formed tells place down)),
)

pub places-apart : (c : Content) (t : ℕ) (h : Hierarchy) → IsContent c → TellsUpTo c t → IsHierarchy c t h
    → AllPairs (λ (a b : Place). a ≢ b) h.places.items
places-apart c t h formed tells is =
    subst (λ (l : List Place). AllPairs (λ (a b : Place). a ≢ b) l) (sym is.places)
    (all-differ (places_at c t) (places-once c t formed tells))
