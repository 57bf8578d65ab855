-- Places in a tree of names: the ways from the processor down to its members.
use Rattle.std.specs.Prelude.{ℕ, zero, suc, ◌+◌, List, [], ◌∷◌, ◌++◌, Option, Some, None, Bool, flat_map}
use Rattle.std.specs.Prelude.{if◌then◌else◌}
use Rattle.std.specs.Str.{bytes_eq}
use Rattle.hls_text.specs.Lines.{Text}
use Rattle.hls_scenario.specs.declared.scenario.Spot.{Spot}
use Rattle.hls_scenario.specs.declared.scenario.Perch.{Perch}
use Rattle.hls_legal.specs.Tells.{terms_in}
use Rattle.hls_legal.specs.Under.{is_on}
use Rattle.hls_audit_clauses.specs.declared.member.Member.{Member}
use Rattle.hls_audit_clauses.specs.Names.{is_cpu}
use Rattle.hls_view_tale.specs.declared.label.Label.{Label}
use Rattle.hls_view_tale.specs.declared.place.Place.{Place}

-- who sits at a seat, by which port, on which terms, and with which guarantee
abbrev pub label_of : Member → (port : ℕ) → Perch → Label
label_of m port perch = record {
  name = m.name;
  sort = m.sort;
  port = port;
  terms = terms_in perch.spot;
  kept = perch.want;
}

-- a seat is on the scheduler of a name, or at the processor
abbrev pub is_at : Option Text → Spot → Bool
is_at None spot = is_cpu spot
is_at (Some name) spot = is_on (bytes_eq name) spot

-- a seat that a member has there
abbrev pub label_if : Member → (above : Option Text) → (port : ℕ) → Perch → List Label
label_if m above port perch = if is_at above perch.spot then label_of m port perch ∷ [] else []

-- the seats that it has there, of those from a port on
abbrev pub labels_from : Member → (above : Option Text) → (port : ℕ) → List Perch → List Label
labels_from m above port [] = []
labels_from m above port (perch ∷ perches) =
    label_if m above port perch ++ labels_from m above (port + 1) perches

-- the labels of those who sit there, of these members in their order
abbrev pub labels_on : List Member → (above : Option Text) → List Label
labels_on members above = flat_map (λ (m : Member). labels_from m above 0 m.perches) members

abbrev pub place_at : (above : List Label) → Label → Place
place_at above label = record { above = above; label = label }

-- the labels of a place from the top, its own last
abbrev pub labels_of : Place → List Label
labels_of place = place.above ++ place.label ∷ []

-- the places below a name, or below the processor, in at most so many steps: each before those below it, and those
-- on one scheduler in the order of these members
unfoldable pub below : List Member → (steps : ℕ) → (top : Option Text) → (above : List Label) → List Place
below members zero top above = []
below members (suc steps) top above =
    flat_map (λ l. place_at above l ∷ below members steps (Some l.name) (above ++ l ∷ [])) (labels_on members top)
