-- Places that are still to be gone into.
use Rattle.std.specs.Prelude.{ℕ, zero, suc, List, [], ◌∷◌, Some, map, flat_map, reverse}
use Rattle.hls_audit_clauses.specs.declared.member.Member.{Member}
use Rattle.hls_view_tale.specs.declared.label.Label.{Label}
use Rattle.hls_view_tale.specs.declared.place.Place.{Place}
use Rattle.hls_view_tale.specs.declared.walking.Pending.{Pending}
use Rattle.hls_view_tale.specs.Places.{place_at, labels_of, labels_on, below}

abbrev pub pending_at : (above : List Label) → (left : ℕ) → Label → Pending
pending_at above left label = record { place = place_at above label; left = left }

-- a place, and all below it
abbrev pub gone_into : List Member → Pending → List Place
gone_into members p = p.place ∷ below members p.left (Some p.place.label.name) (labels_of p.place)

-- those that are directly below a place, in so many steps and no more
abbrev pub next_below : List Member → (left : ℕ) → Place → List Pending
next_below members zero place = []
next_below members (suc left) place =
    map (pending_at (labels_of place) left) (labels_on members (Some place.label.name))

-- those of a stack, from its top
abbrev pub gone_into_all : List Member → List Pending → List Place
gone_into_all members stack = flat_map (gone_into members) (reverse stack)
