-- The hierarchy at a tick, once the commands up to it and in it were carried out.
use Rattle.std.specs.Prelude.{◌≡◌, ℕ, List, [], ◌∷◌, Option, Some, None, flat_map, filter, length, nat_le}
use Rattle.hls_report_text.specs.declared.report.Answered.{Answered}
use Rattle.hls_report_text.specs.Content.{Content}
use Rattle.hls_audit_clauses.specs.declared.member.Member.{Member}
use Rattle.hls_audit_clauses.specs.Names.{member_of, tree_at}
use Rattle.hls_view_tale.specs.declared.place.Place.{Place}
use Rattle.hls_view_tale.specs.declared.standing.Standing.{Standing}
use Rattle.hls_view_tale.specs.declared.hierarchy.Hierarchy.{Hierarchy}
use Rattle.hls_view_tale.specs.Places.{below}
use Rattle.hls_view_tale.specs.Standings.{standing}

-- how many commands came up to a tick and in it
abbrev pub came_by : (t : ℕ) → List Answered → ℕ
came_by t answered = length (filter (λ (a : Answered). nat_le a.tick t) answered)

-- who is there, in the order in which their stays began
abbrev pub standing_at : Content → (t : ℕ) → List Standing
standing_at c t = standing c.answered (came_by t c.answered)

abbrev pub listed : Option Member → List Member
listed None = []
listed (Some m) = m ∷ []

-- the members of a tree in the order of stays
abbrev pub in_order : List Member → List Standing → List Member
in_order tree all = flat_map (λ (s : Standing). listed (member_of tree s.name)) all

-- all places, each before those below it, and those on one scheduler in the order of stays; a way down has no more
-- steps than there are members
abbrev pub places_at : Content → (t : ℕ) → List Place
places_at c t =
    below (in_order (tree_at t c.answered) (standing_at c t)) (length (tree_at t c.answered)) None []

pub record IsHierarchy (c : Content) (t : ℕ) (h : Hierarchy) : Type 0 where
  pub standing : h.standing.items ≡ standing_at c t
  pub places : h.places.items ≡ places_at c t
