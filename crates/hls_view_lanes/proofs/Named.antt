-- Whoever has a place has a stay.
use Rattle.std.proofs.Common.{◌≡◌, ℕ, zero, suc, ◌+◌, List, [], ◌∷◌, ◌++◌, Bool, true, false, ◌||◌, refl, ap, sym, ◌∙◌}
use Rattle.std.proofs.Common.{cond, length, if◌then◌else◌}
use Rattle.std.specs.Prelude.{Option, Some, None, find}
use Rattle.std.specs.List.{list_any, AllByRecursion}
use Rattle.std.specs.Str.{bytes_eq}
use Rattle.hls_text.specs.Lines.{Text}
use Rattle.hls_report_text.specs.Content.{Content}
use Rattle.hls_audit_clauses.specs.declared.member.Member.{Member}
use Rattle.hls_audit_clauses.specs.Names.{has_name, member_of, tree_at}
use Rattle.hls_view_tale.specs.declared.label.Label.{Label}
use Rattle.hls_view_tale.specs.declared.place.Place.{Place}
use Rattle.hls_view_tale.specs.declared.standing.Standing.{Standing}
use Rattle.hls_view_tale.specs.Places.{is_at, label_of, label_if, labels_from, labels_on, place_at, below}
use Rattle.hls_view_tale.specs.Hierarchies.{listed, in_order, places_at, standing_at}
use Rattle.hls_view_lanes.proofs.Alls.{all-weaker, all-joined, all-flat}

abbrev pub stands : List Standing → (name : Text) → Bool
stands standing name = list_any (λ (s : Standing). bytes_eq name s.name) standing

-- ---- members

passes-if : (test : Member → Bool) (b : Bool) (first m : Member) (rest : Option Member) → test first ≡ b
    → (rest ≡ Some m → test m ≡ true) → cond b (Some first) rest ≡ Some m → test m ≡ true
passes-if test true first m rest is more e = let same : first ≡ m = cc in ap test (sym same) ∙ is
passes-if test false first m rest is more e = more e

find-passes : (test : Member → Bool) (tree : List Member) (m : Member) → find test tree ≡ Some m → test m ≡ true
find-passes test [] m e = absurd (cc)
find-passes test (first ∷ tree) m e =
    passes-if test (test first) first m (find test tree) refl (λ f. find-passes test tree m f) e

all-listed : (R : Text → Type 0) (found : Option Member) → ((m : Member) → found ≡ Some m → R m.name)
    → AllByRecursion (λ (m : Member). R m.name) (listed found)
all-listed R None each = tt
all-listed R (Some m) each = (each m refl, tt)

or-later : (a b : Bool) → b ≡ true → (a || b) ≡ true
or-later true b e = refl
or-later false b e = e

-- each name alike a standing one stands
each-stands : (all : List Standing) → AllByRecursion (λ (s : Standing). (name : Text) → bytes_eq name s.name ≡ true
    → stands all name ≡ true) all
each-stands [] = tt
each-stands (s ∷ all) = (
  λ name e. ap (λ b. b || stands all name) e,
  all-weaker (λ (z : Standing). (name : Text) → bytes_eq name z.name ≡ true → stands all name ≡ true)
      (λ (z : Standing). (name : Text) → bytes_eq name z.name ≡ true → stands (s ∷ all) name ≡ true) all
      (λ z f name e. or-later (bytes_eq name s.name) (stands all name) (f name e)) (each-stands all),
)

members-stand : (tree : List Member) (all : List Standing)
    → AllByRecursion (λ (m : Member). stands all m.name ≡ true) (in_order tree all)
members-stand tree all =
    all-flat (λ (s : Standing). listed (member_of tree s.name)) (λ (m : Member). stands all m.name ≡ true) all
    (all-weaker (λ (s : Standing). (name : Text) → bytes_eq name s.name ≡ true → stands all name ≡ true)
    (λ (s : Standing). AllByRecursion (λ (m : Member). stands all m.name ≡ true) (listed (member_of tree s.name))) all
    (λ s f. all-listed (λ name. stands all name ≡ true) (member_of tree s.name)
    (λ m found. f m.name (find-passes (has_name s.name) tree m found))) (each-stands all))

-- ---- labels, and places

if-named : (R : Text → Type 0) (b : Bool) (l : Label) → R l.name
    → AllByRecursion (λ (l : Label). R l.name) (if b then l ∷ [] else [])
if-named R true l r = (r, tt)
if-named R false l r = tt

from-named : (R : Text → Type 0) (m : Member) (above : Option Text) (port : ℕ) (perches : List _) → R m.name
    → AllByRecursion (λ (l : Label). R l.name) (labels_from m above port perches)
from-named R m above port [] r = tt
from-named R m above port (perch ∷ perches) r =
    all-joined (λ (l : Label). R l.name) (label_if m above port perch) (labels_from m above (port + 1) perches)
    (if-named R (is_at above perch.spot) (label_of m port perch) r) (from-named R m above (port + 1) perches r)

on-named : (R : Text → Type 0) (members : List Member) (above : Option Text)
    → AllByRecursion (λ (m : Member). R m.name) members
    → AllByRecursion (λ (l : Label). R l.name) (labels_on members above)
on-named R members above all =
    all-flat (λ (m : Member). labels_from m above 0 m.perches) (λ (l : Label). R l.name) members
    (all-weaker (λ (m : Member). R m.name)
    (λ (m : Member). AllByRecursion (λ (l : Label). R l.name) (labels_from m above 0 m.perches)) members
    (λ m r. from-named R m above 0 m.perches r) all)

below-named : (R : Text → Type 0) (members : List Member) (steps : ℕ) (top : Option Text) (above : List Label)
    → AllByRecursion (λ (m : Member). R m.name) members
    → AllByRecursion (λ (p : Place). R p.label.name) (below members steps top above)
unfolding below
below-named R members zero top above all = tt
below-named R members (suc steps) top above all =
    all-flat (λ l. place_at above l ∷ below members steps (Some l.name) (above ++ l ∷ []))
    (λ (p : Place). R p.label.name) (labels_on members top)
    (all-weaker (λ (l : Label). R l.name)
    (λ (l : Label). AllByRecursion (λ (p : Place). R p.label.name)
    (place_at above l ∷ below members steps (Some l.name) (above ++ l ∷ []))) (labels_on members top)
    (λ l r. (r, below-named R members steps (Some l.name) (above ++ l ∷ []) all)) (on-named R members top all))

pub places-stand : (c : Content) (t : ℕ)
    → AllByRecursion (λ (p : Place). stands (standing_at c t) p.label.name ≡ true) (places_at c t)
places-stand c t =
    below-named (λ name. stands (standing_at c t) name ≡ true)
    (in_order (tree_at t c.answered) (standing_at c t)) (length (tree_at t c.answered)) None []
    (members-stand (tree_at t c.answered) (standing_at c t))
