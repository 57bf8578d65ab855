-- A path of names leads down in the tree of names exactly where nodes of the hierarchy lead down.
use Rattle.std.proofs.Common.{◌≡◌, ℕ, List, [], ◌∷◌, Bool, true, false, map, refl, sym, ap, ◌∙◌}
use Rattle.std.specs.Prelude.{◌↔◌, Option, Some, None}
use Rattle.std.specs.Str.{bytes_eq}
use Rattle.std.proofs.lemmas.Bool.{and_from, and_parts}
use Rattle.std.proofs.lemmas.Slice.Eq.{bytes_eq-Decides}
use Rattle.hls_text.specs.Lines.{Text}
use Rattle.hls_scenario.specs.declared.scenario.Spot.{Spot}
use Rattle.hls_report_text.specs.Content.{Content}
use Rattle.hls_machine.specs.Hierarchy.{Hierarchy, Node, Loaded, Admitted, Place, Processor, At, name_of, seats_of}
use Rattle.hls_machine.specs.Hierarchy.{start}
use Rattle.hls_machine.specs.Steps.{Step, state}
use Rattle.hls_machine.specs.Legal.{scheduler_at, IsThread, IsLegal}
use Rattle.hls_legal.specs.Under.{is_on}
use Rattle.hls_legal.specs.Tells.{HasName, IsSpot, Tells}
use Rattle.hls_legal.proofs.Told.{Unique}
use Rattle.hls_legal.proofs.Reached.{IsReached, listed as lists_of}
use Rattle.hls_audit_clauses.specs.declared.member.Member.{Member}
use Rattle.hls_audit_clauses.specs.Names.{tree_of, member_of, sort_of, is_thread, is_thread_sort, sits_on, sits_at_cpu}
use Rattle.hls_audit_clauses.specs.Names.{is_cpu}
use Rattle.hls_audit_clauses.specs.Ways.{passes, leads_on, leads_down}
use Rattle.hls_audit_clauses.specs.Descents.{SitsBeneath, IsDescent, HasDescent}
use Rattle.hls_audit_clauses.proofs.Trees.{sort_at, IsMember, IsTreeOf, member_found, node_found}
use Rattle.hls_audit_clauses.proofs.TreeRuns.{end_tree}
use Rattle.hls_audit_clauses.proofs.Perches.{IsSuchSeat, seat_found, seat_passes, at_cpu, cpu_spot, slot_spot, IsOnSuch}
use Rattle.hls_audit_clauses.proofs.Perches.{on_such}

thread_of_sort : (node : Option Node) → is_thread_sort (sort_at node) ≡ true → IsThread node
thread_of_sort None e = absurd (cc)
thread_of_sort (Some (Loaded s)) e = absurd (cc)
thread_of_sort (Some (Admitted t)) e = record { thread = t; there = refl }

processor_alone : (place : Place) → scheduler_at place ≡ None → place ≡ Processor
processor_alone Processor e = refl
processor_alone (At p slot) e = absurd (cc)

-- a test says that a member sits under a scheduler, or at the processor
abbrev SaysUnder : Hierarchy → (parent : Option ℕ) → (Member → Bool) → Type 0
SaysUnder h parent test = (k : ℕ) (m : Member) → IsMember h k m → (test m ≡ true) ↔ SitsBeneath h parent k

says_cpu : (h : Hierarchy) → SaysUnder h None sits_at_cpu
says_cpu h k m is = (
  λ on.
      let s : IsSuchSeat h is_cpu (seats_of (h.nodes k)) =
      seat_found h is_cpu (seats_of (h.nodes k)) m.perches is.perches on in
      record {
        port = s.port;
        seat = s.seat;
        sits = s.sits;
        under = ap scheduler_at (at_cpu h s.seat.place s.spot s.place s.passes);
      },
  λ s.
      seat_passes h is_cpu (seats_of (h.nodes k)) m.perches s.port s.seat is.perches s.sits
      (λ spot at. cpu_spot h s.seat.place spot (processor_alone s.seat.place s.under) at),
)

under_spot : (h : Hierarchy) (p : ℕ) (name : Text) (place : Place) (spot : Spot) → HasName h p name
    → scheduler_at place ≡ Some p → IsSpot h place spot → is_on (bytes_eq name) spot ≡ true
under_spot h p name Processor spot has e at = absurd (cc)
under_spot h p name (At q slot) spot has e at =
    let same : q ≡ p = cc in
    slot_spot h q slot name (At q slot) spot (ap (λ x. name_of (h.nodes x)) same ∙ has) refl at

says_on : (h : Hierarchy) → Unique h.nodes → (p : ℕ) (name : Text) → HasName h p name
    → SaysUnder h (Some p) (sits_on name)
says_on h unique p name has k m is = (
  λ on.
      let s : IsSuchSeat h (is_on (bytes_eq name)) (seats_of (h.nodes k)) =
      seat_found h (is_on (bytes_eq name)) (seats_of (h.nodes k)) m.perches is.perches on in
      let at : IsOnSuch h (bytes_eq name) s.seat.place =
      on_such h (bytes_eq name) s.seat.place s.spot s.place s.passes in
      let same : name ≡ at.sched = (bytes_eq-Decides name at.sched).0 at.passes in
      let it : at.p ≡ p = unique at.p p name (at.named ∙ ap (λ (n : Text). Some n) (sym same)) has in
      record {
        port = s.port;
        seat = s.seat;
        sits = s.sits;
        under = ap scheduler_at at.at_place ∙ ap (λ (x : ℕ). Some x) it;
      },
  λ s.
      seat_passes h (is_on (bytes_eq name)) (seats_of (h.nodes k)) m.perches s.port s.seat is.perches s.sits
      (λ spot at. under_spot h p name s.seat.place spot has s.under at),
)

module _ (h : Hierarchy) (tree : List Member) (unique : Unique h.nodes) (t : IsTreeOf tree h) where
  abbrev name_in : ℕ → Option Text
  name_in k = name_of (h.nodes k)

  -- the node of a name that passes a test
  record IsPassed (test : Member → Bool) (name : Text) : Type 0 where
    pub k : ℕ
    pub m : Member
    pub found : member_of tree name ≡ Some m
    pub has : HasName h k name
    pub is : IsMember h k m
    pub on : test m ≡ true

  passed : (test : Member → Bool) (name : Text) (o : Option Member) → member_of tree name ≡ o
      → passes test (member_of tree name) ≡ true → IsPassed test name
  passed test name None e on =
      absurd (let wrong : false ≡ true = sym (ap (passes test) e) ∙ on in cc)
  passed test name (Some m) e on =
      let n = node_found h tree t name m e in
      record { k = n.k; m = m; found = e; has = n.has; is = n.is; on = sym (ap (passes test) e) ∙ on }

  push : (parent : Option ℕ) (k : ℕ) (ks : List ℕ) → SitsBeneath h parent k → IsDescent h (Some k) ks
      → IsDescent h parent (k ∷ ks)
  push parent k [] sits rest = absurd rest
  push parent k (d ∷ ks) sits rest = (sits, rest)

  record Goes (parent : Option ℕ) (names : List Text) : Type 0 where
    pub nodes : List ℕ
    pub descent : IsDescent h parent nodes
    pub named : map name_in nodes ≡ map (λ (n : Text). Some n) names

  goes : (parent : Option ℕ) (test : Member → Bool) → SaysUnder h parent test → (names : List Text)
      → leads_on tree test names ≡ true → Goes parent names
  goes parent test says [] e = absurd (cc)
  goes parent test says (name ∷ []) e =
      let both = and_parts (passes test (member_of tree name)) (is_thread tree name) e in
      let p = passed test name (member_of tree name) refl both.0 in
      record {
        nodes = p.k ∷ [];
        descent = (
          (says p.k p.m p.is).0 p.on,
          thread_of_sort (h.nodes p.k) (ap is_thread_sort (p.is.sort ∙ sym (ap sort_of p.found)) ∙ both.1),
        );
        named = ap (λ (o : Option Text). o ∷ []) p.has;
      }
  goes parent test says (name ∷ other ∷ names) e =
      let both = and_parts (passes test (member_of tree name)) (leads_on tree (sits_on name) (other ∷ names)) e in
      let p = passed test name (member_of tree name) refl both.0 in
      let rest = goes (Some p.k) (sits_on name) (says_on h unique p.k name p.has) (other ∷ names) both.1 in
      record {
        nodes = p.k ∷ rest.nodes;
        descent = push parent p.k rest.nodes ((says p.k p.m p.is).0 p.on) rest.descent;
        named = ap (λ (o : Option Text). o ∷ map name_in rest.nodes) p.has
            ∙ ap (λ (l : List (Option Text)). Some name ∷ l) rest.named;
      }

  comes : (parent : Option ℕ) (test : Member → Bool) → SaysUnder h parent test → (nodes : List ℕ)
      (names : List Text) → IsDescent h parent nodes → map name_in nodes ≡ map (λ (n : Text). Some n) names
      → leads_on tree test names ≡ true
  comes parent test says [] names down e = absurd down
  comes parent test says (k ∷ nodes) [] down e = absurd (cc)
  comes parent test says (k ∷ []) (name ∷ []) down e =
      let has : HasName h k name = cc in
      let f = member_found h tree unique t k name has in
      and_from (passes test (member_of tree name)) (is_thread tree name)
      (ap (passes test) f.found ∙ (says k f.m f.is).1 down.0)
      (ap (λ (o : Option Member). is_thread_sort (sort_of o)) f.found
      ∙ ap is_thread_sort (sym f.is.sort ∙ ap sort_at down.1.there))
  comes parent test says (k ∷ []) (name ∷ other ∷ names) down e = absurd (cc)
  comes parent test says (k ∷ d ∷ nodes) (name ∷ []) down e = absurd (cc)
  comes parent test says (k ∷ d ∷ nodes) (name ∷ other ∷ names) down e =
      let has : HasName h k name = cc in
      let rest : map name_in (d ∷ nodes) ≡ map (λ (n : Text). Some n) (other ∷ names) = cc in
      let f = member_found h tree unique t k name has in
      and_from (passes test (member_of tree name)) (leads_on tree (sits_on name) (other ∷ names))
      (ap (passes test) f.found ∙ (says k f.m f.is).1 down.0)
      (comes (Some k) (sits_on name) (says_on h unique k name has) (d ∷ nodes) (other ∷ names) down.1 rest)

  descends : (names : List Text) → (leads_down tree names ≡ true) ↔ HasDescent h names
  descends names = (
    λ on.
        let g = goes None sits_at_cpu (says_cpu h) names on in
        record { nodes = g.nodes; descent = g.descent; named = g.named },
    λ d. comes None sits_at_cpu (says_cpu h) d.nodes names d.descent d.named,
  )

pub led_down : (c : Content) (steps : List Step) → IsLegal start steps → Tells c steps → (names : List Text)
    → (leads_down (tree_of c.answered) names ≡ true) ↔ HasDescent (state start steps) names
led_down c steps legal tells names =
    let at_end : IsReached (state start steps) = record { steps = steps; legal = legal; leads = refl } in
    descends (state start steps) (tree_of c.answered) (lists_of (state start steps) at_end).names
    (end_tree c steps legal tells) names
