-- The path of a tick leads down in the tree of names.
use Rattle.std.proofs.Common.{◌≡◌, ℕ, List, [], ◌∷◌, ◌++◌, Bool, true, false, map, sym}
use Rattle.std.proofs.Common.{ap, ◌∙◌, subst}
use Rattle.std.specs.Prelude.{Option, Some, None}
use Rattle.std.specs.Str.{bytes_eq}
use Rattle.std.proofs.lemmas.Bool.{and_from}
use Rattle.hls_text.specs.Lines.{Text}
use Rattle.hls_report_text.specs.Content.{Content}
use Rattle.hls_report_text.specs.WellFormed.{IsContent}
use Rattle.hls_machine.specs.Hierarchy.{Hierarchy, Place, Processor, At, Seat, name_of, seats_of, seat_of, start}
use Rattle.hls_machine.specs.Steps.{Step, Hop, Path}
use Rattle.hls_machine.specs.Legal.{Walk, MayRun, IsLegal}
use Rattle.hls_legal.specs.Under.{is_on}
use Rattle.hls_legal.specs.Tells.{HasName, Names, Tells}
use Rattle.hls_legal.proofs.Told.{Unique}
use Rattle.hls_legal.proofs.Reached.{listed as lists_of}
use Rattle.hls_audit_clauses.specs.declared.member.Member.{Member}
use Rattle.hls_audit_clauses.specs.Names.{member_of, sort_of, is_thread, is_thread_sort, sits_on, sits_at_cpu, is_cpu}
use Rattle.hls_audit_clauses.specs.Ways.{passes, leads_on, leads_down}
use Rattle.hls_audit_clauses.specs.Clauses.{IsAstray}
use Rattle.hls_audit_clauses.proofs.Schedules.{path_early}
use Rattle.hls_audit_clauses.proofs.Trees.{sort_at, IsMember, IsTreeOf, IsFoundMember, member_found}
use Rattle.hls_audit_clauses.proofs.TreeRuns.{IsTickStep, tick_step}
use Rattle.hls_audit_clauses.proofs.Perches.{seat_passes, cpu_spot, slot_spot}

-- whoever has a seat at the place passes the test
abbrev Fits : Hierarchy → Place → (Member → Bool) → Type 0
Fits h place test = (k port : ℕ) (seat : Seat) (m : Member) → IsMember h k m
    → seat_of (h.nodes k) port ≡ Some seat → seat.place ≡ place → test m ≡ true

cpu_fits : (h : Hierarchy) → Fits h Processor sits_at_cpu
cpu_fits h k port seat m is sits e =
    seat_passes h is_cpu (seats_of (h.nodes k)) m.perches port seat is.perches sits
    (λ spot at. cpu_spot h seat.place spot e at)

slot_fits : (h : Hierarchy) (p slot : ℕ) (name : Text) → HasName h p name → Fits h (At p slot) (sits_on name)
slot_fits h p slot name has k port seat m is sits e =
    seat_passes h (is_on (bytes_eq name)) (seats_of (h.nodes k)) m.perches port seat is.perches sits
    (λ spot at. slot_spot h p slot name seat.place spot has e at)

not_empty : {X Y : Type 0} (f : X → Y) (xs : List X) (x : X) → map f (xs ++ x ∷ []) ≡ [] → ⊥
not_empty f [] x e = cc
not_empty f (y ∷ xs) x e = cc

module _ (h : Hierarchy) (tree : List Member) (unique : Unique h.nodes) (t : IsTreeOf tree h) (masks : ℕ → ℕ) where
  abbrev name_in : ℕ → Option Text
  name_in k = name_of (h.nodes k)

  leads : (place : Place) (test : Member → Bool) → Fits h place test → (hops : List Hop) (thread : ℕ)
      (names : List Text) → Walk h masks place hops thread
      → map name_in (map (λ (hop : Hop). hop.node) hops ++ thread ∷ []) ≡ map (λ (n : Text). Some n) names
      → leads_on tree test names ≡ true
  leads place test fits [] thread [] walk e = absurd (cc)
  leads place test fits [] thread (name ∷ []) walk e =
      let has : HasName h thread name = cc in
      let f : IsFoundMember h tree name thread = member_found h tree unique t thread name has in
      and_from (passes test (member_of tree name)) (is_thread tree name)
      (ap (passes test) f.found
      ∙ fits thread 0 walk.thread.seat f.m f.is (ap (λ n. seat_of n 0) walk.there) walk.at_place)
      (ap (λ (o : Option Member). is_thread_sort (sort_of o)) f.found
      ∙ ap is_thread_sort (sym f.is.sort ∙ ap sort_at walk.there))
  leads place test fits [] thread (name ∷ other ∷ names) walk e = absurd (cc)
  leads place test fits (hop ∷ hops) thread [] walk e = absurd (cc)
  leads place test fits (hop ∷ hops) thread (name ∷ []) walk e =
      let none : map name_in (map (λ (hop : Hop). hop.node) hops ++ thread ∷ []) ≡ [] = cc in
      absurd (not_empty name_in (map (λ (hop : Hop). hop.node) hops) thread none)
  leads place test fits (hop ∷ hops) thread (name ∷ other ∷ names) walk e =
      let has : HasName h hop.node name = cc in
      let rest : map name_in (map (λ (hop : Hop). hop.node) hops ++ thread ∷ [])
      ≡ map (λ (n : Text). Some n) (other ∷ names) = cc in
      let f : IsFoundMember h tree name hop.node = member_found h tree unique t hop.node name has in
      and_from (passes test (member_of tree name)) (leads_on tree (sits_on name) (other ∷ names))
      (ap (passes test) f.found
      ∙ fits hop.node hop.port walk.0.seat f.m f.is
      (ap (λ n. seat_of n hop.port) walk.0.there ∙ walk.0.port) walk.0.at_place)
      (leads (At hop.node hop.slot) (sits_on name) (slot_fits h hop.node hop.slot name has) hops thread
      (other ∷ names) walk.1 rest)

  way_down : (asking : ℕ → Bool) (path : Option Path) (names : List Text) → MayRun h asking masks path
      → Names h path (Some names) → leads_down tree names ≡ true
  way_down asking None names may told = absurd told
  way_down asking (Some path) names may told =
      leads Processor sits_at_cpu (cpu_fits h) path.hops path.thread names may.1 told

pub leading_kept : (c : Content) (run : List Step) → IsContent c → IsLegal start run → Tells c run → (t : ℕ)
    → ¬ IsAstray c t
leading_kept c run is legal tells t f =
    let s : IsTickStep c t = tick_step c run legal tells t (path_early c is t f.names f.path) in
    let down = way_down s.h _ (lists_of s.h s.reached).names s.tree s.masks s.asking s.path f.names s.can.1
    (subst (Names s.h s.path) f.path s.told) in
    let wrong : true ≡ false = sym down ∙ f.astray in
    cc
