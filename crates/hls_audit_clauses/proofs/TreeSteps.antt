-- Each command that is done makes of the tree of names what it makes of the hierarchy.
use Rattle.std.proofs.Common.{◌≡◌, ◌≢◌, ℕ, inl, inr, List, [], ◌∷◌, ◌++◌, ◌==◌, Bool, true, false, if◌then◌else◌}
use Rattle.std.proofs.Common.{filter, refl, sym, ap, ◌∙◌, subst}
use Rattle.std.specs.Prelude.{Option, Some, None, Contains, flat_map}
use Rattle.std.proofs.lemmas.Bool.{cases_eq}
use Rattle.std.proofs.lemmas.List.{append-nil}
use Rattle.std.proofs.lemmas.List.Elements.{Contains-append_left, Contains-append_right}
use Rattle.std.proofs.lemmas.Grind.{flat_map-append}
use Rattle.hls_text.specs.Lines.{Text}
use Rattle.hls_chron.specs.declared.book.Event.{Event}
use Rattle.hls_chron.specs.declared.plain.Config.{Config}
use Rattle.hls_chron.specs.Seats.{terms_at}
use Rattle.hls_scenario.specs.declared.scenario.Perch.{Perch}
use Rattle.hls_scenario.specs.declared.scenario.Command.{Command}
use Rattle.hls_scenario.specs.declared.scenario.Command.TheVariants as said
use Rattle.hls_report_text.specs.declared.report.Answer.{Answer}
use Rattle.hls_report_text.specs.declared.report.Answer.TheVariants.{Done, Refused}
use Rattle.hls_machine.specs.Hierarchy.{Hierarchy, Node, Loaded, Admitted, At, Seat, Wake, Asleep}
use Rattle.hls_machine.specs.Hierarchy.{name_of, seats_of, seat_of, book_of}
use Rattle.hls_machine.specs.Steps.{Step, Refuse, Load, Admit, End, Unload, Move, Rouse, Block, Elapse, Hop, Path}
use Rattle.hls_machine.specs.Steps.{marked, renewed, reseated, roused, ticked, leavings, seatings, sitters, effect}
use Rattle.hls_machine.specs.Steps.{nodes_after, nobody, loaded, admitted, with_wake, wake_by, elapsed, hop_at}
use Rattle.hls_machine.specs.Steps.{hops_of, is_scheduler}
use Rattle.hls_machine.specs.Steps as steps
use Rattle.hls_machine.specs.Legal.{Can, CanUnload, IsThread, CanMove, IsNew}
use Rattle.hls_machine.proofs.Kept.{at_same, at_other}
use Rattle.hls_machine.proofs.Nodes.{seats-reseated}
use Rattle.hls_machine.proofs.Listings.{contains_first, contains_filter, filter_true}
use Rattle.hls_legal.specs.Tells.{HasName, IsPerch, ArePerches, Answers}
use Rattle.hls_legal.proofs.Alike.{alike_other, alike_same, almost-roused, moved-reseated, alike-ticked}
use Rattle.hls_legal.proofs.Told.{Unique}
use Rattle.hls_legal.proofs.Depths.{sits_on_scheduler}
use Rattle.hls_legal.proofs.Orders.{NamesStay, kept_perches}
use Rattle.hls_legal.proofs.OrderSteps.{names_stay, all_stay}
use Rattle.hls_legal.proofs.Reached.{IsReached, listed as lists_of, seated as seated_of}
use Rattle.hls_audit_clauses.specs.declared.member.Sort.TheVariants as sorts
use Rattle.hls_audit_clauses.specs.declared.member.Member.{Member}
use Rattle.hls_audit_clauses.specs.Names.{after_answer, member_of, with_moved, without}
use Rattle.hls_audit_clauses.proofs.Trees.{sort_at, IsMember, AreMembers, held_by, IsTreeOf, IsFoundMember}
use Rattle.hls_audit_clauses.proofs.Trees.{member_found}
use Rattle.hls_audit_clauses.proofs.Trees.{member_named, IsSameNode, member_kept, members_on, members_push, other_than}
use Rattle.hls_audit_clauses.proofs.Trees.{is_other, other_is, members_without, not_of, filter_held, flat_same}
use Rattle.hls_audit_clauses.proofs.Trees.{filter_absent}

-- ---- what a step leaves of a node

sort-renewed : (b : Bool) (now : ℕ) (node : Option Node) → sort_at (renewed b now node) ≡ sort_at node
sort-renewed false now any = refl
sort-renewed true now None = refl
sort-renewed true now (Some (Loaded s)) = refl
sort-renewed true now (Some (Admitted t)) = refl

sort-marked : (events : List Event) (node : Option Node) → sort_at (marked events node) ≡ sort_at node
sort-marked events None = refl
sort-marked events (Some (Loaded s)) = refl
sort-marked events (Some (Admitted t)) = refl

sort-ticked : (mask : ℕ) (hop : Option Hop) (node : Option Node) → sort_at (ticked mask hop node) ≡ sort_at node
sort-ticked mask hop None = refl
sort-ticked mask hop (Some (Loaded s)) = refl
sort-ticked mask hop (Some (Admitted t)) = refl

sort-roused : (how : Wake) (node : Option Node) → sort_at (roused how node) ≡ sort_at node
sort-roused how None = refl
sort-roused how (Some (Loaded s)) = refl
sort-roused how (Some (Admitted t)) = refl

sort-reseated : (seat : Seat) (node : Option Node) → sort_at (reseated seat node) ≡ sort_at node
sort-reseated seat None = refl
sort-reseated seat (Some (Loaded s)) = refl
sort-reseated seat (Some (Admitted t)) = refl

module _ (h : Hierarchy) (k : ℕ) (node : Option Node) (below : ℕ → Bool) where
  abbrev made : Hierarchy
  made = effect h k node below

  abbrev events : ℕ → List Event
  events c = leavings (seats_of (h.nodes k)) c ++ seatings (seats_of node) c

  abbrev inner : ℕ → Option Node
  inner c = if c == k then node else marked (events c) (h.nodes c)

  same_other : (c : ℕ) → c ≢ k → IsSameNode (made.nodes c) (h.nodes c)
  same_other c ne =
      let like = alike_other h k node below c ne in
      record {
        name = like.name;
        sort = sort-renewed (below c) h.now (inner c)
            ∙ ap sort_at (at_other c k node (marked (events c) (h.nodes c)) ne)
            ∙ sort-marked (events c) (h.nodes c);
        seats = like.seats;
      }

  same_itself : IsSameNode (made.nodes k) node
  same_itself =
      let like = alike_same h k node below k refl in
      record {
        name = like.name;
        sort = sort-renewed (below k) h.now (inner k)
            ∙ ap sort_at (at_same k k node (marked (events k) (h.nodes k)) refl);
        seats = like.seats;
      }

  other_on : NamesStay h made → (d : ℕ) (m : Member) → d ≢ k → IsMember h d m → IsMember made d m
  other_on stay d m ne is =
      member_kept h made d m (same_other d ne) (λ port seat p slot. stay d port seat p slot) is

  other_named : (d : ℕ) (name : Text) → d ≢ k → HasName made d name → HasName h d name
  other_named d name ne has = sym (same_other d ne).name ∙ has

  module _ (tree : List Member) (t : IsTreeOf tree h) where
    abbrev rest : List ℕ
    rest = filter (other_than k) t.ks

    seats_left : filter (not_of k) h.seats ≡ flat_map (held_by made.nodes) rest
    seats_left =
        ap (filter (not_of k)) t.seats ∙ filter_held h.nodes k t.ks
        ∙ flat_same (held_by h.nodes) (held_by made.nodes) rest
        (λ d has. let ne = is_other k d (filter_true (other_than k) t.ks d has) in
        ap (sitters d 0) (sym (same_other d ne).seats))

    rest_has : (d : ℕ) (name : Text) → d ≢ k → HasName made d name → Contains rest d
    rest_has d name ne has =
        contains_filter (other_than k) t.ks d (other_is k d ne) (t.all d name (other_named d name ne has))

    -- node k comes last
    placed : (others : List Member) (m : Member) → AreMembers made rest others → IsMember made k m
        → IsTreeOf (others ++ m ∷ []) made
    placed others m are is = record {
      ks = rest ++ k ∷ [];
      members = members_push made rest others k m are is;
      seats = ap (λ l. l ++ sitters k 0 (seats_of node)) seats_left
          ∙ ap (λ l. flat_map (held_by made.nodes) rest ++ l)
          (ap (sitters k 0) (sym same_itself.seats) ∙ sym (append-nil (held_by made.nodes k)))
          ∙ sym (flat_map-append (held_by made.nodes) rest (k ∷ []));
      all = λ d name has. elim (cases_eq d k) [
        | inl e ↦ Contains-append_right rest (k ∷ []) d
            (subst (λ (x : ℕ). Contains (k ∷ []) x) (sym e) (contains_first k []))
        | inr ne ↦ Contains-append_left rest (k ∷ []) d (rest_has d name ne has)
      ];
    }

    -- node k is no more
    removed : (others : List Member) → node ≡ None → AreMembers made rest others → IsTreeOf others made
    removed others none are = record {
      ks = rest;
      members = are;
      seats = ap (λ (n : Option Node). filter (not_of k) h.seats ++ sitters k 0 (seats_of n)) none
          ∙ append-nil (filter (not_of k) h.seats) ∙ seats_left;
      all = λ d name has. elim (cases_eq d k) [
        | inl e ↦
            (let wrong : None ≡ Some name =
            sym (ap name_of none) ∙ sym same_itself.name ∙ ap (λ x. name_of (made.nodes x)) (sym e) ∙ has in
            absurd (cc))
        | inr ne ↦ rest_has d name ne has
      ];
    }

    -- where it was not there before
    new_rest : h.nodes k ≡ None → NamesStay h made → AreMembers made rest tree
    new_rest none stay =
        let apart : (d : ℕ) → Contains t.ks d → d ≢ k =
        λ d has e. (let n = member_named h t.ks tree t.members d has in
        let wrong : None ≡ Some n.name =
        sym (ap name_of none) ∙ ap (λ x. name_of (h.nodes x)) (sym e) ∙ n.has in cc) in
        subst (λ (ks : List ℕ). AreMembers made ks tree) (sym (filter_absent k t.ks apart))
        (members_on h made t.ks tree
        (λ d m is. other_on stay d m
        (λ e. (let wrong : None ≡ Some m.name =
        sym (ap name_of none) ∙ ap (λ x. name_of (h.nodes x)) (sym e) ∙ is.named in cc)) is) t.members)

    old_rest : Unique h.nodes → NamesStay h made → (name : Text) → HasName h k name
        → AreMembers made rest (without name tree)
    old_rest unique stay name has =
        members_without h made unique k name has (other_on stay) t.ks tree t.members

-- what leaves each node its name, its sort and its seats
pub same_tree : (h g : Hierarchy) (tree : List Member) → ((d : ℕ) → IsSameNode (g.nodes d) (h.nodes d))
    → g.seats ≡ h.seats → IsTreeOf tree h → IsTreeOf tree g
same_tree h g tree same seats t = record {
  ks = t.ks;
  members = members_on h g t.ks tree
      (λ d m is. member_kept h g d m (same d) (λ port seat p slot sits on name has. (same p).name ∙ has) is)
      t.members;
  seats = seats ∙ t.seats
      ∙ flat_same (held_by h.nodes) (held_by g.nodes) t.ks (λ d has. ap (sitters d 0) (sym (same d).seats));
  all = λ d name has. t.all d name (sym (same d).name ∙ has);
}

-- ---- names that stay

no_name : (h : Hierarchy) (k : ℕ) → h.nodes k ≡ None → (name : Text) → HasName h k name → ⊥
no_name h k none name has = let wrong : None ≡ Some name = sym (ap name_of none) ∙ has in cc

new_stay : (h : Hierarchy) (k : ℕ) (node : Option Node) → h.nodes k ≡ None → NamesStay h (effect h k node nobody)
new_stay h k node none = names_stay h k node nobody
    (λ d port seat slot sits on name has. absurd (no_name h k none name has))

pub empty_seat : (h : Hierarchy) → IsReached h → (d port : ℕ) (seat : Seat) (slot k : ℕ) → CanUnload (h.nodes k)
    → seat_of (h.nodes d) port ≡ Some seat → seat.place ≡ At k slot → ⊥
empty_seat h reached d port seat slot k can sits on =
    let taken = (seated_of h reached).taken d port k slot
    (record { seat = seat; sits = sits; at_place = on }) in
    let wrong : None ≡ Some seat.terms =
    sym (can.empty slot) ∙ ap (λ n. terms_at (book_of n) slot) (sym can.there) ∙ taken in cc

no_seat : (h : Hierarchy) → IsReached h → (d port : ℕ) (seat : Seat) (slot k : ℕ) → IsThread (h.nodes k)
    → seat_of (h.nodes d) port ≡ Some seat → seat.place ≡ At k slot → ⊥
no_seat h reached d port seat slot k can sits on =
    let is = sits_on_scheduler h (seated_of h reached) d k
    (record { port = port; seat = seat; slot = slot; sits = sits; at_place = on }) in
    let wrong : false ≡ true = sym (ap is_scheduler can.there) ∙ is in cc

end_stay : (h : Hierarchy) → IsReached h → (k : ℕ) → IsThread (h.nodes k) → NamesStay h (effect h k None nobody)
end_stay h reached k can = names_stay h k None nobody
    (λ d port seat slot sits on n named. absurd (no_seat h reached d port seat slot k can sits on))

unload_stay : (h : Hierarchy) → IsReached h → (k : ℕ) → CanUnload (h.nodes k)
    → NamesStay h (effect h k None nobody)
unload_stay h reached k can = names_stay h k None nobody
    (λ d port seat slot sits on n named. absurd (empty_seat h reached d port seat slot k can sits on))

-- ---- commands

-- the perches of a node that is new
new_perches : (h : Hierarchy) (k : ℕ) (node : Option Node) (held : List Seat) (perches : List Perch)
    → h.nodes k ≡ None → seats_of node ≡ held → ArePerches h held perches
    → ArePerches (effect h k node nobody) (seats_of ((effect h k node nobody).nodes k)) perches
new_perches h k node held perches none e are =
    subst (λ (l : List Seat). ArePerches (effect h k node nobody) l perches)
    (sym ((same_itself h k node nobody).seats ∙ e))
    (kept_perches h (effect h k node nobody) held perches
    (λ port seat p slot sits on. all_stay h k node nobody
    (λ name has. absurd (no_name h k none name has)) p) are)

load_tree : (h : Hierarchy) (tree : List Member) (name : Text) (config : Config) (perches : List Perch) (k : ℕ)
    (new : Text) (set : Config) (spare_ticks spare_marks : ℕ) (held : List Seat) → IsTreeOf tree h
    → IsNew h k new → new ≡ name → set ≡ config → ArePerches h held perches
    → IsTreeOf (tree ++ record { name = name; sort = sorts.Scheduler config; perches = perches } ∷ [])
    (effect h k (Some (Loaded (loaded h.now new set spare_ticks spare_marks held))) nobody)
load_tree h tree name config perches k new set spare_ticks spare_marks held t is same sort are =
    let node : Option Node = Some (Loaded (loaded h.now new set spare_ticks spare_marks held)) in
    let mine = same_itself h k node nobody in
    let m : Member = record { name = name; sort = sorts.Scheduler config; perches = perches } in
    placed h k node nobody tree t tree m
    (new_rest h k node nobody tree t is.unused (new_stay h k node is.unused))
    (record {
      named = mine.name ∙ ap (λ (n : Text). Some n) same;
      sort = mine.sort ∙ ap (λ (c : Config). Some (sorts.Scheduler c)) sort;
      perches = new_perches h k node held perches is.unused refl are;
    })

admit_tree : (h : Hierarchy) (tree : List Member) (name : Text) (perch : Perch) (k : ℕ) (new : Text) (seat : Seat)
    → IsTreeOf tree h → IsNew h k new → new ≡ name → IsPerch h seat perch
    → IsTreeOf (tree ++ record { name = name; sort = sorts.Thread; perches = perch ∷ [] } ∷ [])
    (effect h k (Some (Admitted (admitted h.now new seat))) nobody)
admit_tree h tree name perch k new seat t is same asked =
    let node : Option Node = Some (Admitted (admitted h.now new seat)) in
    let mine = same_itself h k node nobody in
    let m : Member = record { name = name; sort = sorts.Thread; perches = perch ∷ [] } in
    placed h k node nobody tree t tree m
    (new_rest h k node nobody tree t is.unused (new_stay h k node is.unused))
    (record {
      named = mine.name ∙ ap (λ (n : Text). Some n) same;
      sort = mine.sort;
      perches = new_perches h k node (seat ∷ []) (perch ∷ []) is.unused refl (asked, tt);
    })

gone_tree : (h : Hierarchy) (tree : List Member) (name : Text) (k : ℕ) → IsTreeOf tree h → Unique h.nodes
    → NamesStay h (effect h k None nobody) → HasName h k name
    → IsTreeOf (without name tree) (effect h k None nobody)
gone_tree h tree name k t unique stay has =
    removed h k None nobody tree t (without name tree) refl (old_rest h k None nobody tree t unique stay name has)

move_tree : (h : Hierarchy) (tree : List Member) (name : Text) (perch : Perch) (k : ℕ) (seat : Seat)
    (below : ℕ → Bool) → IsTreeOf tree h → Unique h.nodes → CanMove h k seat below → HasName h k name
    → IsPerch h seat perch
    → IsTreeOf (with_moved tree perch (member_of tree name)) (effect h k (reseated seat (h.nodes k)) below)
move_tree h tree name perch k seat below t unique can has asked =
    let node : Option Node = reseated seat (h.nodes k) in
    let g = effect h k node below in
    let mine = same_itself h k node below in
    let moved = moved-reseated seat (h.nodes k) in
    let f : IsFoundMember h tree name k = member_found h tree unique t k name has in
    let held : seats_of (g.nodes k) ≡ seat ∷ [] =
    mine.seats ∙ seats-reseated seat seat.place (h.nodes k) can.sort in
    let all : (p : ℕ) (n : Text) → HasName h p n → HasName g p n =
    all_stay h k node below (λ n named. moved.name ∙ named) in
    let m : Member = record f.m { perches = perch ∷ [] } in
    subst (λ (o : Option Member). IsTreeOf (with_moved tree perch o) g) (sym f.found)
    (placed h k node below tree t (without f.m.name tree) m
    (old_rest h k node below tree t unique (λ d port s p slot sits on. all p) f.m.name f.is.named)
    (record {
      named = mine.name ∙ moved.name ∙ f.is.named;
      sort = mine.sort ∙ sort-reseated seat (h.nodes k) ∙ f.is.sort;
      perches = subst (λ (l : List Seat). ArePerches g l (perch ∷ [])) (sym held)
          (kept_perches h g (seat ∷ []) (perch ∷ []) (λ port s p slot sits on. all p) (asked, tt));
    }))

same_if : (b : Bool) (how : Wake) (node : Option Node) → IsSameNode (if b then roused how node else node) node
same_if true how any =
    let like = almost-roused how any in
    record { name = like.name; sort = sort-roused how any; seats = like.seats }
same_if false how any = record { name = refl; sort = refl; seats = refl }

wake_tree : (h : Hierarchy) (tree : List Member) (k : ℕ) (how : Wake) → IsTreeOf tree h
    → IsTreeOf tree (with_wake h k how)
wake_tree h tree k how t = same_tree h (with_wake h k how) tree (λ d. same_if (d == k) how (h.nodes d)) refl t

pub tick_tree : (h : Hierarchy) (tree : List Member) (asking : ℕ → Bool) (masks : ℕ → ℕ) (path : Option Path)
    → IsTreeOf tree h → IsTreeOf tree (elapsed h asking masks path)
tick_tree h tree asking masks path t = same_tree h (elapsed h asking masks path) tree
    (λ d. let like = alike-ticked (masks d) (hop_at (hops_of path) d) (h.nodes d) in
    record {
      name = like.name;
      sort = sort-ticked (masks d) (hop_at (hops_of path) d) (h.nodes d);
      seats = like.seats;
    }) refl t

-- ---- a step

pub step_tree : (h : Hierarchy) (tree : List Member) (tick : ℕ) (command : Command) (answer : Answer) (step : Step)
    → IsReached h → Can h step → Answers h command answer step → IsTreeOf tree h
    → IsTreeOf (after_answer tree (record { tick = tick; command = command; answer = answer }))
    (steps.after h step)
step_tree h tree tick command (Refused refusal) step reached can does t =
    subst (λ (s : Step). IsTreeOf tree (steps.after h s)) (sym does) t
step_tree h tree tick (said.Load name config perches) (Done by) (Load k new set spare_ticks spare_marks held)
    reached can does t =
    load_tree h tree name config perches k new set spare_ticks spare_marks held t can.0.new does.0 does.1 does.2
step_tree h tree tick (said.Thread name perch) (Done by) (Admit k new seat) reached can does t =
    admit_tree h tree name perch k new seat t can.new does.0 does.1
step_tree h tree tick (said.End name) (Done by) (End k) reached can does t =
    gone_tree h tree name k t (lists_of h reached).names (end_stay h reached k can) does
step_tree h tree tick (said.Unload name) (Done by) (Unload k) reached can does t =
    gone_tree h tree name k t (lists_of h reached).names (unload_stay h reached k can) does
step_tree h tree tick (said.Move name perch) (Done by) (Move k seat below) reached can does t =
    move_tree h tree name perch k seat below t (lists_of h reached).names can.0 does.0 does.1
step_tree h tree tick (said.Wake name every burst) (Done by) (Rouse k how) reached can does t =
    wake_tree h tree k (wake_by how h.now) t
step_tree h tree tick (said.Block name) (Done by) (Block k) reached can does t = wake_tree h tree k Asleep t
step_tree h tree tick _ (Done by) _ reached can does t = absurd does
