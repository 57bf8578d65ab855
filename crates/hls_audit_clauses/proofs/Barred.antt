-- What a refusal tells of names, sorts and seats bars the command in the tree of names.
use Rattle.std.proofs.Common.{◌≡◌, ℕ, zero, suc, inl, inr, ◌+◌, ◌≤◌, List, [], ◌∷◌, Bool, true, false, not}
use Rattle.std.proofs.Common.{◌||◌, length, slice_get, refl, sym, ap, ◌∙◌, subst, arith}
use Rattle.std.specs.Prelude.{Option, Some, None, is_some, Contains}
use Rattle.std.specs.List.{list_any}
use Rattle.std.specs.Str.{bytes_eq}
use Rattle.std.proofs.lemmas.Bool.{and_from, or_left, or_right}
use Rattle.hls_text.specs.Lines.{Text}
use Rattle.hls_chron.specs.declared.plain.Terms.{Terms}
use Rattle.hls_chron.specs.Ledger.{Ledger}
use Rattle.hls_chron.specs.Seats.{terms_at}
use Rattle.hls_scenario.specs.declared.scenario.Spot.{Spot}
use Rattle.hls_scenario.specs.declared.scenario.Spot.TheVariants.{Cpu, Under}
use Rattle.hls_scenario.specs.declared.scenario.Command.{Command}
use Rattle.hls_scenario.specs.declared.scenario.Command.TheVariants as said
use Rattle.hls_report_text.specs.declared.refusal.Refusal.{Refusal}
use Rattle.hls_report_text.specs.declared.refusal.Refusal.TheVariants as refusals
use Rattle.hls_machine.specs.Hierarchy.{Hierarchy, Node, Loaded, Admitted, Scheduler, Place, Processor, At, Seat}
use Rattle.hls_machine.specs.Hierarchy.{name_of, seats_of, seat_of, book_of}
use Rattle.hls_machine.specs.Lists.{IsListed}
use Rattle.hls_machine.specs.Readings.{IsUnderBy}
use Rattle.hls_machine.specs.Seated.{SitsThere}
use Rattle.hls_machine.proofs.Listings.{First, Later, in_cases, none_in}
use Rattle.hls_legal.specs.Under.{is_on}
use Rattle.hls_legal.specs.Tells.{HasName, IsSpot}
use Rattle.hls_legal.proofs.Rousings.{names_same}
use Rattle.hls_legal.proofs.Reached.{IsReached, listed as lists_of, seated as seated_of}
use Rattle.hls_legal.specs.Moment.{Moment, node_of, new_name, old_name, spots_of}
use Rattle.hls_legal.specs.Refusals.{PlacesThread, seats_taken}
use Rattle.hls_legal.specs.Refusals as reasons
use Rattle.hls_legal.specs.Answers.{RefusesCommand, RefusesPlace, Applies}
use Rattle.hls_legal.proofs.Found.{named_there, named_is, found_named}
use Rattle.hls_audit_clauses.specs.declared.member.Sort.{Sort}
use Rattle.hls_audit_clauses.specs.declared.member.Member.{Member}
use Rattle.hls_audit_clauses.specs.Names.{member_of, is_there, sort_of, is_scheduler_sort, is_thread_sort, is_join_sort}
use Rattle.hls_audit_clauses.specs.Names.{is_scheduler, is_thread, perches_of, sits, sits_on, sits_at_cpu, is_cpu}
use Rattle.hls_audit_clauses.specs.Names.{is_within, is_under}
use Rattle.hls_audit_clauses.specs.Misplaced.{is_taken, is_unknown, is_of_wrong_sort, is_occupied, is_cycle}
use Rattle.hls_audit_clauses.specs.Misplaced.{places_thread, is_wrong_spot, is_misplaced}
use Rattle.hls_audit_clauses.specs.Reasons.{IsOfNames}
use Rattle.hls_audit_clauses.proofs.Trees.{sort_at, IsMember, AreMembers, IsTreeOf}
use Rattle.hls_audit_clauses.proofs.Decided.{last_served}
use Rattle.hls_audit_clauses.proofs.Perches.{seat_passes, cpu_spot, slot_spot}
use Rattle.hls_audit_clauses.proofs.Placing.{absent_by, found, sort_found, within_step, within_zero}
use Rattle.hls_audit_clauses.proofs.Ranked.{chain_short}
use Rattle.hls_chron.proofs.ConfigLaws.{join_if_kind}

-- ---- parts of a test

-- one of some tests is passed
pub record AreOff (a b c d e f : Bool) : Type 0 where
  pub taken : a ≡ false
  pub unknown : b ≡ false
  pub sort : c ≡ false
  pub occupied : d ≡ false
  pub cycle : e ≡ false
  pub spots : f ≡ false

all_off : (a b c d e f : Bool) → (a || b || c || d || e || f) ≡ false → AreOff a b c d e f
all_off true b c d e f off = absurd (cc)
all_off false true c d e f off = absurd (cc)
all_off false false true d e f off = absurd (cc)
all_off false false false true e f off = absurd (cc)
all_off false false false false true f off = absurd (cc)
all_off false false false false false true off = absurd (cc)
all_off false false false false false false off =
    record { taken = refl; unknown = refl; sort = refl; occupied = refl; cycle = refl; spots = refl }

pub parts_off : (tree : List Member) (command : Command) → is_misplaced tree command ≡ false
    → AreOff (is_taken tree (new_name command)) (is_unknown tree (old_name command))
    (is_of_wrong_sort tree command) (is_occupied tree command) (is_cycle tree command)
    (list_any (is_wrong_spot tree command) (spots_of command))
parts_off tree command off =
    all_off (is_taken tree (new_name command)) (is_unknown tree (old_name command))
    (is_of_wrong_sort tree command) (is_occupied tree command) (is_cycle tree command)
    (list_any (is_wrong_spot tree command) (spots_of command)) off

any_at : {X : Type 0} (test : X → Bool) (xs : List X) (at : ℕ) (x : X) → slice_get xs at ≡ Some x → test x ≡ true
    → list_any test xs ≡ true
any_at test [] at x e on = absurd (cc)
any_at test (y ∷ xs) zero x e on =
    let same : y ≡ x = cc in
    or_left (test y) (list_any test xs) (ap test same ∙ on)
any_at test (y ∷ xs) (suc at) x e on = or_right (test y) (list_any test xs) (any_at test xs at x e on)

any_member : (h : Hierarchy) (test : Member → Bool) (ks : List ℕ) (tree : List Member) (d : ℕ)
    → AreMembers h ks tree → Contains ks d → ((m : Member) → IsMember h d m → test m ≡ true)
    → list_any test tree ≡ true
any_member h test [] tree d are has on = absurd (none_in d has)
any_member h test (k ∷ ks) [] d are has on = absurd are
any_member h test (k ∷ ks) (m ∷ tree) d are has on = elim (in_cases k ks d has) [
  | First same ↦
      or_left (test m) (list_any test tree) (on m (subst (λ (x : ℕ). IsMember h x m) same are.0))
  | Later rest ↦ or_right (test m) (list_any test tree) (any_member h test ks tree d are.1 rest on)
]

-- who has a seat has a name
record HasSome (node : Option Node) : Type 0 where
  pub name : Text
  pub is : name_of node ≡ Some name

seat_named : (node : Option Node) (port : ℕ) (seat : Seat) → seat_of node port ≡ Some seat → HasSome node
seat_named None port seat e = absurd (cc)
seat_named (Some (Loaded s)) port seat e = record { name = s.name; is = refl }
seat_named (Some (Admitted t)) port seat e = record { name = t.name; is = refl }

some_terms : (b : Ledger) (slot : ℕ) (any : Option Terms) → terms_at b slot ≡ any → is_some (terms_at b slot) ≡ true
    → (terms : Terms) × (terms_at b slot ≡ Some terms)
some_terms b slot None e on =
    let off : is_some (terms_at b slot) ≡ false = ap (λ (o : Option Terms). is_some o) e in
    let wrong : true ≡ false = sym on ∙ off in
    absurd (cc)
some_terms b slot (Some terms) e on = (terms, e)

module _ (m : Moment) (tree : List Member) (reached : IsReached m.hierarchy) (t : IsTreeOf tree m.hierarchy) where
  abbrev h : Hierarchy
  h = m.hierarchy

  listed : IsListed h
  listed = lists_of h reached

  present : (name : Text) (node : Node) → node_of h name ≡ Some node → is_there tree name ≡ true
  present name node e =
      let n = named_there h name node e in
      ap (λ (o : Option Member). is_some o) (found h tree reached t n.number name n.has).found

  sort_named : (name : Text) (node : Node) → node_of h name ≡ Some node
      → sort_of (member_of tree name) ≡ sort_at (Some node)
  sort_named name node e =
      let n = named_there h name node e in
      sort_found h tree reached t n.number name n.has ∙ ap sort_at n.there

  present_by : (name : Text) (node : Option Node) → node_of h name ≡ node → is_some (node_of h name) ≡ true
      → is_there tree name ≡ true
  present_by name None e on =
      absurd (let off : is_some (node_of h name) ≡ false = ap (λ (o : Option Node). is_some o) e in
      let wrong : true ≡ false = sym on ∙ off in cc)
  present_by name (Some node) e on = present name node e

  absent : (name : Text) → node_of h name ≡ None → is_there tree name ≡ false
  absent name e =
      absent_by h tree t name
      (λ k has. (let wrong : None ≡ Some name =
      ap name_of (sym e ∙ named_is h listed k name has) ∙ has in cc))
      (member_of tree name) refl

  sort_wrong : (command : Command) (name : Text) → reasons.IsNameOfWrongSort h command name
      → is_of_wrong_sort tree command ≡ true
  sort_wrong (said.Load own config perches) name f = absurd f.wrong
  sort_wrong (said.Thread own perch) name f = absurd f.wrong
  sort_wrong (said.End own) name f =
      let same : own ≡ name = (let e = f.old in cc) in
      ap (is_scheduler tree) same
      ∙ ap is_scheduler_sort (sort_named name (Loaded f.wrong.scheduler) f.wrong.there)
  sort_wrong (said.Unload own) name f =
      let same : own ≡ name = (let e = f.old in cc) in
      ap (is_thread tree) same ∙ ap is_thread_sort (sort_named name (Admitted f.wrong.thread) f.wrong.there)
  sort_wrong (said.Move own perch) name f =
      let same : own ≡ name = (let e = f.old in cc) in
      ap (λ (n : Text). is_join_sort (sort_of (member_of tree n))) same
      ∙ ap is_join_sort (sort_named name (Loaded f.wrong.place.scheduler) f.wrong.place.there)
      ∙ join_if_kind f.wrong.place.scheduler.config f.wrong.kind
  sort_wrong (said.Wake own every burst) name f =
      let same : own ≡ name = (let e = f.old in cc) in
      ap (is_scheduler tree) same
      ∙ ap is_scheduler_sort (sort_named name (Loaded f.wrong.scheduler) f.wrong.there)
  sort_wrong (said.Block own) name f =
      let same : own ≡ name = (let e = f.old in cc) in
      ap (is_scheduler tree) same
      ∙ ap is_scheduler_sort (sort_named name (Loaded f.wrong.scheduler) f.wrong.there)

  -- ---- seats

  sitter_there : (k : ℕ) (name : Text) → HasName h k name → (slot c port : ℕ) → SitsThere h c port (At k slot)
      → list_any (sits_on name) tree ≡ true
  sitter_there k name has slot c port there =
      let own = seat_named (h.nodes c) port there.seat there.sits in
      any_member h (sits_on name) t.ks tree c t.members (t.all c own.name own.is)
      (λ m is. seat_passes h (is_on (bytes_eq name)) (seats_of (h.nodes c)) m.perches port there.seat is.perches
      there.sits
      (λ spot at. slot_spot h k slot name there.seat.place spot has there.at_place at))

  seat_taken : (name : Text) (s : Scheduler) → node_of h name ≡ Some (Loaded s) → 1 ≤ seats_taken s.book
      → list_any (sits_on name) tree ≡ true
  seat_taken name s e some = elim (last_served (λ slot. is_some (terms_at s.book slot)) 0 32) [
    | inl none ↦ absurd (omega (arith, none, some))
    | inr l ↦
        let n = named_there h name (Loaded s) e in
        let terms = some_terms s.book (0 + l.m) (terms_at s.book (0 + l.m)) refl l.served in
        let sits = (seated_of h reached).sitters n.number (0 + l.m) terms.0
        (ap (λ (x : Option Node). terms_at (book_of x) (0 + l.m)) n.there ∙ terms.1) in
        sitter_there n.number name n.has (0 + l.m) sits.0 sits.1 sits.2
  ]

  occupied : (command : Command) (name : Text) (seats : ℕ) → reasons.IsNotEmpty h command name seats
      → is_occupied tree command ≡ true
  occupied command name seats f =
      let some = f.some in
      let are = f.seats_are in
      ap (is_occupied tree) f.unloads
      ∙ seat_taken name f.place.scheduler f.place.there (omega (arith, some, are))

  root_there : (c : ℕ) → h.root ≡ Some c → list_any sits_at_cpu tree ≡ true
  root_there c e =
      let s = (seated_of h reached).root c e in
      let own = seat_named (h.nodes c) s.0 s.1.seat s.1.sits in
      any_member h sits_at_cpu t.ks tree c t.members (t.all c own.name own.is)
      (λ m is. seat_passes h is_cpu (seats_of (h.nodes c)) m.perches s.0 s.1.seat is.perches s.1.sits
      (λ spot at. cpu_spot h s.1.seat.place spot s.1.at_place at))

  root_by : (root : Option ℕ) → h.root ≡ root → is_some h.root ≡ true → list_any sits_at_cpu tree ≡ true
  root_by None e on =
      absurd (let off : is_some h.root ≡ false = ap (λ (o : Option ℕ). is_some o) e in
      let wrong : true ≡ false = sym on ∙ off in cc)
  root_by (Some c) e on = root_there c e

  -- ---- cycles

  within : (k : ℕ) (top : Text) → HasName h k top → (count d : ℕ) (name : Text) (steps : ℕ) → HasName h d name
      → IsUnderBy h k count d → count ≤ steps → is_within tree steps top name ≡ true
  within k top is_top zero d name steps named under le =
      let both : Some name ≡ Some top = sym named ∙ ap (λ x. name_of (h.nodes x)) under ∙ is_top in
      let same : name ≡ top = cc in
      by steps (names_same top name same)
    where
      by : (steps : ℕ) → bytes_eq name top ≡ true → is_within tree steps top name ≡ true
      by zero e = within_zero tree top name ∙ e
      by (suc steps) e =
          within_step tree steps top name
          ∙ or_left (bytes_eq name top) (sits (is_within tree steps top) (perches_of (member_of tree name))) e
  within k top is_top (suc count) d name zero named under le = absurd (omega arith)
  within k top is_top (suc count) d name (suc steps) named under le =
      let test = is_within tree steps top in
      let on = under.1 in
      let f = found h tree reached t d name named in
      within_step tree steps top name
      ∙ or_right (bytes_eq name top) (sits test (perches_of (member_of tree name)))
      (ap (λ (o : Option Member). sits test (perches_of o)) f.found
      ∙ seat_passes h (is_on test) (seats_of (h.nodes d)) f.m.perches on.port on.seat f.is.perches on.sits
      (λ spot at. on_spot test under.0 on.slot on.seat.place spot on.at_place at
      (λ sched has. within k top is_top count under.0 sched steps has under.2 (omega arith))))
    where
      on_spot : (test : Text → Bool) (p slot : ℕ) (place : Place) (spot : Spot) → place ≡ At p slot
          → IsSpot h place spot → ((sched : Text) → HasName h p sched → test sched ≡ true)
          → is_on test spot ≡ true
      on_spot test p slot Processor Cpu e is pass = absurd (cc)
      on_spot test p slot Processor (Under sched terms) e is pass = absurd is
      on_spot test p slot (At q other) Cpu e is pass = absurd is
      on_spot test p slot (At q other) (Under sched terms) e is pass =
          let same : q ≡ p = cc in
          pass sched (sym (ap (λ x. name_of (h.nodes x)) same) ∙ is)

  cycle : (command : Command) (name : Text) → reasons.IsCycle h command name → is_cycle tree command ≡ true
  cycle command name f =
      let top = found_named h f.mover f.moved f.mover_is in
      let has = found_named h name f.place f.place_is in
      let short = chain_short h tree reached t f.moved f.under.0 f.place f.under.1 in
      ap (is_cycle tree) f.moves
      ∙ and_from (is_scheduler tree f.mover) (is_on (is_under tree f.mover) f.perch.spot)
      (ap is_scheduler_sort (sort_named f.mover (Loaded f.scheduler.scheduler) f.scheduler.there))
      (ap (is_on (is_under tree f.mover)) f.to
      ∙ within f.moved f.mover top f.under.0 f.place name (length tree) has f.under.1 short)

  -- ---- a command, and a place

  not_on : (a : Bool) → a ≡ true → a ≡ false → ⊥
  not_on a on off = let wrong : true ≡ false = sym on ∙ off in cc

  pub command_barred : (command : Command) → is_misplaced tree command ≡ false → (r : Refusal) → IsOfNames r
      → ¬ RefusesCommand m command r
  command_barred command off (refusals.NameTaken name) of f =
      not_on (is_taken tree (new_name command))
      (ap (is_taken tree) f.new ∙ present_by name (node_of h name) refl f.taken) (parts_off tree command off).taken
  command_barred command off (refusals.NoSuchName name) of f =
      not_on (is_unknown tree (old_name command))
      (ap (is_unknown tree) f.old ∙ ap not (absent name f.unknown)) (parts_off tree command off).unknown
  command_barred command off (refusals.WrongSort None) of f = f
  command_barred command off (refusals.WrongSort (Some name)) of f =
      not_on (is_of_wrong_sort tree command) (sort_wrong command name f) (parts_off tree command off).sort
  command_barred command off (refusals.NotEmpty name seats) of f =
      not_on (is_occupied tree command) (occupied command name seats f) (parts_off tree command off).occupied
  command_barred command off (refusals.Cycle name) of f =
      not_on (is_cycle tree command) (cycle command name f) (parts_off tree command off).cycle
  command_barred command off (refusals.SeatsFull None seats) of f = f
  command_barred command off _ of f = absurd of

  thread_placed : (command : Command) → PlacesThread h command → places_thread tree command ≡ true
  thread_placed (said.Thread name perch) f = refl
  thread_placed (said.Move name perch) f = ap is_thread_sort (sort_named name (Admitted f.thread) f.there)
  thread_placed (said.Load name config perches) f = absurd f
  thread_placed (said.End name) f = absurd f
  thread_placed (said.Unload name) f = absurd f
  thread_placed (said.Wake name every burst) f = absurd f
  thread_placed (said.Block name) f = absurd f

  no_scheduler : (name : Text) → node_of h name ≡ None → is_scheduler tree name ≡ false
  no_scheduler name e = by (member_of tree name) refl
    where
      by : (o : Option Member) → member_of tree name ≡ o → is_scheduler tree name ≡ false
      by None f = ap (λ (o : Option Member). is_scheduler_sort (sort_of o)) f
      by (Some x) f =
          absurd (let on : is_there tree name ≡ true = ap (λ (o : Option Member). is_some o) f in
          not_on (is_there tree name) on (absent name e))

  place_wrong : (command : Command) (spot : Spot) (r : Refusal) → IsOfNames r → RefusesPlace h command spot r
      → is_wrong_spot tree command spot ≡ true
  place_wrong command Cpu (refusals.NoSuchName name) of f = absurd (let e = f.place in cc)
  place_wrong command (Under sched terms) (refusals.NoSuchName name) of f =
      let same : sched ≡ name = (let e = f.place in cc) in
      ap (λ (n : Text). not (is_scheduler tree n)) same ∙ ap not (no_scheduler name f.unknown)
  place_wrong command Cpu (refusals.WrongSort None) of f =
      or_left (places_thread tree command) (list_any sits_at_cpu tree) (thread_placed command f)
  place_wrong command Cpu (refusals.WrongSort (Some name)) of f = absurd f
  place_wrong command (Under sched terms) (refusals.WrongSort None) of f = absurd f
  place_wrong command (Under sched terms) (refusals.WrongSort (Some name)) of f =
      ap (λ (s : Option Sort). not (is_scheduler_sort s)) (sort_named sched (Admitted f.1.thread) f.1.there)
  place_wrong command Cpu (refusals.SeatsFull None seats) of f =
      or_right (places_thread tree command) (list_any sits_at_cpu tree) (root_by h.root refl f.taken)
  place_wrong command (Under sched terms) (refusals.SeatsFull None seats) of f = absurd (let e = f.place in cc)
  place_wrong command spot (refusals.NameTaken name) of f = absurd f
  place_wrong command spot (refusals.NotEmpty name seats) of f = absurd f
  place_wrong command spot (refusals.Cycle name) of f = absurd f
  place_wrong command spot _ of f = absurd of

  pub barred : (command : Command) → is_misplaced tree command ≡ false → (r : Refusal) → IsOfNames r
      → ¬ Applies m command r
  barred command off r of (inl f) = command_barred command off r of f
  barred command off r of (inr f) =
      let at = f.first in
      not_on (list_any (is_wrong_spot tree command) (spots_of command))
      (any_at (is_wrong_spot tree command) (spots_of command) at.at at.item at.item_is
      (place_wrong command at.item r of at.tells.refuses)) (parts_off tree command off).spots
