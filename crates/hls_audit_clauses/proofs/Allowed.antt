-- A command that no refusal of names, sorts and seats speaks against is allowed by the tree of names.
use Rattle.std.proofs.Common.{◌≡◌, ℕ, zero, suc, inl, inr, ◌+◌, ◌<◌, List, [], ◌∷◌, Bool, true, false, not, ◌&&◌}
use Rattle.std.proofs.Common.{length, map, slice_get, refl, sym, ap, ◌∙◌, subst, arith}
use Rattle.std.specs.Prelude.{Option, Some, None, is_some}
use Rattle.std.specs.List.{list_any, AllByRecursion}
use Rattle.std.specs.Str.{bytes_eq}
use Rattle.std.proofs.lemmas.Bool.{or_cases, and_parts, false_from_ne_true}
use Rattle.std.proofs.lemmas.Slice.Eq.{bytes_eq-Decides}
use Rattle.hls_text.specs.Lines.{Text}
use Rattle.hls_chron.specs.declared.plain.Config.{Config}
use Rattle.hls_chron.specs.declared.plain.Config.TheVariants as configs
use Rattle.hls_scenario.specs.declared.scenario.Spot.{Spot}
use Rattle.hls_scenario.specs.declared.scenario.Spot.TheVariants.{Cpu, Under}
use Rattle.hls_scenario.specs.declared.scenario.Perch.{Perch}
use Rattle.hls_scenario.specs.declared.scenario.Command.{Command}
use Rattle.hls_scenario.specs.declared.scenario.Command.TheVariants as said
use Rattle.hls_scenario.specs.Grammar as grammar
use Rattle.hls_report_text.specs.declared.refusal.Refusal.{Refusal}
use Rattle.hls_report_text.specs.declared.refusal.Refusal.TheVariants as refusals
use Rattle.hls_machine.specs.Hierarchy.{Hierarchy, Node, Loaded, Admitted, name_of, seats_of}
use Rattle.hls_machine.specs.Lists.{IsListed}
use Rattle.hls_machine.specs.Readings.{IsUnderBy}
use Rattle.hls_legal.specs.Under.{is_on}
use Rattle.hls_legal.specs.Tells.{HasName}
use Rattle.hls_legal.proofs.Reached.{IsReached, listed as lists_of, seated as seated_of}
use Rattle.hls_legal.specs.Moment.{Moment, node_of, NamesScheduler, NamesThread, NamesJoin}
use Rattle.hls_legal.specs.Moment.{new_name, old_name, spots_of}
use Rattle.hls_legal.specs.Refusals.{PlacesThread}
use Rattle.hls_legal.specs.Answers.{number, RefusesCommand, RefusesPlace, Applies}
use Rattle.hls_legal.proofs.Found.{named_there, named_is, named_found}
use Rattle.hls_legal.proofs.Done.{unloads, IsReached as AnswersReach}
use Rattle.hls_audit_clauses.specs.declared.member.Sort.{Sort}
use Rattle.hls_audit_clauses.specs.declared.member.Sort.TheVariants as sorts
use Rattle.hls_audit_clauses.specs.declared.member.Member.{Member}
use Rattle.hls_audit_clauses.specs.Names.{member_of, is_there, sort_of, is_scheduler_sort, is_thread_sort, is_join_sort}
use Rattle.hls_audit_clauses.specs.Names.{is_scheduler, is_thread, is_join, perches_of, sits, sits_at_cpu, is_cpu}
use Rattle.hls_audit_clauses.specs.Names.{is_within, is_under}
use Rattle.hls_audit_clauses.specs.Misplaced.{is_taken, is_unknown, is_of_wrong_sort, is_occupied, is_cycle}
use Rattle.hls_audit_clauses.specs.Misplaced.{places_thread, is_wrong_spot, is_misplaced}
use Rattle.hls_audit_clauses.specs.Reasons.{IsOfNames}
use Rattle.hls_audit_clauses.proofs.Trees.{sort_at, IsTreeOf, IsNodeOf, node_found}
use Rattle.hls_audit_clauses.proofs.Perches.{IsSuchSeat, seat_found, IsSuchMember, such_member, at_cpu, IsOnSuch}
use Rattle.hls_audit_clauses.proofs.Perches.{on_such}
use Rattle.hls_audit_clauses.proofs.Placing.{found, sort_found, occupied_off, within_step, within_zero, none_of}
use Rattle.hls_chron.proofs.ConfigLaws.{kind_of_join}

not_true : (b : Bool) → not b ≡ true → b ≡ false
not_true true e = absurd (cc)
not_true false e = refl

some_named : (node : Option Node) (name : Text) → name_of node ≡ Some name → is_some node ≡ true
some_named None name e = absurd (cc)
some_named (Some node) name e = refl

-- a place that passes a test
record IsAt {X : Type 0} (test : X → Bool) (xs : List X) : Type 0 where
  pub at : ℕ
  pub x : X
  pub there : slice_get xs at ≡ Some x
  pub passes : test x ≡ true

at_any : {X : Type 0} (test : X → Bool) (xs : List X) → list_any test xs ≡ true → IsAt test xs
at_any test [] e = absurd (cc)
at_any test (x ∷ xs) e = elim (or_cases (test x) (list_any test xs) e) [
  | inl on ↦ record { at = 0; x = x; there = refl; passes = on }
  | inr later ↦
      let r = at_any test xs later in
      record { at = suc r.at; x = r.x; there = r.there; passes = r.passes }
]

-- ---- numbers of refusals

of_eleven : (r : Refusal) → number r ≡ 11 → IsOfNames r
of_eleven (refusals.NameTaken name) e = tt
of_eleven (refusals.NoSuchName name) e = tt
of_eleven (refusals.WrongSort name) e = tt
of_eleven (refusals.NotEmpty name seats) e = tt
of_eleven (refusals.Cycle name) e = tt
of_eleven (refusals.SeatsFull None seats) e = tt
of_eleven (refusals.SeatsFull (Some name) seats) e = absurd (omega (arith, e))
of_eleven (refusals.TooManyNodes most) e = absurd (omega (arith, e))
of_eleven (refusals.TooManyThreads most) e = absurd (omega (arith, e))
of_eleven (refusals.TermsUnfit name) e = absurd (omega (arith, e))
of_eleven (refusals.PriorityTaken priority) e = absurd (omega (arith, e))
of_eleven (refusals.TooDeep level) e = absurd (omega (arith, e))
of_eleven (refusals.TooManyShares shares) e = absurd (omega (arith, e))
of_eleven (refusals.KitEmpty kind used) e = absurd (omega (arith, e))
of_eleven (refusals.NoRoom free asked) e = absurd (omega (arith, e))
of_eleven (refusals.NoDerivation name depth) e = absurd (omega (arith, e))

of_twelve : (r : Refusal) → number r ≡ 12 → IsOfNames r
of_twelve (refusals.NameTaken name) e = tt
of_twelve (refusals.NoSuchName name) e = tt
of_twelve (refusals.WrongSort name) e = tt
of_twelve (refusals.NotEmpty name seats) e = tt
of_twelve (refusals.Cycle name) e = tt
of_twelve (refusals.SeatsFull None seats) e = tt
of_twelve (refusals.SeatsFull (Some name) seats) e = absurd (omega (arith, e))
of_twelve (refusals.TooManyNodes most) e = absurd (omega (arith, e))
of_twelve (refusals.TooManyThreads most) e = absurd (omega (arith, e))
of_twelve (refusals.TermsUnfit name) e = absurd (omega (arith, e))
of_twelve (refusals.PriorityTaken priority) e = absurd (omega (arith, e))
of_twelve (refusals.TooDeep level) e = absurd (omega (arith, e))
of_twelve (refusals.TooManyShares shares) e = absurd (omega (arith, e))
of_twelve (refusals.KitEmpty kind used) e = absurd (omega (arith, e))
of_twelve (refusals.NoRoom free asked) e = absurd (omega (arith, e))
of_twelve (refusals.NoDerivation name depth) e = absurd (omega (arith, e))

-- no seat is full for a command as a whole
no_eighteen : (m : Moment) (command : Command) (r : Refusal) → number r ≡ 18 → ¬ RefusesCommand m command r
no_eighteen m command (refusals.SeatsFull name seats) e f = f
no_eighteen m command (refusals.NameTaken name) e f = omega (arith, e)
no_eighteen m command (refusals.NoSuchName name) e f = omega (arith, e)
no_eighteen m command (refusals.WrongSort name) e f = omega (arith, e)
no_eighteen m command (refusals.NotEmpty name seats) e f = omega (arith, e)
no_eighteen m command (refusals.Cycle name) e f = omega (arith, e)
no_eighteen m command (refusals.TooManyNodes most) e f = omega (arith, e)
no_eighteen m command (refusals.TooManyThreads most) e f = omega (arith, e)
no_eighteen m command (refusals.TermsUnfit name) e f = omega (arith, e)
no_eighteen m command (refusals.PriorityTaken priority) e f = omega (arith, e)
no_eighteen m command (refusals.TooDeep level) e f = omega (arith, e)
no_eighteen m command (refusals.TooManyShares shares) e f = omega (arith, e)
no_eighteen m command (refusals.KitEmpty kind used) e f = omega (arith, e)
no_eighteen m command (refusals.NoRoom free asked) e f = omega (arith, e)
no_eighteen m command (refusals.NoDerivation name depth) e f = omega (arith, e)

-- ---- who sits at the processor has no other seat

differ_cpu : (spot : Spot) → grammar.Differ spot Cpu → ⊥
differ_cpu Cpu d = d
differ_cpu (Under sched terms) d = d

no_later : (spot : Spot) (perches : List Perch)
    → AllByRecursion (λ (other : Perch). grammar.Differ spot other.spot) perches → (port : ℕ)
    → slice_get (map (λ (perch : Perch). perch.spot) perches) port ≡ Some Cpu → ⊥
no_later spot [] all port e = cc
no_later spot (perch ∷ perches) all zero e =
    let same : perch.spot ≡ Cpu = cc in
    differ_cpu spot (subst (grammar.Differ spot) same all.0)
no_later spot (perch ∷ perches) all (suc port) e = no_later spot perches all.1 port e

ports_first : (perches : List Perch) → grammar.ArePorts perches → (port : ℕ)
    → slice_get (map (λ (perch : Perch). perch.spot) perches) port ≡ Some Cpu → port ≡ 0
ports_first [] are port e = absurd (cc)
ports_first (perch ∷ perches) are zero e = refl
ports_first (perch ∷ perches) are (suc port) e = absurd (no_later perch.spot perches are.1 port e)

load_first : (version : ℕ) (config : Config) (perches : List Perch) → grammar.IsLoad version config perches → (port : ℕ)
    → slice_get (map (λ (perch : Perch). perch.spot) perches) port ≡ Some Cpu → port ≡ 0
load_first version configs.Cpu perches is port e = absurd is
load_first version (configs.Join ports) perches is port e = ports_first perches is.2 port e
load_first version config (perch ∷ []) is zero e = refl
load_first version config (perch ∷ []) is (suc port) e = absurd (cc)
load_first version config _ is port e = absurd is

one_first : (perch : Perch) (port : ℕ) → slice_get (perch.spot ∷ []) port ≡ Some Cpu → port ≡ 0
one_first perch zero e = refl
one_first perch (suc port) e = absurd (cc)

cpu_first : (version : ℕ) (command : Command) → grammar.IsCommand version command → (port : ℕ)
    → slice_get (spots_of command) port ≡ Some Cpu → port ≡ 0
cpu_first version (said.Load name config perches) is port e = load_first version config perches is.1 port e
cpu_first version (said.Thread name perch) is port e = one_first perch port e
cpu_first version (said.End name) is port e = absurd (cc)
cpu_first version (said.Unload name) is port e = absurd (cc)
cpu_first version (said.Move name perch) is port e = one_first perch port e
cpu_first version (said.Wake name every burst) is port e = absurd (cc)
cpu_first version (said.Block name) is port e = absurd (cc)

-- ---- an unload

-- what may refuse an unload is of names, sorts and seats
unload_names : (m : Moment) (name : Text) (r : Refusal) → Applies m (said.Unload name) r → IsOfNames r
unload_names m name (refusals.NameTaken other) f = tt
unload_names m name (refusals.NoSuchName other) f = tt
unload_names m name (refusals.WrongSort other) f = tt
unload_names m name (refusals.NotEmpty other seats) f = tt
unload_names m name (refusals.Cycle other) f = tt
unload_names m name _ (inr f) = absurd (let e = f.first.item_is in cc)
unload_names m name (refusals.SeatsFull other seats) (inl f) = absurd f
unload_names m name (refusals.TooManyNodes most) (inl f) = absurd (let e = f.loads in cc)
unload_names m name (refusals.TooManyThreads most) (inl f) = absurd (let e = f.admits in cc)
unload_names m name (refusals.TermsUnfit other) (inl f) = absurd f
unload_names m name (refusals.PriorityTaken priority) (inl f) = absurd f
unload_names m name (refusals.TooDeep level) (inl f) = absurd f.chain
unload_names m name (refusals.TooManyShares shares) (inl f) = absurd f.chain
unload_names m name (refusals.KitEmpty kind used) (inl f) = absurd (let e = f.loads in cc)
unload_names m name (refusals.NoRoom free asked) (inl f) = absurd f
unload_names m name (refusals.NoDerivation other depth) (inl f) = absurd (let e = f.0.item_is in cc)

-- ---- what the tree finds is in the hierarchy

module _ (m : Moment) (tree : List Member) (reached : IsReached m.hierarchy) (t : IsTreeOf tree m.hierarchy) where
  abbrev h : Hierarchy
  h = m.hierarchy

  listed : IsListed h
  listed = lists_of h reached

  there_some : (name : Text) (o : Option Member) → member_of tree name ≡ o → is_there tree name ≡ true
      → is_some (node_of h name) ≡ true
  there_some name None e on =
      absurd (let off : is_there tree name ≡ false = ap (λ (o : Option Member). is_some o) e in
      let wrong : true ≡ false = sym on ∙ off in cc)
  there_some name (Some x) e on =
      let n = node_found h tree t name x e in
      ap (λ (o : Option Node). is_some o) (named_is h listed n.k name n.has) ∙ some_named (h.nodes n.k) name n.has

  none_there : (name : Text) (node : Option Node) → node_of h name ≡ node → is_there tree name ≡ false
      → node_of h name ≡ None
  none_there name None e off = e
  none_there name (Some node) e off =
      let n = named_there h name node e in
      let f = found h tree reached t n.number name n.has in
      absurd (let on : is_there tree name ≡ true = ap (λ (o : Option Member). is_some o) f.found in
      let wrong : true ≡ false = sym on ∙ off in cc)

  -- a member of a sort, and its node
  record IsSorted (name : Text) (sort : Sort) : Type 0 where
    pub node : Node
    pub there : node_of h name ≡ Some node
    pub is : sort_at (Some node) ≡ Some sort

  sorted_by : (name : Text) (sort : Sort) (k : ℕ) (node : Option Node) → HasName h k name → h.nodes k ≡ node
      → sort_at (h.nodes k) ≡ Some sort → IsSorted name sort
  sorted_by name sort k None has e is = absurd (let wrong : None ≡ Some sort = sym (ap sort_at e) ∙ is in cc)
  sorted_by name sort k (Some node) has e is = record {
    node = node;
    there = named_is h listed k name has ∙ e;
    is = sym (ap sort_at e) ∙ is;
  }

  sorted : (name : Text) (sort : Sort) (o : Option Member) → member_of tree name ≡ o
      → sort_of (member_of tree name) ≡ Some sort → IsSorted name sort
  sorted name sort None e is =
      absurd (let wrong : None ≡ Some sort = sym (ap sort_of e) ∙ is in cc)
  sorted name sort (Some x) e is =
      let n = node_found h tree t name x e in
      sorted_by name sort n.k (h.nodes n.k) n.has refl (n.is.sort ∙ sym (ap sort_of e) ∙ is)

  names_scheduler : (name : Text) (o : Option Sort) → sort_of (member_of tree name) ≡ o
      → is_scheduler_sort (sort_of (member_of tree name)) ≡ true → NamesScheduler h name
  names_scheduler name None e on = absurd (let wrong = sym (ap is_scheduler_sort e) ∙ on in cc)
  names_scheduler name (Some sorts.Thread) e on = absurd (let wrong = sym (ap is_scheduler_sort e) ∙ on in cc)
  names_scheduler name (Some (sorts.Scheduler config)) e on =
      by (sorted name (sorts.Scheduler config) (member_of tree name) refl e).node
      (sorted name (sorts.Scheduler config) (member_of tree name) refl e).there
      (sorted name (sorts.Scheduler config) (member_of tree name) refl e).is
    where
      by : (node : Node) → node_of h name ≡ Some node → sort_at (Some node) ≡ Some (sorts.Scheduler config)
          → NamesScheduler h name
      by (Loaded s) there is = record { scheduler = s; there = there }
      by (Admitted x) there is = absurd (cc)

  names_thread : (name : Text) (o : Option Sort) → sort_of (member_of tree name) ≡ o
      → is_thread_sort (sort_of (member_of tree name)) ≡ true → NamesThread h name
  names_thread name None e on = absurd (let wrong = sym (ap is_thread_sort e) ∙ on in cc)
  names_thread name (Some (sorts.Scheduler config)) e on =
      absurd (let wrong = sym (ap is_thread_sort e) ∙ on in cc)
  names_thread name (Some sorts.Thread) e on =
      by (sorted name sorts.Thread (member_of tree name) refl e).node
      (sorted name sorts.Thread (member_of tree name) refl e).there
      (sorted name sorts.Thread (member_of tree name) refl e).is
    where
      by : (node : Node) → node_of h name ≡ Some node → sort_at (Some node) ≡ Some sorts.Thread
          → NamesThread h name
      by (Loaded s) there is = absurd (cc)
      by (Admitted x) there is = record { thread = x; there = there }

  names_join : (name : Text) (o : Option Sort) → sort_of (member_of tree name) ≡ o
      → is_join_sort (sort_of (member_of tree name)) ≡ true → NamesJoin h name
  names_join name None e on = absurd (let wrong = sym (ap is_join_sort e) ∙ on in cc)
  names_join name (Some sorts.Thread) e on = absurd (let wrong = sym (ap is_join_sort e) ∙ on in cc)
  names_join name (Some (sorts.Scheduler config)) e on =
      by (sorted name (sorts.Scheduler config) (member_of tree name) refl e).node
      (sorted name (sorts.Scheduler config) (member_of tree name) refl e).there
      (sorted name (sorts.Scheduler config) (member_of tree name) refl e).is
    where
      by : (node : Node) → node_of h name ≡ Some node → sort_at (Some node) ≡ Some (sorts.Scheduler config)
          → NamesJoin h name
      by (Loaded s) there is = record {
        place = record { scheduler = s; there = there };
        kind = kind_of_join s.config (ap is_join_sort is ∙ sym (ap is_join_sort e) ∙ on);
      }
      by (Admitted x) there is = absurd (cc)

  -- ---- who is below

  record IsFoundUnder (k : ℕ) (name : Text) : Type 0 where
    pub d : ℕ
    pub has : HasName h d name
    pub count : ℕ
    pub under : IsUnderBy h k count d

  under_at : (k count d p : ℕ) → d ≡ p → IsUnderBy h k count d → IsUnderBy h k count p
  under_at k count d p same under = subst (IsUnderBy h k count) same under

  module _ (k : ℕ) (top : Text) (is_top : HasName h k top) where
    itself : (name : Text) → bytes_eq name top ≡ true → IsFoundUnder k name
    itself name e =
        let same : name ≡ top = (bytes_eq-Decides name top).0 e in
        record { d = k; has = is_top ∙ ap (λ (n : Text). Some n) (sym same); count = 0; under = refl }

    under_in : (steps : ℕ) (name : Text) → is_within tree steps top name ≡ true → IsFoundUnder k name
    under_in zero name e = itself name (sym (within_zero tree top name) ∙ e)
    under_in (suc steps) name e =
        elim (or_cases (bytes_eq name top) (sits (is_within tree steps top) (perches_of (member_of tree name)))
        (sym (within_step tree steps top name) ∙ e)) [
          | inl same ↦ itself name same
          | inr up ↦ by (λ sched e. under_in steps sched e) (member_of tree name) refl up
        ]
      where
        by : ((sched : Text) → is_within tree steps top sched ≡ true → IsFoundUnder k sched)
            → (o : Option Member) → member_of tree name ≡ o
            → sits (is_within tree steps top) (perches_of (member_of tree name)) ≡ true → IsFoundUnder k name
        by further None f up =
            absurd (let wrong : false ≡ true =
            sym (ap (λ (o : Option Member). sits (is_within tree steps top) (perches_of o)) f) ∙ up in cc)
        by further (Some x) f up =
            let test = is_within tree steps top in
            let n : IsNodeOf h name x = node_found h tree t name x f in
            let on : IsSuchSeat h (is_on test) (seats_of (h.nodes n.k)) =
            seat_found h (is_on test) (seats_of (h.nodes n.k)) x.perches n.is.perches
            (sym (ap (λ (o : Option Member). sits test (perches_of o)) f) ∙ up) in
            let at : IsOnSuch h test on.seat.place =
            on_such h test on.seat.place on.spot on.place on.passes in
            let r = further at.sched at.passes in
            let it : r.d ≡ at.p = listed.names r.d at.p at.sched r.has at.named in
            record {
              d = n.k;
              has = n.has;
              count = suc r.count;
              under = (
                at.p,
                record {
                  port = on.port;
                  seat = on.seat;
                  slot = at.slot;
                  sits = on.sits;
                  at_place = at.at_place;
                },
                under_at k r.count r.d at.p it r.under,
              );
            }

  -- ---- a command that nothing of this sort refuses

  module _ (command : Command) (none : (r : Refusal) → IsOfNames r → ¬ Applies m command r) where
    taken_free : (name : Option Text) → new_name command ≡ name → is_taken tree (new_name command) ≡ false
    taken_free None e = ap (is_taken tree) e
    taken_free (Some name) e =
        ap (is_taken tree) e
        ∙ false_from_ne_true (is_there tree name)
        (λ on. none (refusals.NameTaken name) tt (inl (record {
          new = e;
          taken = there_some name (member_of tree name) refl on;
        })))

    unknown_free : (name : Option Text) → old_name command ≡ name → is_unknown tree (old_name command) ≡ false
    unknown_free None e = ap (is_unknown tree) e
    unknown_free (Some name) e =
        ap (is_unknown tree) e
        ∙ false_from_ne_true (not (is_there tree name))
        (λ on. none (refusals.NoSuchName name) tt (inl (record {
          old = e;
          unknown = none_there name (node_of h name) refl (not_true (is_there tree name) on);
        })))

  -- a name that stands for a scheduler, a thread or a join
  scheduler_named : (name : Text) → is_scheduler tree name ≡ true → NamesScheduler h name
  scheduler_named name on = names_scheduler name (sort_of (member_of tree name)) refl on

  thread_named : (name : Text) → is_thread tree name ≡ true → NamesThread h name
  thread_named name on = names_thread name (sort_of (member_of tree name)) refl on

  join_named : (name : Text) → is_join tree name ≡ true → NamesJoin h name
  join_named name on = names_join name (sort_of (member_of tree name)) refl on

  abbrev IsFree : Command → Type 0
  IsFree command = (r : Refusal) → IsOfNames r → ¬ Applies m command r

  sort_free : (command : Command) → IsFree command → is_of_wrong_sort tree command ≡ false
  sort_free (said.Load name config perches) none = refl
  sort_free (said.Thread name perch) none = refl
  sort_free (said.End name) none = false_from_ne_true (is_scheduler tree name)
      (λ on. none (refusals.WrongSort (Some name)) tt (inl (record { old = refl; wrong = scheduler_named name on })))
  sort_free (said.Unload name) none = false_from_ne_true (is_thread tree name)
      (λ on. none (refusals.WrongSort (Some name)) tt (inl (record { old = refl; wrong = thread_named name on })))
  sort_free (said.Move name perch) none = false_from_ne_true (is_join tree name)
      (λ on. none (refusals.WrongSort (Some name)) tt (inl (record { old = refl; wrong = join_named name on })))
  sort_free (said.Wake name every burst) none = false_from_ne_true (is_scheduler tree name)
      (λ on. none (refusals.WrongSort (Some name)) tt (inl (record { old = refl; wrong = scheduler_named name on })))
  sort_free (said.Block name) none = false_from_ne_true (is_scheduler tree name)
      (λ on. none (refusals.WrongSort (Some name)) tt (inl (record { old = refl; wrong = scheduler_named name on })))

  occupied_free : AnswersReach h → (command : Command) → IsFree command → is_occupied tree command ≡ false
  occupied_free reach (said.Load name config perches) none = refl
  occupied_free reach (said.Thread name perch) none = refl
  occupied_free reach (said.End name) none = refl
  occupied_free reach (said.Unload name) none =
      let may = unloads m reach name (λ r f. none r (unload_names m name r f) f) in
      occupied_off h tree reached t (said.Unload name) may.step may.does may.can
  occupied_free reach (said.Move name perch) none = refl
  occupied_free reach (said.Wake name every burst) none = refl
  occupied_free reach (said.Block name) none = refl

  cycle_spot : (name : Text) (perch : Perch) → IsFree (said.Move name perch) → (spot : Spot) → perch.spot ≡ spot
      → (is_scheduler tree name && is_on (is_under tree name) spot) ≡ true → ⊥
  cycle_spot name perch none Cpu e on =
      let wrong = (and_parts (is_scheduler tree name) false on).1 in
      cc
  cycle_spot name perch none (Under sched terms) e on =
      let both = and_parts (is_scheduler tree name) (is_under tree name sched) on in
      let top = scheduler_named name both.0 in
      let n = named_there h name (Loaded top.scheduler) top.there in
      let r : IsFoundUnder n.number sched = under_in n.number name n.has (length tree) sched both.1 in
      none (refusals.Cycle sched) tt (inl (record {
        mover = name;
        terms = terms;
        perch = perch;
        moves = refl;
        to = e;
        scheduler = top;
        moved = n.number;
        place = r.d;
        mover_is = n.found;
        place_is = named_found h listed r.d sched r.has;
        under = (r.count, r.under);
      }))

  cycle_free : (command : Command) → IsFree command → is_cycle tree command ≡ false
  cycle_free (said.Load name config perches) none = refl
  cycle_free (said.Thread name perch) none = refl
  cycle_free (said.End name) none = refl
  cycle_free (said.Unload name) none = refl
  cycle_free (said.Move name perch) none =
      false_from_ne_true (is_scheduler tree name && is_on (is_under tree name) perch.spot)
      (cycle_spot name perch none perch.spot refl)
  cycle_free (said.Wake name every burst) none = refl
  cycle_free (said.Block name) none = refl

  -- ---- places

  thread_there : (command : Command) → places_thread tree command ≡ true → PlacesThread h command
  thread_there (said.Load name config perches) on = absurd (cc)
  thread_there (said.Thread name perch) on = tt
  thread_there (said.End name) on = absurd (cc)
  thread_there (said.Unload name) on = absurd (cc)
  thread_there (said.Move name perch) on = thread_named name on
  thread_there (said.Wake name every burst) on = absurd (cc)
  thread_there (said.Block name) on = absurd (cc)

  root_some : list_any sits_at_cpu tree ≡ true → is_some h.root ≡ true
  root_some any =
      let s : IsSuchMember h sits_at_cpu = such_member h sits_at_cpu t.ks tree t.members any in
      let on : IsSuchSeat h is_cpu (seats_of (h.nodes s.d)) =
      seat_found h is_cpu (seats_of (h.nodes s.d)) s.m.perches s.is.perches s.passes in
      ap (λ (o : Option ℕ). is_some o) ((seated_of h reached).rooted s.d on.port
      (record { seat = on.seat; sits = on.sits; at_place = at_cpu h on.seat.place on.spot on.place on.passes }))

  module _ (command : Command) (none : (r : Refusal) → IsOfNames r → ¬ Applies m command r) where
    -- no place has a refusal of a number of which each refusal is of names
    no_place : (n : ℕ) → ((r : Refusal) → number r ≡ n → IsOfNames r) → (room port : ℕ) → port < room
        → (spot : Spot) → slice_get (spots_of command) port ≡ Some spot → (r : Refusal) → number r ≡ n
        → ¬ RefusesPlace h command spot r
    no_place n of zero port lt spot e r is f = omega (arith, lt)
    no_place n of (suc room) port lt spot e r is f = none r (of r is) (inr (record {
      first = record {
        at = port;
        item = spot;
        item_is = e;
        tells = record { refuses = f; number_is = refl };
        first = λ before other some earlier at by.
            no_place n of room before (omega (arith, lt, earlier)) other at some (by.number_is ∙ is) by.refuses;
      };
      only = λ other same g. none other (of other (same ∙ is)) (inl g);
    }))

    no_root : (version : ℕ) → grammar.IsCommand version command → (port : ℕ)
        → slice_get (spots_of command) port ≡ Some Cpu → is_some h.root ≡ true → ⊥
    no_root version is port e taken =
        let first = cpu_first version command is port e in
        none (refusals.SeatsFull None 1) tt (inr (record {
          first = record {
            at = 0;
            item = Cpu;
            item_is = subst (λ (p : ℕ). slice_get (spots_of command) p ≡ Some Cpu) first e;
            tells = record {
              refuses = record { place = refl; taken = taken; seats_are = refl };
              number_is = refl;
            };
            first = λ before other some earlier at by. omega (arith, earlier);
          };
          only = λ other same g. no_eighteen m command other same g;
        }))

    spot_free : (version : ℕ) → grammar.IsCommand version command → (port : ℕ) (spot : Spot)
        → slice_get (spots_of command) port ≡ Some spot
        → is_wrong_spot tree command spot ≡ true → ⊥
    spot_free version is port Cpu e on =
        elim (or_cases (places_thread tree command) (list_any sits_at_cpu tree) on) [
          | inl thread ↦
              no_place 12 of_twelve (port + 1) port (omega arith) Cpu e (refusals.WrongSort None) refl
              (thread_there command thread)
          | inr taken ↦ no_root version is port e (root_some taken)
        ]
    spot_free version is port (Under sched terms) e on =
        by (node_of h sched) refl
      where
        by : (node : Option Node) → node_of h sched ≡ node → ⊥
        by None f =
            no_place 11 of_eleven (port + 1) port (omega arith) (Under sched terms) e (refusals.NoSuchName sched)
            refl (record { place = refl; unknown = f })
        by (Some (Admitted x)) f =
            no_place 12 of_twelve (port + 1) port (omega arith) (Under sched terms) e
            (refusals.WrongSort (Some sched)) refl (refl, record { thread = x; there = f })
        by (Some (Loaded s)) f =
            let n = named_there h sched (Loaded s) f in
            let there : is_scheduler tree sched ≡ true =
            ap is_scheduler_sort (sort_found h tree reached t n.number sched n.has
            ∙ ap sort_at n.there) in
            let wrong : true ≡ false = sym there ∙ not_true (is_scheduler tree sched) on in
            cc

    spots_free : (version : ℕ) → grammar.IsCommand version command
        → list_any (is_wrong_spot tree command) (spots_of command) ≡ false
    spots_free version is =
        false_from_ne_true (list_any (is_wrong_spot tree command) (spots_of command))
        (λ on. let r = at_any (is_wrong_spot tree command) (spots_of command) on in
        spot_free version is r.at r.x r.there r.passes)

    pub allowed : AnswersReach h → (version : ℕ) → grammar.IsCommand version command → is_misplaced tree command ≡ false
    allowed reach version is =
        none_of h tree reached t (is_taken tree (new_name command)) (is_unknown tree (old_name command))
        (is_of_wrong_sort tree command) (is_occupied tree command) (is_cycle tree command)
        (list_any (is_wrong_spot tree command) (spots_of command))
        (taken_free command none (new_name command) refl) (unknown_free command none (old_name command) refl)
        (sort_free command none) (occupied_free reach command none) (cycle_free command none) (spots_free version is)
