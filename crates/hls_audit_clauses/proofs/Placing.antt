-- A command that may be done is one that the tree of names allows.
use Rattle.std.proofs.Common.{◌≡◌, ◌≢◌, ℕ, zero, suc, inl, inr, List, [], ◌∷◌, Bool, true, false, not, ◌||◌}
use Rattle.std.proofs.Common.{map, slice_get, take, refl, sym, ap, ◌∙◌, subst}
use Rattle.std.specs.Prelude.{Option, Some, None, is_some}
use Rattle.std.specs.List.{list_any}
use Rattle.std.specs.Str.{bytes_eq}
use Rattle.std.proofs.lemmas.Bool.{cases_Bool, or_cases, and_right}
use Rattle.std.proofs.lemmas.Slice.Eq.{bytes_eq-Decides}
use Rattle.hls_text.specs.Lines.{Text}
use Rattle.hls_scenario.specs.declared.scenario.Spot.{Spot}
use Rattle.hls_scenario.specs.declared.scenario.Spot.TheVariants.{Cpu, Under}
use Rattle.hls_scenario.specs.declared.scenario.Perch.{Perch}
use Rattle.hls_scenario.specs.declared.scenario.Command.{Command}
use Rattle.hls_scenario.specs.declared.scenario.Command.TheVariants as said
use Rattle.hls_report_text.specs.declared.report.Answer.{Answer}
use Rattle.hls_report_text.specs.declared.report.Answer.TheVariants.{Done, Refused}
use Rattle.hls_report_text.specs.Content.{Content}
use Rattle.hls_machine.specs.Hierarchy.{Hierarchy, Node, Loaded, Admitted, Place, Processor, At, Seat, name_of}
use Rattle.hls_machine.specs.Hierarchy.{seats_of, start}
use Rattle.hls_machine.specs.Steps.{Step, Load, Admit, End, Unload, Move, Rouse, Block}
use Rattle.hls_machine.specs.Legal.{Can, IsBelow, IsThread, CanUnload, MayMoveTo, MayTake, MayTakeAt}
use Rattle.hls_machine.specs.Legal.{IsLegal, NotBelow}
use Rattle.hls_legal.specs.Under.{is_on}
use Rattle.hls_legal.specs.Tells.{HasName, IsSpot, ArePerches, Does, Answers, Tells}
use Rattle.hls_legal.specs.Commands.{is_done}
use Rattle.hls_legal.proofs.Told.{Unique}
use Rattle.hls_legal.proofs.Reached.{IsReached, listed as lists_of, seated as seated_of}
use Rattle.hls_legal.specs.Moment.{Boxes, new_name, old_name, spots_of}
use Rattle.hls_legal.specs.Along.{AnswersAlong}
use Rattle.hls_audit_clauses.specs.declared.member.Sort.{Sort}
use Rattle.hls_audit_clauses.specs.declared.member.Member.{Member}
use Rattle.hls_audit_clauses.specs.Names.{member_of, is_there, sort_of, is_scheduler_sort, is_thread_sort, is_join_sort}
use Rattle.hls_audit_clauses.specs.Names.{is_scheduler, perches_of, sits, sits_on, sits_at_cpu, is_cpu}
use Rattle.hls_audit_clauses.specs.Names.{is_within, is_under}
use Rattle.hls_audit_clauses.specs.Misplaced.{is_taken, is_unknown, is_of_wrong_sort, is_occupied, is_cycle}
use Rattle.hls_audit_clauses.specs.Misplaced.{places_thread, is_wrong_spot, is_misplaced}
use Rattle.hls_audit_clauses.specs.Clauses.{IsMisplacedAt}
use Rattle.hls_audit_clauses.proofs.Trees.{sort_at, IsTreeOf, IsFoundMember, member_found, node_found}
use Rattle.hls_audit_clauses.proofs.TreeSteps.{empty_seat}
use Rattle.hls_audit_clauses.proofs.TreeRuns.{IsCommandStep, command_step}
use Rattle.hls_audit_clauses.proofs.Perches.{IsSuchSeat, seat_found, IsSuchMember, such_member, at_cpu, IsOnSuch}
use Rattle.hls_audit_clauses.proofs.Perches.{on_such}
use Rattle.hls_chron.proofs.ConfigLaws.{no_join_config}

pub within_step : (tree : List Member) (steps : ℕ) (above name : Text)
    → is_within tree (suc steps) above name
    ≡ (bytes_eq name above || sits (is_within tree steps above) (perches_of (member_of tree name)))
unfolding is_within
within_step tree steps above name = refl

pub within_zero : (tree : List Member) (above name : Text) → is_within tree 0 above name ≡ bytes_eq name above
unfolding is_within
within_zero tree above name = refl

-- a name that nobody has is not there
pub absent_by : (h : Hierarchy) (tree : List Member) → IsTreeOf tree h → (name : Text)
    → ((k : ℕ) → HasName h k name → ⊥) → (found : Option Member) → member_of tree name ≡ found
    → is_there tree name ≡ false
absent_by h tree t name nobody None e = ap (λ (o : Option Member). is_some o) e
absent_by h tree t name nobody (Some m) e =
    let n = node_found h tree t name m e in
    absurd (nobody n.k n.has)

no_join : (place : Place) (node : Option Node) → MayMoveTo place node → is_join_sort (sort_at node) ≡ false
no_join place None may = absurd may
no_join place (Some (Loaded s)) may = no_join_config s.config may
no_join place (Some (Admitted t)) may = refl

no_thread : (node : Option Node) → MayMoveTo Processor node → is_thread_sort (sort_at node) ≡ false
no_thread None may = absurd may
no_thread (Some (Loaded s)) may = refl
no_thread (Some (Admitted t)) may = absurd (may refl)

one_node : (h : Hierarchy) → Unique h.nodes → (p k : ℕ) (sched name : Text) → name ≡ sched → HasName h p sched
    → HasName h k name → p ≡ k
one_node h unique p k sched name same named has =
    unique p k name (named ∙ ap (λ (n : Text). Some n) (sym same)) has

same_slot : (place : Place) (p k slot : ℕ) → place ≡ At p slot → p ≡ k → place ≡ At k slot
same_slot place p k slot at it = at ∙ ap (λ x. At x slot) it

module _ (h : Hierarchy) (tree : List Member) (reached : IsReached h) (t : IsTreeOf tree h) where
  unique : Unique h.nodes
  unique = (lists_of h reached).names

  pub found : (k : ℕ) (name : Text) → HasName h k name → IsFoundMember h tree name k
  found k name has = member_found h tree unique t k name has

  pub sort_found : (k : ℕ) (name : Text) → HasName h k name → sort_of (member_of tree name) ≡ sort_at (h.nodes k)
  sort_found k name has =
      let f = found k name has in
      ap sort_of f.found ∙ sym f.is.sort

  -- ---- names

  fresh : (name new : Text) → new ≡ name → ((k : ℕ) → name_of (h.nodes k) ≢ Some new) → is_there tree name ≡ false
  fresh name new same none =
      absent_by h tree t name (λ k has. none k (has ∙ ap (λ (n : Text). Some n) (sym same)))
      (member_of tree name) refl

  taken_off : (command : Command) (step : Step) → Does h command step → Can h step
      → is_taken tree (new_name command) ≡ false
  taken_off (said.Load name config perches) (Load k new set spare_ticks spare_marks held) does can =
      fresh name new does.0 can.0.new.fresh
  taken_off (said.Thread name perch) (Admit k new seat) does can = fresh name new does.0 can.new.fresh
  taken_off (said.End name) step does can = refl
  taken_off (said.Unload name) step does can = refl
  taken_off (said.Move name perch) step does can = refl
  taken_off (said.Wake name every burst) step does can = refl
  taken_off (said.Block name) step does can = refl
  taken_off _ _ does can = absurd does

  known : (k : ℕ) (name : Text) → HasName h k name → is_unknown tree (Some name) ≡ false
  known k name has = ap (λ (o : Option Member). not (is_some o)) (found k name has).found

  unknown_off : (command : Command) (step : Step) → Does h command step → is_unknown tree (old_name command) ≡ false
  unknown_off (said.Load name config perches) step does = refl
  unknown_off (said.Thread name perch) step does = refl
  unknown_off (said.End name) (End k) does = known k name does
  unknown_off (said.Unload name) (Unload k) does = known k name does
  unknown_off (said.Move name perch) (Move k seat below) does = known k name does.0
  unknown_off (said.Wake name every burst) (Rouse k how) does = known k name does.0
  unknown_off (said.Block name) (Block k) does = known k name does
  unknown_off _ _ does = absurd does

  -- ---- sorts

  thread_sort : (k : ℕ) (name : Text) → HasName h k name → IsThread (h.nodes k) → is_scheduler tree name ≡ false
  thread_sort k name has is = ap is_scheduler_sort (sort_found k name has ∙ ap sort_at is.there)

  sort_off : (command : Command) (step : Step) → Does h command step → Can h step
      → is_of_wrong_sort tree command ≡ false
  sort_off (said.Load name config perches) step does can = refl
  sort_off (said.Thread name perch) step does can = refl
  sort_off (said.End name) (End k) does can = thread_sort k name does can
  sort_off (said.Unload name) (Unload k) does can =
      ap is_thread_sort (sort_found k name does ∙ ap sort_at can.there)
  sort_off (said.Move name perch) (Move k seat below) does can =
      ap is_join_sort (sort_found k name does.0) ∙ no_join seat.place (h.nodes k) can.0.sort
  sort_off (said.Wake name every burst) (Rouse k how) does can = thread_sort k name does.0 can
  sort_off (said.Block name) (Block k) does can = thread_sort k name does can
  sort_off _ _ does can = absurd does

  -- ---- seats on what goes

  nobody_sits : (k : ℕ) (name : Text) → HasName h k name → CanUnload (h.nodes k)
      → list_any (sits_on name) tree ≡ true → ⊥
  nobody_sits k name has can any =
      let s : IsSuchMember h (sits_on name) = such_member h (sits_on name) t.ks tree t.members any in
      let on : IsSuchSeat h (is_on (bytes_eq name)) (seats_of (h.nodes s.d)) =
      seat_found h (is_on (bytes_eq name)) (seats_of (h.nodes s.d)) s.m.perches s.is.perches s.passes in
      let at : IsOnSuch h (bytes_eq name) on.seat.place =
      on_such h (bytes_eq name) on.seat.place on.spot on.place on.passes in
      let same : name ≡ at.sched = (bytes_eq-Decides name at.sched).0 at.passes in
      let it : at.p ≡ k = one_node h unique at.p k at.sched name same at.named has in
      empty_seat h reached s.d on.port on.seat at.slot k can on.sits
      (same_slot on.seat.place at.p k at.slot at.at_place it)

  pub occupied_off : (command : Command) (step : Step) → Does h command step → Can h step
      → is_occupied tree command ≡ false
  occupied_off (said.Load name config perches) step does can = refl
  occupied_off (said.Thread name perch) step does can = refl
  occupied_off (said.End name) step does can = refl
  occupied_off (said.Unload name) (Unload k) does can = elim (cases_Bool (list_any (sits_on name) tree)) [
    | inl on ↦ absurd (nobody_sits k name does can on)
    | inr off ↦ off
  ]
  occupied_off (said.Move name perch) step does can = refl
  occupied_off (said.Wake name every burst) step does can = refl
  occupied_off (said.Block name) step does can = refl
  occupied_off _ _ does can = absurd does

  -- ---- who is below

  module _ (k : ℕ) (top : Text) (is_top : HasName h k top) (below : ℕ → Bool) (is : IsBelow h k below) where
    top_below : (d : ℕ) (name : Text) → HasName h d name → bytes_eq name top ≡ true → below d ≡ true
    top_below d name named e =
        let same : name ≡ top = (bytes_eq-Decides name top).0 e in
        let it : d ≡ k = unique d k top (named ∙ ap (λ (n : Text). Some n) same) is_top in
        ap below it ∙ is.itself

    below_by_tree : (steps d : ℕ) (name : Text) → HasName h d name → is_within tree steps top name ≡ true
        → below d ≡ true
    below_by_tree zero d name named e = top_below d name named (sym (within_zero tree top name) ∙ e)
    below_by_tree (suc steps) d name named e =
        let test = is_within tree steps top in
        let f = found d name named in
        elim (or_cases (bytes_eq name top) (sits test (perches_of (member_of tree name)))
        (sym (within_step tree steps top name) ∙ e)) [
          | inl same ↦ top_below d name named same
          | inr up ↦
              let any : sits test f.m.perches ≡ true =
              sym (ap (λ (o : Option Member). sits test (perches_of o)) f.found) ∙ up in
              let on : IsSuchSeat h (is_on test) (seats_of (h.nodes d)) =
              seat_found h (is_on test) (seats_of (h.nodes d)) f.m.perches f.is.perches any in
              let at : IsOnSuch h test on.seat.place =
              on_such h test on.seat.place on.spot on.place on.passes in
              is.down d at.p (record {
                port = on.port;
                seat = on.seat;
                slot = at.slot;
                sits = on.sits;
                at_place = at.at_place;
              }) (below_by_tree steps at.p at.sched at.named at.passes)
        ]

    spot_off : (place : Place) (spot : Spot) → IsSpot h place spot → NotBelow below place
        → is_on (is_under tree top) spot ≡ false
    spot_off Processor Cpu at away = refl
    spot_off Processor (Under sched terms) at away = absurd at
    spot_off (At p slot) Cpu at away = absurd at
    spot_off (At p slot) (Under sched terms) at away = elim (cases_Bool (is_under tree top sched)) [
      | inl on ↦
          (let wrong : true ≡ false = sym (below_by_tree _ p sched at on) ∙ away in absurd (cc))
      | inr off ↦ off
    ]

  cycle_off : (command : Command) (step : Step) → Does h command step → Can h step → is_cycle tree command ≡ false
  cycle_off (said.Load name config perches) step does can = refl
  cycle_off (said.Thread name perch) step does can = refl
  cycle_off (said.End name) step does can = refl
  cycle_off (said.Unload name) step does can = refl
  cycle_off (said.Move name perch) (Move k seat below) does can =
      and_right (is_scheduler tree name) (is_on (is_under tree name) perch.spot)
      (spot_off k name does.0 below can.0.under seat.place perch.spot does.1.place can.0.acyclic)
  cycle_off (said.Wake name every burst) step does can = refl
  cycle_off (said.Block name) step does can = refl
  cycle_off _ _ does can = absurd does

  -- ---- spots

  nobody_at_cpu : h.root ≡ None → list_any sits_at_cpu tree ≡ true → ⊥
  nobody_at_cpu free any =
      let s : IsSuchMember h sits_at_cpu = such_member h sits_at_cpu t.ks tree t.members any in
      let on : IsSuchSeat h is_cpu (seats_of (h.nodes s.d)) =
      seat_found h is_cpu (seats_of (h.nodes s.d)) s.m.perches s.is.perches s.passes in
      let root = (seated_of h reached).rooted s.d on.port
      (record { seat = on.seat; sits = on.sits; at_place = at_cpu h on.seat.place on.spot on.place on.passes }) in
      let wrong : None ≡ Some s.d = sym free ∙ root in
      cc

  cpu_free : h.root ≡ None → list_any sits_at_cpu tree ≡ false
  cpu_free free = elim (cases_Bool (list_any sits_at_cpu tree)) [
    | inl on ↦ absurd (nobody_at_cpu free on)
    | inr off ↦ off
  ]

  spot_right : (command : Command) (left : List Seat) (seat : Seat) (place : Place) (spot : Spot)
      → IsSpot h place spot → MayTakeAt h left seat place
      → (place ≡ Processor → places_thread tree command ≡ false) → is_wrong_spot tree command spot ≡ false
  spot_right command left seat Processor Cpu is may bars =
      ap (λ b. b || list_any sits_at_cpu tree) (bars refl) ∙ cpu_free may.free
  spot_right command left seat Processor (Under sched terms) is may bars = absurd is
  spot_right command left seat (At p slot) Cpu is may bars = absurd is
  spot_right command left seat (At p slot) (Under sched terms) is may bars =
      ap (λ (s : Option Sort). not (is_scheduler_sort s)) (sort_found p sched is ∙ ap sort_at may.there)

  spots_right : (command : Command) (left seats : List Seat) (perches : List Perch) → ArePerches h seats perches
      → ((port : ℕ) (seat : Seat) → slice_get seats port ≡ Some seat → MayTake h left seat)
      → ((port : ℕ) (seat : Seat) → slice_get seats port ≡ Some seat → seat.place ≡ Processor
      → places_thread tree command ≡ false)
      → list_any (is_wrong_spot tree command) (map (λ (perch : Perch). perch.spot) perches) ≡ false
  spots_right command left [] [] are may bars = refl
  spots_right command left [] (perch ∷ perches) are may bars = absurd are
  spots_right command left (seat ∷ seats) [] are may bars = absurd are
  spots_right command left (seat ∷ seats) (perch ∷ perches) are may bars =
      ap (λ b. b || list_any (is_wrong_spot tree command) (map (λ (p : Perch). p.spot) perches))
      (spot_right command left seat seat.place perch.spot are.0.place (may 0 seat refl).free (bars 0 seat refl))
      ∙ spots_right command left seats perches are.1 (λ port s e. may (suc port) s e)
      (λ port s e. bars (suc port) s e)

  spots_off : (command : Command) (step : Step) → Does h command step → Can h step
      → list_any (is_wrong_spot tree command) (spots_of command) ≡ false
  spots_off (said.Load name config perches) (Load k new set spare_ticks spare_marks held) does can =
      spots_right (said.Load name config perches) [] held perches does.2 can.0.places.take (λ port s e at. refl)
  spots_off (said.Thread name perch) (Admit k new seat) does can =
      spots_right (said.Thread name perch) [] (seat ∷ []) (perch ∷ []) (does.1, tt) can.places.take
      (λ port s e at. absurd (off_cpu port s e at))
    where
      off_cpu : (port : ℕ) (s : Seat) → slice_get (seat ∷ []) port ≡ Some s → s.place ≡ Processor → ⊥
      off_cpu zero s e at = can.place (let same : seat ≡ s = cc in ap (λ (x : Seat). x.place) same ∙ at)
      off_cpu (suc port) s e at = cc
  spots_off (said.End name) step does can = refl
  spots_off (said.Unload name) step does can = refl
  spots_off (said.Move name perch) (Move k seat below) does can =
      ap (λ b. b || false)
      (spot_right (said.Move name perch) (seats_of (h.nodes k)) seat seat.place perch.spot does.1.place
      can.0.take.free
      (λ at. ap is_thread_sort (sort_found k name does.0)
      ∙ no_thread (h.nodes k) (subst (λ (p : Place). MayMoveTo p (h.nodes k)) at can.0.sort)))
  spots_off (said.Wake name every burst) step does can = refl
  spots_off (said.Block name) step does can = refl
  spots_off _ _ does can = absurd does

  -- ---- all of it

  pub none_of : (a b c d e f : Bool) → a ≡ false → b ≡ false → c ≡ false → d ≡ false → e ≡ false → f ≡ false
      → (a || b || c || d || e || f) ≡ false
  none_of a b c d e f p q r s u v =
      ap (λ x. x || b || c || d || e || f) p ∙ ap (λ x. false || x || c || d || e || f) q
      ∙ ap (λ x. false || false || x || d || e || f) r ∙ ap (λ x. false || false || false || x || e || f) s
      ∙ ap (λ x. false || false || false || false || x || f) u
      ∙ ap (λ x. false || false || false || false || false || x) v

  pub is_placed : (command : Command) (step : Step) → Does h command step → Can h step
      → is_misplaced tree command ≡ false
  is_placed command step does can =
      none_of (is_taken tree (new_name command)) (is_unknown tree (old_name command))
      (is_of_wrong_sort tree command) (is_occupied tree command) (is_cycle tree command)
      (list_any (is_wrong_spot tree command) (spots_of command))
      (taken_off command step does can) (unknown_off command step does) (sort_off command step does can)
      (occupied_off command step does can) (cycle_off command step does can) (spots_off command step does can)

-- what was done was done by a step
pub done_does : (h : Hierarchy) (command : Command) (answer : Answer) (step : Step) → is_done answer ≡ true
    → Answers h command answer step → Does h command step
done_does h command (Done seats) step done does = does
done_does h command (Refused refusal) step done does = absurd (cc)

pub placed_kept : (c : Content) (boxes : Boxes) (run : List Step) → IsLegal start run → Tells c run
    → AnswersAlong c.depth start boxes run c.answered → (t : ℕ) → ¬ IsMisplacedAt c t
placed_kept c boxes run legal tells answers t f =
    let s : IsCommandStep c.depth (take f.at c.answered) f.a =
    command_step c boxes run legal tells answers f.at f.a f.command.there in
    let right = is_placed s.h _ s.reached s.tree f.a.command s.step
    (done_does s.h f.a.command f.a.answer s.step f.command.done s.does) s.can in
    let wrong : true ≡ false = sym f.misplaced ∙ right in
    cc
