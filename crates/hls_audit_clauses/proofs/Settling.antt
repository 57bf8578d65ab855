-- The seats that a command takes or derives anew are the same in the tree of names and in the hierarchy.
use Rattle.std.proofs.Common.{◌≡◌, ℕ, suc, ◌+◌, List, [], ◌∷◌, ◌++◌, ◌==◌, Bool, true, false}
use Rattle.std.proofs.Common.{if◌then◌else◌, map, slice_get, take, refl, sym, ap, ◌∙◌, subst, arith}
use Rattle.std.specs.Prelude.{Option, Some, None, flat_map, option_and_then}
use Rattle.std.specs.Str.{bytes_eq}
use Rattle.std.proofs.lemmas.Grind.{flat_map-append}
use Rattle.hls_text.specs.Lines.{Text}
use Rattle.hls_chron.specs.declared.plain.Config.{Config}
use Rattle.hls_chron.specs.declared.plain.Terms.{Terms}
use Rattle.hls_guarantee.specs.declared.Guarantee.{Guarantee}
use Rattle.hls_scenario.specs.declared.scenario.Spot.{Spot}
use Rattle.hls_scenario.specs.declared.scenario.Spot.TheVariants.{Cpu, Under}
use Rattle.hls_scenario.specs.declared.scenario.Perch.{Perch}
use Rattle.hls_scenario.specs.declared.scenario.Command.{Command}
use Rattle.hls_scenario.specs.declared.scenario.Command.TheVariants as said
use Rattle.hls_report_text.specs.declared.report.Answer.{Answer}
use Rattle.hls_report_text.specs.declared.report.Answer.TheVariants.{Done, Refused}
use Rattle.hls_report_text.specs.Content.{Content}
use Rattle.hls_machine.specs.Hierarchy.{Hierarchy, Node, Loaded, Admitted, Place, Processor, At, Seat, SeatHolder}
use Rattle.hls_machine.specs.Hierarchy.{name_of, seats_of, seat_of, haves_of, config_of, start}
use Rattle.hls_machine.specs.Steps.{Step, sitters, state}
use Rattle.hls_machine.specs.Legal.{IsLegal}
use Rattle.hls_machine.specs.Lists.{IsListed}
use Rattle.hls_legal.specs.Commands.{is_done}
use Rattle.hls_legal.specs.Schedule.{is_name}
use Rattle.hls_legal.specs.Tells.{HasName, IsSpot, terms_in, IsPerch, ArePerches, Tells}
use Rattle.hls_legal.proofs.Rousings.{names_differ}
use Rattle.hls_legal.proofs.Told.{by_name}
use Rattle.hls_legal.proofs.Reached.{IsReached, listed as lists_of}
use Rattle.hls_legal.specs.Moment.{Boxes, Moment, number_of, node_of}
use Rattle.hls_legal.specs.Answers.{IsAnswer}
use Rattle.hls_legal.specs.Along.{AnswersAlong}
use Rattle.hls_legal.specs.Dues.{Due, config_there, haves_there, told_name, AreSettled}
use Rattle.hls_legal.specs.Dues as run
use Rattle.hls_legal.proofs.Found.{found_named, named_found, named_is}
use Rattle.hls_audit_clauses.specs.declared.member.Member.{Member}
use Rattle.hls_audit_clauses.specs.Names.{tree_of, member_of, sort_of, perches_of}
use Rattle.hls_audit_clauses.specs.Dues.{config_in, config_at, wants, haves_at, due_at, dues_from, due_under, is_at}
use Rattle.hls_audit_clauses.specs.Dues.{dues_under, dues_on, dues}
use Rattle.hls_audit_clauses.specs.Clauses.{seats_in, IsUnderivedAt}
use Rattle.hls_audit_clauses.proofs.Trees.{sort_at, IsMember, AreMembers, held_by, IsTreeOf, member_found, node_found}
use Rattle.hls_audit_clauses.proofs.TreeRuns.{IsCommandStep, command_step, end_tree}

-- ---- what is known of a node

config-sort : (node : Option Node) → config_of node ≡ config_in (sort_at node)
config-sort None = refl
config-sort (Some (Loaded s)) = refl
config-sort (Some (Admitted t)) = refl

kept_wants : (h : Hierarchy) (seats : List Seat) (perches : List Perch) → ArePerches h seats perches
    → map (λ (seat : Seat). seat.kept) seats ≡ wants perches
kept_wants h [] [] are = refl
kept_wants h [] (perch ∷ perches) are = absurd are
kept_wants h (seat ∷ seats) [] are = absurd are
kept_wants h (seat ∷ seats) (perch ∷ perches) are =
    ap (λ g. g ∷ map (λ (s : Seat). s.kept) seats) are.0.kept
    ∙ ap (λ l. perch.want ∷ l) (kept_wants h seats perches are.1)

abbrev a_due : (name : Text) → (port : ℕ) → Config → Terms → List Guarantee → Guarantee → Due
a_due name port config terms haves want = record {
  name = name;
  port = port;
  place = record { config = config; terms = terms };
  haves = haves;
  want = want;
}

same_due : (name other : Text) (port : ℕ) (config set : Config) (terms also : Terms) (haves has : List Guarantee)
    (want kept : Guarantee) → name ≡ other → config ≡ set → terms ≡ also → haves ≡ has → want ≡ kept
    → a_due name port config terms haves want ≡ a_due other port set also has kept
same_due name other port config set terms also haves has want kept p q r s t = cc

module _ (h : Hierarchy) (tree : List Member) (reached : IsReached h) (t : IsTreeOf tree h) where
  listed : IsListed h
  listed = lists_of h reached

  -- what is found by a name in the tree, and in the hierarchy
  record IsBoth (sched : Text) : Type 0 where
    pub config : config_in (sort_of (member_of tree sched)) ≡ config_of (node_of h sched)
    pub haves : wants (perches_of (member_of tree sched)) ≡ haves_of (node_of h sched)

  both_none : (sched : Text) (number : Option ℕ) → member_of tree sched ≡ None → number_of h sched ≡ number
      → IsBoth sched
  both_none sched None e f = record {
    config = ap (λ (o : Option Member). config_in (sort_of o)) e
        ∙ sym (ap (λ (o : Option ℕ). config_of (option_and_then h.nodes o)) f);
    haves = ap (λ (o : Option Member). wants (perches_of o)) e
        ∙ sym (ap (λ (o : Option ℕ). haves_of (option_and_then h.nodes o)) f);
  }
  both_none sched (Some k) e f =
      let found = member_found h tree listed.names t k sched (found_named h sched k f) in
      let wrong : None ≡ Some found.m = sym e ∙ found.found in
      absurd (cc)

  both_by : (sched : Text) (found : Option Member) → member_of tree sched ≡ found → IsBoth sched
  both_by sched None e = both_none sched (number_of h sched) e refl
  both_by sched (Some m) e =
      let n = node_found h tree t sched m e in
      let there : node_of h sched ≡ h.nodes n.k = named_is h listed n.k sched n.has in
      record {
        config = ap (λ (o : Option Member). config_in (sort_of o)) e
            ∙ ap config_in (sym n.is.sort) ∙ sym (config-sort (h.nodes n.k)) ∙ ap config_of (sym there);
        haves = ap (λ (o : Option Member). wants (perches_of o)) e
            ∙ sym (kept_wants h (seats_of (h.nodes n.k)) m.perches n.is.perches) ∙ ap haves_of (sym there);
      }

  both : (sched : Text) → IsBoth sched
  both sched = both_by sched (member_of tree sched) refl

  same_config : (spot : Spot) → config_at tree spot ≡ config_there h spot
  same_config Cpu = refl
  same_config (Under sched terms) = (both sched).config

  same_haves : (spot : Spot) → haves_at tree spot ≡ haves_there h spot
  same_haves Cpu = refl
  same_haves (Under sched terms) = (both sched).haves

  same_at : (name : Text) (port : ℕ) (perch : Perch) → due_at tree name port perch ≡ run.due_at h name port perch
  same_at name port perch =
      same_due name name port (config_at tree perch.spot) (config_there h perch.spot) (terms_in perch.spot)
      (terms_in perch.spot) (haves_at tree perch.spot) (haves_there h perch.spot) perch.want perch.want refl
      (same_config perch.spot) refl (same_haves perch.spot) refl

  same_from : (name : Text) (port : ℕ) (perches : List Perch)
      → dues_from tree name port perches ≡ run.dues_from h name port perches
  same_from name port [] = refl
  same_from name port (perch ∷ perches) =
      ap (λ d. d ∷ dues_from tree name (port + 1) perches) (same_at name port perch)
      ∙ ap (λ l. run.due_at h name port perch ∷ l) (same_from name (port + 1) perches)

  -- ---- the seats on a moved scheduler

  module _ (k : ℕ) (moved : Text) (is_moved : HasName h k moved) (has : Guarantee) where
    moved_config : config_in (sort_of (member_of tree moved)) ≡ config_of (h.nodes k)
    moved_config = (both moved).config ∙ ap config_of (named_is h listed k moved is_moved)

    under_due : (d : ℕ) (m : Member) (port : ℕ) (seat : Seat) (perch : Perch) → IsMember h d m
        → IsPerch h seat perch
        → a_due (told_name (name_of (h.nodes d))) port (config_of (h.nodes k)) seat.terms (has ∷ []) seat.kept
        ≡ due_under tree moved has m.name port perch
    under_due d m port seat perch is asked =
        same_due (told_name (name_of (h.nodes d))) m.name port (config_of (h.nodes k))
        (config_in (sort_of (member_of tree moved))) seat.terms (terms_in perch.spot) (has ∷ []) (has ∷ [])
        seat.kept perch.want (ap told_name is.named) (sym moved_config) asked.terms refl asked.kept

    if_due : (a b : Bool) (one two : Due) (rest : List Due) → a ≡ b → one ≡ two
        → (if a then one ∷ [] else []) ++ rest ≡ (if b then two ∷ rest else rest)
    if_due true true one two rest e f = ap (λ d. d ∷ rest) f
    if_due true false one two rest e f = absurd (cc)
    if_due false true one two rest e f = absurd (cc)
    if_due false false one two rest e f = refl

    same_moved : (p : ℕ) (sched : Text) → HasName h p sched → (p == k) ≡ bytes_eq sched moved
    same_moved p sched at = by_name h.nodes listed.names k p moved is_moved ∙ ap (is_name moved) at

    in_due : (d : ℕ) (m : Member) (port : ℕ) (seat : Seat) (perch : Perch) (rest : List Due) → IsMember h d m
        → IsPerch h seat perch → (place : Place) (spot : Spot) → IsSpot h place spot
        → run.dues_in h k has (record { node = d; port = port }) seat place ++ rest
        ≡ (if is_at moved spot then due_under tree moved has m.name port perch ∷ rest else rest)
    in_due d m port seat perch rest is asked Processor Cpu at = refl
    in_due d m port seat perch rest is asked Processor (Under sched terms) at = absurd at
    in_due d m port seat perch rest is asked (At p slot) Cpu at = absurd at
    in_due d m port seat perch rest is asked (At p slot) (Under sched terms) at =
        if_due (p == k) (bytes_eq sched moved)
        (a_due (told_name (name_of (h.nodes d))) port (config_of (h.nodes k)) seat.terms (has ∷ []) seat.kept)
        (due_under tree moved has m.name port perch) rest (same_moved p sched at)
        (under_due d m port seat perch is asked)

    abbrev of_holder : SeatHolder → List Due
    of_holder s = run.dues_of h k has s (seat_of (h.nodes s.node) s.port)

    -- the seats of a member from a port on
    member_dues : (d : ℕ) (m : Member) → IsMember h d m → (port : ℕ) (held : List Seat) (perches : List Perch)
        → ArePerches h held perches
        → ((n : ℕ) → slice_get (seats_of (h.nodes d)) (port + n) ≡ slice_get held n)
        → flat_map of_holder (sitters d port held) ≡ dues_under tree moved has m.name port perches
    member_dues d m is port [] [] are same = refl
    member_dues d m is port [] (perch ∷ perches) are same = absurd are
    member_dues d m is port (seat ∷ held) [] are same = absurd are
    member_dues d m is port (seat ∷ held) (perch ∷ perches) are same =
        let here : seat_of (h.nodes d) port ≡ Some seat =
        (let e : port + 0 ≡ port = omega arith in ap (seat_of (h.nodes d)) (sym e) ∙ same 0) in
        let rest = flat_map of_holder (sitters d (port + 1) held) in
        ap (λ (o : Option Seat). run.dues_of h k has (record { node = d; port = port }) o ++ rest) here
        ∙ in_due d m port seat perch rest is are.0 seat.place perch.spot are.0.place
        ∙ ap (λ l. if is_at moved perch.spot then due_under tree moved has m.name port perch ∷ l else l)
        (member_dues d m is (port + 1) held perches are.1
        (λ n. let e : port + 1 + n ≡ port + suc n = omega arith in ap (seat_of (h.nodes d)) e ∙ same (suc n)))

    all_dues : (ks : List ℕ) (members : List Member) → AreMembers h ks members
        → flat_map of_holder (flat_map (held_by h.nodes) ks)
        ≡ flat_map (λ (m : Member). dues_under tree moved has m.name 0 m.perches) members
    all_dues [] [] are = refl
    all_dues [] (m ∷ members) are = absurd are
    all_dues (d ∷ ks) [] are = absurd are
    all_dues (d ∷ ks) (m ∷ members) are =
        flat_map-append of_holder (held_by h.nodes d) (flat_map (held_by h.nodes) ks)
        ∙ ap (λ l. l ++ flat_map of_holder (flat_map (held_by h.nodes) ks))
        (member_dues d m are.0 0 (seats_of (h.nodes d)) m.perches are.0.perches
        (λ n. let e : 0 + n ≡ n = omega arith in ap (seat_of (h.nodes d)) e))
        ∙ ap (λ l. dues_under tree moved has m.name 0 m.perches ++ l) (all_dues ks members are.1)

    same_on : dues_on tree moved has ≡ run.dues_on h has (number_of h moved)
    same_on =
        sym (all_dues t.ks tree t.members) ∙ ap (flat_map of_holder) (sym t.seats)
        ∙ ap (run.dues_on h has) (sym (named_found h listed k moved is_moved))

  -- where nobody has the name, nobody sits there
  module _ (moved : Text) (has : Guarantee) (nobody : (k : ℕ) → HasName h k moved → ⊥) where
    not_moved : (place : Place) (spot : Spot) → IsSpot h place spot → is_at moved spot ≡ false
    not_moved Processor Cpu at = refl
    not_moved Processor (Under sched terms) at = absurd at
    not_moved (At p slot) Cpu at = absurd at
    not_moved (At p slot) (Under sched terms) at =
        names_differ moved sched (λ same. nobody p (at ∙ ap (λ (n : Text). Some n) same))

    none_under : (name : Text) (port : ℕ) (held : List Seat) (perches : List Perch) → ArePerches h held perches
        → dues_under tree moved has name port perches ≡ []
    none_under name port [] [] are = refl
    none_under name port [] (perch ∷ perches) are = absurd are
    none_under name port (seat ∷ held) [] are = absurd are
    none_under name port (seat ∷ held) (perch ∷ perches) are =
        let rest = dues_under tree moved has name (port + 1) perches in
        ap (λ (b : Bool). if b then due_under tree moved has name port perch ∷ rest else rest)
        (not_moved seat.place perch.spot are.0.place)
        ∙ none_under name (port + 1) held perches are.1

    none_due : (ks : List ℕ) (members : List Member) → AreMembers h ks members
        → flat_map (λ (m : Member). dues_under tree moved has m.name 0 m.perches) members ≡ []
    none_due [] [] are = refl
    none_due [] (m ∷ members) are = absurd are
    none_due (d ∷ ks) [] are = absurd are
    none_due (d ∷ ks) (m ∷ members) are =
        ap (λ l. l ++ flat_map (λ (x : Member). dues_under tree moved has x.name 0 x.perches) members)
        (none_under m.name 0 (seats_of (h.nodes d)) m.perches are.0.perches)
        ∙ none_due ks members are.1

  on_by : (moved : Text) (has : Guarantee) (number : Option ℕ) → number_of h moved ≡ number
      → dues_on tree moved has ≡ run.dues_on h has (number_of h moved)
  on_by moved has (Some k) e = same_on k moved (found_named h moved k e) has
  on_by moved has None e =
      none_due moved has
      (λ k named. (let wrong : None ≡ Some k = sym e ∙ named_found h listed k moved named in cc))
      t.ks tree t.members
      ∙ sym (ap (run.dues_on h has) e)

  -- ---- a command

  pub same_dues : (command : Command) → dues tree command ≡ run.dues h command
  same_dues (said.Load name config perches) = same_from name 0 perches
  same_dues (said.Thread name perch) = ap (λ d. d ∷ []) (same_at name 0 perch)
  same_dues (said.End name) = refl
  same_dues (said.Unload name) = refl
  same_dues (said.Move name perch) =
      ap (λ d. d ∷ dues_on tree name perch.want) (same_at name 0 perch)
      ∙ ap (λ l. run.due_at h name 0 perch ∷ l) (on_by name perch.want (number_of h name) refl)
  same_dues (said.Wake name every burst) = refl
  same_dues (said.Block name) = refl

settled : (m : Moment) (command : Command) (answer : Answer) → is_done answer ≡ true → IsAnswer m command answer
    → AreSettled m.depth (run.dues m.hierarchy command) (seats_in answer)
settled m command (Done seats) done is = is.settled
settled m command (Refused refusal) done is = absurd (cc)

pub derived_kept : (c : Content) (boxes : Boxes) (steps : List Step) → IsLegal start steps → Tells c steps
    → AnswersAlong c.depth start boxes steps c.answered → (t : ℕ) → ¬ IsUnderivedAt c t
derived_kept c boxes steps legal tells answers t f =
    let s : IsCommandStep c.depth (take f.at c.answered) f.a =
    command_step c boxes steps legal tells answers f.at f.a f.command.there in
    let same = same_dues s.h _ s.reached s.tree f.a.command in
    f.lacks (subst (λ (l : List Due). AreSettled c.depth l (seats_in f.a.answer)) (sym same)
    (settled (record { hierarchy = s.h; boxes = s.boxes; depth = c.depth }) f.a.command f.a.answer
    f.command.done s.answer))

pub dues_told : (c : Content) (steps : List Step) → IsLegal start steps → Tells c steps → (command : Command)
    → dues (tree_of c.answered) command ≡ run.dues (state start steps) command
dues_told c steps legal tells command =
    let at_end : IsReached (state start steps) = record { steps = steps; legal = legal; leads = refl } in
    same_dues (state start steps) (tree_of c.answered) at_end (end_tree c steps legal tells) command
