-- A load that is done: the tree may take it, and it is a step of the hierarchy.
use Rattle.std.proofs.Common.{◌≡◌, ◌≢◌, ℕ, suc, inl, inr, List, [], ◌∷◌, Option, Some, None, refl, sym, ap, ◌∙◌}
use Rattle.std.proofs.Common.{◌≤◌, arith, subst, slice_get, length}
use Rattle.std.proofs.lemmas.Bool.{cases_lt}
use Rattle.std.proofs.lemmas.Option.{slice_get_within}
use Rattle.std.specs.Prelude.{is_some}
use Rattle.hls_text.specs.Lines.{Text}
use Rattle.hls_chron.specs.declared.plain.Config.{Config}
use Rattle.hls_chron.specs.declared.plain.Config.TheVariants as configs
use Rattle.hls_chron.specs.declared.plain.Kind.TheVariants as kinds
use Rattle.hls_chron.specs.declared.plain.Terms.{Terms}
use Rattle.hls_chron.specs.Kinds.{kind_of, terms_kind}
use Rattle.hls_scenario.specs.declared.scenario.Spot.{Spot}
use Rattle.hls_scenario.specs.declared.scenario.Spot.TheVariants.{Cpu, Under}
use Rattle.hls_scenario.specs.declared.scenario.Perch.{Perch}
use Rattle.hls_scenario.specs.declared.scenario.Command.TheVariants as said
use Rattle.hls_scenario.specs.Grammar as grammar
use Rattle.hls_scenario.specs.Grammar.{IsCommand}
use Rattle.hls_report_text.specs.declared.refusal.Refusal.{Refusal}
use Rattle.hls_report_text.specs.declared.refusal.Refusal.TheVariants.{SeatsFull}
use Rattle.hls_report_text.specs.declared.report.Seated.{Seated}
use Rattle.hls_report_text.specs.declared.report.Answer.TheVariants.{Done}
use Rattle.hls_kinds.specs.Faults as kinds_faults
use Rattle.hls_sched.specs.Seen.{Seen}
use Rattle.hls_machine.specs.Hierarchy.{Hierarchy, Place, Processor, At, name_of, Seat as TakenSeat}
use Rattle.hls_machine.specs.Steps.{Load}
use Rattle.hls_machine.specs.Legal.{scheduler_at, IsReached}
use Rattle.hls_machine.specs.Lists.{IsListed}
use Rattle.hls_legal.specs.Tells.{HasName, IsSpot, IsPerch, ArePerches, terms_in}
use Rattle.hls_legal.specs.Moment.{Moment}
use Rattle.hls_legal.proofs.Found.{named_is}
use Rattle.hls_legal.proofs.LoadsDone.{IsLoadShape, load_shape}
use Rattle.hls_tree.specs.Offers.{IsFreeName, TakesAt, MayTake, MayLoad, IsTakenAs, AreTakenAs}
use Rattle.hls_tree.specs.Trees.{Loads}
use Rattle.hls_tree.specs.declared.seat.Seat.{Seat}
use Rattle.hls_tree.specs.declared.tree.Tree.{Tree}
use Rattle.hls_manager.specs.Faults.{fault_refusal}
use Rattle.hls_manager.specs.Outcomes.{HasMarkRoom, CarriesOut}
use Rattle.hls_manager.specs.Inside.Ports.{IsAt, IsWanted, AreWanted, RefusesSpot, ArePerchesInRange}
use Rattle.hls_manager.specs.Inside.Loads.{IsPlaced, IsOpen, AreTold}
use Rattle.hls_manager.proofs.Places.{to_fault}
use Rattle.hls_manager.proofs.HeightLaws.{low_parent}
use Rattle.hls_manager.proofs.LoadSteps as steps
use Rattle.hls_manager.proofs.LoadSteps.{AreAtFree}
use Rattle.hls_manager.proofs.LoadTold.{derivable, done}
use Rattle.hls_manager.proofs.Outcomes.{reached_listed}
use Rattle.hls_manager.proofs.PortLaws.{item_at, perch_at, in_range}
use Rattle.hls_chron.proofs.ConfigLaws.{few_ports}

-- ---- what the grammar says

pub perches_in_range : (name : Text) (config : Config) (perches : List Perch)
    → IsCommand 2 (said.Load name config perches) → ArePerchesInRange perches
perches_in_range name config perches within = (load_shape 2 config perches within.1).each

pub config_boxed : (name : Text) (config : Config) (perches : List Perch)
    → IsCommand 2 (said.Load name config perches) → kind_of config ≢ kinds.Cpu
config_boxed name config perches within = (load_shape 2 config perches within.1).kind

pub few_seats : (h : Hierarchy) (name : Text) (config : Config) (perches : List Perch) (seats : List Seat)
    → IsCommand 2 (said.Load name config perches) → AreWanted h perches (length perches) seats → length seats ≤ 4
few_seats h name config perches seats within are =
    let shape = load_shape 2 config perches within.1 in
    let few = few_ports config shape.in_range in
    let ports = shape.ports in
    let counted = are.counted in
    omega (arith, few, ports, counted)

-- ---- what the tree is asked

module _ (m : Moment) (name : Text) (config : Config) (perches : List Perch) (seats : List Seat)
    (within : IsCommand 2 (said.Load name config perches)) (listed : IsListed m.hierarchy)
    (placed : IsPlaced m.hierarchy name perches seats) (open_is : IsOpen m config perches)
    (room : HasMarkRoom m.hierarchy) where
  abbrev h : Hierarchy
  h = m.hierarchy

  shape : IsLoadShape config perches
  shape = load_shape 2 config perches within.1

  -- the perch of a seat
  of_seat : (port : ℕ) (seat : Seat) → slice_get seats port ≡ Some seat
      → (perch : Perch) × (slice_get perches port ≡ Some perch) × IsWanted h perch seat
  of_seat port seat e = perch_at h perches (length perches) seats placed.wanted (omega arith) port seat e

  name_is_free : IsFreeName h name
  name_is_free other has = (let free = placed.name_free in let is = named_is h listed other name has in
      let lost = sym has ∙ ap name_of (sym is ∙ free) in cc)

  root_by : (root : Option ℕ) → h.root ≡ root → ((r : Refusal) → ¬ RefusesSpot h Cpu r) → h.root ≡ None
  root_by None e none = e
  root_by (Some k) e none =
      absurd (none (SeatsFull None 1)
      (record { place = refl; taken = ap is_some e; seats_are = refl }))

  takes_by : (spot : Spot) (parent : Option ℕ) (set : Terms) → IsAt h spot parent → set ≡ terms_in spot
      → ((r : Refusal) → ¬ RefusesSpot h spot r) → TakesAt h parent set
  takes_by Cpu None set at e none = record { kind = ap terms_kind e; free = root_by h.root refl none }
  takes_by (Under sched terms) (Some p) set at e none =
      let s = at.1.scheduler in
      let there = named_is h listed p sched at.0 ∙ at.1.there in
      record {
        scheduler = s;
        there = at.1.there;
        fits = λ fault f. none (fault_refusal sched fault)
            (to_fault h (said.Load [] configs.Cpu []) sched terms s
            there fault (subst (λ (t : Terms). kinds_faults.Applies s.config s.book t fault) e f));
        room = (let le = room p s at.1.there in omega (arith, le));
      }
  takes_by Cpu (Some p) set at e none = absurd at
  takes_by (Under sched terms) None set at e none = absurd at

  may_take : (port : ℕ) (seat : Seat) → slice_get seats port ≡ Some seat → MayTake h seat
  may_take port seat e =
      let perch = of_seat port seat e in
      let numbers = in_range h perch.0 seat perch.2 (shape.each port perch.0 perch.1) in
      record {
        fits = takes_by perch.0.spot seat.parent seat.terms perch.2.place perch.2.set (λ r f.
            open_is.ports port r (slice_get_within perches port perch.0 perch.1)
            (record { perch = perch.0; at_port = perch.1; refuses = f }));
        terms = numbers.terms;
        kept = numbers.kept;
      }

  -- places that are told apart are at schedulers that differ
  differ_by : (one two : Spot) (here there : Option ℕ) → IsAt h one here → IsAt h two there → here ≡ there
      → ¬ grammar.Differ one two
  differ_by (Under a t) (Under b u) (Some p) (Some q) at on e differ =
      (let node : p ≡ q = cc in
      let both = sym at.0 ∙ ap (λ n. name_of (h.nodes n)) node ∙ on.0 in
      differ (cc))
  differ_by Cpu two here there at on e differ = differ
  differ_by (Under a t) Cpu here there at on e differ = differ
  differ_by (Under a t) (Under b u) None there at on e differ = at
  differ_by (Under a t) (Under b u) (Some p) None at on e differ = on

  apart : (i j : ℕ) (one other : Seat) → slice_get seats i ≡ Some one → slice_get seats j ≡ Some other
      → one.parent ≡ other.parent → i ≡ j
  apart i j one other e f same =
      let a = of_seat i one e in
      let b = of_seat j other f in
      elim (cases_lt i j) [
        | inl lt ↦ absurd (differ_by a.0.spot b.0.spot one.parent other.parent a.2.place b.2.place same
            (shape.apart i j a.0 b.0 lt a.1 b.1))
        | inr ge ↦ elim (cases_lt j i) [
          | inl lt ↦ absurd (differ_by b.0.spot a.0.spot other.parent one.parent b.2.place a.2.place (sym same)
              (shape.apart j i b.0 a.0 lt b.1 a.1))
          | inr le ↦ omega (arith, ge, le)
        ]
      ]

  pub may_load : MayLoad h name config seats
  may_load = record {
    name_free = name_is_free;
    few = open_is.few;
    kind = shape.kind;
    in_range = shape.in_range;
    ports = placed.wanted.counted ∙ shape.ports;
    seats_fit = record { each = may_take; apart = apart };
    shallow = low_parent h listed name config perches seats placed.wanted open_is.low;
  }

-- ---- the seats that were taken

module _ (h : Hierarchy) where
  spot_by : (spot : Spot) (parent : Option ℕ) (place : Place) → IsAt h spot parent → scheduler_at place ≡ parent
      → IsSpot h place spot
  spot_by Cpu None Processor at e = tt
  spot_by Cpu None (At p slot) at e = absurd (cc)
  spot_by (Under sched terms) (Some q) (At p slot) at e =
      (let same : q ≡ p = cc in subst (λ (n : ℕ). HasName h n sched) same at.0)
  spot_by (Under sched terms) (Some q) Processor at e = absurd (cc)
  spot_by Cpu (Some q) place at e = absurd at
  spot_by (Under sched terms) None place at e = absurd at

  is_perch : (perch : Perch) (want : Seat) (seat : TakenSeat) → IsWanted h perch want → IsTakenAs h [] want seat
      → IsPerch h seat perch
  is_perch perch want seat is taken = record {
    place = spot_by perch.spot want.parent seat.place is.place taken.on;
    terms = taken.terms ∙ is.set;
    kept = taken.kept ∙ is.for_it;
  }

  perches_by : (perches : List Perch) (taken : List TakenSeat) → length perches ≡ length taken
      → ((port : ℕ) (perch : Perch) (seat : TakenSeat) → slice_get perches port ≡ Some perch
      → slice_get taken port ≡ Some seat → IsPerch h seat perch) → ArePerches h taken perches
  perches_by [] [] e each = tt
  perches_by (perch ∷ perches) (seat ∷ taken) e each =
      let same : length perches ≡ length taken = omega (arith, e) in
      (each 0 perch seat refl refl, perches_by perches taken same (λ port p s f g. each (suc port) p s f g))
  perches_by [] (seat ∷ taken) e each = absurd (omega (arith, e))
  perches_by (perch ∷ perches) [] e each = absurd (omega (arith, e))

  module _ (perches : List Perch) (seats : List Seat) (are : AreWanted h perches (length perches) seats)
      (taken : List TakenSeat) (took : AreTakenAs h seats taken) where
    -- the seat that was wanted at a port
    want_at : (port : ℕ) (seat : TakenSeat) → slice_get taken port ≡ Some seat
        → (want : Seat) × (slice_get seats port ≡ Some want) × IsTakenAs h [] want seat
    want_at port seat e =
        let within = slice_get_within taken port seat e in
        let counted = took.count in
        let want = item_at seats port (omega (arith, within, counted)) in
        (want.0, want.1, took.each port want.0 seat want.1 e)

    pub are_perches : ArePerches h taken perches
    are_perches =
        let counted = are.counted in
        let count = took.count in
        perches_by perches taken (omega (arith, counted, count)) (λ port perch seat e f.
        (let want = want_at port seat f in
        is_perch perch want.0 seat (are.each port perch want.0 e want.1) want.2))

    pub are_at_free : AreAtFree h taken
    are_at_free port seat e p slot at = (want_at port seat e).2.free p slot at

-- ---- the outcome

module _ {V : Type 0} {P : V → Type 0} (seen : (x : V) × P x → Seen) where
  -- a scheduler was loaded on the seats that were wanted
  pub loads : (old new : Tree V P) (m : Moment) (commands : ℕ) (name : Text) (config : Config) (perches : List Perch)
      (seats : List Seat) (id : ℕ) (told : List Seated) → IsCommand 2 (said.Load name config perches)
      → IsReached m.hierarchy → IsPlaced m.hierarchy name perches seats → IsOpen m config perches
      → AreTold m.hierarchy m.depth name seats (length seats) told
      → Loads seen old new m.hierarchy id name config commands seats
      → CarriesOut seen old new m commands (said.Load name config perches) (Done told)
  loads old new m commands name config perches seats id told within is placed open_is are l =
      let listed = reached_listed m.hierarchy is in
      let answer = done m name config perches seats listed placed open_is told are in
      let perched = are_perches m.hierarchy perches seats placed.wanted l.seats l.taken in
      record {
        answers = answer;
        step = Load id name config l.spare_ticks l.spare_marks l.seats;
        does = (refl, refl, perched);
        can = steps.can m is.past is.legal is.leads name config perches within answer.none
            (derivable m name config perches seats listed placed open_is told are) id l.spare_ticks l.spare_marks
            l.seats l.unused perched (are_at_free m.hierarchy perches seats placed.wanted l.seats l.taken);
        roomy = l.marks;
        tree = l.tree;
        ready = l.ready;
      }
