-- The derivations of a load, one for each of its ports.
use Rattle.std.proofs.Common.{◌≡◌, ℕ, zero, suc, List, [], ◌∷◌, ◌++◌, Option, Some, None, refl, sym, ap, ◌∙◌}
use Rattle.std.proofs.Common.{◌+◌, arith, subst, slice_get, length}
use Rattle.std.proofs.lemmas.Option.{slice_get_within}
use Rattle.hls_text.specs.Lines.{Text}
use Rattle.hls_chron.specs.declared.plain.Config.{Config}
use Rattle.hls_scenario.specs.declared.scenario.Spot.{Spot}
use Rattle.hls_scenario.specs.declared.scenario.Spot.TheVariants.{Cpu, Under}
use Rattle.hls_scenario.specs.declared.scenario.Perch.{Perch}
use Rattle.hls_scenario.specs.declared.scenario.Command.{Command}
use Rattle.hls_scenario.specs.declared.scenario.Command.TheVariants as said
use Rattle.hls_report_text.specs.declared.refusal.Refusal.TheVariants.{NoDerivation}
use Rattle.hls_report_text.specs.declared.report.Seated.{Seated}
use Rattle.hls_machine.specs.Hierarchy.{Hierarchy, config_of, haves_of}
use Rattle.hls_machine.specs.Lists.{IsListed}
use Rattle.hls_legal.specs.Moment.{Moment}
use Rattle.hls_legal.specs.Dues.{Due, dues_from, due_at, Derives, IsUnderivable, config_there, haves_there}
use Rattle.hls_legal.specs.Dues.{IsSettled, AreSettled}
use Rattle.hls_legal.specs.Answers.{IsRefused, IsDone}
use Rattle.hls_legal.specs.Doable.{AreDerivable}
use Rattle.hls_legal.proofs.Found.{named_is}
use Rattle.hls_tree.specs.declared.seat.Seat.{Seat}
use Rattle.hls_manager.specs.Seats.{config_at, haves_at, due_for}
use Rattle.hls_manager.specs.Inside.Ports.{IsAt, IsWanted}
use Rattle.hls_manager.specs.Inside.Loads.{IsPlaced, IsOpen, IsTold, AreTold, IsUntold}
use Rattle.hls_manager.proofs.Loads.{whole_refused, load_done}
use Rattle.hls_manager.proofs.LoadRefusals.{open_clear, no_place}
use Rattle.hls_manager.proofs.PortLaws.{item_at, perch_at, IsOfMore, before, last, of_more, length_more}

-- ---- dues

-- the due of a port, by its number
due_of : (h : Hierarchy) (name : Text) (from : ℕ) (perches : List Perch) (at : ℕ) (perch : Perch)
    → slice_get perches at ≡ Some perch
    → slice_get (dues_from h name from perches) at ≡ Some (due_at h name (from + at) perch)
due_of h name from [] at perch e = absurd (cc)
due_of h name from (p ∷ perches) zero perch e =
    let same : p ≡ perch = cc in
    let none : from ≡ from + 0 = omega arith in
    (λ i. Some (due_at h name (none i) (same i)))
due_of h name from (p ∷ perches) (suc at) perch e =
    let rest = due_of h name (from + 1) perches at perch e in
    let same : from + 1 + at ≡ from + suc at = omega arith in
    rest ∙ ap (λ n. Some (due_at h name n perch)) same

-- and the port of a due
of_due : (h : Hierarchy) (name : Text) (from : ℕ) (perches : List Perch) (at : ℕ) (due : Due)
    → slice_get (dues_from h name from perches) at ≡ Some due
    → (perch : Perch) × (slice_get perches at ≡ Some perch)
of_due h name from [] at due e = absurd (cc)
of_due h name from (p ∷ perches) zero due e = (p, refl)
of_due h name from (p ∷ perches) (suc at) due e = of_due h name (from + 1) perches at due e

module _ (h : Hierarchy) (listed : IsListed h) where
  same_config : (spot : Spot) (parent : Option ℕ) → IsAt h spot parent → config_at h parent ≡ config_there h spot
  same_config Cpu None at = refl
  same_config (Under sched terms) (Some p) at = ap config_of (sym (named_is h listed p sched at.0))
  same_config Cpu (Some p) at = absurd at
  same_config (Under sched terms) None at = absurd at

  same_haves : (spot : Spot) (parent : Option ℕ) → IsAt h spot parent → haves_at h parent ≡ haves_there h spot
  same_haves Cpu None at = refl
  same_haves (Under sched terms) (Some p) at = ap haves_of (sym (named_is h listed p sched at.0))
  same_haves Cpu (Some p) at = absurd at
  same_haves (Under sched terms) None at = absurd at

  -- what is due for a seat that a perch asks for
  same_due : (name : Text) (port : ℕ) (perch : Perch) (seat : Seat) → IsWanted h perch seat
      → due_for h name port seat ≡ due_at h name port perch
  same_due name port perch seat is =
      let config = same_config perch.spot seat.parent is.place in
      let haves = same_haves perch.spot seat.parent is.place in
      let set = is.set in
      let kept = is.for_it in
      λ i. record {
        name = name;
        port = port;
        place = record { config = config i; terms = set i };
        haves = haves i;
        want = kept i;
      }

-- ---- the seats that are told

module _ (h : Hierarchy) (depth : ℕ) (name : Text) (seats : List Seat) where
  pub none_told : AreTold h depth name seats 0 []
  none_told = record { counted = refl; each = λ port seat one e f. absurd (cc) }

  module _ (n : ℕ) (seat : Seat) (at : slice_get seats n ≡ Some seat) (old : List Seated) (one : Seated)
      (are : AreTold h depth name seats n old) (is : IsTold h depth name n seat one) where
    told_by : (port : ℕ) (other : Seat) (told : Seated) → slice_get seats port ≡ Some other
        → IsOfMore old one port told → IsTold h depth name port other told
    told_by port other told e (before lt f) = are.each port other told e f
    told_by port other told e (last here f) =
        let place = here ∙ are.counted in
        let both = sym (ap (slice_get seats) place ∙ at) ∙ e in
        let same : seat ≡ other = cc in
        subst (λ (s : Seat). IsTold h depth name port s told) same
        (subst (λ (t : Seated). IsTold h depth name port seat t) f
        (subst (λ (k : ℕ). IsTold h depth name k seat one) (sym place) is))

    pub one_told : (new : List Seated) → new ≡ old ++ one ∷ []
        → AreTold h depth name seats (n + 1) new
    one_told new e =
        subst (λ (l : List Seated). AreTold h depth name seats (n + 1) l) (sym e) (record {
          counted = length_more old one ∙ ap (λ k. k + 1) are.counted;
          each = λ port other told f g. told_by port other told f (of_more old one port told g);
        })

  -- the first so many have derivations, and the next has none
  pub untold : (n : ℕ) (seat : Seat) → slice_get seats n ≡ Some seat → (told : List Seated)
      → AreTold h depth name seats n told → IsUnderivable depth (due_for h name n seat) → IsUntold h depth name seats
  untold n seat at told are lacks = record {
    port = n;
    seat = seat;
    at_port = at;
    lacks = lacks;
    first = λ early other lt e.
        (let counted = are.counted in
        let one = item_at told early (omega (arith, lt, counted)) in
        let is = are.each early other one.0 e one.1 in
        (one.0.derivation, is.derives));
  }

-- ---- the answer

module _ (m : Moment) (name : Text) (config : Config) (perches : List Perch) (seats : List Seat)
    (listed : IsListed m.hierarchy) (placed : IsPlaced m.hierarchy name perches seats)
    (open_is : IsOpen m config perches) where
  abbrev h : Hierarchy
  h = m.hierarchy

  abbrev c : Command
  c = said.Load name config perches

  due_there : (port : ℕ) (perch : Perch) (seat : Seat) → slice_get perches port ≡ Some perch
      → slice_get seats port ≡ Some seat → due_for h name port seat ≡ due_at h name port perch
  due_there port perch seat e f =
      same_due h listed name port perch seat (placed.wanted.each port perch seat e f)

  -- the port of a due, and its seat
  record IsPortOf (at : ℕ) (due : Due) : Type 0 where
    pub seat : Seat
    pub at_port : slice_get seats at ≡ Some seat
    pub is : due_for h name at seat ≡ due

  port_of : (at : ℕ) (due : Due) → slice_get (dues_from h name 0 perches) at ≡ Some due → IsPortOf at due
  port_of at due e =
      let perch = of_due h name 0 perches at due e in
      let within = slice_get_within perches at perch.0 perch.1 in
      let counted = placed.wanted.counted in
      let seat = item_at seats at (omega (arith, within, counted)) in
      let there = due_of h name 0 perches at perch.0 perch.1 in
      let none : 0 + at ≡ at = omega arith in
      let both = sym there ∙ e in
      let same : due_at h name (0 + at) perch.0 ≡ due = cc in
      record {
        seat = seat.0;
        at_port = seat.1;
        is = due_there at perch.0 seat.0 perch.1 seat.1 ∙ ap (λ n. due_at h name n perch.0) (sym none) ∙ same;
      }

  pub no_derivation : IsUntold h m.depth name seats → IsRefused m c (NoDerivation name m.depth)
  no_derivation is =
      let perch = perch_at h perches (length perches) seats placed.wanted (omega arith) is.port is.seat is.at_port in
      let none : 0 + is.port ≡ is.port = omega arith in
      whole_refused m name config perches (NoDerivation name m.depth) (
        record {
          at = is.port;
          item = due_at h name is.port perch.0;
          item_is = due_of h name 0 perches is.port perch.0 perch.1
              ∙ ap (λ n. Some (due_at h name n perch.0)) none;
          tells = record {
            whose = refl;
            lacks = subst (λ (d : Due). IsUnderivable m.depth d)
                (due_there is.port perch.0 is.seat perch.1 is.at_port) is.lacks;
          };
          first = λ early due other lt e lacks.
              (let port = port_of early due e in
              let derived = is.first early port.seat lt port.at_port in
              lacks.lacks derived.0 (subst (λ (d : Due). Derives m.depth d derived.0) port.is derived.1));
        },
        refl,
      ) (open_clear m name config perches seats placed open_is 24)
      (λ other f. absurd (no_place m name config perches seats placed open_is other f))

  module _ (told : List Seated) (are : AreTold h m.depth name seats (length seats) told) where
    pub derivable : AreDerivable m c
    derivable at due e =
        let port = port_of at due e in
        let within = slice_get_within seats at port.seat port.at_port in
        let counted = are.counted in
        let one = item_at told at (omega (arith, within, counted)) in
        let is = are.each at port.seat one.0 port.at_port one.1 in
        (one.0.derivation, subst (λ (d : Due). Derives m.depth d one.0.derivation) port.is is.derives)

    settled_by : (from : ℕ) (ps : List Perch) (ts : List Seated) → length ps ≡ length ts
        → ((at : ℕ) (perch : Perch) (one : Seated) → slice_get ps at ≡ Some perch → slice_get ts at ≡ Some one
        → IsSettled m.depth (due_at h name (from + at) perch) one) → AreSettled m.depth (dues_from h name from ps) ts
    settled_by from [] [] e each = tt
    settled_by from (p ∷ ps) (t ∷ ts) e each =
        let none : from + 0 ≡ from = omega arith in
        let same : length ps ≡ length ts = omega (arith, e) in (
          subst (λ (n : ℕ). IsSettled m.depth (due_at h name n p) t) none (each 0 p t refl refl),
          settled_by (from + 1) ps ts same (λ at perch one f g.
              (let more : from + suc at ≡ from + 1 + at = omega arith in
              subst (λ (n : ℕ). IsSettled m.depth (due_at h name n perch) one) more (each (suc at) perch one f g))),
        )
    settled_by from [] (t ∷ ts) e each = absurd (omega (arith, e))
    settled_by from (p ∷ ps) [] e each = absurd (omega (arith, e))

    settled : AreSettled m.depth (dues_from h name 0 perches) told
    settled =
        let counted = placed.wanted.counted in
        let told_counted = are.counted in
        settled_by 0 perches told (omega (arith, counted, told_counted)) (λ at perch one e f.
        (let within = slice_get_within perches at perch e in
        let seat = item_at seats at (omega (arith, within, counted)) in
        let is = are.each at seat.0 one seat.1 f in
        let none : at ≡ 0 + at = omega arith in
        subst (λ (n : ℕ). IsSettled m.depth (due_at h name n perch) one) none (record {
          name = is.named;
          port = is.numbered;
          derives = subst (λ (d : Due). Derives m.depth d one.derivation)
              (due_there at perch seat.0 e seat.1) is.derives;
        })))

    pub done : IsDone m c told
    done =
        load_done m name config perches told (open_clear m name config perches seats placed open_is 24)
        (no_place m name config perches seats placed open_is)
        (λ other lacks. (let lack = lacks.tells in
        let one = derivable lacks.at lacks.item lacks.item_is in lack.lacks one.0 one.1)) settled
