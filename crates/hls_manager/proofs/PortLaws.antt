-- The places of a load: the seats that they come to, and what refuses them.
use Rattle.std.proofs.Common.{◌≡◌, ◌≢◌, ◌⊎◌, inl, inr, ℕ, zero, suc, List, [], ◌∷◌, ◌++◌, Option, Some, None, refl, sym}
use Rattle.std.proofs.Common.{ap, ◌∙◌, ◌<◌, ◌≤◌, ◌+◌, arith, subst, slice_get, length}
use Rattle.std.proofs.lemmas.Option.{slice_get_within}
use Rattle.std.specs.Prelude.{IsSome, is_some}
use Rattle.hls_text.specs.Lines.{Text}
use Rattle.hls_chron.specs.declared.plain.Config.{Config}
use Rattle.hls_chron.specs.declared.plain.Config.TheVariants as configs
use Rattle.hls_chron.specs.declared.plain.Terms.{Terms}
use Rattle.hls_chron.specs.declared.plain.Terms.TheVariants as terms
use Rattle.hls_chron.specs.Name.{IsName}
use Rattle.hls_chron.specs.Ranges.{TermsInRange}
use Rattle.hls_guarantee.specs.declared.Guarantee.{Guarantee}
use Rattle.hls_guarantee.specs.Limits.{IsNarrow}
use Rattle.hls_kinds.specs.declared.fault.SeatFault.{SeatFault}
use Rattle.hls_kinds.specs.declared.fault.SeatFault.TheVariants as faults
use Rattle.hls_kinds.specs.Faults.{IsFirstFaultIfAny}
use Rattle.hls_scenario.specs.declared.scenario.Spot.{Spot}
use Rattle.hls_scenario.specs.declared.scenario.Spot.TheVariants.{Cpu, Under}
use Rattle.hls_scenario.specs.declared.scenario.Perch.{Perch}
use Rattle.hls_scenario.specs.declared.scenario.Command.{Command}
use Rattle.hls_scenario.specs.declared.scenario.Command.TheVariants as said
use Rattle.hls_scenario.specs.Grammar as grammar
use Rattle.hls_report_text.specs.declared.refusal.Refusal.{Refusal}
use Rattle.hls_report_text.specs.declared.refusal.Refusal.TheVariants.{NoSuchName, WrongSort}
use Rattle.hls_report_text.specs.declared.refusal.Refusal.TheVariants.{TermsUnfit, PriorityTaken, SeatsFull}
use Rattle.hls_report_text.specs.declared.refusal.Refusal.TheVariants.{NoRoom}
use Rattle.hls_machine.specs.Hierarchy.{Hierarchy, Node, Loaded, Scheduler, config_of, book_of}
use Rattle.hls_machine.specs.Lists.{IsListed}
use Rattle.hls_legal.specs.Tells.{HasName, terms_in}
use Rattle.hls_legal.specs.Moment.{node_of}
use Rattle.hls_legal.specs.Answers.{number, RefusesPlace}
use Rattle.hls_legal.proofs.Found.{named_is}
use Rattle.hls_legal.proofs.Unrefused.{spot_terms}
use Rattle.hls_tree.specs.Reads.{IsLoaded, IsParent, IsRootAnswer, IsSeatAnswer}
use Rattle.hls_tree.specs.declared.seat.Seat.{Seat}
use Rattle.hls_manager.specs.Faults.{fault_refusal}
use Rattle.hls_manager.specs.Finds.{IsNoScheduler}
use Rattle.hls_manager.specs.Inside.Least.{IsLeastRefusal, IsLeastOf, lesser}
use Rattle.hls_manager.specs.Inside.Ports.{IsAt, IsWanted, AreWanted, IsPut, AreAtParents, ArePerchesInRange}
use Rattle.hls_manager.specs.Inside.Ports.{IsInRange, AreInRange, RefusesName, RefusesSpot, IsNameRefused}
use Rattle.hls_manager.specs.Inside.Ports.{IsPortRefused, IsSpotAnswer}
use Rattle.hls_manager.proofs.Places.{of_fault, to_fault, first_fault}
use Rattle.hls_manager.proofs.LeastLaws.{less_by_none, less_by_one}

-- ---- lists

-- an item of a list with one more behind it
pub data IsOfMore {A : Type 0} (xs : List A) (x : A) (i : ℕ) (y : A) : Type 0 where
  before : i < length xs → slice_get xs i ≡ Some y → IsOfMore xs x i y
  last : i ≡ length xs → x ≡ y → IsOfMore xs x i y

later : {A : Type 0} (z : A) (xs : List A) (x : A) (i : ℕ) (y : A) → IsOfMore xs x i y
    → IsOfMore (z ∷ xs) x (suc i) y
later z xs x i y (before lt e) = before (omega (arith, lt)) e
later z xs x i y (last is e) = last (ap suc is) e

pub of_more : {A : Type 0} (xs : List A) (x : A) (i : ℕ) (y : A) → slice_get (xs ++ x ∷ []) i ≡ Some y
    → IsOfMore xs x i y
of_more [] x zero y e = last refl (cc)
of_more [] x (suc i) y e = absurd (cc)
of_more (z ∷ xs) x zero y e = before (omega arith) e
of_more (z ∷ xs) x (suc i) y e = later z xs x i y (of_more xs x i y e)

pub length_more : {A : Type 0} (xs : List A) (x : A) → length (xs ++ x ∷ []) ≡ length xs + 1
length_more [] x = refl
length_more (z ∷ xs) x = (let rest = length_more xs x in omega (arith, rest))

-- an item at each place of a list
pub item_at : {A : Type 0} (xs : List A) (i : ℕ) → i < length xs → (x : A) × (slice_get xs i ≡ Some x)
item_at [] i lt = absurd (omega (arith, lt))
item_at (x ∷ xs) zero lt = (x, refl)
item_at (x ∷ xs) (suc i) lt = item_at xs i (omega (arith, lt))

-- ---- the seats of the first ports

module _ (h : Hierarchy) (perches : List Perch) where
  pub none_wanted : AreWanted h perches 0 []
  none_wanted = record { counted = refl; each = λ port perch seat e f. absurd (cc) }

  one_wanted : (n : ℕ) (perch : Perch) (seats : List Seat) (seat : Seat) → AreWanted h perches n seats
      → slice_get perches n ≡ Some perch → IsWanted h perch seat → (port : ℕ) (other : Perch) (one : Seat)
      → slice_get perches port ≡ Some other → IsOfMore seats seat port one → IsWanted h other one
  one_wanted n perch seats seat are at is port other one e (before lt f) = are.each port other one e f
  one_wanted n perch seats seat are at is port other one e (last here f) =
      let place = here ∙ are.counted in
      let both = ap (slice_get perches) place ∙ at in
      let same : perch ≡ other = cc in
      subst (λ (p : Perch). IsWanted h p one) same (subst (λ (s : Seat). IsWanted h perch s) f is)

  pub more_wanted : (n : ℕ) (perch : Perch) (old new : List Seat) → AreWanted h perches n old
      → slice_get perches n ≡ Some perch → IsPut h perch old new → AreWanted h perches (n + 1) new
  more_wanted n perch old new are at put =
      subst (λ (l : List Seat). AreWanted h perches (n + 1) l) (sym put.behind) (record {
        counted = length_more old put.seat ∙ ap (λ k. k + 1) are.counted;
        each = λ port other one e f.
            one_wanted n perch old put.seat are at put.wanted port other one e (of_more old put.seat port one f);
      })

-- ---- the numbers of a seat that is wanted

pub in_range : (h : Hierarchy) (perch : Perch) (seat : Seat) → IsWanted h perch seat → grammar.IsPerch perch
    → IsInRange seat
in_range h perch seat is within = record {
  terms = subst (λ (t : Terms). TermsInRange t) (sym is.set) (spot_terms perch.spot within.spot);
  kept = subst (λ (g : Guarantee). IsNarrow g) (sym is.for_it) within.want;
}

-- the perch of a port
pub perch_at : (h : Hierarchy) (perches : List Perch) (n : ℕ) (seats : List Seat) → AreWanted h perches n seats
    → n ≤ length perches → (port : ℕ) (seat : Seat) → slice_get seats port ≡ Some seat
    → (perch : Perch) × (slice_get perches port ≡ Some perch) × IsWanted h perch seat
perch_at h perches n seats are few port seat e =
    let within = slice_get_within seats port seat e in
    let counted = are.counted in
    let there = item_at perches port (omega (arith, within, counted, few)) in
    (there.0, there.1, are.each port there.0 seat there.1 e)

pub all_in_range : (h : Hierarchy) (perches : List Perch) (seats : List Seat)
    → AreWanted h perches (length perches) seats → ArePerchesInRange perches → AreInRange seats
all_in_range h perches seats are within port seat e =
    let at = perch_at h perches (length perches) seats are (omega arith) port seat e in
    in_range h at.0 seat at.2 (within port at.0 at.1)

parent_at : (h : Hierarchy) (spot : Spot) (parent : Option ℕ) → IsAt h spot parent → IsParent h parent
parent_at h Cpu None at = tt
parent_at h (Under sched terms) (Some p) at = at.1
parent_at h Cpu (Some p) at = absurd at
parent_at h (Under sched terms) None at = absurd at

pub all_at_parents : (h : Hierarchy) (perches : List Perch) (seats : List Seat)
    → AreWanted h perches (length perches) seats → AreAtParents h seats
all_at_parents h perches seats are port seat e =
    let at = perch_at h perches (length perches) seats are (omega arith) port seat e in
    parent_at h at.0.spot seat.parent at.2.place

-- ---- names

module _ (h : Hierarchy) where
  pub low_name : (spot : Spot) (r : Refusal) → RefusesName h spot r → number r ≤ 12
  low_name Cpu r f = absurd f
  low_name (Under sched terms) (NoSuchName name) f = omega arith
  low_name (Under sched terms) (WrongSort (Some name)) f = omega arith
  low_name (Under sched terms) (WrongSort None) f = absurd f
  low_name (Under sched terms) _ f = absurd f

  -- a name has one refusal at most
  one_name : (sched : Text) (a b : Refusal) → IsNoScheduler h sched a → IsNoScheduler h sched b → number a ≡ number b
  one_name sched (NoSuchName x) (NoSuchName y) f g = refl
  one_name sched (WrongSort (Some x)) (WrongSort (Some y)) f g = refl
  one_name sched (NoSuchName x) (WrongSort (Some y)) f g = absurd (let none = f.1 in let there = g.1.there in cc)
  one_name sched (WrongSort (Some x)) (NoSuchName y) f g = absurd (let none = g.1 in let there = f.1.there in cc)
  one_name sched (WrongSort None) b f g = absurd f
  one_name sched a (WrongSort None) f g = absurd g
  one_name sched (NoSuchName x) _ f g = absurd g
  one_name sched (WrongSort (Some x)) _ f g = absurd g
  one_name sched _ b f g = absurd f

  least_name : (spot : Spot) (a b : Refusal) → RefusesName h spot a → RefusesName h spot b → number a ≤ number b
  least_name Cpu a b f g = absurd f
  least_name (Under sched terms) a b f g = (let same = one_name sched a b f g in omega (arith, same))

  loaded_name : (sched : Text) (s : Scheduler) → node_of h sched ≡ Some (Loaded s) → (r : Refusal)
      → ¬ IsNoScheduler h sched r
  loaded_name sched s there (NoSuchName x) f = (let none = f.1 in cc)
  loaded_name sched s there (WrongSort (Some x)) f = (let other = f.1.there in cc)
  loaded_name sched s there (WrongSort None) f = f
  loaded_name sched s there _ f = f

  pub at_loaded : IsListed h → (spot : Spot) (parent : Option ℕ) → IsAt h spot parent → (r : Refusal)
      → ¬ RefusesName h spot r
  at_loaded listed Cpu None at r f = f
  at_loaded listed (Under sched terms) (Some p) at r f =
      loaded_name sched at.1.scheduler (named_is h listed p sched at.0 ∙ at.1.there) r f
  at_loaded listed Cpu (Some p) at r f = at
  at_loaded listed (Under sched terms) None at r f = at

  -- ---- the names of the first ports

  module _ (perches : List Perch) where
    named_here : (n : ℕ) (perch : Perch) → slice_get perches n ≡ Some perch → (r : Refusal)
        → IsNameRefused h perches n r → RefusesName h perch.spot r
    named_here n perch at r is =
        let there = is.at_port in
        let same : is.perch ≡ perch = cc in
        subst (λ (p : Perch). RefusesName h p.spot r) same is.refuses

    -- so far: the least refusal of a name, and the seats where there is none
    pub record AreNamed (n : ℕ) (best : Option Refusal) (seats : List Seat) : Type 0 where
      pub least : IsLeastRefusal (IsNameRefused h perches) n best
      pub wanted : best ≡ None → AreWanted h perches n seats

    pub none_named : AreNamed 0 None []
    none_named = record {
      least = λ at other lt f. absurd (omega (arith, lt));
      wanted = λ e. none_wanted h perches;
    }

    pub one_put : IsListed h → (n : ℕ) (perch : Perch) (best : Option Refusal) (old new : List Seat)
        → AreNamed n best old → slice_get perches n ≡ Some perch → IsPut h perch old new
        → AreNamed (n + 1) best new
    one_put listed n perch best old new are at put = record {
      least = less_by_none (IsNameRefused h perches) n
          (λ r is. at_loaded listed perch.spot put.seat.parent put.wanted.place r (named_here n perch at r is)) best
          are.least;
      wanted = λ e. more_wanted h perches n perch old new (are.wanted e) at put;
    }

    pub one_unnamed : (n : ℕ) (perch : Perch) (best : Option Refusal) (old new : List Seat) (r : Refusal)
        → AreNamed n best old → slice_get perches n ≡ Some perch → RefusesName h perch.spot r
        → AreNamed (n + 1) (Some (lesser best r)) new
    one_unnamed n perch best old new r are at refuses = record {
      least = less_by_one (IsNameRefused h perches) n r (record { perch = perch; at_port = at; refuses = refuses })
          (λ other is. least_name perch.spot r other refuses (named_here n perch at other is)) best are.least;
      wanted = λ e. absurd (cc);
    }

-- ---- faults

module _ (h : Hierarchy) where
  -- a load's own words do not matter
  pub to_spot : (name : Text) (config : Config) (perches : List Perch) (spot : Spot) (r : Refusal)
      → RefusesPlace h (said.Load name config perches) spot r → RefusesSpot h spot r
  to_spot name config perches spot (NoSuchName x) f = f
  to_spot name config perches Cpu (WrongSort None) f = f
  to_spot name config perches Cpu (WrongSort (Some x)) f = f
  to_spot name config perches (Under sched terms) (WrongSort None) f = f
  to_spot name config perches (Under sched terms) (WrongSort (Some x)) f = f
  to_spot name config perches spot (TermsUnfit x) f = f
  to_spot name config perches spot (PriorityTaken x) f = f
  to_spot name config perches spot (SeatsFull None seats) f = f
  to_spot name config perches spot (SeatsFull (Some x) seats) f = f
  to_spot name config perches spot (NoRoom free asked) f = f
  to_spot name config perches spot _ f = f

  pub of_spot : (name : Text) (config : Config) (perches : List Perch) (spot : Spot) (r : Refusal)
      → RefusesSpot h spot r → RefusesPlace h (said.Load name config perches) spot r
  of_spot name config perches spot (NoSuchName x) f = f
  of_spot name config perches Cpu (WrongSort None) f = f
  of_spot name config perches Cpu (WrongSort (Some x)) f = f
  of_spot name config perches (Under sched terms) (WrongSort None) f = f
  of_spot name config perches (Under sched terms) (WrongSort (Some x)) f = f
  of_spot name config perches spot (TermsUnfit x) f = f
  of_spot name config perches spot (PriorityTaken x) f = f
  of_spot name config perches spot (SeatsFull None seats) f = f
  of_spot name config perches spot (SeatsFull (Some x) seats) f = f
  of_spot name config perches spot (NoRoom free asked) f = f
  of_spot name config perches spot _ f = f

  -- it is the name of the place, or a fault there
  pub name_or_late : (spot : Spot) (r : Refusal) → RefusesSpot h spot r → RefusesName h spot r ⊎ (16 ≤ number r)
  name_or_late Cpu (NoSuchName x) f = absurd (let e = f.place in cc)
  name_or_late (Under sched terms) (NoSuchName x) f =
      let e = f.place in
      let same : x ≡ sched = cc in
      inl (same, sym (ap (node_of h) same) ∙ f.unknown)
  name_or_late Cpu (WrongSort None) f = absurd f
  name_or_late Cpu (WrongSort (Some x)) f = absurd f
  name_or_late (Under sched terms) (WrongSort None) f = absurd f
  name_or_late (Under sched terms) (WrongSort (Some x)) f = inl f
  name_or_late spot (TermsUnfit x) f = inr (omega arith)
  name_or_late spot (PriorityTaken x) f = inr (omega arith)
  name_or_late spot (SeatsFull x seats) f = inr (omega arith)
  name_or_late spot (NoRoom free asked) f = inr (omega arith)
  name_or_late spot _ f = absurd f

  pub of_name : (spot : Spot) (r : Refusal) → RefusesName h spot r → RefusesSpot h spot r
  of_name Cpu r f = absurd f
  of_name (Under sched terms) (NoSuchName x) f =
      record { place = ap Some (sym f.0); unknown = ap (node_of h) f.0 ∙ f.1 }
  of_name (Under sched terms) (WrongSort (Some x)) f = f
  of_name (Under sched terms) (WrongSort None) f = absurd f
  of_name (Under sched terms) _ f = absurd f

  -- at the processor
  root_taken : (r : Refusal) → RefusesSpot h Cpu r → IsSome h.root × (18 ≤ number r)
  root_taken (NoSuchName x) f = absurd (let e = f.place in cc)
  root_taken (WrongSort None) f = absurd f
  root_taken (WrongSort (Some x)) f = absurd f
  root_taken (TermsUnfit x) f = absurd (let e = f.place in cc)
  root_taken (PriorityTaken x) f = absurd (let e = f.1.place in cc)
  root_taken (SeatsFull None seats) f = (f.taken, omega arith)
  root_taken (SeatsFull (Some x) seats) f = absurd (let e = f.place in cc)
  root_taken (NoRoom free asked) f = absurd (let e = f.1.place in cc)
  root_taken _ f = absurd f

  root_some : (root : Option ℕ) → root ≢ None → IsSome root
  root_some None ne = absurd (ne refl)
  root_some (Some k) ne = refl

  root_free : IsRootAnswer h.root terms.Cpu None → IsSpotAnswer h Cpu None
  root_free is r f = (let some = (root_taken r f).0 in let none = ap is_some is.1 in cc)

  full_root : h.root ≢ None → IsSpotAnswer h Cpu (Some (SeatsFull None 1))
  full_root ne = record {
    refuses = record { place = refl; taken = root_some h.root ne; seats_are = refl };
    least = λ other f. (root_taken other f).1;
  }

  root_full : (fault : SeatFault) → IsRootAnswer h.root terms.Cpu (Some fault)
      → IsSpotAnswer h Cpu (Some (SeatsFull None 1))
  root_full faults.Unfit is = absurd (is refl)
  root_full (faults.PriorityTaken x) is = absurd is
  root_full (faults.Full seats) is = full_root is.1
  root_full (faults.NoRoom free asked) is = absurd is

  -- on a scheduler
  module _ (listed : IsListed h) (p : ℕ) (sched : Text) (set : Terms) (has : HasName h p sched)
      (is : IsLoaded (h.nodes p)) where
    there : node_of h sched ≡ Some (Loaded is.scheduler)
    there = named_is h listed p sched has ∙ is.there

    answer_is : (answer : Option SeatFault) → IsFirstFaultIfAny (config_of (h.nodes p)) (book_of (h.nodes p)) set answer
        → IsFirstFaultIfAny is.scheduler.config is.scheduler.book set answer
    answer_is answer f = subst (λ (n : Option Node). IsFirstFaultIfAny (config_of n) (book_of n) set answer) is.there f

    abbrev load : Command
    load = said.Load [] configs.Cpu []

    under_free : IsFirstFaultIfAny (config_of (h.nodes p)) (book_of (h.nodes p)) set None
        → IsSpotAnswer h (Under sched set) None
    under_free none r f =
        let of = of_fault h load sched set is.scheduler there r f in
        answer_is None none of.fault of.applies

    under_fault : (fault : SeatFault)
        → IsFirstFaultIfAny (config_of (h.nodes p)) (book_of (h.nodes p)) set (Some fault)
        → IsSpotAnswer h (Under sched set) (Some (fault_refusal sched fault))
    under_fault fault f =
        let first = answer_is (Some fault) f in
        record {
          refuses = to_fault h load sched set is.scheduler there fault first.applies;
          least = λ other g. first_fault h load sched set is.scheduler there fault first other g;
        }

  -- ---- at a seat that is wanted

  free_by : IsListed h → (spot : Spot) (parent : Option ℕ) (set : Terms) → IsAt h spot parent → set ≡ terms_in spot
      → IsSeatAnswer h parent set None → IsSpotAnswer h spot None
  free_by listed Cpu None set at e f =
      root_free (subst (λ (t : Terms). IsRootAnswer h.root t None) e f)
  free_by listed (Under sched terms) (Some p) set at e f =
      under_free listed p sched terms at.0 at.1
      (subst (λ (t : Terms). IsFirstFaultIfAny (config_of (h.nodes p)) (book_of (h.nodes p)) t None) e f)
  free_by listed Cpu (Some p) set at e f = absurd at
  free_by listed (Under sched terms) None set at e f = absurd at

  pub seat_free : IsListed h → (perch : Perch) (seat : Seat) → IsWanted h perch seat
      → IsSeatAnswer h seat.parent seat.terms None → IsSpotAnswer h perch.spot None
  seat_free listed perch seat is f = free_by listed perch.spot seat.parent seat.terms is.place is.set f

  full_by : (spot : Spot) (parent : Option ℕ) (set : Terms) → IsAt h spot parent → set ≡ terms_in spot
      → parent ≡ None → (fault : SeatFault) → IsSeatAnswer h parent set (Some fault)
      → IsSpotAnswer h spot (Some (SeatsFull None 1))
  full_by Cpu None set at e none fault f =
      root_full fault (subst (λ (t : Terms). IsRootAnswer h.root t (Some fault)) e f)
  full_by (Under sched terms) (Some p) set at e none fault f = absurd (cc)
  full_by Cpu (Some p) set at e none fault f = absurd at
  full_by (Under sched terms) None set at e none fault f = absurd at

  pub seat_full : (perch : Perch) (seat : Seat) → IsWanted h perch seat → seat.parent ≡ None
      → (fault : SeatFault) → IsSeatAnswer h seat.parent seat.terms (Some fault)
      → IsSpotAnswer h perch.spot (Some (SeatsFull None 1))
  seat_full perch seat is none fault f = full_by perch.spot seat.parent seat.terms is.place is.set none fault f

  fault_by : IsListed h → (spot : Spot) (parent : Option ℕ) (set : Terms) → IsAt h spot parent → set ≡ terms_in spot
      → (p : ℕ) (name : Text) → parent ≡ Some p → HasName h p name → (fault : SeatFault)
      → IsSeatAnswer h parent set (Some fault) → IsSpotAnswer h spot (Some (fault_refusal name fault))
  fault_by listed (Under sched terms) (Some q) set at e p name is has fault f =
      let same : p ≡ q = cc in
      let here : HasName h q name = subst (λ (k : ℕ). HasName h k name) same has in
      under_fault_of at.1 here (sym (at.0) ∙ here)
    where
      under_fault_of : IsLoaded (h.nodes q) → HasName h q name → Some sched ≡ Some name
          → IsSpotAnswer h (Under sched terms) (Some (fault_refusal name fault))
      under_fault_of there has both =
          let named : name ≡ sched = cc in
          subst (λ (n : Text). IsSpotAnswer h (Under n terms) (Some (fault_refusal name fault))) named
          (under_fault listed q name terms has there fault
          (subst (λ (t : Terms). IsFirstFaultIfAny (config_of (h.nodes q)) (book_of (h.nodes q)) t (Some fault)) e f))
  fault_by listed Cpu None set at e p name is has fault f = absurd (cc)
  fault_by listed Cpu (Some q) set at e p name is has fault f = absurd at
  fault_by listed (Under sched terms) None set at e p name is has fault f = absurd at

  pub seat_fault : IsListed h → (perch : Perch) (seat : Seat) → IsWanted h perch seat → (p : ℕ) (name : Text)
      → seat.parent ≡ Some p → HasName h p name → (fault : SeatFault)
      → IsSeatAnswer h seat.parent seat.terms (Some fault)
      → IsSpotAnswer h perch.spot (Some (fault_refusal name fault))
  seat_fault listed perch seat is p name at has fault f =
      fault_by listed perch.spot seat.parent seat.terms is.place is.set p name at has fault f

  -- the name of the scheduler is a name
  name_by : (spot : Spot) (parent : Option ℕ) → IsAt h spot parent → grammar.IsSpot spot → (p : ℕ) (name : Text)
      → parent ≡ Some p → HasName h p name → IsName name
  name_by (Under sched terms) (Some q) at within p name is has =
      let same : p ≡ q = cc in
      let both = sym at.0 ∙ subst (λ (k : ℕ). HasName h k name) same has in
      let named : sched ≡ name = cc in
      subst (λ (n : Text). IsName n) named within.0
  name_by Cpu None at within p name is has = absurd (cc)
  name_by Cpu (Some q) at within p name is has = absurd at
  name_by (Under sched terms) None at within p name is has = absurd at

  pub seat_name : (perch : Perch) (seat : Seat) → IsWanted h perch seat → grammar.IsPerch perch → (p : ℕ) (name : Text)
      → seat.parent ≡ Some p → HasName h p name → IsName name
  seat_name perch seat is within p name at has =
      name_by perch.spot seat.parent is.place within.spot p name at has

  -- ---- the faults of the first ports

  module _ (perches : List Perch) where
    fault_here : (n : ℕ) (perch : Perch) → slice_get perches n ≡ Some perch → (r : Refusal)
        → IsPortRefused h perches n r → RefusesSpot h perch.spot r
    fault_here n perch at r is =
        let there = is.at_port in
        let same : is.perch ≡ perch = cc in
        subst (λ (p : Perch). RefusesSpot h p.spot r) same is.refuses

    pub none_faulty : IsLeastRefusal (IsPortRefused h perches) 0 None
    none_faulty at other lt f = absurd (omega (arith, lt))

    pub one_free : (n : ℕ) (perch : Perch) (best : Option Refusal) → IsLeastRefusal (IsPortRefused h perches) n best
        → slice_get perches n ≡ Some perch → IsSpotAnswer h perch.spot None
        → IsLeastRefusal (IsPortRefused h perches) (n + 1) best
    one_free n perch best is at none =
        less_by_none (IsPortRefused h perches) n (λ r f. none r (fault_here n perch at r f)) best is

    pub one_faulty : (n : ℕ) (perch : Perch) (best : Option Refusal) (r : Refusal)
        → IsLeastRefusal (IsPortRefused h perches) n best → slice_get perches n ≡ Some perch
        → IsSpotAnswer h perch.spot (Some r) → IsLeastOf (IsPortRefused h perches) (n + 1) (lesser best r)
    one_faulty n perch best r is at there =
        less_by_one (IsPortRefused h perches) n r
        (record { perch = perch; at_port = at; refuses = there.refuses })
        (λ other f. there.least other (fault_here n perch at other f)) best is

    -- at the seats of the ports
    module _ (seats : List Seat) (are : AreWanted h perches (length perches) seats) (n : ℕ) (seat : Seat)
        (at_port : slice_get seats n ≡ Some seat) (best : Option Refusal)
        (is : IsLeastRefusal (IsPortRefused h perches) n best) where
      pub one_seat_free : ((perch : Perch) → IsWanted h perch seat → IsSpotAnswer h perch.spot None)
          → IsLeastRefusal (IsPortRefused h perches) (n + 1) best
      one_seat_free none =
          let perch = perch_at h perches (length perches) seats are (omega arith) n seat at_port in
          one_free n perch.0 best is perch.1 (none perch.0 perch.2)

      pub one_seat_faulty : (r : Refusal)
          → ((perch : Perch) → IsWanted h perch seat → IsSpotAnswer h perch.spot (Some r))
          → IsLeastOf (IsPortRefused h perches) (n + 1) (lesser best r)
      one_seat_faulty r there =
          let perch = perch_at h perches (length perches) seats are (omega arith) n seat at_port in
          one_faulty n perch.0 best r is perch.1 (there perch.0 perch.2)
