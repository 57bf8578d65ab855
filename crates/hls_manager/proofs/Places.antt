-- What refuses a command at one of its places.
use Rattle.std.proofs.Common.{◌≡◌, ◌≢◌, ℕ, Some, None, refl, ap, ◌∙◌, ◌≤◌, arith}
use Rattle.hls_text.specs.Lines.{Text}
use Rattle.hls_chron.specs.declared.plain.Terms.{Terms}
use Rattle.hls_kinds.specs.declared.fault.SeatFault.{SeatFault}
use Rattle.hls_kinds.specs.declared.fault.SeatFault.TheVariants as faults
use Rattle.hls_kinds.specs.Faults.{fault_number, IsFirstFault}
use Rattle.hls_kinds.specs.Faults as seats
use Rattle.hls_scenario.specs.declared.scenario.Spot.{Spot}
use Rattle.hls_scenario.specs.declared.scenario.Spot.TheVariants.{Cpu, Under}
use Rattle.hls_scenario.specs.declared.scenario.Command.{Command}
use Rattle.hls_report_text.specs.declared.refusal.Refusal.{Refusal}
use Rattle.hls_report_text.specs.declared.refusal.Refusal.TheVariants.{NameTaken, NoSuchName, WrongSort}
use Rattle.hls_report_text.specs.declared.refusal.Refusal.TheVariants.{TooManyNodes, TooManyThreads, NotEmpty}
use Rattle.hls_report_text.specs.declared.refusal.Refusal.TheVariants.{TermsUnfit, PriorityTaken, SeatsFull}
use Rattle.hls_report_text.specs.declared.refusal.Refusal.TheVariants.{Cycle, TooDeep, TooManyShares, KitEmpty}
use Rattle.hls_report_text.specs.declared.refusal.Refusal.TheVariants.{NoRoom, NoDerivation}
use Rattle.hls_machine.specs.Hierarchy.{Hierarchy, Node, Loaded, Scheduler}
use Rattle.hls_legal.specs.Moment.{node_of}
use Rattle.hls_legal.specs.Refusals.{HasFault}
use Rattle.hls_legal.specs.Answers.{number, RefusesPlace}
use Rattle.hls_legal.proofs.Taken.{fault_here}
use Rattle.hls_manager.specs.Faults.{fault_refusal}

pub number_fault : (sched : Text) (fault : SeatFault) → number (fault_refusal sched fault) ≡ fault_number fault
number_fault sched faults.Unfit = refl
number_fault sched (faults.PriorityTaken priority) = refl
number_fault sched (faults.Full seats) = refl
number_fault sched (faults.NoRoom free asked) = refl

pub from_ten : (r : Refusal) → 10 ≤ number r
from_ten (NameTaken name) = omega arith
from_ten (NoSuchName name) = omega arith
from_ten (WrongSort name) = omega arith
from_ten (TooManyNodes most) = omega arith
from_ten (TooManyThreads most) = omega arith
from_ten (NotEmpty name seats) = omega arith
from_ten (TermsUnfit name) = omega arith
from_ten (PriorityTaken priority) = omega arith
from_ten (SeatsFull name seats) = omega arith
from_ten (Cycle name) = omega arith
from_ten (TooDeep level) = omega arith
from_ten (TooManyShares shares) = omega arith
from_ten (KitEmpty kind used) = omega arith
from_ten (NoRoom free asked) = omega arith
from_ten (NoDerivation name depth) = omega arith

pub to_last : (r : Refusal) → number r ≤ 24
to_last (NameTaken name) = omega arith
to_last (NoSuchName name) = omega arith
to_last (WrongSort name) = omega arith
to_last (TooManyNodes most) = omega arith
to_last (TooManyThreads most) = omega arith
to_last (NotEmpty name seats) = omega arith
to_last (TermsUnfit name) = omega arith
to_last (PriorityTaken priority) = omega arith
to_last (SeatsFull name seats) = omega arith
to_last (Cycle name) = omega arith
to_last (TooDeep level) = omega arith
to_last (TooManyShares shares) = omega arith
to_last (KitEmpty kind used) = omega arith
to_last (NoRoom free asked) = omega arith
to_last (NoDerivation name depth) = omega arith

-- the numbers that places have: those of the command as a whole are others, but for names
pub record IsPlaceNumber (n : ℕ) : Type 0 where
  pub taken : n ≢ 10
  pub nodes : n ≢ 13
  pub threads : n ≢ 14
  pub filled : n ≢ 15
  pub cycle : n ≢ 19
  pub deep : n ≢ 20
  pub shares : n ≢ 21
  pub kit : n ≢ 22
  pub derived : n ≢ 24

of_place : (n : ℕ) → n ≢ 10 → n ≢ 13 → n ≢ 14 → n ≢ 15 → n ≢ 19 → n ≢ 20 → n ≢ 21 → n ≢ 22 → n ≢ 24
    → IsPlaceNumber n
of_place n a b c d e f g h i = record {
  taken = a;
  nodes = b;
  threads = c;
  filled = d;
  cycle = e;
  deep = f;
  shares = g;
  kit = h;
  derived = i;
}

pub place_number : (h : Hierarchy) (c : Command) (spot : Spot) (r : Refusal) → RefusesPlace h c spot r
    → IsPlaceNumber (number r)
place_number h c spot (NoSuchName name) f =
    of_place 11 (omega arith) (omega arith) (omega arith) (omega arith) (omega arith) (omega arith) (omega arith)
    (omega arith) (omega arith)
place_number h c spot (WrongSort name) f =
    of_place 12 (omega arith) (omega arith) (omega arith) (omega arith) (omega arith) (omega arith) (omega arith)
    (omega arith) (omega arith)
place_number h c spot (TermsUnfit name) f =
    of_place 16 (omega arith) (omega arith) (omega arith) (omega arith) (omega arith) (omega arith) (omega arith)
    (omega arith) (omega arith)
place_number h c spot (PriorityTaken priority) f =
    of_place 17 (omega arith) (omega arith) (omega arith) (omega arith) (omega arith) (omega arith) (omega arith)
    (omega arith) (omega arith)
place_number h c spot (SeatsFull name seats) f =
    of_place 18 (omega arith) (omega arith) (omega arith) (omega arith) (omega arith) (omega arith) (omega arith)
    (omega arith) (omega arith)
place_number h c spot (NoRoom free asked) f =
    of_place 23 (omega arith) (omega arith) (omega arith) (omega arith) (omega arith) (omega arith) (omega arith)
    (omega arith) (omega arith)
place_number h c spot _ f = absurd f

-- ---- at the processor

-- a thread is of the wrong sort there, and that is the least that may be
pub at_processor : (h : Hierarchy) (c : Command) (r : Refusal) → RefusesPlace h c Cpu r → 12 ≤ number r
at_processor h c (NoSuchName name) f = absurd (let e = f.place in cc)
at_processor h c (WrongSort name) f = omega arith
at_processor h c (TermsUnfit name) f = omega arith
at_processor h c (PriorityTaken priority) f = omega arith
at_processor h c (SeatsFull name seats) f = omega arith
at_processor h c (NoRoom free asked) f = omega arith
at_processor h c _ f = absurd f

-- ---- at a name

module _ (h : Hierarchy) (c : Command) (sched : Text) (terms : Terms) where
  abbrev spot : Spot
  spot = Under sched terms

  -- nobody has the name
  pub unknown_place : (r : Refusal) → RefusesPlace h c spot r → 11 ≤ number r
  unknown_place (NoSuchName name) f = omega arith
  unknown_place (WrongSort name) f = omega arith
  unknown_place (TermsUnfit name) f = omega arith
  unknown_place (PriorityTaken priority) f = omega arith
  unknown_place (SeatsFull name seats) f = omega arith
  unknown_place (NoRoom free asked) f = omega arith
  unknown_place _ f = absurd f

  -- somebody has it
  pub known_place : (node : Node) → node_of h sched ≡ Some node → (r : Refusal) → RefusesPlace h c spot r
      → 12 ≤ number r
  known_place node there (NoSuchName name) f =
      let e = f.place in
      let same : sched ≡ name = cc in
      let none = ap (node_of h) same ∙ f.unknown in
      absurd (cc)
  known_place node there (WrongSort name) f = omega arith
  known_place node there (TermsUnfit name) f = omega arith
  known_place node there (PriorityTaken priority) f = omega arith
  known_place node there (SeatsFull name seats) f = omega arith
  known_place node there (NoRoom free asked) f = omega arith
  known_place node there _ f = absurd f

  -- a scheduler has it
  module _ (s : Scheduler) (there : node_of h sched ≡ Some (Loaded s)) where
    pub record IsOfFault (r : Refusal) : Type 0 where
      pub fault : SeatFault
      pub is : r ≡ fault_refusal sched fault
      pub applies : seats.Applies s.config s.book terms fault

    same_sched : (name : Text) (fault : SeatFault) → HasFault h spot name fault → name ≡ sched
    same_sched name fault f = (let e = f.place in cc)

    here : (name : Text) (fault : SeatFault) → HasFault h spot name fault
        → seats.Applies s.config s.book terms fault
    here name fault f = fault_here h sched name terms fault s there f

    pub of_fault : (r : Refusal) → RefusesPlace h c spot r → IsOfFault r
    of_fault (NoSuchName name) f =
        let e = f.place in
        let same : sched ≡ name = cc in
        let none = ap (node_of h) same ∙ f.unknown in
        absurd (cc)
    of_fault (WrongSort None) f = absurd f
    of_fault (WrongSort (Some name)) f = absurd (let other = f.1.there in cc)
    of_fault (TermsUnfit name) f = record {
      fault = faults.Unfit;
      is = ap TermsUnfit (same_sched name faults.Unfit f);
      applies = here name faults.Unfit f;
    }
    of_fault (PriorityTaken priority) f = record {
      fault = faults.PriorityTaken priority;
      is = refl;
      applies = here f.0 (faults.PriorityTaken priority) f.1;
    }
    of_fault (SeatsFull None seats) f = absurd (let e = f.place in cc)
    of_fault (SeatsFull (Some name) seats) f = record {
      fault = faults.Full seats;
      is = ap (λ n. SeatsFull (Some n) seats) (same_sched name (faults.Full seats) f);
      applies = here name (faults.Full seats) f;
    }
    of_fault (NoRoom free asked) f = record {
      fault = faults.NoRoom free asked;
      is = refl;
      applies = here f.0 (faults.NoRoom free asked) f.1;
    }
    of_fault _ f = absurd f

    fault_at : (fault : SeatFault) → seats.Applies s.config s.book terms fault → HasFault h spot sched fault
    fault_at fault f = record { terms = terms; place = refl; scheduler = s; there = there; applies = f }

    pub to_fault : (fault : SeatFault) → seats.Applies s.config s.book terms fault
        → RefusesPlace h c spot (fault_refusal sched fault)
    to_fault faults.Unfit f = fault_at faults.Unfit f
    to_fault (faults.PriorityTaken priority) f = (sched, fault_at (faults.PriorityTaken priority) f)
    to_fault (faults.Full seats) f = fault_at (faults.Full seats) f
    to_fault (faults.NoRoom free asked) f = (sched, fault_at (faults.NoRoom free asked) f)

    -- the first fault is the least refusal
    pub first_fault : (fault : SeatFault) → IsFirstFault s.config s.book terms fault → (r : Refusal)
        → RefusesPlace h c spot r → number (fault_refusal sched fault) ≤ number r
    first_fault fault is r f =
        let of = of_fault r f in
        let one = number_fault sched fault in
        let other = ap number of.is ∙ number_fault sched of.fault in
        let le = is.first of.fault of.applies in
        omega (arith, one, other, le)

    -- a fault is of a number from 16 on
    late : (fault : SeatFault) → 16 ≤ fault_number fault
    late faults.Unfit = omega arith
    late (faults.PriorityTaken priority) = omega arith
    late (faults.Full seats) = omega arith
    late (faults.NoRoom free asked) = omega arith

    pub late_fault : (r : Refusal) → RefusesPlace h c spot r → 16 ≤ number r
    late_fault r f =
        let of = of_fault r f in
        let is = ap number of.is ∙ number_fault sched of.fault in
        let from = late of.fault in
        omega (arith, is, from)
