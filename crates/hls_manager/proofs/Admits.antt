-- The step of an admission that nothing refuses.
use Rattle.std.proofs.Common.{◌≡◌, ℕ, zero, suc, inl, inr, List, [], Option, None, refl, sym, ap, ◌∙◌}
use Rattle.std.proofs.Common.{arith, subst}
use Rattle.std.proofs.lemmas.Bool.{cases_lt}
use Rattle.hls_text.specs.Lines.{Text}
use Rattle.hls_chron.specs.declared.plain.Config.{Config}
use Rattle.hls_chron.specs.Ledger.{Ledger}
use Rattle.hls_kinds.specs.Room.{IsFree}
use Rattle.hls_derive.specs.declared.derivation.Derivation.{Derivation}
use Rattle.hls_scenario.specs.declared.scenario.Spot.{Spot}
use Rattle.hls_scenario.specs.declared.scenario.Spot.TheVariants.{Cpu, Under}
use Rattle.hls_scenario.specs.declared.scenario.Perch.{Perch}
use Rattle.hls_scenario.specs.declared.scenario.Command.TheVariants as said
use Rattle.hls_scenario.specs.Grammar.{IsCommand}
use Rattle.hls_report_text.specs.declared.refusal.Refusal.{Refusal}
use Rattle.hls_machine.specs.Ledgers.{with_marks}
use Rattle.hls_machine.specs.Hierarchy.{Hierarchy, Node, Place, Processor, At, Seat}
use Rattle.hls_machine.specs.Hierarchy.{book_of, config_of, start}
use Rattle.hls_machine.specs.Steps.{Step, Admit, state, leavings}
use Rattle.hls_machine.specs.Legal.{MaySit, MayTake, MayTakeAt, CanAdmit, Can, IsLegal}
use Rattle.hls_machine.specs.Lists.{IsListed}
use Rattle.hls_legal.specs.Tells.{IsSpot, IsPerch, Does}
use Rattle.hls_legal.specs.Moment.{Moment}
use Rattle.hls_legal.specs.Dues.{Due, due_at, Derives}
use Rattle.hls_legal.specs.Answers.{Applies}
use Rattle.hls_legal.specs.Doable.{MayDo, AreDerivable}
use Rattle.hls_legal.proofs.Done.{IsReached, reached}
use Rattle.hls_legal.proofs.Converse.{may_do}

-- the least free slot is one
free_once : (config : Config) (b : Ledger) (slot other : ℕ) → IsFree config b slot → IsFree config b other
    → slot ≡ other
free_once config b slot other one two = elim (cases_lt slot other) [
  | inl lt ↦ absurd (two.least slot lt one.free)
  | inr ge ↦ elim (cases_lt other slot) [
    | inl lt ↦ absurd (one.least other lt two.free)
    | inr le ↦ omega (arith, ge, le)
  ]
]

-- a seat was taken for a perch, at the least slot that is free where these are left
pub record IsTakenFor (h : Hierarchy) (left : List Seat) (perch : Perch) (seat : Seat) : Type 0 where
  pub is : IsPerch h seat perch
  pub free : (p slot : ℕ) → seat.place ≡ At p slot
      → IsFree (config_of (h.nodes p)) (with_marks (book_of (h.nodes p)) (leavings left p)) slot

may_at : (h : Hierarchy) (left : List Seat) (seat : Seat) (place : Place) (p slot : ℕ) → place ≡ At p slot
    → MayTakeAt h left seat place → MaySit h left seat p slot
may_at h left seat Processor p slot e may = absurd (cc)
may_at h left seat (At q other) p slot e may =
    let node : q ≡ p = cc in
    let same : other ≡ slot = cc in
    subst (λ (n : ℕ). MaySit h left seat p n) same (subst (λ (n : ℕ). MaySit h left seat n other) node may)

module _ (h : Hierarchy) (listed : IsListed h) (left : List Seat) (perch : Perch) (one two : Seat)
    (taken : IsTakenFor h left perch one) (is : IsPerch h two perch) (may : MayTake h left two) where
  place_by : (here there : Place) (spot : Spot) → one.place ≡ here → two.place ≡ there → IsSpot h here spot
      → IsSpot h there spot → here ≡ there
  place_by Processor Processor spot e f a b = refl
  place_by (At p slot) (At q other) (Under sched terms) e f a b =
      let node : p ≡ q = listed.names p q sched a b in
      let sits : MaySit h left two q other = may_at h left two two.place q other f may.free in
      let here : IsFree (config_of (h.nodes q)) (with_marks (book_of (h.nodes q)) (leavings left q)) slot =
      taken.free q slot (e ∙ ap (λ n. At n slot) node) in
      let there : IsFree sits.scheduler.config (with_marks sits.scheduler.book (leavings left q)) slot =
      subst (λ (n : Option Node). IsFree (config_of n) (with_marks (book_of n) (leavings left q)) slot) sits.there
      here in
      let same : slot ≡ other = free_once _ _ slot other there sits.free in
      ap (λ n. At n slot) node ∙ ap (At q) same
  place_by (At p slot) (At q other) Cpu e f a b = absurd a
  place_by Processor (At q other) Cpu e f a b = absurd b
  place_by Processor (At q other) (Under sched terms) e f a b = absurd a
  place_by (At p slot) Processor Cpu e f a b = absurd a
  place_by (At p slot) Processor (Under sched terms) e f a b = absurd b

  places : one.place ≡ two.place
  places = place_by one.place two.place perch.spot refl refl taken.is.place is.place

  -- two seats for one perch are one
  pub same_seat : two ≡ one
  same_seat =
      let place = sym places in
      let terms = is.terms ∙ sym taken.is.terms in
      let kept = is.kept ∙ sym taken.is.kept in
      λ i. record { place = place i; terms = terms i; kept = kept i }

-- ---- a thread

module _ (m : Moment) (past : List Step) (legal : IsLegal start past) (leads : m.hierarchy ≡ state start past)
    (name : Text) (perch : Perch) (within : IsCommand 2 (said.Thread name perch))
    (none : (r : Refusal) → ¬ Applies m (said.Thread name perch) r) (d : Derivation)
    (derives : Derives m.depth (due_at m.hierarchy name 0 perch) d) where
  abbrev h : Hierarchy
  h = m.hierarchy

  is_reached : IsReached h
  is_reached = subst (λ (g : Hierarchy). IsReached g) (sym leads) (reached past legal)

  derivable : AreDerivable m (said.Thread name perch)
  derivable zero due e =
      let same : due_at h name 0 perch ≡ due = cc in
      (d, subst (λ (x : Due). Derives m.depth x d) same derives)
  derivable (suc at) due e = absurd (cc)

  may : MayDo h (said.Thread name perch)
  may = may_do m is_reached 2 (said.Thread name perch) within none derivable

  record IsAdmitted : Type 0 where
    pub k : ℕ
    pub seat : Seat
    pub is : IsPerch h seat perch
    pub can : CanAdmit h k name seat

  by_step : (step : Step) → Does h (said.Thread name perch) step → Can h step → IsAdmitted
  by_step (Admit k new seat) does can = record {
    k = k;
    seat = seat;
    is = does.1;
    can = subst (λ (n : Text). CanAdmit h k n seat) does.0 can;
  }
  by_step _ does can = absurd does

  some : IsAdmitted
  some = by_step may.step may.does may.can

  -- the seat that was taken, on a node that is new
  pub can_admit : (k : ℕ) (seat : Seat) → h.nodes k ≡ None → IsTakenFor h [] perch seat → CanAdmit h k name seat
  can_admit k seat unused taken =
      let lone = some.can.places.take 0 some.seat refl in
      let same : some.seat ≡ seat = same_seat h is_reached.listed [] perch seat some.seat taken some.is lone in
      let can : CanAdmit h some.k name seat = subst (λ (s : Seat). CanAdmit h some.k name s) same some.can in
      record {
        new = record { unused = unused; named = can.new.named; fresh = can.new.fresh };
        few = can.few;
        place = can.place;
        places = can.places;
      }
