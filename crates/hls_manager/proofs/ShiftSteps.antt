-- The step of a move that nothing refuses.
use Rattle.std.proofs.Common.{◌≡◌, ℕ, inl, inr, ◌+◌, ◌≤◌, Bool, true, Option, Some, None, refl, sym}
use Rattle.std.proofs.Common.{◌∙◌, arith, subst}
use Rattle.std.proofs.lemmas.Bool.{cases_Bool}
use Rattle.hls_text.specs.Lines.{Text}
use Rattle.hls_chron.specs.Ranges.{TermsInRange}
use Rattle.hls_chron.specs.Seats.{terms_at}
use Rattle.hls_chron.specs.declared.plain.Terms.{Terms}
use Rattle.hls_chron.proofs.BookLaws.{terms_at-unmarked}
use Rattle.hls_guarantee.specs.Limits.{IsNarrow}
use Rattle.hls_kinds.specs.Faults.{IsFirstFaultIfAny}
use Rattle.hls_scenario.specs.declared.scenario.Spot.{Spot}
use Rattle.hls_scenario.specs.declared.scenario.Spot.TheVariants.{Cpu, Under}
use Rattle.hls_scenario.specs.declared.scenario.Perch.{Perch}
use Rattle.hls_scenario.specs.declared.scenario.Command.{Command}
use Rattle.hls_scenario.specs.declared.scenario.Command.TheVariants as said
use Rattle.hls_scenario.specs.Grammar.{IsCommand}
use Rattle.hls_report_text.specs.declared.refusal.Refusal.{Refusal}
use Rattle.hls_machine.specs.Hierarchy.{Hierarchy, Node, Loaded, Admitted, Scheduler, Place, Processor, At}
use Rattle.hls_machine.specs.Hierarchy.{seat_of, seats_of, book_of, config_of}
use Rattle.hls_machine.specs.Hierarchy.{Seat as TakenSeat}
use Rattle.hls_machine.specs.Steps.{Step, Move}
use Rattle.hls_machine.specs.Legal.{IsBelow, Can, scheduler_at}
use Rattle.hls_machine.specs.Seated.{IsSeated}
use Rattle.hls_machine.proofs.Readings.{under_below, below_rank}
use Rattle.hls_legal.specs.Tells.{HasName, IsSpot, IsPerch, Does}
use Rattle.hls_legal.specs.Moment.{Moment}
use Rattle.hls_legal.specs.Answers.{Applies}
use Rattle.hls_legal.specs.Doable.{MayDo, AreDerivable}
use Rattle.hls_legal.proofs.Done as done
use Rattle.hls_legal.proofs.Converse.{may_do}
use Rattle.hls_tree.specs.Offers.{IsTakenAs, MayMove, HasMoveRoom, TakesAt}
use Rattle.hls_tree.specs.Reads.{IsSeatAnswer, IsLoaded}
use Rattle.hls_tree.specs.declared.seat.Seat.{Seat}
use Rattle.hls_machine.specs.Legal.{IsReached}
use Rattle.hls_manager.specs.Outcomes.{HasMarkRoom}
use Rattle.hls_manager.specs.Inside.Shifts.{IsAtSpot, IsAimed, IsPlaced}
use Rattle.hls_manager.proofs.Outcomes.{reached_done}
use Rattle.hls_manager.proofs.Admits.{IsTakenFor, same_seat}

-- the seat that was taken is for the perch
spot_by : (h : Hierarchy) (place : Place) (parent : Option ℕ) (spot : Spot) → scheduler_at place ≡ parent
    → IsAtSpot h parent spot → IsSpot h place spot
spot_by h Processor None Cpu e is = tt
spot_by h (At q slot) (Some p) (Under sched terms) e is =
    (let same : p ≡ q = cc in subst (λ (n : ℕ). HasName h n sched) same is.0)
spot_by h Processor (Some p) spot e is = absurd (cc)
spot_by h (At q slot) None spot e is = absurd (cc)
spot_by h place None (Under sched terms) e is = absurd is
spot_by h place (Some p) Cpu e is = absurd is

module _ (m : Moment) (reached : IsReached m.hierarchy) (name : Text) (perch : Perch)
    (within : IsCommand 2 (said.Move name perch)) (none : (r : Refusal) → ¬ Applies m (said.Move name perch) r)
    (derivable : AreDerivable m (said.Move name perch)) (id : ℕ) (has : HasName m.hierarchy id name) where
  abbrev h : Hierarchy
  h = m.hierarchy

  abbrev c : Command
  c = said.Move name perch

  is_reached : done.IsReached h
  is_reached = reached_done h reached

  may : MayDo h c
  may = may_do m is_reached 2 c within none derivable

  record IsMoved : Type 0 where
    pub seat : TakenSeat
    pub below : ℕ → Bool
    pub is : IsPerch h seat perch
    pub can : Can h (Move id seat below)

  by_step : (step : Step) → Does h c step → Can h step → IsMoved
  by_step (Move k seat below) does can = record {
    seat = seat;
    below = below;
    is = does.1;
    can = subst (λ (n : ℕ). Can h (Move n seat below)) (is_reached.listed.names k id name does.0 has) can;
  }
  by_step _ does can = absurd does

  some : IsMoved
  some = by_step may.step may.does may.can

  -- the test of what is below is one
  implied : (one two : ℕ → Bool) → IsBelow h id one → IsBelow h id two → (k : ℕ) → one k ≡ true → two k ≡ true
  implied one two is_one is_two k on =
      let rank = is_reached.go.kept.rank in
      let under = below_rank h rank is_reached.go.kept.sound id one is_one (rank k + 1) k (omega arith) on in
      under_below h id two is_two under.0 k under.1

  agree : (one two : ℕ → Bool) → IsBelow h id one → IsBelow h id two → (k : ℕ) → one k ≡ two k
  agree one two is_one is_two k = elim (cases_Bool (one k)) [
    | inl on ↦ on ∙ sym (implied one two is_one is_two k on)
    | inr off ↦ elim (cases_Bool (two k)) [
      | inl on ↦ absurd (let back = implied two one is_two is_one k on in cc)
      | inr none ↦ off ∙ sym none
    ]
  ]

  same_test : (one two : ℕ → Bool) → IsBelow h id one → IsBelow h id two → one ≡ two
  same_test one two is_one is_two = λ i k. agree one two is_one is_two k i

  pub can_move : (seat : TakenSeat) (below : ℕ → Bool) → IsBelow h id below
      → IsTakenFor h (seats_of (h.nodes id)) perch seat → Can h (Move id seat below)
  can_move seat below is taken =
      let same : some.seat ≡ seat =
      same_seat h is_reached.listed (seats_of (h.nodes id)) perch seat some.seat taken some.is some.can.0.take in
      let test : some.below ≡ below = same_test some.below below some.can.0.under is in
      subst (λ (b : ℕ → Bool). Can h (Move id seat b)) test
      (subst (λ (s : TakenSeat). Can h (Move id s some.below)) same some.can)

-- ---- what the tree is asked

-- a book on which a seat is taken has room for two marks
room_by : (node : Option Node) (slot : ℕ) (terms : Terms) → terms_at (book_of node) slot ≡ Some terms
    → ((s : Scheduler) → node ≡ Some (Loaded s) → 2 ≤ s.book.spare_marks) → 2 ≤ (book_of node).spare_marks
room_by None slot terms e room = absurd (let none = terms_at-unmarked (book_of None) slot refl in cc)
room_by (Some (Loaded s)) slot terms e room = room s refl
room_by (Some (Admitted t)) slot terms e room =
    absurd (let none = terms_at-unmarked (book_of (Some (Admitted t))) slot refl in cc)

module _ (h : Hierarchy) (seated : IsSeated h) (room : HasMarkRoom h) (name : Text) (perch : Perch) (id : ℕ)
    (seat : Seat) (aimed : IsAimed h name perch id seat) where
  room_left : (p slot : ℕ) (old : TakenSeat) → seat_of (h.nodes id) 0 ≡ Some old → old.place ≡ At p slot
      → 2 ≤ (book_of (h.nodes p)).spare_marks
  room_left p slot old sits at =
      room_by (h.nodes p) slot old.terms
      (seated.taken id 0 p slot (record { seat = old; sits = sits; at_place = at })) (room p)

  move_room : HasMoveRoom h id seat.parent
  move_room = record {
    leaves = λ p slot old sits at. (let le = room_left p slot old sits at in omega (arith, le));
    both = λ p slot old sits at same. (let le = room_left p slot old sits at in omega (arith, le));
    settles = λ k s under there. (let le = room k s there in omega (arith, le));
  }

  takes_under : (p : ℕ) → IsLoaded (h.nodes p) → IsSeatAnswer h (Some p) seat.terms None → TakesAt h (Some p) seat.terms
  takes_under p is fits = record {
    scheduler = is.scheduler;
    there = is.there;
    fits = subst (λ (n : Option Node). IsFirstFaultIfAny (config_of n) (book_of n) seat.terms None) is.there fits;
    room = (let le = room p is.scheduler is.there in omega (arith, le));
  }

  takes_at : (parent : Option ℕ) (spot : Spot) → IsAtSpot h parent spot → IsSeatAnswer h parent seat.terms None
      → TakesAt h parent seat.terms
  takes_at None Cpu is fits = record { kind = fits.0; free = fits.1 }
  takes_at (Some p) (Under sched set) is fits = takes_under p is.1 fits
  takes_at None (Under sched set) is fits = absurd is
  takes_at (Some p) Cpu is fits = absurd is

  pub may_move : TermsInRange seat.terms → IsNarrow seat.kept → IsSeatAnswer h seat.parent seat.terms None
      → IsPlaced h id seat.parent → MayMove h id seat
  may_move range narrow fits placed = record {
    sort = aimed.sort;
    seat = record { fits = takes_at seat.parent perch.spot aimed.spot fits; terms = range; kept = narrow };
    acyclic = placed.acyclic;
    room = move_room;
    shallow = λ s taken chain there at on. placed.levels taken chain at on;
  }

module _ (h : Hierarchy) (name : Text) (perch : Perch) (id : ℕ) (seat : Seat)
    (aimed : IsAimed h name perch id seat) where
  pub taken_for : (s : TakenSeat) → IsTakenAs h (seats_of (h.nodes id)) seat s
      → IsTakenFor h (seats_of (h.nodes id)) perch s
  taken_for s is = record {
    is = record {
      place = spot_by h s.place seat.parent perch.spot is.on aimed.spot;
      terms = is.terms ∙ aimed.terms;
      kept = is.kept ∙ aimed.kept;
    };
    free = is.free;
  }
