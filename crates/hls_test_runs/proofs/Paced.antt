-- The run of two reservations of one period is legal.
use Rattle.std.proofs.Common.{◌≡◌, ◌≢◌, ℕ, zero, suc, ◌-◌, ◌<◌, ◌≤◌, [], ◌∷◌, Some, None, Bool, true, false, inl, inr}
use Rattle.std.proofs.Common.{refl, sym, arith}
use Rattle.std.specs.Prelude.{codes}
use Rattle.std.proofs.lemmas.Bool.{cases_lt, eq-eqb, eqb-true}
use Rattle.hls_chron.specs.declared.plain.Config.TheVariants.{Edf}
use Rattle.hls_chron.specs.declared.plain.Terms.TheVariants.{Res}
use Rattle.hls_chron.specs.Ledger.{Ledger}
use Rattle.hls_chron.specs.Parts.{parts}
use Rattle.hls_chron.specs.Seats.{terms_at}
use Rattle.hls_chron.specs.Ticks.{count}
use Rattle.hls_kinds.specs.Asks.{asks, slot_asks}
use Rattle.hls_kinds.specs.Discipline.{Serves}
use Rattle.hls_kinds.specs.Fits.{Fits}
use Rattle.hls_kinds.specs.Reservations.{is_held}
use Rattle.hls_kinds.specs.Room.{occupant_at}
use Rattle.hls_kinds.specs.Slots.{sum_below}
use Rattle.hls_kinds.specs.Tenants.{tenant_at}
use Rattle.hls_machine.specs.Ledgers.{empty_book}
use Rattle.hls_machine.specs.Hierarchy.{Hierarchy, Thread, Awake, start, name_of, had_asked, was_served}
use Rattle.hls_machine.specs.Steps.{Rouse, after, state}
use Rattle.hls_machine.specs.Legal.{MaySit, IsAsking, Can, IsLegal}
use Rattle.hls_test_runs.specs.Paced.{former_seat, latter_seat, load_pace, admit_former, admit_latter}
use Rattle.hls_legal_jobs.specs.Jobs.{AsksForJobs}
use Rattle.hls_legal_jobs.specs.Reports.{due_in}
use Rattle.hls_legal_jobs.specs.Runs.{HasReservation}
use Rattle.hls_test_runs.specs.Moves.{root_seat}
use Rattle.hls_test_runs.specs.Paced.{latter, latter_reserved, is_first, two_periods}
use Rattle.hls_test_runs.specs.Paced.{everyone_asks, both_slots, pace_path, former_tick, latter_tick, paced}
use Rattle.hls_test_runs.proofs.Small.{Few, few_after, each_of_three, beyond, take_one, the}
use Rattle.hls_test_runs.proofs.Awake.{off_two}
use Rattle.hls_test_runs.proofs.Paces.{alone, together, after_one, after_two, after_three, after_four, after_five}
use Rattle.hls_test_runs.proofs.Paces.{at_first, at_second, at_third, at_fourth, at_fifth, at_sixth}
use Rattle.hls_test_runs.proofs.Crowded.{reserves, letter, alone_upper, earlier_lower}
use Rattle.hls_test_runs.proofs.Desk.{IsDesk, can_load_desk, desk_asking, desk_ticked, desk_runs}

-- the hierarchy as it is set up
abbrev one : Hierarchy
one = after start load_pace

abbrev two : Hierarchy
two = after one admit_former

abbrev three : Hierarchy
three = after two admit_latter

abbrev four : Hierarchy
four = after three (Rouse 1 None)

abbrev awake : Hierarchy
awake = after four (Rouse 2 None)

few_one : Few 3 one
few_one = few_after 3 start load_pace (λ k le e. omega (arith, le, e)) (λ k le. refl)

few_two : Few 3 two
few_two = few_after 3 one admit_former (λ k le e. omega (arith, le, e)) few_one

few_three : Few 3 three
few_three = few_after 3 two admit_latter (λ k le e. omega (arith, le, e)) few_two

few_four : Few 3 four
few_four = few_after 3 three (Rouse 1 None) (λ k le made. made) few_three

few_awake : Few 3 awake
few_awake = few_after 3 four (Rouse 2 None) (λ k le made. made) few_four

former_fits : Fits Edf (empty_book 0 6 8) (Res true 1 3)
unfolding parts sum_below is_held tenant_at terms_at
former_fits = record {
  of_kind = refl;
  within = λ e. e;
  apart = λ priority is has. cc;
  room = λ free asked lacks. omega (arith, lacks.left, lacks.asks, lacks.lacks);
}

latter_fits : Fits Edf alone (Res true 2 3)
unfolding parts sum_below is_held tenant_at terms_at
latter_fits = record {
  of_kind = refl;
  within = λ e. e;
  apart = λ priority is has. cc;
  room = λ free asked lacks. omega (arith, lacks.left, lacks.asks, lacks.lacks);
}

former_sits : MaySit one [] former_seat 0 0
unfolding terms_at is_held tenant_at
former_sits = record {
  scheduler = the (one.nodes 0);
  there = refl;
  fits = former_fits;
  room = λ full. full 0 (omega arith) refl;
  free = record { within = omega arith; free = refl; least = λ other lt. absurd (omega (arith, lt)) };
  derived = reserves 1 3 (omega arith) (omega arith) (omega arith);
}

can_admit_former : Can one admit_former
can_admit_former = record {
  new = record {
    unused = refl;
    named = refl;
    fresh = each_of_three one few_one (λ k node. name_of node ≢ Some (codes "a")) (λ e. cc) (λ e. cc) (λ e. cc)
        (λ k le e. cc);
  };
  few = omega arith;
  place = λ e. cc;
  places = take_one one former_seat
      (record {
        in_range = record {
          terms = (omega arith, omega arith, omega arith);
          kept = record { some = omega arith; fits = omega arith; size = omega arith };
        };
        free = former_sits;
      });
}

second_least : (other : ℕ) → other < 1 → occupant_at Edf alone other ≢ None
unfolding terms_at is_held tenant_at
second_least zero lt none = cc
second_least (suc other) lt none = omega (arith, lt)

latter_sits : MaySit two [] latter_seat 0 1
unfolding terms_at is_held tenant_at
latter_sits = record {
  scheduler = the (two.nodes 0);
  there = refl;
  fits = latter_fits;
  room = λ full. full 1 (omega arith) refl;
  free = record { within = omega arith; free = refl; least = second_least };
  derived = reserves 2 3 (omega arith) (omega arith) (omega arith);
}

can_admit_latter : Can two admit_latter
can_admit_latter = record {
  new = record {
    unused = refl;
    named = refl;
    fresh = each_of_three two few_two (λ k node. name_of node ≢ Some (codes "b")) (λ e. cc)
        (λ e. omega (arith, letter 97 98 e)) (λ e. cc) (λ k le e. cc);
  };
  few = omega arith;
  place = λ e. cc;
  places = take_one two latter_seat
      (record {
        in_range = record {
          terms = (omega arith, omega arith, omega arith);
          kept = record { some = omega arith; fits = omega arith; size = omega arith };
        };
        free = latter_sits;
      });
}

abbrev former_thread : Thread
former_thread = record { name = codes "a"; seat = former_seat; wake = Awake; stay = 0 }

abbrev latter_thread : Thread
latter_thread = record { name = codes "b"; seat = latter_seat; wake = Awake; stay = 0 }

abbrev IsAt : Hierarchy → Ledger → Type 0
IsAt h b = IsDesk h Edf b (Some former_thread) (Some latter_thread)

module _ (h : Hierarchy) (b : Ledger) (at : IsAt h b) (one : terms_at b 0 ≢ None) (two : terms_at b 1 ≢ None)
    (on : asks Edf b 3 ≡ true) where
  silent : (slot : ℕ) → terms_at b slot ≡ None → slot_asks 3 slot ≡ false
  silent zero none = absurd (one none)
  silent (suc zero) none = absurd (two none)
  silent (suc (suc slot)) none = off_two slot

  all_asking : IsAsking h everyone_asks both_slots
  all_asking = desk_asking h Edf b (Some former_thread) (Some latter_thread) at everyone_asks both_slots
      (sym on) (refl, refl, refl, refl) (refl, refl, refl, refl)
      (λ k le. rw (beyond k 0 (omega (arith, le)), beyond k 1 (omega (arith, le)), beyond k 2 (omega (arith, le)))
      refl)
      (λ k le. rw (beyond k 0 (omega (arith, le))) refl) silent

  serves_former : Serves Edf b 3 0 → Can h former_tick
  serves_former serves = desk_runs h Edf b (Some former_thread) (Some latter_thread) at everyone_asks both_slots
      0 1 former_thread all_asking refl serves at.first_there refl refl

  serves_latter : Serves Edf b 3 1 → Can h latter_tick
  serves_latter serves = desk_runs h Edf b (Some former_thread) (Some latter_thread) at everyone_asks both_slots
      1 2 latter_thread all_asking refl serves at.second_there refl refl

-- the ticks
at_awake : IsAt awake together
at_awake =
    record { few = few_awake; rooted = refl; root_there = refl; first_there = refl; second_there = refl }

abbrev h1 : Hierarchy
h1 = after awake former_tick

at_h1 : IsAt h1 after_one
at_h1 = desk_ticked awake Edf together (Some former_thread) (Some latter_thread) at_awake everyone_asks both_slots
    (Some (pace_path 0 1))

abbrev h2 : Hierarchy
h2 = after h1 latter_tick

at_h2 : IsAt h2 after_two
at_h2 = desk_ticked h1 Edf after_one (Some former_thread) (Some latter_thread) at_h1 everyone_asks both_slots
    (Some (pace_path 1 2))

abbrev h3 : Hierarchy
h3 = after h2 latter_tick

at_h3 : IsAt h3 after_three
at_h3 = desk_ticked h2 Edf after_two (Some former_thread) (Some latter_thread) at_h2 everyone_asks both_slots
    (Some (pace_path 1 2))

abbrev h4 : Hierarchy
h4 = after h3 former_tick

at_h4 : IsAt h4 after_four
at_h4 = desk_ticked h3 Edf after_three (Some former_thread) (Some latter_thread) at_h3 everyone_asks both_slots
    (Some (pace_path 0 1))

abbrev h5 : Hierarchy
h5 = after h4 latter_tick

at_h5 : IsAt h5 after_five
at_h5 = desk_ticked h4 Edf after_four (Some former_thread) (Some latter_thread) at_h4 everyone_asks both_slots
    (Some (pace_path 1 2))

ticks_legal : IsLegal awake (former_tick ∷ latter_tick ∷ latter_tick ∷ former_tick ∷ latter_tick ∷ latter_tick ∷ [])
unfolding terms_at
ticks_legal = (
  serves_former awake together at_awake (λ e. cc) (λ e. cc) at_first.asks
      (earlier_lower together 3 3 at_first (omega arith)),
  (
    serves_latter h1 after_one at_h1 (λ e. cc) (λ e. cc) at_second.asks (alone_upper after_one at_second),
    (
      serves_latter h2 after_two at_h2 (λ e. cc) (λ e. cc) at_third.asks (alone_upper after_two at_third),
      (
        serves_former h3 after_three at_h3 (λ e. cc) (λ e. cc) at_fourth.asks
            (earlier_lower after_three 6 6 at_fourth (omega arith)),
        (
          serves_latter h4 after_four at_h4 (λ e. cc) (λ e. cc) at_fifth.asks (alone_upper after_four at_fifth),
          (
            serves_latter h5 after_five at_h5 (λ e. cc) (λ e. cc) at_sixth.asks (alone_upper after_five at_sixth),
            tt,
          ),
        ),
      ),
    ),
  ),
)

pub paced_legal : IsLegal start paced
paced_legal = (
  can_load_desk Edf 6 8 (λ e. cc) tt refl,
  (
    can_admit_former,
    (
      can_admit_latter,
      (record { thread = _; there = refl }, (record { thread = _; there = refl }, ticks_legal)),
    ),
  ),
)

-- ---- its job

abbrev end : Hierarchy
end = state start paced

abbrev asks_then : ℕ → Bool
asks_then = had_asked end.past 2

abbrev serves_then : ℕ → Bool
serves_then = was_served end.past 2

pub has_reservation : HasReservation end latter latter_reserved
has_reservation = record {
  thread = latter_thread;
  there = refl;
  scheduler = 0;
  slot = 1;
  sits = refl;
  hard = true;
  terms = refl;
  since = refl;
  all = record { port = 0; seat = root_seat; sits = refl; kept = refl };
}

-- it asks in each of the six ticks
always_asks : (t : ℕ) → t < 6 → asks_then t ≡ true
always_asks zero lt = refl
always_asks (suc zero) lt = refl
always_asks (suc (suc zero)) lt = refl
always_asks (suc (suc (suc zero))) lt = refl
always_asks (suc (suc (suc (suc zero)))) lt = refl
always_asks (suc (suc (suc (suc (suc zero))))) lt = refl
always_asks (suc (suc (suc (suc (suc (suc t)))))) lt = absurd (omega (arith, lt))

-- and has no more than three of those before the last
few_before : (t : ℕ) → t < 6 → count serves_then 0 t < 4
unfolding count
few_before zero lt = omega arith
few_before (suc zero) lt = omega arith
few_before (suc (suc zero)) lt = omega arith
few_before (suc (suc (suc zero))) lt = omega arith
few_before (suc (suc (suc (suc zero)))) lt = omega arith
few_before (suc (suc (suc (suc (suc zero))))) lt = omega arith
few_before (suc (suc (suc (suc (suc (suc t)))))) lt = absurd (omega (arith, lt))

pub asks_for_one_job : AsksForJobs latter_reserved two_periods 0 is_first asks_then serves_then end.now
asks_for_one_job = record {
  since = omega arith;
  rested = λ t from before to near. absurd (omega (arith, before));
  begins = λ w from to is. always_asks w (omega (arith, to));
  apart = λ w v from between to one two.
      let first : v ≡ 0 = eqb-true v 0 two in absurd (omega (arith, between, first));
  goes_on = λ t from to on off.
      let past : 0 < t = elim (cases_lt 0 t) [
        | inl past ↦ past
        | inr none ↦ absurd (let is : is_first t ≡ true = eq-eqb t 0 (omega arith) in cc)
      ] in
      (past, always_asks (t - 1) (omega (arith, to)));
  small = λ w t to job on.
      let first : w ≡ 0 = eqb-true w 0 job.starts in
      let few = few_before t (omega (arith, to)) in
      let whole : t - 0 ≡ t = omega arith in
      rw (first, whole) few;
}

pub served_when_due : (n : ℕ) → 1 ≤ n → n ≤ 4 → count serves_then 0 (due_in latter_reserved n) ≡ n
unfolding count
served_when_due zero some few = absurd (omega (arith, some))
served_when_due (suc zero) some few = refl
served_when_due (suc (suc zero)) some few = refl
served_when_due (suc (suc (suc zero))) some few = refl
served_when_due (suc (suc (suc (suc zero)))) some few = refl
served_when_due (suc (suc (suc (suc (suc n))))) some few = absurd (omega (arith, few))

pub not_sooner : (n : ℕ) → 1 ≤ n → n ≤ 4 → count serves_then 0 (due_in latter_reserved n - 1) < n
unfolding count
not_sooner zero some few = absurd (omega (arith, some))
not_sooner (suc zero) some few = omega arith
not_sooner (suc (suc zero)) some few = omega arith
not_sooner (suc (suc (suc zero))) some few = omega arith
not_sooner (suc (suc (suc (suc zero)))) some few = omega arith
not_sooner (suc (suc (suc (suc (suc n))))) some few = absurd (omega (arith, few))
