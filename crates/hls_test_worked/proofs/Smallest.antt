-- The smallest report is legal.
use Rattle.std.proofs.Common.{◌≡◌, ◌≢◌, ℕ, zero, suc, ◌==◌, ◌||◌, inl, List, [], ◌∷◌, Some, None}
use Rattle.std.proofs.Common.{Bool, false, refl, sym, arith, if◌then◌else◌}
use Rattle.std.specs.Prelude.{codes}
use Rattle.hls_chron.specs.declared.plain.Config.TheVariants as configs
use Rattle.hls_chron.specs.declared.plain.Kind.TheVariants as kinds
use Rattle.hls_chron.specs.declared.plain.Terms.TheVariants as terms
use Rattle.hls_chron.specs.declared.book.Event.TheVariants as events
use Rattle.hls_chron.specs.Ledger.{Ledger, with_mark}
use Rattle.hls_chron.specs.Seats.{terms_at}
use Rattle.hls_chron.specs.Ticks.{count}
use Rattle.hls_kinds.specs.Slots.{any_below}
use Rattle.hls_kinds.specs.Asks.{slot_asks}
use Rattle.hls_guarantee.specs.declared.Guarantee.TheVariants.{All}
use Rattle.hls_scenario.specs.declared.scenario.Command.{Command}
use Rattle.hls_scenario.specs.declared.scenario.Command.TheVariants.{Wake}
use Rattle.hls_report_text.specs.declared.report.Seated.{Seated}
use Rattle.hls_report_text.specs.declared.report.Answer.TheVariants.{Done}
use Rattle.hls_report_text.specs.WellFormed.{IsContent}
use Rattle.hls_machine.specs.Ledgers.{empty_book}
use Rattle.hls_machine.specs.Hierarchy.{Hierarchy, Thread, Awake, At, Seat, start, name_of}
use Rattle.hls_machine.specs.Steps.{Step, Admit, Rouse, Elapse, Path, after}
use Rattle.hls_machine.specs.Legal.{Can, IsLegal}
use Rattle.hls_test_runs.specs.Moves.{root_seat}
use Rattle.hls_test_runs.proofs.Desk.{IsDesk, load_desk, desk_loaded, can_load_desk, desk_asking, desk_runs}
use Rattle.hls_test_runs.proofs.Small.{few_after, each_of_three, beyond, first_seat, take_first, bit_off, lone_least}
use Rattle.hls_legal.specs.Accounts.{accounts_of, idle_of}
use Rattle.hls_legal.specs.Schedule.{path_at}
use Rattle.hls_legal.specs.Tells.{Tells}
use Rattle.hls_legal.proofs.Agreements.{accounts_told, idle_told}
use Rattle.hls_legal.proofs.Reached.{IsReached, reached_start, reached_next}
use Rattle.hls_legal.specs.Moment.{Boxes}
use Rattle.hls_legal.specs.Dues.{due_at}
use Rattle.hls_legal.specs.Answers.{IsAnswer}
use Rattle.hls_legal.specs.Kit.{boxes_after}
use Rattle.hls_legal.specs.Along.{AnswersAlong}
use Rattle.hls_legal.specs.Legal.{IsLegalContent}
use Rattle.hls_test_worked.specs.Said.{full_kit, on_cpu, on, lent, seated}
use Rattle.hls_test_worked.specs.Smallest.{smallest, smallest_scenario, answered, load_root, admit_a}
use Rattle.hls_test_worked.proofs.Formed.{lent_formed, on_formed, cpu_formed, account_formed}
use Rattle.hls_test_worked.proofs.Answering.{done_at, settled_lent, through_one, a_box}

abbrev load : Step
load = load_desk configs.Fp 1 8

abbrev a_seat : Seat
a_seat = record { place = At 0 0; terms = terms.Prio 0; kept = All }

abbrev admit : Step
admit = Admit 1 (codes "a") a_seat

abbrev both : ℕ → Bool
both k = k == 0 || k == 1

abbrev slots : ℕ → ℕ
slots k = if k == 0 then 1 else 0

abbrev way : Path
way = record { hops = record { node = 0; port = 0; slot = 0 } ∷ []; thread = 1 }

abbrev tick : Step
tick = Elapse both slots (Some way)

abbrev h1 : Hierarchy
h1 = after start load

abbrev h2 : Hierarchy
h2 = after h1 admit

abbrev h3 : Hierarchy
h3 = after h2 (Rouse 1 None)

can_load : Can start load
can_load = can_load_desk configs.Fp 1 8 (λ e. cc) tt refl

desk1 : IsDesk h1 configs.Fp (empty_book 0 1 8) None None
desk1 = desk_loaded configs.Fp 1 8

can_admit : Can h1 admit
can_admit = record {
  new = record {
    unused = refl;
    named = refl;
    fresh = each_of_three h1 desk1.few (λ k node. name_of node ≢ Some (codes "a")) (λ e. cc) (λ e. cc) (λ e. cc)
        (λ k le e. cc);
  };
  few = omega arith;
  place = λ e. cc;
  places = take_first h1 0 (first_seat h1 0 _ _ _ _ root_seat refl refl);
}

abbrev seated_book : Ledger
seated_book = with_mark (empty_book 0 1 8) (events.Seat 0 (terms.Prio 0))

abbrev awake_a : Thread
awake_a = record { name = codes "a"; seat = a_seat; wake = Awake; stay = 0 }

desk3 : IsDesk h3 configs.Fp seated_book (Some awake_a) None
desk3 = record {
  few = few_after 3 h2 (Rouse 1 None) (λ k le made. made)
      (few_after 3 h1 admit (λ k le e. omega (arith, le, e)) desk1.few);
  rooted = refl;
  root_there = refl;
  first_there = refl;
  second_there = refl;
}

silent : (slot : ℕ) → terms_at seated_book slot ≡ None → slot_asks 1 slot ≡ false
unfolding terms_at
silent zero none = absurd (cc)
silent (suc slot) none = bit_off 0 (suc slot) (λ e. omega (arith, e))

can_tick : Can h3 tick
unfolding any_below terms_at
can_tick = desk_runs h3 configs.Fp seated_book (Some awake_a) None desk3 both slots 0 1 awake_a
    (desk_asking h3 configs.Fp seated_book (Some awake_a) None desk3 both slots refl (refl, refl, refl, refl) refl
    (λ k le. rw (beyond k 0 (omega (arith, le)), beyond k 1 (omega (arith, le))) refl)
    (λ k le. rw (beyond k 0 (omega (arith, le))) refl) silent)
    refl (lone_least seated_book 0 (λ e. cc)) desk3.first_there refl refl

pub steps : List Step
steps = load ∷ admit ∷ Rouse 1 None ∷ tick ∷ []

wake_may : Can h2 (Rouse 1 None)
wake_may = record { thread = _; there = refl }

legal : IsLegal start steps
unfolding steps
legal = (can_load, (can_admit, (wake_may, (can_tick, tt))))

r1 : IsReached h1
r1 = reached_next start load reached_start can_load

r2 : IsReached h2
r2 = reached_next h1 admit r1 can_admit

abbrev kit1 : Boxes
kit1 = boxes_after full_kit load_root (Done [])

abbrev Answered : Hierarchy → Boxes → Command → List Seated → Type 0
Answered h boxes c seats = IsAnswer (record { hierarchy = h; boxes = boxes; depth = 3 }) c (Done seats)

answer_root : Answered start full_kit load_root (seated (codes "root") 0 (lent All kinds.Cpu All) ∷ [])
answer_root = done_at start full_kit 3 reached_start load_root load
    (refl, refl, (record { place = tt; terms = refl; kept = refl }, tt)) can_load a_box
    (seated (codes "root") 0 (lent All kinds.Cpu All) ∷ []) (
      settled_lent (due_at start (codes "root") 0 (on_cpu All)) (codes "root") 0 All kinds.Cpu All refl refl refl refl
          (through_one configs.Cpu terms.Cpu All All (record { from = tt; to = tt; port_of = refl; lends = inl refl }))
          refl,
      tt,
    )

answer_a : Answered h1 kit1 admit_a (seated (codes "a") 0 (lent All kinds.Fp All) ∷ [])
answer_a = done_at h1 kit1 3 r1 admit_a admit (refl, record { place = refl; terms = refl; kept = refl }) can_admit tt
    (seated (codes "a") 0 (lent All kinds.Fp All) ∷ []) (
      settled_lent (due_at h1 (codes "a") 0 (on (codes "root") (terms.Prio 0) All)) (codes "a") 0 All kinds.Fp All refl
          refl refl refl
          (through_one configs.Fp (terms.Prio 0) All All
          (record { from = tt; to = tt; port_of = refl; lends = inl (refl, refl) })) refl,
      tt,
    )

wake_done : Answered h2 kit1 (Wake (codes "a") None None) []
wake_done = done_at h2 kit1 3 r2 (Wake (codes "a") None None) (Rouse 1 None) (refl, refl) wake_may tt [] tt

along : AnswersAlong 3 start full_kit steps answered
unfolding steps
along = (answer_root, (answer_a, (wake_done, tt)))

tells : Tells smallest steps
unfolding steps path_at
tells = (
  refl,
  (refl, refl, (record { place = tt; terms = refl; kept = refl }, tt)),
  (refl, (refl, record { place = refl; terms = refl; kept = refl }), (refl, (refl, refl), (tt, refl, refl))),
)

formed : IsContent smallest
formed = record {
  version = omega arith;
  horizon = omega arith;
  depth = omega arith;
  few = omega arith;
  answered = (
    (refl, ((tt, tt), cpu_formed All tt)),
    (tt, (lent_formed (codes "root") 0 All kinds.Cpu All refl (omega arith) tt tt, tt)),
    omega arith,
    omega arith,
    (
      (refl, on_formed (codes "root") (terms.Prio 0) All refl (omega arith) tt),
      (tt, (lent_formed (codes "a") 0 All kinds.Fp All refl (omega arith) tt tt, tt)),
      omega arith,
      omega arith,
      ((refl, tt), tt, omega arith, omega arith, tt),
    ),
  );
  cover = (refl, omega arith, ((omega arith, omega arith), (refl, (refl, tt))), (λ e. cc), refl);
  names = (omega arith, tt);
  accounts = (
    account_formed 1 (codes "a") 0 0 All 1 1 refl (omega arith) (omega arith) tt (omega arith) (omega arith),
    tt,
  );
  idle = omega arith;
}

accounts_are : smallest.accounts ≡ accounts_of smallest
unfolding steps count
accounts_are = sym (accounts_told smallest steps legal tells)

idle_is : smallest.idle ≡ idle_of smallest
unfolding steps count
idle_is = sym (idle_told smallest steps legal tells)

pub smallest_legal : IsLegalContent smallest_scenario 3 full_kit smallest
smallest_legal = record {
  formed = formed;
  version = refl;
  horizon = refl;
  depth = refl;
  commands = refl;
  steps = steps;
  run = record { legal = legal; tells = tells; answers = along };
  accounts = accounts_are;
  idle = idle_is;
}
