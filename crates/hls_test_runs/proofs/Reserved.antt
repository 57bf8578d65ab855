-- The run of a reservation is legal, and two readings of it are not.
use Rattle.std.proofs.Common.{◌≡◌, ◌≢◌, ℕ, zero, suc, ◌≤◌, [], ◌∷◌, Option, Some, None, Bool, true}
use Rattle.std.proofs.Common.{false, refl, sym, ap, arith, inl}
use Rattle.std.specs.Prelude.{codes}
use Rattle.hls_chron.specs.declared.plain.Config.TheVariants.{Edf}
use Rattle.hls_chron.specs.declared.plain.Terms.TheVariants.{Res}
use Rattle.hls_chron.specs.Ledger.{Ledger, row_at}
use Rattle.hls_chron.specs.Seats.{terms_at, asked, served}
use Rattle.hls_chron.specs.Ticks.{count}
use Rattle.hls_kinds.specs.Slots.{any_below, sum_below}
use Rattle.hls_kinds.specs.Tenants.{tenant_at}
use Rattle.hls_chron.specs.Parts.{parts}
use Rattle.hls_kinds.specs.Reservations.{last_replenished, claim_at, is_held}
use Rattle.hls_kinds.specs.Asks.{asks, slot_asks}
use Rattle.hls_kinds.specs.Discipline.{Serves, may_go}
use Rattle.hls_kinds.specs.Fits.{Fits}
use Rattle.hls_guarantee.specs.declared.Guarantee.TheVariants.{All, Resb}
use Rattle.hls_machine.specs.Ledgers.{empty_book}
use Rattle.hls_machine.specs.Derived.{Follows}
use Rattle.hls_machine.specs.Hierarchy.{Hierarchy, Thread, Awake, start, name_of}
use Rattle.hls_machine.specs.Steps.{Step, Path, Rouse, Elapse, after, state}
use Rattle.hls_machine.specs.Legal.{MaySit, IsAsking, Can, IsLegal}
use Rattle.hls_kinds.proofs.ServingLaws.{may_go_asks}
use Rattle.hls_machine.proofs.Determined.{elapse_one, run_known, start_known}
use Rattle.hls_test_runs.specs.Reserved.{reserver_seat, load_root, admit_reserver, first_slot, both_ask}
use Rattle.hls_test_runs.specs.Reserved.{only_reserver_asks, served_tick, idle_tick, reserver_path, reserved, used_up}
use Rattle.hls_test_runs.proofs.Small.{Few, few_after, each_of_three, beyond, take_one, yields, the, bit_off}
use Rattle.hls_test_runs.proofs.Budgets.{seated, once, twice, idle_once, idle_twice, asks_first, asks_again}
use Rattle.hls_test_runs.proofs.Budgets.{silent_once, silent_twice, asks_anew}
use Rattle.hls_test_runs.proofs.Desk.{IsDesk, can_load_desk, desk_asking, desk_ticked, desk_runs, desk_idles}

-- the hierarchy as it is set up
abbrev one : Hierarchy
one = after start load_root

abbrev two : Hierarchy
two = after one admit_reserver

abbrev awake : Hierarchy
awake = after two (Rouse 1 None)

few_one : Few 3 one
few_one = few_after 3 start load_root (λ k le e. omega (arith, le, e)) (λ k le. refl)

few_two : Few 3 two
few_two = few_after 3 one admit_reserver (λ k le e. omega (arith, le, e)) few_one

few_awake : Few 3 awake
few_awake = few_after 3 two (Rouse 1 None) (λ k le made. made) few_two

reserves : Follows Edf (Res true 2 4) (All ∷ []) (Resb true 2 4)
reserves = record {
  port = 0;
  have = All;
  is_have = refl;
  offered = All;
  lent = Resb true 2 4;
  first = yields All;
  through = record {
    from = tt;
    to = record { some = omega arith; fits = omega arith; size = omega arith };
    port_of = refl;
    lends = inl refl;
  };
  last = yields (Resb true 2 4);
}

half_fits : Fits Edf (empty_book 0 5 8) (Res true 2 4)
unfolding parts sum_below is_held tenant_at terms_at
half_fits = record {
  of_kind = refl;
  within = λ e. e;
  apart = λ priority is has. cc;
  room = λ free asked lacks. omega (arith, lacks.left, lacks.asks, lacks.lacks);
}

reserver_sits : MaySit one [] reserver_seat 0 0
unfolding terms_at is_held tenant_at
reserver_sits = record {
  scheduler = the (one.nodes 0);
  there = refl;
  fits = half_fits;
  room = λ full. full 0 (omega arith) refl;
  free = record { within = omega arith; free = refl; least = λ other lt. absurd (omega (arith, lt)) };
  derived = reserves;
}

can_admit : Can one admit_reserver
can_admit = record {
  new = record {
    unused = refl;
    named = refl;
    fresh = each_of_three one few_one (λ k node. name_of node ≢ Some (codes "a")) (λ e. cc) (λ e. cc) (λ e. cc)
        (λ k le e. cc);
  };
  few = omega arith;
  place = λ e. cc;
  places = take_one one reserver_seat
      (record {
        in_range = record {
          terms = (omega arith, omega arith, omega arith);
          kept = record { some = omega arith; fits = omega arith; size = omega arith };
        };
        free = reserver_sits;
      });
}

abbrev reserver_thread : Thread
reserver_thread = record { name = codes "a"; seat = reserver_seat; wake = Awake; stay = 0 }

abbrev IsAt : Hierarchy → Ledger → Type 0
IsAt h b = IsDesk h Edf b (Some reserver_thread) None

at_awake : IsAt awake seated
at_awake = record {
  few = few_awake;
  rooted = refl;
  root_there = refl;
  first_there = refl;
  second_there = refl;
}

-- the one seat is the first of those that may be served
sole : (b : Ledger) (other : ℕ) → may_go b 1 other ≡ true → other ≡ 0
sole b zero goes = refl
sole b (suc other) goes =
    absurd (let on = may_go_asks b 1 (suc other) goes in let off = bit_off 0 (suc other) (λ e. omega (arith, e)) in cc)

pub lone_first : (b : Ledger) → may_go b 1 0 ≡ true → Serves Edf b 1 0
lone_first b go = record {
  within = omega arith;
  chosen = go;
  least = λ other lt goes. let same = sole b other goes in rw same (omega arith);
  first = λ other lt goes same. omega arith;
}

goes_first : may_go seated 1 0 ≡ true
unfolding any_below asked served row_at claim_at tenant_at last_replenished count parts
goes_first = refl

goes_again : may_go once 1 0 ≡ true
unfolding any_below asked served row_at claim_at tenant_at last_replenished count parts
goes_again = refl

goes_anew : may_go idle_twice 1 0 ≡ true
unfolding any_below asked served row_at claim_at tenant_at last_replenished count parts
goes_anew = refl

-- who asks, where the root asks and where it does not
module _ (h : Hierarchy) (b : Ledger) (at : IsAt h b) (seat : terms_at b 0 ≢ None) where
  silent : (slot : ℕ) → terms_at b slot ≡ None → slot_asks 1 slot ≡ false
  silent zero none = absurd (seat none)
  silent (suc slot) none = bit_off 0 (suc slot) (λ e. omega (arith, e))

  nobody_beyond : (k : ℕ) → 1 ≤ k → first_slot k ≡ 0
  nobody_beyond k le = rw (beyond k 0 (omega (arith, le))) refl

  can_serve : asks Edf b 1 ≡ true → may_go b 1 0 ≡ true → Can h served_tick
  can_serve on go = desk_runs h Edf b (Some reserver_thread) None at both_ask first_slot 0 1 reserver_thread
      (desk_asking h Edf b (Some reserver_thread) None at both_ask first_slot (sym on)
      (refl, refl, refl, refl) refl
      (λ k le. rw (beyond k 0 (omega (arith, le)), beyond k 1 (omega (arith, le))) refl) nobody_beyond silent)
      refl (lone_first b go) at.first_there refl refl

  asking_idle : asks Edf b 1 ≡ false → IsAsking h only_reserver_asks first_slot
  asking_idle off = desk_asking h Edf b (Some reserver_thread) None at only_reserver_asks first_slot (sym off)
      (refl, refl, refl, refl) refl (λ k le. rw (beyond k 1 (omega (arith, le))) refl) nobody_beyond silent

  can_idle : asks Edf b 1 ≡ false → Can h idle_tick
  can_idle off = desk_idles h Edf b (Some reserver_thread) None at only_reserver_asks first_slot (asking_idle off)
      refl

-- after each tick
abbrev pub h1 : Hierarchy
h1 = after awake served_tick

pub few_h1 : Few 3 h1
few_h1 = few_after 3 awake served_tick (λ k le made. made) few_awake

abbrev h2 : Hierarchy
h2 = after h1 served_tick

abbrev h3 : Hierarchy
h3 = after h2 idle_tick

abbrev h4 : Hierarchy
h4 = after h3 idle_tick

at_h1 : IsAt h1 once
at_h1 = desk_ticked awake Edf seated (Some reserver_thread) None at_awake both_ask first_slot (Some reserver_path)

pub at_h2 : IsAt h2 twice
at_h2 = desk_ticked h1 Edf once (Some reserver_thread) None at_h1 both_ask first_slot (Some reserver_path)

at_h3 : IsAt h3 idle_once
at_h3 = desk_ticked h2 Edf twice (Some reserver_thread) None at_h2 only_reserver_asks first_slot None

at_h4 : IsAt h4 idle_twice
at_h4 = desk_ticked h3 Edf idle_once (Some reserver_thread) None at_h3 only_reserver_asks first_slot None

pub reserved_legal : IsLegal start reserved
unfolding terms_at
reserved_legal = (
  can_load_desk Edf 5 8 (λ e. cc) tt refl,
  (
    can_admit,
    (
      record { thread = _; there = refl },
      (
        can_serve awake seated at_awake (λ e. cc) asks_first goes_first,
        (
          can_serve h1 once at_h1 (λ e. cc) asks_again goes_again,
          (
            can_idle h2 twice at_h2 (λ e. cc) silent_once,
            (
              can_idle h3 idle_once at_h3 (λ e. cc) silent_twice,
              (can_serve h4 idle_twice at_h4 (λ e. cc) asks_anew goes_anew, tt),
            ),
          ),
        ),
      ),
    ),
  ),
)

-- once the budget is used up, no tick serves anyone
used_up_legal : IsLegal start used_up
used_up_legal = (
  reserved_legal.0,
  (reserved_legal.1.0, (reserved_legal.1.1.0, (reserved_legal.1.1.1.0, (reserved_legal.1.1.1.1.0, tt)))),
)

pub no_budget : (asking : ℕ → Bool) (masks : ℕ → ℕ) (path : Path)
    → ¬ Can (state start used_up) (Elapse asking masks (Some path))
unfolding terms_at
no_budget asking masks path can =
    let idle = can_idle h2 twice at_h2 (λ e. cc) silent_once in
    let same : Elapse asking masks (Some path) ≡ idle_tick =
    elapse_one (state start used_up) (run_known used_up start start_known used_up_legal) asking
    only_reserver_asks masks first_slot (Some path) None can.0 can.1 idle.0 idle.1 in
    let no : Some path ≡ None = ap path_of same in
    cc
  where
    path_of : Step → Option Path
    path_of (Elapse a m p) = p
    path_of _ = None
