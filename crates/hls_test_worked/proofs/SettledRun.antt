-- The run of a scheduler of reservations that moves is legal.
use Rattle.std.proofs.Common.{◌≡◌, ◌≢◌, ◌⊎◌, ℕ, ◌==◌, ◌||◌, inl, inr, [], ◌∷◌, Option, Some, None}
use Rattle.std.proofs.Common.{Bool, true, refl, sym, ap, ◌∙◌, subst, arith, if◌then◌else◌}
use Rattle.std.specs.Prelude.{codes}
use Rattle.std.proofs.lemmas.Bool.{cases_eq, ne_eqb, eqb-true}
use Rattle.hls_chron.specs.declared.plain.Config.TheVariants as configs
use Rattle.hls_chron.specs.declared.plain.Terms.TheVariants as terms
use Rattle.hls_chron.specs.Ledger.{row_at}
use Rattle.hls_chron.specs.Parts.{parts}
use Rattle.hls_chron.specs.Seats.{terms_at, priority_at, asked, served}
use Rattle.hls_chron.specs.Ticks.{count}
use Rattle.hls_kinds.specs.Slots.{any_below, sum_below}
use Rattle.hls_kinds.specs.Tenants.{tenant_at}
use Rattle.hls_kinds.specs.Reservations.{last_replenished, claim_at, is_held}
use Rattle.hls_kinds.specs.Discipline.{may_go}
use Rattle.hls_kinds.specs.Fits.{Fits}
use Rattle.hls_guarantee.specs.declared.Guarantee.TheVariants.{All, Null}
use Rattle.hls_machine.specs.Ledgers.{empty_book}
use Rattle.hls_machine.specs.Derived.{Follows}
use Rattle.hls_machine.specs.Hierarchy.{Hierarchy, Node, Loaded, Scheduler, At, Seat, start, name_of}
use Rattle.hls_machine.specs.Hierarchy.{book_of, seat_of}
use Rattle.hls_machine.specs.Steps.{Step, Load, Admit, Move, Rouse, Elapse, Path, after}
use Rattle.hls_machine.specs.Legal.{IsAsking, SitsOn, IsBelow, Can, asks_now}
use Rattle.hls_test_runs.specs.Moves.{root_seat}
use Rattle.hls_test_runs.proofs.Desk.{load_desk, desk_loaded, can_load_desk}
use Rattle.hls_test_runs.proofs.Reserved.{lone_first}
use Rattle.hls_test_runs.proofs.Small.{Few, few_after, each_of_three, beyond, placed, same_slot, yields, later_nothing}
use Rattle.hls_test_runs.proofs.Small.{fits_number, take_one, LowSeats, low_seat, no_low, thread_low, flat, SeatsAsk}
use Rattle.hls_test_worked.proofs.Formed.{some_apart}
use Rattle.hls_test_runs.proofs.Small.{seat_asks, root_asks_so, FreeSilent, one_silent, all_silent, the, lone_least}

abbrev e_seat : Seat
e_seat = record { place = At 0 0; terms = terms.Prio 0; kept = Null }

abbrev a_seat : Seat
a_seat = record { place = At 1 0; terms = terms.Res true 1 2; kept = Null }

abbrev moved_seat : Seat
moved_seat = record { place = At 0 0; terms = terms.Prio 1; kept = Null }

abbrev pub load : Step
load = load_desk configs.Fp 2 8

abbrev pub load_below : Step
load_below = Load 1 (codes "e") configs.Edf 2 8 (e_seat ∷ [])

abbrev pub admit : Step
admit = Admit 2 (codes "a") a_seat

abbrev pub move : Step
move = Move 1 moved_seat (λ k. k == 1 || k == 2)

abbrev all_ask : ℕ → Bool
all_ask k = k == 0 || (k == 1 || k == 2)

abbrev slots : ℕ → ℕ
slots k = if k == 0 then 1 else if k == 1 then 1 else 0

abbrev way : Path
way = record {
  hops = record { node = 0; port = 0; slot = 0 } ∷ record { node = 1; port = 0; slot = 0 } ∷ [];
  thread = 2;
}

abbrev pub tick : Step
tick = Elapse all_ask slots (Some way)

abbrev pub h1 : Hierarchy
h1 = after start load

abbrev pub h2 : Hierarchy
h2 = after h1 load_below

abbrev pub h3 : Hierarchy
h3 = after h2 admit

abbrev pub h4 : Hierarchy
h4 = after h3 (Rouse 2 None)

abbrev pub h5 : Hierarchy
h5 = after h4 tick

abbrev pub h6 : Hierarchy
h6 = after h5 move

few1 : Few 3 h1
few1 = (desk_loaded configs.Fp 2 8).few

few2 : Few 3 h2
few2 = few_after 3 h1 load_below (λ k le e. omega (arith, le, e)) few1

few3 : Few 3 h3
few3 = few_after 3 h2 admit (λ k le e. omega (arith, le, e)) few2

few4 : Few 3 h4
few4 = few_after 3 h3 (Rouse 2 None) (λ k le made. made) few3

few5 : Few 3 h5
few5 = few_after 3 h4 tick (λ k le made. made) few4

few6 : Few 3 h6
few6 = few_after 3 h5 move (λ k le made. made) few5

low_root : (x : Scheduler) → x.ports ≡ root_seat ∷ [] → LowSeats 0 (Some (Loaded x))
low_root x is = low_seat 0 x root_seat is (omega arith)

low_e : (x : Scheduler) → x.ports ≡ e_seat ∷ [] → LowSeats 1 (Some (Loaded x))
low_e x is = low_seat 1 x e_seat is (omega arith, omega arith)

low_moved : (x : Scheduler) → x.ports ≡ moved_seat ∷ [] → LowSeats 1 (Some (Loaded x))
low_moved x is = low_seat 1 x moved_seat is (omega arith, omega arith)

pub can_load : Can start load
can_load = can_load_desk configs.Fp 2 8 (λ e. cc) tt refl

-- nothing is derived from anything
nothing_behind : (priority : ℕ) → Follows configs.Fp (terms.Prio priority) (All ∷ []) Null
nothing_behind priority = later_nothing priority All tt

nothing_reserved : Follows configs.Edf (terms.Res true 1 2) (Null ∷ []) Null
nothing_reserved = record {
  port = 0;
  have = Null;
  is_have = refl;
  offered = Null;
  lent = Null;
  first = yields Null;
  through = record { from = tt; to = tt; port_of = refl; lends = inr refl };
  last = yields Null;
}

no_number : (slot priority : ℕ) → priority_at (empty_book 0 2 8) slot ≢ Some priority
unfolding terms_at
no_number slot priority e = cc

pub can_load_below : Can h1 load_below
unfolding terms_at
can_load_below = (
  record {
    new = record {
      unused = refl;
      named = refl;
      fresh = each_of_three h1 few1 (λ k node. name_of node ≢ Some (codes "e")) (λ e. cc) (λ e. cc) (λ e. cc)
          (λ k le e. cc);
    };
    few = omega arith;
    kind = λ e. cc;
    in_range = tt;
    ports = refl;
    places = take_one h1 e_seat (record {
      in_range = record { terms = omega arith; kept = tt };
      free = record {
        scheduler = the (h1.nodes 0);
        there = refl;
        fits = fits_number (empty_book 0 2 8) 0 (λ slot. no_number slot 0);
        room = λ full. full 0 (omega arith) refl;
        free = record { within = omega arith; free = refl; least = λ other lt. absurd (omega (arith, lt)) };
        derived = nothing_behind 0;
      };
    });
  },
  flat h2 (each_of_three h2 few2 LowSeats (low_root _ refl) (low_e _ refl) (no_low 2) (λ k le. no_low k)),
)

half_fits : Fits configs.Edf (empty_book 0 2 8) (terms.Res true 1 2)
unfolding parts sum_below is_held tenant_at terms_at
half_fits = record {
  of_kind = refl;
  within = λ e. e;
  apart = λ priority is has. cc;
  room = λ free asked lacks. omega (arith, lacks.left, lacks.asks, lacks.lacks);
}

pub can_admit : Can h2 admit
unfolding terms_at is_held tenant_at
can_admit = record {
  new = record {
    unused = refl;
    named = refl;
    fresh = each_of_three h2 few2 (λ k node. name_of node ≢ Some (codes "a")) (λ e. cc)
        (λ e. some_apart (codes "e") (codes "a") (λ f. omega (arith, f)) e) (λ e. cc) (λ k le e. cc);
  };
  few = omega arith;
  place = λ e. cc;
  places = take_one h2 a_seat (record {
    in_range = record { terms = (omega arith, omega arith, omega arith); kept = tt };
    free = record {
      scheduler = the (h2.nodes 1);
      there = refl;
      fits = half_fits;
      room = λ full. full 0 (omega arith) refl;
      free = record { within = omega arith; free = refl; least = λ other lt. absurd (omega (arith, lt)) };
      derived = nothing_reserved;
    };
  });
}

pub can_wake : Can h3 (Rouse 2 None)
can_wake = record { thread = _; there = refl }

-- who asks, and who is served, where the reservation has its budget
goes4 : may_go (book_of (h4.nodes 1)) 1 0 ≡ true
unfolding any_below asked served row_at claim_at tenant_at last_replenished count parts
goes4 = refl

goes6 : may_go (book_of (h6.nodes 1)) 1 0 ≡ true
unfolding any_below asked served row_at claim_at tenant_at last_replenished count parts
goes6 = refl

asking4 : IsAsking h4 all_ask slots
unfolding any_below asked served row_at claim_at tenant_at last_replenished count parts terms_at
asking4 = record {
  nodes = each_of_three h4 few4 (λ k node. all_ask k ≡ asks_now h4 k (slots k) node) refl refl refl
      (λ k le. rw (
        beyond k 0 (omega (arith, le)),
        beyond k 1 (omega (arith, le)),
        beyond k 2 (omega (arith, le)),
      ) refl);
  seats = each_of_three h4 few4 (SeatsAsk all_ask slots) (root_asks_so all_ask slots 0 root_seat refl)
      (seat_asks all_ask slots 1 0 0 e_seat refl refl) (seat_asks all_ask slots 2 1 0 a_seat refl refl)
      (λ k le port seat p slot e is. cc);
  free = each_of_three h4 few4 (FreeSilent slots) (one_silent slots 0 0 (h4.nodes 0) refl (λ e. cc))
      (one_silent slots 1 0 (h4.nodes 1) refl (λ e. cc)) (all_silent slots 2 (h4.nodes 2) refl)
      (λ k le. all_silent slots k None
      (rw (beyond k 0 (omega (arith, le)), beyond k 1 (omega (arith, le))) refl));
}

pub can_tick4 : Can h4 tick
unfolding terms_at
can_tick4 = (
  asking4,
  (
    refl,
    (
      record {
        scheduler = the (h4.nodes 0);
        seat = root_seat;
        there = refl;
        port = refl;
        at_place = refl;
        serves = lone_least (book_of (h4.nodes 0)) 0 (λ e. cc);
      },
      (
        record {
          scheduler = the (h4.nodes 1);
          seat = e_seat;
          there = refl;
          port = refl;
          at_place = refl;
          serves = lone_first (book_of (h4.nodes 1)) goes4;
        },
        record { thread = _; there = refl; at_place = refl; ready = refl },
      ),
    ),
  ),
)

-- ---- the move

-- where each sits
abbrev Sits : (c : ℕ) → Option Node → Type 0
Sits c node = (port : ℕ) (seat : Seat) (p slot : ℕ) → seat_of node port ≡ Some seat → seat.place ≡ At p slot
    → ((c ≡ 1) × (p ≡ 0)) ⊎ ((c ≡ 2) × (p ≡ 1))

sits5 : (c : ℕ) → Sits c (h5.nodes c)
sits5 = each_of_three h5 few5 Sits
    (λ port seat p slot e is. absurd (let off = placed root_seat seat port p slot e is in cc))
    (λ port seat p slot e is. inl (refl, (same_slot 0 0 p slot (placed e_seat seat port p slot e is)).node))
    (λ port seat p slot e is. inr (refl, (same_slot 1 0 p slot (placed a_seat seat port p slot e is)).node))
    (λ k le port seat p slot e is. absurd (cc))

abbrev below : ℕ → Bool
below k = k == 1 || k == 2

below_cases : (c : ℕ) → below c ≡ true → (c ≡ 1) ⊎ (c ≡ 2)
below_cases c is = elim (cases_eq c 1) [
  | inl e ↦ inl e
  | inr ne ↦ inr (eqb-true c 2 (rw (ne_eqb c 1 ne) at is))
]

below5 : IsBelow h5 1 below
below5 = record {
  itself = refl;
  down = λ c p on is. elim (sits5 c on.port on.seat p on.slot on.sits on.at_place) [
    | inl e ↦ ap below e.0
    | inr e ↦ ap below e.0
  ];
  up = λ c is. elim (below_cases c is) [
    | inl e ↦ inl e
    | inr e ↦ inr (
      1,
      subst (λ n. SitsOn h5 n 1) (sym e)
          (record { port = 0; seat = a_seat; slot = 0; sits = refl; at_place = refl }),
      refl,
    )
  ];
}

moved_number : (slot : ℕ) → priority_at (book_of (h5.nodes 0)) slot ≢ Some 1
unfolding terms_at
moved_number slot = elim (cases_eq slot 0) [
  | inl e ↦ λ has. let at_zero : priority_at (book_of (h5.nodes 0)) 0 ≡ Some 1 =
      ap (priority_at (book_of (h5.nodes 0))) (sym e) ∙ has in cc
  | inr ne ↦ λ has. let none = rw (ne_eqb 0 slot (λ e. ne (sym e))) at has in cc
]

on_mover : (c port : ℕ) (seat : Seat) (slot : ℕ) → seat_of (h5.nodes c) port ≡ Some seat → seat.place ≡ At 1 slot
    → a_seat ≡ seat
on_mover c port seat slot e is = elim (sits5 c port seat 1 slot e is) [
  | inl no_such ↦ absurd (let off = no_such.1 in omega (arith, off))
  | inr at_two ↦
      (Rattle.hls_machine.proofs.Seatings.lone_port a_seat seat port
      (subst (λ n. seat_of (h5.nodes n) port ≡ Some seat) at_two.0 e)).same
]

pub can_move : Can h5 move
unfolding terms_at
can_move = (
  record {
    sort = λ e. cc;
    under = below5;
    take = record {
      in_range = record { terms = omega arith; kept = tt };
      free = record {
        scheduler = the (h5.nodes 0);
        there = refl;
        fits = fits_number (book_of (h5.nodes 0)) 1 moved_number;
        room = λ full. full 1 (omega arith) refl;
        free = record { within = omega arith; free = refl; least = λ other lt. absurd (omega (arith, lt)) };
        derived = nothing_behind 1;
      };
    };
    acyclic = refl;
    rederived = λ c port seat slot e is.
        subst (λ (s : Seat). Follows configs.Edf s.terms (Null ∷ []) s.kept) (on_mover c port seat slot e is)
        nothing_reserved;
  },
  flat h6 (each_of_three h6 few6 LowSeats (low_root _ refl) (low_moved _ refl) (thread_low 2 _) (λ k le. no_low k)),
)

asking6 : IsAsking h6 all_ask slots
unfolding any_below asked served row_at claim_at tenant_at last_replenished count parts terms_at
asking6 = record {
  nodes = each_of_three h6 few6 (λ k node. all_ask k ≡ asks_now h6 k (slots k) node) refl refl refl
      (λ k le. rw (
        beyond k 0 (omega (arith, le)),
        beyond k 1 (omega (arith, le)),
        beyond k 2 (omega (arith, le)),
      ) refl);
  seats = each_of_three h6 few6 (SeatsAsk all_ask slots) (root_asks_so all_ask slots 0 root_seat refl)
      (seat_asks all_ask slots 1 0 0 moved_seat refl refl) (seat_asks all_ask slots 2 1 0 a_seat refl refl)
      (λ k le port seat p slot e is. cc);
  free = each_of_three h6 few6 (FreeSilent slots) (one_silent slots 0 0 (h6.nodes 0) refl (λ e. cc))
      (one_silent slots 1 0 (h6.nodes 1) refl (λ e. cc)) (all_silent slots 2 (h6.nodes 2) refl)
      (λ k le. all_silent slots k None
      (rw (beyond k 0 (omega (arith, le)), beyond k 1 (omega (arith, le))) refl));
}

pub can_tick6 : Can h6 tick
unfolding terms_at
can_tick6 = (
  asking6,
  (
    refl,
    (
      record {
        scheduler = the (h6.nodes 0);
        seat = root_seat;
        there = refl;
        port = refl;
        at_place = refl;
        serves = lone_least (book_of (h6.nodes 0)) 0 (λ e. cc);
      },
      (
        record {
          scheduler = the (h6.nodes 1);
          seat = moved_seat;
          there = refl;
          port = refl;
          at_place = refl;
          serves = lone_first (book_of (h6.nodes 1)) goes6;
        },
        record { thread = _; there = refl; at_place = refl; ready = refl },
      ),
    ),
  ),
)
