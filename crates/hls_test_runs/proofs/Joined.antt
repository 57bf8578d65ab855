-- The run with a join is legal.
use Rattle.std.proofs.Common.{◌≡◌, ◌≢◌, ℕ, zero, suc, ◌<◌, [], ◌∷◌, Option, Some, None, true}
use Rattle.std.proofs.Common.{false, slice_get, refl, sym, ap, ◌∙◌, subst, arith, inl, inr}
use Rattle.std.specs.Prelude.{codes}
use Rattle.std.proofs.lemmas.Bool.{ne_eqb}
use Rattle.hls_chron.specs.declared.book.TickRow.{TickRow}
use Rattle.hls_chron.specs.declared.book.Event.TheVariants as events
use Rattle.hls_chron.specs.declared.plain.Config.{Config}
use Rattle.hls_chron.specs.declared.plain.Config.TheVariants as configs
use Rattle.hls_chron.specs.declared.plain.Terms.TheVariants as terms
use Rattle.hls_chron.specs.Ledger.{Ledger, with_row, with_mark, row_at}
use Rattle.hls_chron.specs.Seats.{terms_at, priority_at, asked, served}
use Rattle.hls_chron.specs.Ticks.{count}
use Rattle.hls_kinds.specs.Slots.{any_below, sum_below, IsFirst}
use Rattle.hls_kinds.specs.Ticks.{last_of}
use Rattle.hls_kinds.specs.Tenants.{tenant_at, settled_at, left_at}
use Rattle.hls_chron.specs.Parts.{parts}
use Rattle.hls_kinds.specs.Reservations.{last_replenished, claim_at, is_held}
use Rattle.hls_kinds.specs.Turns.{turn_slot, turns_after, turn_goes_on}
use Rattle.hls_kinds.specs.Asks.{asks, slot_asks}
use Rattle.hls_kinds.specs.Discipline.{Serves, may_go}
use Rattle.hls_kinds.specs.Fits.{Fits}
use Rattle.hls_guarantee.specs.declared.Guarantee.TheVariants.{All, Null, Resb}
use Rattle.hls_guarantee.specs.declared.rule.RuleName.TheVariants.{R2}
use Rattle.hls_guarantee.proofs.Conversions.{converts-supplies}
use Rattle.hls_machine.specs.Ledgers.{empty_book}
use Rattle.hls_machine.specs.Derived.{Follows}
use Rattle.hls_machine.specs.Hierarchy.{Hierarchy, Seat, start, name_of, book_of}
use Rattle.hls_machine.specs.Steps.{Rouse, after}
use Rattle.hls_machine.specs.Legal.{MaySit, MayTake, Can, IsLegal, scheduler_at}
use Rattle.hls_test_runs.specs.Moves.{root_seat}
use Rattle.hls_test_runs.specs.Joined.{reservations_seat, turns_seat, reserved_port, turn_port, joined_seat, other_seat}
use Rattle.hls_test_runs.specs.Joined.{load_root, load_reservations, load_turns, load_join, admit_joined, admit_other}
use Rattle.hls_test_runs.specs.Joined.{by_reservation, by_turn, to_other, tick, joining}
use Rattle.hls_test_runs.proofs.Small.{Few, few_after, first_seat, later_nothing, fits_number, take_one}
use Rattle.hls_test_runs.proofs.Small.{take_first, yields, the, lone_least}
use Rattle.hls_test_runs.proofs.Awake.{first_least}
use Rattle.hls_test_runs.proofs.Desk.{can_load_desk, first_first, second_first}
use Rattle.hls_test_runs.proofs.Reserved.{lone_first}
use Rattle.hls_test_runs.proofs.Joints.{each_of_six, level, LowerSeats, lower_seat, lower_seats, lower_none, IsJoint}
use Rattle.hls_test_runs.proofs.Joints.{IsFilled, filled_rows, joint_ticked, can_reserve, can_turn, can_other}

-- the hierarchy as it is set up
abbrev one : Hierarchy
one = after start load_root

abbrev two : Hierarchy
two = after one load_reservations

abbrev three : Hierarchy
three = after two load_turns

abbrev four : Hierarchy
four = after three load_join

abbrev five : Hierarchy
five = after four admit_joined

abbrev six : Hierarchy
six = after five admit_other

abbrev seven : Hierarchy
seven = after six (Rouse 4 None)

abbrev awake : Hierarchy
awake = after seven (Rouse 5 None)

few_one : Few 6 one
few_one = few_after 6 start load_root (λ k le e. omega (arith, le, e)) (λ k le. refl)

few_two : Few 6 two
few_two = few_after 6 one load_reservations (λ k le e. omega (arith, le, e)) few_one

few_three : Few 6 three
few_three = few_after 6 two load_turns (λ k le e. omega (arith, le, e)) few_two

few_four : Few 6 four
few_four = few_after 6 three load_join (λ k le e. omega (arith, le, e)) few_three

few_five : Few 6 five
few_five = few_after 6 four admit_joined (λ k le e. omega (arith, le, e)) few_four

few_six : Few 6 six
few_six = few_after 6 five admit_other (λ k le e. omega (arith, le, e)) few_five

few_seven : Few 6 seven
few_seven = few_after 6 six (Rouse 4 None) (λ k le made. made) few_six

few_awake : Few 6 awake
few_awake = few_after 6 seven (Rouse 5 None) (λ k le made. made) few_seven

-- books
abbrev top0 : Ledger
top0 = with_mark (with_mark (empty_book 0 12 16) (events.Seat 0 (terms.Prio 0))) (events.Seat 1 (terms.Prio 1))

abbrev e0 : Ledger
e0 = with_mark (empty_book 0 12 16) (events.Seat 0 (terms.Res true 2 10))

abbrev r0 : Ledger
r0 = with_mark (with_mark (empty_book 0 12 16) (events.Seat 0 terms.Turn)) (events.Seat 1 terms.Turn)

abbrev j0 : Ledger
j0 = with_mark (empty_book 0 12 16) (events.Seat 0 terms.Sole)

joint_awake : IsJoint awake top0 e0 r0 j0
joint_awake = record {
  few = few_awake;
  rooted = refl;
  root_there = refl;
  reservations_there = refl;
  turns_there = refl;
  join_there = refl;
  joined_there = refl;
  other_there = refl;
}

-- names of one letter
letter : (n m : ℕ) → Some (n ∷ []) ≡ Some (m ∷ []) → n ≡ m
letter n m e = cc

-- nobody has taken anything yet
none_least : (config : Config) (other : ℕ) → other < 0 → terms_at (empty_book 0 12 16) other ≢ None
none_least config other lt = absurd (omega (arith, lt))

reserves : Follows configs.Edf (terms.Res true 2 10) (All ∷ []) (Resb true 2 10)
reserves = record {
  port = 0;
  have = All;
  is_have = refl;
  offered = All;
  lent = Resb true 2 10;
  first = yields All;
  through = record {
    from = tt;
    to = record { some = omega arith; fits = omega arith; size = omega arith };
    port_of = refl;
    lends = inl refl;
  };
  last = yields (Resb true 2 10);
}

turns_nothing : Follows (configs.Rr 1) terms.Turn (Null ∷ []) Null
turns_nothing = record {
  port = 0;
  have = Null;
  is_have = refl;
  offered = Null;
  lent = Null;
  first = yields Null;
  through = record { from = tt; to = tt; port_of = refl; lends = inr refl };
  last = yields Null;
}

joins : Follows (configs.Join 2) terms.Sole (Resb true 2 10 ∷ Null ∷ []) (Resb false 2 10)
joins = record {
  port = 0;
  have = Resb true 2 10;
  is_have = refl;
  offered = Resb false 2 10;
  lent = Resb false 2 10;
  first = λ f a lo hi s. converts-supplies R2 (Resb true 2 10) (Resb false 2 10) f a lo hi (record {
    from = record { some = omega arith; fits = omega arith; size = omega arith };
    to = record { some = omega arith; fits = omega arith; size = omega arith };
    leads = refl;
  }) s;
  through = record {
    from = record { some = omega arith; fits = omega arith; size = omega arith };
    to = record { some = omega arith; fits = omega arith; size = omega arith };
    port_of = omega arith;
    lends = inl (refl, refl);
  };
  last = yields (Resb false 2 10);
}

fifth_fits : Fits configs.Edf (empty_book 0 12 16) (terms.Res true 2 10)
unfolding parts sum_below is_held tenant_at terms_at
fifth_fits = record {
  of_kind = refl;
  within = λ e. e;
  apart = λ priority is has. cc;
  room = λ free asked lacks. omega (arith, lacks.left, lacks.asks, lacks.lacks);
}

turn_fits : (b : Ledger) → Fits (configs.Rr 1) b terms.Turn
turn_fits b = record {
  of_kind = refl;
  within = λ e. e;
  apart = λ priority is has. cc;
  room = λ free asked lacks. omega (arith, lacks.asks, lacks.lacks);
}

sole_fits : (b : Ledger) → Fits (configs.Join 2) b terms.Sole
sole_fits b = record {
  of_kind = refl;
  within = λ e. e;
  apart = λ priority is has. cc;
  room = λ free asked lacks. omega (arith, lacks.asks, lacks.lacks);
}

-- loads
can_load_reservations : Can one load_reservations
can_load_reservations = (
  record {
    new = record {
      unused = refl;
      named = refl;
      fresh = each_of_six one few_one (λ k node. name_of node ≢ Some (codes "e")) (λ e. cc) (λ e. cc) (λ e. cc)
          (λ e. cc) (λ e. cc) (λ e. cc) (λ k le e. cc);
    };
    few = omega arith;
    kind = λ e. cc;
    in_range = tt;
    ports = refl;
    places = take_first one 0 (first_seat one 0 _ _ _ _ root_seat refl refl);
  },
  level two
      (each_of_six two few_two LowerSeats (lower_seat 0 _ root_seat refl (omega arith))
      (lower_seat 1 _ reservations_seat refl (omega arith, omega arith)) (lower_none 2) (lower_none 3)
      (lower_none 4) (lower_none 5) (λ k le. lower_none k)),
)

one_unused : (slot : ℕ) → priority_at (book_of (two.nodes 0)) slot ≢ Some 1
unfolding terms_at
one_unused zero has = cc
one_unused (suc slot) has = let none = rw (ne_eqb 0 (suc slot) (λ e. omega (arith, e))) at has in cc

second_least : (other : ℕ) → other < 1 → terms_at (book_of (two.nodes 0)) other ≢ None
unfolding terms_at
second_least zero lt none = cc
second_least (suc other) lt none = omega (arith, lt)

turns_sits : MaySit two [] turns_seat 0 1
unfolding terms_at
turns_sits = record {
  scheduler = the (two.nodes 0);
  there = refl;
  fits = fits_number (book_of (two.nodes 0)) 1 one_unused;
  room = λ full. full 1 (omega arith) refl;
  free = record { within = omega arith; free = refl; least = second_least };
  derived = later_nothing 1 All tt;
}

can_load_turns : Can two load_turns
can_load_turns = (
  record {
    new = record {
      unused = refl;
      named = refl;
      fresh = each_of_six two few_two (λ k node. name_of node ≢ Some (codes "r")) (λ e. cc)
          (λ e. omega (arith, letter 101 114 e)) (λ e. cc) (λ e. cc) (λ e. cc) (λ e. cc) (λ k le e. cc);
    };
    few = omega arith;
    kind = λ e. cc;
    in_range = (omega arith, omega arith);
    ports = refl;
    places = take_one two turns_seat
        (record { in_range = record { terms = omega arith; kept = tt }; free = turns_sits });
  },
  level three
      (each_of_six three few_three LowerSeats (lower_seat 0 _ root_seat refl (omega arith))
      (lower_seat 1 _ reservations_seat refl (omega arith, omega arith))
      (lower_seat 2 _ turns_seat refl (omega arith, omega arith)) (lower_none 3) (lower_none 4) (lower_none 5)
      (λ k le. lower_none k)),
)

-- the ports of the join
reserved_sits : MaySit three [] reserved_port 1 0
unfolding terms_at is_held tenant_at
reserved_sits = record {
  scheduler = the (three.nodes 1);
  there = refl;
  fits = fifth_fits;
  room = λ full. full 0 (omega arith) refl;
  free = record { within = omega arith; free = refl; least = λ other lt. absurd (omega (arith, lt)) };
  derived = reserves;
}

turn_sits : MaySit three [] turn_port 2 0
unfolding terms_at
turn_sits = record {
  scheduler = the (three.nodes 2);
  there = refl;
  fits = turn_fits (empty_book 0 12 16);
  room = λ full. full 0 (omega arith) refl;
  free = record { within = omega arith; free = refl; least = λ other lt. absurd (omega (arith, lt)) };
  derived = turns_nothing;
}

may_join : (port : ℕ) (seat : Seat) → slice_get (reserved_port ∷ turn_port ∷ []) port ≡ Some seat
    → MayTake three [] seat
may_join zero seat is = subst (MayTake three []) (let e : reserved_port ≡ seat = cc in e) (record {
  in_range = record {
    terms = (omega arith, omega arith, omega arith);
    kept = record { some = omega arith; fits = omega arith; size = omega arith };
  };
  free = reserved_sits;
})
may_join (suc zero) seat is = subst (MayTake three []) (let e : turn_port ≡ seat = cc in e)
    (record { in_range = record { terms = tt; kept = tt }; free = turn_sits })
may_join (suc (suc port)) seat is = absurd (cc)

apart : (port other : ℕ) (one two : Seat) → slice_get (reserved_port ∷ turn_port ∷ []) port ≡ Some one
    → slice_get (reserved_port ∷ turn_port ∷ []) other ≡ Some two
    → scheduler_at one.place ≡ scheduler_at two.place → port ≡ other
apart zero zero one two e f same = refl
apart (suc zero) (suc zero) one two e f same = refl
apart zero (suc zero) one two e f same = absurd (
    let first : reserved_port ≡ one = cc in
    let second : turn_port ≡ two = cc in
    let no : Some 1 ≡ Some 2 = ap (λ (s : Seat). scheduler_at s.place) first ∙ same
    ∙ sym (ap (λ (s : Seat). scheduler_at s.place) second) in
    cc)
apart (suc zero) zero one two e f same = absurd (
    let first : turn_port ≡ one = cc in
    let second : reserved_port ≡ two = cc in
    let no : Some 2 ≡ Some 1 = ap (λ (s : Seat). scheduler_at s.place) first ∙ same
    ∙ sym (ap (λ (s : Seat). scheduler_at s.place) second) in
    cc)
apart (suc (suc port)) other one two e f same = absurd (cc)
apart zero (suc (suc other)) one two e f same = absurd (cc)
apart (suc zero) (suc (suc other)) one two e f same = absurd (cc)

can_load_join : Can three load_join
can_load_join = (
  record {
    new = record {
      unused = refl;
      named = refl;
      fresh = each_of_six three few_three (λ k node. name_of node ≢ Some (codes "j")) (λ e. cc)
          (λ e. omega (arith, letter 101 106 e)) (λ e. omega (arith, letter 114 106 e)) (λ e. cc) (λ e. cc)
          (λ e. cc) (λ k le e. cc);
    };
    few = omega arith;
    kind = λ e. cc;
    in_range = (omega arith, omega arith);
    ports = refl;
    places = record { take = may_join; apart = apart };
  },
  level four
      (each_of_six four few_four LowerSeats (lower_seat 0 _ root_seat refl (omega arith))
      (lower_seat 1 _ reservations_seat refl (omega arith, omega arith))
      (lower_seat 2 _ turns_seat refl (omega arith, omega arith))
      (lower_seats 3 _ reserved_port turn_port refl (omega arith, omega arith) (omega arith, omega arith))
      (lower_none 4) (lower_none 5) (λ k le. lower_none k)),
)

-- threads
joined_sits : MaySit four [] joined_seat 3 0
unfolding terms_at
joined_sits = record {
  scheduler = the (four.nodes 3);
  there = refl;
  fits = sole_fits (empty_book 0 12 16);
  room = λ full. full 0 (omega arith) refl;
  free = record { within = omega arith; free = refl; least = λ other lt. absurd (omega (arith, lt)) };
  derived = joins;
}

can_admit_joined : Can four admit_joined
can_admit_joined = record {
  new = record {
    unused = refl;
    named = refl;
    fresh = each_of_six four few_four (λ k node. name_of node ≢ Some (codes "a")) (λ e. cc)
        (λ e. omega (arith, letter 101 97 e)) (λ e. omega (arith, letter 114 97 e))
        (λ e. omega (arith, letter 106 97 e)) (λ e. cc) (λ e. cc) (λ k le e. cc);
  };
  few = omega arith;
  place = λ e. cc;
  places = take_one four joined_seat
      (record {
        in_range = record {
          terms = tt;
          kept = record { some = omega arith; fits = omega arith; size = omega arith };
        };
        free = joined_sits;
      });
}

turn_least : (other : ℕ) → other < 1 → terms_at (book_of (five.nodes 2)) other ≢ None
unfolding terms_at
turn_least zero lt none = cc
turn_least (suc other) lt none = omega (arith, lt)

other_sits : MaySit five [] other_seat 2 1
unfolding terms_at
other_sits = record {
  scheduler = the (five.nodes 2);
  there = refl;
  fits = turn_fits (book_of (five.nodes 2));
  room = λ full. full 1 (omega arith) refl;
  free = record { within = omega arith; free = refl; least = turn_least };
  derived = turns_nothing;
}

can_admit_other : Can five admit_other
can_admit_other = record {
  new = record {
    unused = refl;
    named = refl;
    fresh = each_of_six five few_five (λ k node. name_of node ≢ Some (codes "b")) (λ e. cc)
        (λ e. omega (arith, letter 101 98 e)) (λ e. omega (arith, letter 114 98 e))
        (λ e. omega (arith, letter 106 98 e)) (λ e. omega (arith, letter 97 98 e)) (λ e. cc) (λ k le e. cc);
  };
  few = omega arith;
  place = λ e. cc;
  places = take_one five other_seat
      (record { in_range = record { terms = tt; kept = tt }; free = other_sits });
}

-- the books after each tick
abbrev tick_row : (mask : ℕ) → (to : Option ℕ) → (port : ℕ) → TickRow
tick_row mask to port = record { mask = mask; to = to; port = port }

abbrev top1 : Ledger
top1 = with_row top0 (tick_row 3 (Some 0) 0)

abbrev top2 : Ledger
top2 = with_row top1 (tick_row 3 (Some 0) 0)

abbrev top3 : Ledger
top3 = with_row top2 (tick_row 2 (Some 1) 0)

abbrev e1 : Ledger
e1 = with_row e0 (tick_row 1 (Some 0) 0)

abbrev e2 : Ledger
e2 = with_row e1 (tick_row 1 (Some 0) 0)

abbrev e3 : Ledger
e3 = with_row e2 (tick_row 1 None 0)

abbrev r1 : Ledger
r1 = with_row r0 (tick_row 3 None 0)

abbrev r2 : Ledger
r2 = with_row r1 (tick_row 3 None 0)

abbrev r3 : Ledger
r3 = with_row r2 (tick_row 3 (Some 0) 0)

abbrev j1 : Ledger
j1 = with_row j0 (tick_row 1 (Some 0) 0)

abbrev j2 : Ledger
j2 = with_row j1 (tick_row 1 (Some 0) 0)

abbrev j3 : Ledger
j3 = with_row j2 (tick_row 1 (Some 0) 1)

abbrev t1 : Hierarchy
t1 = after awake (tick true by_reservation)

abbrev t2 : Hierarchy
t2 = after t1 (tick true by_reservation)

abbrev t3 : Hierarchy
t3 = after t2 (tick false by_turn)

joint_t1 : IsJoint t1 top1 e1 r1 j1
joint_t1 = joint_ticked awake top0 e0 r0 j0 joint_awake true by_reservation

joint_t2 : IsJoint t2 top2 e2 r2 j2
joint_t2 = joint_ticked t1 top1 e1 r1 j1 joint_t1 true by_reservation

joint_t3 : IsJoint t3 top3 e3 r3 j3
joint_t3 = joint_ticked t2 top2 e2 r2 j2 joint_t2 false by_turn

filled0 : IsFilled top0 e0 r0 j0
unfolding terms_at
filled0 = record {
  top_one = λ e. cc;
  top_two = λ e. cc;
  reserved = λ e. cc;
  turn_one = λ e. cc;
  turn_two = λ e. cc;
  sole = λ e. cc;
}

filled1 : IsFilled top1 e1 r1 j1
filled1 = filled_rows top0 e0 r0 j0 _ _ _ _ filled0

filled2 : IsFilled top2 e2 r2 j2
filled2 = filled_rows top1 e1 r1 j1 _ _ _ _ filled1

filled3 : IsFilled top3 e3 r3 j3
filled3 = filled_rows top2 e2 r2 j2 _ _ _ _ filled2

-- budgets
asks_e0 : true ≡ asks configs.Edf e0 1
unfolding any_below asked served row_at claim_at tenant_at last_replenished count parts
asks_e0 = refl

asks_e1 : true ≡ asks configs.Edf e1 1
unfolding any_below asked served row_at claim_at tenant_at last_replenished count parts
asks_e1 = refl

silent_e2 : false ≡ asks configs.Edf e2 1
unfolding any_below asked served row_at claim_at tenant_at last_replenished count parts
silent_e2 = refl

silent_e3 : false ≡ asks configs.Edf e3 1
unfolding any_below asked served row_at claim_at tenant_at last_replenished count parts
silent_e3 = refl

goes_e0 : may_go e0 1 0 ≡ true
unfolding any_below asked served row_at claim_at tenant_at last_replenished count parts
goes_e0 = refl

goes_e1 : may_go e1 1 0 ≡ true
unfolding any_below asked served row_at claim_at tenant_at last_replenished count parts
goes_e1 = refl

-- turns: with a quantum of 1 none goes on
turn_at : (b : Ledger) (slot : ℕ) → turn_goes_on 1 b 3 ≡ false
    → IsFirst 32 (slot_asks 3) (turns_after (turn_slot b)) slot → Serves (configs.Rr 1) b 3 slot
turn_at b slot off is = record { goes_on = λ on. absurd (let no = sym on ∙ off in cc); passes = λ e. is }

turns_r2 : (turn_goes_on 1 r2 3 ≡ false) × (turns_after (turn_slot r2) 0 ≡ 0) × (turns_after (turn_slot r2) 1 ≡ 1)
unfolding last_of row_at settled_at left_at served asked count
turns_r2 = (refl, refl, refl)

turns_r3 : (turn_goes_on 1 r3 3 ≡ false) × (turns_after (turn_slot r3) 0 ≡ 31)
    × (turns_after (turn_slot r3) 1 ≡ 0)
unfolding last_of row_at settled_at left_at served asked count
turns_r3 = (refl, refl, refl)

turn_r2 : Serves (configs.Rr 1) r2 3 0
turn_r2 = turn_at r2 0 turns_r2.0
    (first_first (turns_after (turn_slot r2)) (omega (arith, turns_r2.1, turns_r2.2)))

turn_r3 : Serves (configs.Rr 1) r3 3 1
turn_r3 = turn_at r3 1 turns_r3.0
    (second_first (turns_after (turn_slot r3)) (omega (arith, turns_r3.1, turns_r3.2)))

ticks_legal : IsLegal awake (tick true by_reservation ∷ tick true by_reservation ∷ tick false by_turn
    ∷ tick false to_other ∷ [])
unfolding terms_at
ticks_legal = (
  can_reserve awake top0 e0 r0 j0 joint_awake filled0 asks_e0 (first_least top0 0 1 refl refl (omega arith))
      (lone_first e0 goes_e0),
  (
    can_reserve t1 top1 e1 r1 j1 joint_t1 filled1 asks_e1 (first_least top1 0 1 refl refl (omega arith))
        (lone_first e1 goes_e1),
    (
      can_turn t2 top2 e2 r2 j2 joint_t2 filled2 silent_e2 (lone_least top2 1 (λ e. cc)) turn_r2,
      (
        can_other t3 top3 e3 r3 j3 joint_t3 filled3 silent_e3 (lone_least top3 1 (λ e. cc)) turn_r3,
        tt,
      ),
    ),
  ),
)

pub joining_legal : IsLegal start joining
joining_legal = (
  can_load_desk configs.Fp 12 16 (λ e. cc) tt refl,
  (
    can_load_reservations,
    (
      can_load_turns,
      (
        can_load_join,
        (
          can_admit_joined,
          (
            can_admit_other,
            (record { thread = _; there = refl }, (record { thread = _; there = refl }, ticks_legal)),
          ),
        ),
      ),
    ),
  ),
)
