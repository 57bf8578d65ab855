-- The run of two reservations is legal.
use Rattle.std.proofs.Common.{◌≡◌, ◌≢◌, ℕ, zero, suc, ◌<◌, ◌≤◌, [], ◌∷◌, Some, None, true, false}
use Rattle.std.proofs.Common.{refl, sym, ◌∙◌, arith, inl}
use Rattle.std.specs.Prelude.{codes}
use Rattle.hls_chron.specs.declared.plain.Config.TheVariants.{Edf}
use Rattle.hls_chron.specs.declared.plain.Terms.TheVariants.{Res}
use Rattle.hls_chron.specs.Ledger.{Ledger}
use Rattle.hls_chron.specs.Parts.{parts}
use Rattle.hls_chron.specs.Seats.{terms_at}
use Rattle.hls_kinds.specs.Asks.{asks, slot_asks}
use Rattle.hls_kinds.specs.Discipline.{Serves, may_go}
use Rattle.hls_kinds.specs.Fits.{Fits}
use Rattle.hls_kinds.specs.Reservations.{is_held, deadline_at}
use Rattle.hls_kinds.specs.Room.{occupant_at}
use Rattle.hls_kinds.specs.Slots.{sum_below}
use Rattle.hls_kinds.specs.Tenants.{tenant_at}
use Rattle.hls_guarantee.specs.declared.Guarantee.TheVariants.{All, Resb}
use Rattle.hls_machine.specs.Ledgers.{empty_book}
use Rattle.hls_machine.specs.Derived.{Follows}
use Rattle.hls_machine.specs.Hierarchy.{Hierarchy, Thread, Awake, start, name_of}
use Rattle.hls_machine.specs.Steps.{Rouse, after}
use Rattle.hls_machine.specs.Legal.{MaySit, IsAsking, Can, IsLegal}
use Rattle.hls_kinds.proofs.ServingLaws.{may_go_asks}
use Rattle.hls_test_runs.specs.Crowded.{longer_seat, shorter_seat, load_crowd, admit_longer, admit_shorter}
use Rattle.hls_test_runs.specs.Crowded.{all_three_ask, crowd_slots, crowd_path, longer_tick, shorter_tick, crowded}
use Rattle.hls_test_runs.proofs.Small.{Few, few_after, each_of_three, beyond, take_one, yields, the}
use Rattle.hls_test_runs.proofs.Awake.{off_two}
use Rattle.hls_test_runs.proofs.Deadlines.{lone, both, first, second, third, fourth, fifth, sixth, GoesAlone, BothMayGo}
use Rattle.hls_test_runs.proofs.Deadlines.{at_both, at_first, at_second, at_third, at_fourth, at_fifth, at_sixth}
use Rattle.hls_test_runs.proofs.Desk.{IsDesk, can_load_desk, desk_asking, desk_ticked, desk_runs}

-- the hierarchy as it is set up
abbrev one : Hierarchy
one = after start load_crowd

abbrev two : Hierarchy
two = after one admit_longer

abbrev three : Hierarchy
three = after two admit_shorter

abbrev four : Hierarchy
four = after three (Rouse 1 None)

abbrev awake : Hierarchy
awake = after four (Rouse 2 None)

few_one : Few 3 one
few_one = few_after 3 start load_crowd (λ k le e. omega (arith, le, e)) (λ k le. refl)

few_two : Few 3 two
few_two = few_after 3 one admit_longer (λ k le e. omega (arith, le, e)) few_one

few_three : Few 3 three
few_three = few_after 3 two admit_shorter (λ k le e. omega (arith, le, e)) few_two

few_four : Few 3 four
few_four = few_after 3 three (Rouse 1 None) (λ k le made. made) few_three

few_awake : Few 3 awake
few_awake = few_after 3 four (Rouse 2 None) (λ k le made. made) few_four

-- each is lent its reservation
pub reserves : (x y : ℕ) → 1 ≤ x → x ≤ y → y ≤ 20000 → Follows Edf (Res true x y) (All ∷ []) (Resb true x y)
reserves x y some narrow size = record {
  port = 0;
  have = All;
  is_have = refl;
  offered = All;
  lent = Resb true x y;
  first = yields All;
  through = record {
    from = tt;
    to = record { some = some; fits = narrow; size = size };
    port_of = refl;
    lends = inl refl;
  };
  last = yields (Resb true x y);
}

longer_fits : Fits Edf (empty_book 0 7 8) (Res true 4 6)
unfolding parts sum_below is_held tenant_at terms_at
longer_fits = record {
  of_kind = refl;
  within = λ e. e;
  apart = λ priority is has. cc;
  room = λ free asked lacks. omega (arith, lacks.left, lacks.asks, lacks.lacks);
}

shorter_fits : Fits Edf lone (Res true 1 3)
unfolding parts sum_below is_held tenant_at terms_at
shorter_fits = record {
  of_kind = refl;
  within = λ e. e;
  apart = λ priority is has. cc;
  room = λ free asked lacks. omega (arith, lacks.left, lacks.asks, lacks.lacks);
}

longer_sits : MaySit one [] longer_seat 0 0
unfolding terms_at is_held tenant_at
longer_sits = record {
  scheduler = the (one.nodes 0);
  there = refl;
  fits = longer_fits;
  room = λ full. full 0 (omega arith) refl;
  free = record { within = omega arith; free = refl; least = λ other lt. absurd (omega (arith, lt)) };
  derived = reserves 4 6 (omega arith) (omega arith) (omega arith);
}

can_admit_longer : Can one admit_longer
can_admit_longer = record {
  new = record {
    unused = refl;
    named = refl;
    fresh = each_of_three one few_one (λ k node. name_of node ≢ Some (codes "a")) (λ e. cc) (λ e. cc) (λ e. cc)
        (λ k le e. cc);
  };
  few = omega arith;
  place = λ e. cc;
  places = take_one one longer_seat
      (record {
        in_range = record {
          terms = (omega arith, omega arith, omega arith);
          kept = record { some = omega arith; fits = omega arith; size = omega arith };
        };
        free = longer_sits;
      });
}

second_least : (other : ℕ) → other < 1 → occupant_at Edf lone other ≢ None
unfolding terms_at is_held tenant_at
second_least zero lt none = cc
second_least (suc other) lt none = omega (arith, lt)

shorter_sits : MaySit two [] shorter_seat 0 1
unfolding terms_at is_held tenant_at
shorter_sits = record {
  scheduler = the (two.nodes 0);
  there = refl;
  fits = shorter_fits;
  room = λ full. full 1 (omega arith) refl;
  free = record { within = omega arith; free = refl; least = second_least };
  derived = reserves 1 3 (omega arith) (omega arith) (omega arith);
}

pub letter : (n m : ℕ) → Some (n ∷ []) ≡ Some (m ∷ []) → n ≡ m
letter n m e = cc

can_admit_shorter : Can two admit_shorter
can_admit_shorter = record {
  new = record {
    unused = refl;
    named = refl;
    fresh = each_of_three two few_two (λ k node. name_of node ≢ Some (codes "b")) (λ e. cc)
        (λ e. omega (arith, letter 97 98 e)) (λ e. cc) (λ k le e. cc);
  };
  few = omega arith;
  place = λ e. cc;
  places = take_one two shorter_seat
      (record {
        in_range = record {
          terms = (omega arith, omega arith, omega arith);
          kept = record { some = omega arith; fits = omega arith; size = omega arith };
        };
        free = shorter_sits;
      });
}

-- whom a tick serves
may_ask : (b : Ledger) (other : ℕ) → may_go b 3 (suc (suc other)) ≡ true → ⊥
may_ask b other goes =
    let on = may_go_asks b 3 (suc (suc other)) goes in
    let off = off_two other in
    let clash : true ≡ false = sym on ∙ off in cc

lower_goes : (b : Ledger) → may_go b 3 0 ≡ true → (may_go b 3 1 ≡ true → deadline_at b 3 0 ≤ deadline_at b 3 1)
    → Serves Edf b 3 0
lower_goes b goes near = record {
  within = omega arith;
  chosen = goes;
  least = λ other lt on. least other on;
  first = λ other lt on same. omega arith;
}
  where
    least : (other : ℕ) → may_go b 3 other ≡ true → deadline_at b 3 0 ≤ deadline_at b 3 other
    least zero on = omega arith
    least (suc zero) on = near on
    least (suc (suc other)) on = absurd (may_ask b other on)

upper_goes : (b : Ledger) → may_go b 3 1 ≡ true → (may_go b 3 0 ≡ true → deadline_at b 3 1 < deadline_at b 3 0)
    → Serves Edf b 3 1
upper_goes b goes near = record {
  within = omega arith;
  chosen = goes;
  least = λ other lt on. least other on;
  first = λ other lt on same. tie other on same;
}
  where
    least : (other : ℕ) → may_go b 3 other ≡ true → deadline_at b 3 1 ≤ deadline_at b 3 other
    least zero on = let less = near on in omega (arith, less)
    least (suc zero) on = omega arith
    least (suc (suc other)) on = absurd (may_ask b other on)

    tie : (other : ℕ) → may_go b 3 other ≡ true → deadline_at b 3 1 ≡ deadline_at b 3 other → 1 ≤ other
    tie zero on same = let less = near on in absurd (omega (arith, less, same))
    tie (suc other) on same = omega arith

alone_lower : (b : Ledger) → GoesAlone b 0 1 → Serves Edf b 3 0
alone_lower b alone =
    lower_goes b alone.goes (λ on. absurd (let off = alone.stays in let clash : true ≡ false = sym on ∙ off in cc))

pub alone_upper : (b : Ledger) → GoesAlone b 1 0 → Serves Edf b 3 1
alone_upper b alone =
    upper_goes b alone.goes (λ on. absurd (let off = alone.stays in let clash : true ≡ false = sym on ∙ off in cc))

pub earlier_lower : (b : Ledger) (longer shorter : ℕ) → BothMayGo b longer shorter → longer ≤ shorter → Serves Edf b 3 0
earlier_lower b longer shorter may le =
    lower_goes b may.first (λ on. omega (arith, may.longer_at, may.shorter_at, le))

earlier_upper : (b : Ledger) (longer shorter : ℕ) → BothMayGo b longer shorter → shorter < longer → Serves Edf b 3 1
earlier_upper b longer shorter may less =
    upper_goes b may.second (λ on. omega (arith, may.longer_at, may.shorter_at, less))

abbrev longer_thread : Thread
longer_thread = record { name = codes "a"; seat = longer_seat; wake = Awake; stay = 0 }

abbrev shorter_thread : Thread
shorter_thread = record { name = codes "b"; seat = shorter_seat; wake = Awake; stay = 0 }

abbrev IsAt : Hierarchy → Ledger → Type 0
IsAt h b = IsDesk h Edf b (Some longer_thread) (Some shorter_thread)

module _ (h : Hierarchy) (b : Ledger) (at : IsAt h b) (one : terms_at b 0 ≢ None) (two : terms_at b 1 ≢ None)
    (on : asks Edf b 3 ≡ true) where
  silent : (slot : ℕ) → terms_at b slot ≡ None → slot_asks 3 slot ≡ false
  silent zero none = absurd (one none)
  silent (suc zero) none = absurd (two none)
  silent (suc (suc slot)) none = off_two slot

  all_asking : IsAsking h all_three_ask crowd_slots
  all_asking = desk_asking h Edf b (Some longer_thread) (Some shorter_thread) at all_three_ask crowd_slots
      (sym on) (refl, refl, refl, refl) (refl, refl, refl, refl)
      (λ k le. rw (beyond k 0 (omega (arith, le)), beyond k 1 (omega (arith, le)), beyond k 2 (omega (arith, le)))
      refl)
      (λ k le. rw (beyond k 0 (omega (arith, le))) refl) silent

  can_serve_longer : Serves Edf b 3 0 → Can h longer_tick
  can_serve_longer serves = desk_runs h Edf b (Some longer_thread) (Some shorter_thread) at all_three_ask crowd_slots
      0 1 longer_thread all_asking refl serves at.first_there refl refl

  can_serve_shorter : Serves Edf b 3 1 → Can h shorter_tick
  can_serve_shorter serves = desk_runs h Edf b (Some longer_thread) (Some shorter_thread) at all_three_ask crowd_slots
      1 2 shorter_thread all_asking refl serves at.second_there refl refl

-- the ticks
at_awake : IsAt awake both
at_awake =
    record { few = few_awake; rooted = refl; root_there = refl; first_there = refl; second_there = refl }

abbrev h1 : Hierarchy
h1 = after awake shorter_tick

at_h1 : IsAt h1 first
at_h1 = desk_ticked awake Edf both (Some longer_thread) (Some shorter_thread) at_awake all_three_ask crowd_slots
    (Some (crowd_path 1 2))

abbrev h2 : Hierarchy
h2 = after h1 longer_tick

at_h2 : IsAt h2 second
at_h2 = desk_ticked h1 Edf first (Some longer_thread) (Some shorter_thread) at_h1 all_three_ask crowd_slots
    (Some (crowd_path 0 1))

abbrev h3 : Hierarchy
h3 = after h2 longer_tick

at_h3 : IsAt h3 third
at_h3 = desk_ticked h2 Edf second (Some longer_thread) (Some shorter_thread) at_h2 all_three_ask crowd_slots
    (Some (crowd_path 0 1))

abbrev h4 : Hierarchy
h4 = after h3 longer_tick

at_h4 : IsAt h4 fourth
at_h4 = desk_ticked h3 Edf third (Some longer_thread) (Some shorter_thread) at_h3 all_three_ask crowd_slots
    (Some (crowd_path 0 1))

abbrev h5 : Hierarchy
h5 = after h4 longer_tick

at_h5 : IsAt h5 fifth
at_h5 = desk_ticked h4 Edf fourth (Some longer_thread) (Some shorter_thread) at_h4 all_three_ask crowd_slots
    (Some (crowd_path 0 1))

abbrev h6 : Hierarchy
h6 = after h5 shorter_tick

at_h6 : IsAt h6 sixth
at_h6 = desk_ticked h5 Edf fifth (Some longer_thread) (Some shorter_thread) at_h5 all_three_ask crowd_slots
    (Some (crowd_path 1 2))

can_go_first : Can awake shorter_tick
unfolding terms_at
can_go_first = can_serve_shorter awake both at_awake (λ e. cc) (λ e. cc) at_both.asks
    (earlier_upper both 6 3 at_both (omega arith))

can_go_second : Can h1 longer_tick
unfolding terms_at
can_go_second = can_serve_longer h1 first at_h1 (λ e. cc) (λ e. cc) at_first.asks (alone_lower first at_first)

can_go_third : Can h2 longer_tick
unfolding terms_at
can_go_third = can_serve_longer h2 second at_h2 (λ e. cc) (λ e. cc) at_second.asks (alone_lower second at_second)

can_go_fourth : Can h3 longer_tick
unfolding terms_at
can_go_fourth = can_serve_longer h3 third at_h3 (λ e. cc) (λ e. cc) at_third.asks
    (earlier_lower third 6 6 at_third (omega arith))

can_go_fifth : Can h4 longer_tick
unfolding terms_at
can_go_fifth = can_serve_longer h4 fourth at_h4 (λ e. cc) (λ e. cc) at_fourth.asks
    (earlier_lower fourth 6 6 at_fourth (omega arith))

can_go_sixth : Can h5 shorter_tick
unfolding terms_at
can_go_sixth = can_serve_shorter h5 fifth at_h5 (λ e. cc) (λ e. cc) at_fifth.asks (alone_upper fifth at_fifth)

can_go_seventh : Can h6 shorter_tick
unfolding terms_at
can_go_seventh = can_serve_shorter h6 sixth at_h6 (λ e. cc) (λ e. cc) at_sixth.asks
    (earlier_upper sixth 12 9 at_sixth (omega arith))

ticks_legal : IsLegal awake (shorter_tick ∷ longer_tick ∷ longer_tick ∷ longer_tick ∷ longer_tick ∷ shorter_tick
    ∷ shorter_tick ∷ [])
ticks_legal = (
  can_go_first,
  (
    can_go_second,
    (can_go_third, (can_go_fourth, (can_go_fifth, (can_go_sixth, (can_go_seventh, tt))))),
  ),
)

pub crowded_legal : IsLegal start crowded
crowded_legal = (
  can_load_desk Edf 7 8 (λ e. cc) tt refl,
  (
    can_admit_longer,
    (
      can_admit_shorter,
      (
        record { thread = _; there = refl },
        (
          record { thread = _; there = refl },
          ticks_legal,
        ),
      ),
    ),
  ),
)
