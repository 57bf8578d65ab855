-- The run of shares is legal, and no share starts at tag zero.
use Rattle.std.proofs.Common.{◌≡◌, ◌≢◌, ℕ, zero, suc, ◌<◌, ◌≤◌, [], ◌∷◌, Option, Some, None, Bool}
use Rattle.std.proofs.Common.{false, ◌+◌, refl, ap, arith, inl}
use Rattle.std.specs.Prelude.{codes}
use Rattle.std.proofs.Math.Nat.{one-dvd}
use Rattle.std.proofs.lemmas.Bool.{eqb-true}
use Rattle.hls_frac.specs.declared.Frac.{Frac}
use Rattle.hls_chron.specs.declared.plain.Terms.TheVariants.{Weight}
use Rattle.hls_chron.specs.Ledger.{Ledger, now_of}
use Rattle.hls_chron.specs.Seats.{terms_at}
use Rattle.hls_kinds.specs.Slots.{sum_below}
use Rattle.hls_kinds.specs.Tags.{start_tag}
use Rattle.hls_kinds.specs.Asks.{slot_asks}
use Rattle.hls_kinds.specs.Discipline.{Serves}
use Rattle.hls_kinds.specs.Fits.{Fits}
use Rattle.hls_kinds.specs.Room.{room_used}
use Rattle.hls_guarantee.specs.declared.Guarantee.{Guarantee}
use Rattle.hls_guarantee.specs.declared.Guarantee.TheVariants.{All, Resc, Psbe}
use Rattle.hls_guarantee.specs.declared.rule.RuleName.TheVariants.{R6, R8}
use Rattle.hls_guarantee.specs.Limits.{IsValid}
use Rattle.hls_guarantee.proofs.Conversions.{converts-supplies}
use Rattle.hls_machine.specs.Ledgers.{empty_book}
use Rattle.hls_machine.specs.Derived.{Follows}
use Rattle.hls_machine.specs.Hierarchy.{Hierarchy, Node, Thread, Awake, At, Seat, start, name_of, seat_of}
use Rattle.hls_machine.specs.Steps.{Step, Path, Rouse, Elapse, after, state}
use Rattle.hls_machine.specs.Legal.{MaySit, IsAsking, Can, IsLegal}
use Rattle.hls_test_runs.specs.Shared.{queue, lighter_seat, heavier_seat, load_queue, admit_lighter, admit_heavier}
use Rattle.hls_test_runs.specs.Shared.{move_lighter, three_ask, both_slots, path_to, lighter_tick, heavier_tick, shared}
use Rattle.hls_test_runs.specs.Shared.{before_ticks, moved}
use Rattle.hls_machine.proofs.Determined.{IsKnown, elapse_one, run_known, start_known}
use Rattle.hls_test_runs.specs.Moves.{root_seat}
use Rattle.hls_test_runs.proofs.Small.{Few, few_after, each_of_three, beyond, take_one, the, placed, same_slot}
use Rattle.hls_test_runs.proofs.Awake.{off_two}
use Rattle.hls_test_runs.proofs.Tagged.{lone, pair, first, again, second, third, tags_pair, tags_again, tags_second}
use Rattle.hls_test_runs.proofs.Tagged.{tags_third}
use Rattle.hls_test_runs.proofs.Desk.{first_first, second_first, least_served, IsDesk, can_load_desk}
use Rattle.hls_test_runs.proofs.Desk.{desk_flat, desk_asking, desk_ticked, desk_runs}

-- what a seat of weight 1 or 2 is guaranteed
unfoldable pub unit : (den : ℕ) → 1 ≤ den → Frac
unit den some = record {
  num = 1;
  den = den;
  positive = some;
  lowest = (one-dvd 1, one-dvd den, λ d p q. p);
}

unfoldable pub whole : ℕ → Frac
whole num = record {
  num = num;
  den = 1;
  positive = omega arith;
  lowest = (one-dvd num, one-dvd 1, λ d p q. q);
}

-- the whole share with an error, what a weight lends of it, and what that comes to in windows
abbrev pub given_with : ℕ → Guarantee
given_with error = Psbe (whole 1) (whole error)

abbrev lent_to : (parts : ℕ) → 1 ≤ parts → Guarantee
lent_to parts some = Psbe (unit parts some) (whole 2)

pub valid_given : (error : ℕ) → error ≤ 3 → IsValid (given_with error)
unfolding whole
valid_given error le = record {
  some = omega arith;
  fits = omega arith;
  rate = record { num = omega arith; den = omega arith };
  error = record { num = omega (arith, le); den = omega arith };
}

valid_lent : (parts : ℕ) (some : 1 ≤ parts) → parts ≤ 4 → IsValid (lent_to parts some)
unfolding whole unit
valid_lent parts some le = record {
  some = omega arith;
  fits = some;
  rate = record { num = omega arith; den = omega (arith, le) };
  error = record { num = omega arith; den = omega arith };
}

lighter_follows : Follows queue (Weight 1) (All ∷ []) (Resc false 1 12)
unfolding whole unit
lighter_follows = record {
  port = 0;
  have = All;
  is_have = refl;
  offered = given_with 3;
  lent = lent_to 4 (omega arith);
  first = λ f a lo hi s. converts-supplies R8 All (given_with 3) f a lo hi
      (record { from = tt; to = valid_given 3 (omega arith); leads = tt }) s;
  through = record {
    from = valid_given 3 (omega arith);
    to = valid_lent 4 (omega arith) (omega arith);
    port_of = refl;
    lends = inl (record { others = 2; rest = 3; seats = refl; weights = refl; rate = refl; error = refl });
  };
  last = λ f a lo hi s. converts-supplies R6 (lent_to 4 (omega arith)) (Resc false 1 12) f a lo hi (record {
    from = valid_lent 4 (omega arith) (omega arith);
    to = record { some = omega arith; fits = omega arith; size = omega arith };
    leads = omega arith;
  }) s;
}

heavier_follows : Follows queue (Weight 2) (All ∷ []) (Resc false 1 6)
unfolding whole unit
heavier_follows = record {
  port = 0;
  have = All;
  is_have = refl;
  offered = given_with 1;
  lent = lent_to 2 (omega arith);
  first = λ f a lo hi s. converts-supplies R8 All (given_with 1) f a lo hi
      (record { from = tt; to = valid_given 1 (omega arith); leads = tt }) s;
  through = record {
    from = valid_given 1 (omega arith);
    to = valid_lent 2 (omega arith) (omega arith);
    port_of = refl;
    lends = inl (record { others = 2; rest = 2; seats = refl; weights = refl; rate = refl; error = refl });
  };
  last = λ f a lo hi s. converts-supplies R6 (lent_to 2 (omega arith)) (Resc false 1 6) f a lo hi (record {
    from = valid_lent 2 (omega arith) (omega arith);
    to = record { some = omega arith; fits = omega arith; size = omega arith };
    leads = omega arith;
  }) s;
}

-- the hierarchy as it is set up
abbrev one : Hierarchy
one = after start load_queue

abbrev two : Hierarchy
two = after one admit_lighter

abbrev three : Hierarchy
three = after two admit_heavier

abbrev four : Hierarchy
four = after three (Rouse 1 None)

abbrev awake : Hierarchy
awake = after four (Rouse 2 None)

few_one : Few 3 one
few_one = few_after 3 start load_queue (λ k le e. omega (arith, le, e)) (λ k le. refl)

few_two : Few 3 two
few_two = few_after 3 one admit_lighter (λ k le e. omega (arith, le, e)) few_one

few_three : Few 3 three
few_three = few_after 3 two admit_heavier (λ k le e. omega (arith, le, e)) few_two

few_four : Few 3 four
few_four = few_after 3 three (Rouse 1 None) (λ k le made. made) few_three

few_awake : Few 3 awake
few_awake = few_after 3 four (Rouse 2 None) (λ k le made. made) few_four

-- the weights fit
weight_fits : (b : Ledger) (used weight : ℕ) → room_used queue b ≡ used → weight ≤ 4 → used + weight ≤ 4
    → Fits queue b (Weight weight)
weight_fits b used weight is small le = record {
  of_kind = refl;
  within = λ exceeds. omega (arith, small, exceeds);
  apart = λ priority e has. cc;
  room = λ free asked lacks. omega (arith, is, le, lacks.left, lacks.asks, lacks.lacks);
}

none_used : room_used queue (empty_book 0 4 8) ≡ 0
unfolding sum_below terms_at
none_used = refl

one_used : room_used queue lone ≡ 1
unfolding sum_below terms_at
one_used = refl

lighter_sits : MaySit one [] lighter_seat 0 0
unfolding terms_at
lighter_sits = record {
  scheduler = the (one.nodes 0);
  there = refl;
  fits = weight_fits (empty_book 0 4 8) 0 1 none_used (omega arith) (omega arith);
  room = λ full. full 0 (omega arith) refl;
  free = record { within = omega arith; free = refl; least = λ other lt. absurd (omega (arith, lt)) };
  derived = lighter_follows;
}

can_admit_lighter : Can one admit_lighter
can_admit_lighter = record {
  new = record {
    unused = refl;
    named = refl;
    fresh = each_of_three one few_one (λ k node. name_of node ≢ Some (codes "a")) (λ e. cc) (λ e. cc) (λ e. cc)
        (λ k le e. cc);
  };
  few = omega arith;
  place = λ e. cc;
  places = take_one one lighter_seat
      (record {
        in_range = record {
          terms = (omega arith, omega arith);
          kept = record { some = omega arith; fits = omega arith; size = omega arith };
        };
        free = lighter_sits;
      });
}

second_least : (other : ℕ) → other < 1 → terms_at lone other ≢ None
unfolding terms_at
second_least zero lt none = cc
second_least (suc other) lt none = omega (arith, lt)

heavier_sits : MaySit two [] heavier_seat 0 1
unfolding terms_at
heavier_sits = record {
  scheduler = the (two.nodes 0);
  there = refl;
  fits = weight_fits lone 1 2 one_used (omega arith) (omega arith);
  room = λ full. full 1 (omega arith) refl;
  free = record { within = omega arith; free = refl; least = second_least };
  derived = heavier_follows;
}

letter : (n m : ℕ) → Some (n ∷ []) ≡ Some (m ∷ []) → n ≡ m
letter n m e = cc

can_admit_heavier : Can two admit_heavier
can_admit_heavier = record {
  new = record {
    unused = refl;
    named = refl;
    fresh = each_of_three two few_two (λ k node. name_of node ≢ Some (codes "b")) (λ e. cc)
        (λ e. omega (arith, letter 97 98 e)) (λ e. cc) (λ k le e. cc);
  };
  few = omega arith;
  place = λ e. cc;
  places = take_one two heavier_seat
      (record {
        in_range = record {
          terms = (omega arith, omega arith);
          kept = record { some = omega arith; fits = omega arith; size = omega arith };
        };
        free = heavier_sits;
      });
}

abbrev lighter_thread : (stay : ℕ) → Thread
lighter_thread stay = record { name = codes "a"; seat = lighter_seat; wake = Awake; stay = stay }

abbrev heavier_thread : Thread
heavier_thread = record { name = codes "b"; seat = heavier_seat; wake = Awake; stay = 0 }

abbrev IsAt : Hierarchy → Ledger → (stay : ℕ) → Type 0
IsAt h b stay = IsDesk h queue b (Some (lighter_thread stay)) (Some heavier_thread)

module _ (h : Hierarchy) (b : Ledger) (stay : ℕ) (at : IsAt h b stay) (one : terms_at b 0 ≢ None)
    (two : terms_at b 1 ≢ None) where
  silent : (slot : ℕ) → terms_at b slot ≡ None → slot_asks 3 slot ≡ false
  silent zero none = absurd (one none)
  silent (suc zero) none = absurd (two none)
  silent (suc (suc slot)) none = off_two slot

  all_asking : IsAsking h three_ask both_slots
  all_asking = desk_asking h queue b (Some (lighter_thread stay)) (Some heavier_thread) at three_ask both_slots
      refl (refl, refl, refl, refl) (refl, refl, refl, refl)
      (λ k le. rw (beyond k 0 (omega (arith, le)), beyond k 1 (omega (arith, le)), beyond k 2 (omega (arith, le)))
      refl)
      (λ k le. rw (beyond k 0 (omega (arith, le))) refl) silent

  can_serve_lighter : Serves queue b 3 0 → Can h lighter_tick
  can_serve_lighter serves = desk_runs h queue b (Some (lighter_thread stay)) (Some heavier_thread) at three_ask
      both_slots 0 1 (lighter_thread stay) all_asking refl serves at.first_there refl refl

  can_serve_heavier : Serves queue b 3 1 → Can h heavier_tick
  can_serve_heavier serves = desk_runs h queue b (Some (lighter_thread stay)) (Some heavier_thread) at three_ask
      both_slots 1 2 heavier_thread all_asking refl serves at.second_there refl refl

-- the ticks and the move
abbrev h1 : Hierarchy
h1 = after awake heavier_tick

abbrev h2 : Hierarchy
h2 = after h1 move_lighter

abbrev h3 : Hierarchy
h3 = after h2 heavier_tick

abbrev h4 : Hierarchy
h4 = after h3 lighter_tick

at_awake : IsAt awake pair 0
at_awake =
    record { few = few_awake; rooted = refl; root_there = refl; first_there = refl; second_there = refl }

at_h1 : IsAt h1 first 0
at_h1 = desk_ticked awake queue pair (Some (lighter_thread 0)) (Some heavier_thread) at_awake three_ask both_slots
    (Some (path_to 1 2))

at_h2 : IsAt h2 again 1
at_h2 = record {
  few = few_after 3 h1 move_lighter (λ k le made. made) at_h1.few;
  rooted = refl;
  root_there = refl;
  first_there = refl;
  second_there = refl;
}

at_h3 : IsAt h3 second 1
at_h3 = desk_ticked h2 queue again (Some (lighter_thread 1)) (Some heavier_thread) at_h2 three_ask both_slots
    (Some (path_to 1 2))

at_h4 : IsAt h4 third 1
at_h4 = desk_ticked h3 queue second (Some (lighter_thread 1)) (Some heavier_thread) at_h3 three_ask both_slots
    (Some (path_to 0 1))

serves_pair : Serves queue pair 3 1
serves_pair =
    least_served 4 3 pair 3 1 (second_first (start_tag 1 pair (now_of pair))
    (omega (arith, tags_pair.0, tags_pair.1)))

serves_again : Serves queue again 3 1
serves_again =
    least_served 4 3 again 3 1 (second_first (start_tag 1 again (now_of again))
    (omega (arith, tags_again.0, tags_again.1)))

serves_second : Serves queue second 3 0
serves_second =
    least_served 4 3 second 3 0 (first_first (start_tag 1 second (now_of second))
    (omega (arith, tags_second.0, tags_second.1)))

serves_third : Serves queue third 3 1
serves_third =
    least_served 4 3 third 3 1 (second_first (start_tag 1 third (now_of third))
    (omega (arith, tags_third.0, tags_third.1)))

-- the move
three_used : room_used queue first ≡ 3
unfolding sum_below terms_at
three_used = refl

lighter_sits_again : MaySit h1 (lighter_seat ∷ []) lighter_seat 0 0
unfolding terms_at
lighter_sits_again = record {
  scheduler = the (h1.nodes 0);
  there = refl;
  fits = weight_fits first 3 1 three_used (omega arith) (omega arith);
  room = λ full. full 2 (omega arith) refl;
  free = record { within = omega arith; free = refl; least = λ other lt. absurd (omega (arith, lt)) };
  derived = lighter_follows;
}

-- all sit on the root
abbrev OnRoot : (c : ℕ) → Option Node → Type 0
OnRoot c node = (port : ℕ) (seat : Seat) (p slot : ℕ) → seat_of node port ≡ Some seat
    → seat.place ≡ At p slot → p ≡ 0

on_root : (c : ℕ) → OnRoot c (h1.nodes c)
on_root = each_of_three h1 at_h1.few OnRoot
    (λ port seat p slot e is. let no_slot = placed root_seat seat port p slot e is in absurd (cc))
    (λ port seat p slot e is. (same_slot 0 0 p slot (placed lighter_seat seat port p slot e is)).node)
    (λ port seat p slot e is. (same_slot 0 1 p slot (placed heavier_seat seat port p slot e is)).node)
    (λ k le port seat p slot e is. cc)

can_move : Can h1 move_lighter
can_move = (
  record {
    sort = λ e. cc;
    under = record {
      itself = refl;
      down = λ c p on is. absurd (
          let root = on_root c on.port on.seat p on.slot on.sits on.at_place in
          omega (arith, root, eqb-true p 1 is));
      up = λ c is. inl (eqb-true c 1 is);
    };
    take = record {
      in_range = record {
        terms = (omega arith, omega arith);
        kept = record { some = omega arith; fits = omega arith; size = omega arith };
      };
      free = lighter_sits_again;
    };
    acyclic = refl;
    rederived = λ c port on_it slot e is. absurd (let root = on_root c port on_it 1 slot e is in omega (arith, root));
  },
  desk_flat h2 queue again (Some (lighter_thread 1)) (Some heavier_thread) at_h2,
)

ticks_legal : IsLegal h1 (move_lighter ∷ heavier_tick ∷ lighter_tick ∷ heavier_tick ∷ [])
unfolding terms_at
ticks_legal = (
  can_move,
  (
    can_serve_heavier h2 again 1 at_h2 (λ e. cc) (λ e. cc) serves_again,
    (
      can_serve_lighter h3 second 1 at_h3 (λ e. cc) (λ e. cc) serves_second,
      (can_serve_heavier h4 third 1 at_h4 (λ e. cc) (λ e. cc) serves_third, tt),
    ),
  ),
)

first_legal : Can awake heavier_tick
unfolding terms_at
first_legal = can_serve_heavier awake pair 0 at_awake (λ e. cc) (λ e. cc) serves_pair

pub shared_legal : IsLegal start shared
shared_legal = (
  can_load_desk queue 4 8 (λ e. cc)
      ((omega arith, omega arith), (omega arith, omega arith), (omega arith, omega arith)) refl,
  (
    can_admit_lighter,
    (
      can_admit_heavier,
      (
        record { thread = _; there = refl },
        (record { thread = _; there = refl }, (first_legal, ticks_legal)),
      ),
    ),
  ),
)

-- a tick that may elapse beside one that serves the heavier serves it too
only_heavier : (h : Hierarchy) (known : IsKnown h) → Can h heavier_tick → (asking : ℕ → Bool) (masks : ℕ → ℕ)
    (path : Path) → Can h (Elapse asking masks (Some path)) → path.thread ≢ 1
only_heavier h known heavier asking masks path can is =
    let same : Elapse asking masks (Some path) ≡ heavier_tick =
    elapse_one h known asking three_ask masks both_slots (Some path) (Some (path_to 1 2)) can.0 can.1 heavier.0
    heavier.1 in
    let thread : path.thread ≡ 2 = ap thread_in same in
    omega (arith, is, thread)
  where
    thread_in : Step → ℕ
    thread_in (Elapse a m (Some p)) = p.thread
    thread_in _ = 0

before_legal : IsLegal start before_ticks
before_legal = (
  shared_legal.0,
  (shared_legal.1.0, (shared_legal.1.1.0, (shared_legal.1.1.1.0, (shared_legal.1.1.1.1.0, tt)))),
)

moved_legal : IsLegal start moved
moved_legal = (
  shared_legal.0,
  (
    shared_legal.1.0,
    (
      shared_legal.1.1.0,
      (shared_legal.1.1.1.0, (shared_legal.1.1.1.1.0, (first_legal, (can_move, tt)))),
    ),
  ),
)

pub not_at_first : (asking : ℕ → Bool) (masks : ℕ → ℕ) (path : Path)
    → Can (state start before_ticks) (Elapse asking masks (Some path)) → path.thread ≢ 1
not_at_first = only_heavier (state start before_ticks) (run_known before_ticks start start_known before_legal)
    first_legal

pub not_when_moved : (asking : ℕ → Bool) (masks : ℕ → ℕ) (path : Path)
    → Can (state start moved) (Elapse asking masks (Some path)) → path.thread ≢ 1
not_when_moved =
    only_heavier (state start moved) (run_known moved start start_known moved_legal) ticks_legal.1.0
