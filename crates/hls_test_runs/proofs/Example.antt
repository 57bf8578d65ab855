-- The example is a legal run.
use Rattle.std.proofs.Common.{◌≡◌, ◌≢◌, ℕ, inl, inr, ◌<◌, [], ◌∷◌, Option, Some, None, Bool, false}
use Rattle.std.proofs.Common.{refl, sym, ap, ◌∙◌, slice_get, arith}
use Rattle.std.specs.Prelude.{codes}
use Rattle.std.proofs.lemmas.Bool.{cases_eq, ne_eqb, eqb-true}
use Rattle.hls_chron.specs.Seats.{terms_at, priority_at}
use Rattle.hls_chron.specs.Ticks.{count}
use Rattle.hls_guarantee.specs.declared.Guarantee.TheVariants.{All}
use Rattle.hls_machine.specs.Hierarchy.{Hierarchy, start, Node, Loaded, Scheduler, At, Seat, seat_of, book_of}
use Rattle.hls_machine.specs.Hierarchy.{name_of}
use Rattle.hls_machine.specs.Steps.{after}
use Rattle.hls_machine.specs.Legal.{IsAsking, Can, IsLegal, asks_now}
use Rattle.hls_test_runs.specs.Example.{desk_seat, media_seat, player_seat, moved_seat, load_desk, load_media}
use Rattle.hls_test_runs.specs.Example.{admit_player, wake_player, first_tick, move_player, second_tick}
use Rattle.hls_test_runs.specs.Example.{last_tick, all_ask, first_slots, two_ask, second_slot, example}
use Rattle.hls_test_runs.proofs.Small.{Few, few_after, each_of_three, beyond, placed, same_slot, root_all}
use Rattle.hls_test_runs.proofs.Small.{later_nothing}
use Rattle.hls_test_runs.proofs.Small.{fits_number, first_seat, take_one, take_first, LowSeats, low_seat, no_low}
use Rattle.hls_test_runs.proofs.Small.{thread_low, flat, zero_off, SeatsAsk, seat_asks, root_asks_so, FreeSilent}
use Rattle.hls_test_runs.proofs.Small.{one_silent, all_silent, the, lone_least}

-- the hierarchy after each step
abbrev one : Hierarchy
one = after start load_desk

abbrev two : Hierarchy
two = after one load_media

abbrev three : Hierarchy
three = after two admit_player

abbrev four : Hierarchy
four = after three wake_player

abbrev five : Hierarchy
five = after four first_tick

abbrev six : Hierarchy
six = after five move_player

abbrev seven : Hierarchy
seven = after six second_tick

-- no node but three
few_one : Few 3 one
few_one = few_after 3 start load_desk (λ k le e. omega (arith, le, e)) (λ k le. refl)

few_two : Few 3 two
few_two = few_after 3 one load_media (λ k le e. omega (arith, le, e)) few_one

few_three : Few 3 three
few_three = few_after 3 two admit_player (λ k le e. omega (arith, le, e)) few_two

few_four : Few 3 four
few_four = few_after 3 three wake_player (λ k le made. made) few_three

few_five : Few 3 five
few_five = few_after 3 four first_tick (λ k le made. made) few_four

few_six : Few 3 six
few_six = few_after 3 five move_player (λ k le made. made) few_five

few_seven : Few 3 seven
few_seven = few_after 3 six second_tick (λ k le made. made) few_six

desk_low : (x : Scheduler) → x.ports ≡ desk_seat ∷ [] → LowSeats 0 (Some (Loaded x))
desk_low x is = low_seat 0 x desk_seat is (omega arith)

media_low : (x : Scheduler) → x.ports ≡ media_seat ∷ [] → LowSeats 1 (Some (Loaded x))
media_low x is = low_seat 1 x media_seat is (omega arith, omega arith)

-- loading
can_load_desk : Can start load_desk
can_load_desk = (
  record {
    new = record { unused = refl; named = refl; fresh = λ other e. cc };
    few = omega arith;
    kind = λ e. cc;
    in_range = tt;
    ports = refl;
    places = take_one start desk_seat
        (record {
          in_range = record { terms = tt; kept = tt };
          free = record { fits = refl; free = refl; derived = root_all };
        });
  },
  flat one (each_of_three one few_one LowSeats (desk_low _ refl) (no_low 1) (no_low 2) (λ k le. no_low k)),
)

can_load_media : Can one load_media
can_load_media = (
  record {
    new = record {
      unused = refl;
      named = refl;
      fresh =
          each_of_three one few_one (λ k node. name_of node ≢ Some (codes "media")) (λ e. cc)
          (λ e. cc) (λ e. cc)
          (λ k le e. cc);
    };
    few = omega arith;
    kind = λ e. cc;
    in_range = tt;
    ports = refl;
    places = take_first one 0 (first_seat one 0 _ _ _ _ desk_seat refl refl);
  },
  flat two
      (each_of_three two few_two LowSeats (desk_low _ refl) (media_low _ refl) (no_low 2)
      (λ k le. no_low k)),
)

can_admit_player : Can two admit_player
can_admit_player = record {
  new = record {
    unused = refl;
    named = refl;
    fresh =
        each_of_three two few_two (λ k node. name_of node ≢ Some (codes "player")) (λ e. cc)
        (λ e. cc) (λ e. cc)
        (λ k le e. cc);
  };
  few = omega arith;
  place = λ e. cc;
  places = take_first two 1 (first_seat two 1 _ _ _ _ media_seat refl refl);
}

can_wake_player : Can three wake_player
can_wake_player = record { thread = _; there = refl }

asking_four : IsAsking four all_ask first_slots
unfolding terms_at count
asking_four = record {
  nodes = each_of_three four few_four (λ k node. all_ask k ≡ asks_now four k (first_slots k) node) refl refl
      refl
      (λ k le. rw (
        beyond k 0 (omega (arith, le)),
        beyond k 1 (omega (arith, le)),
        beyond k 2 (omega (arith, le)),
      )
      refl);
  seats = each_of_three four few_four (SeatsAsk all_ask first_slots)
      (root_asks_so all_ask first_slots 0 desk_seat refl)
      (seat_asks all_ask first_slots 1 0 0 media_seat refl refl)
      (seat_asks all_ask first_slots 2 1 0 player_seat refl refl) (λ k le port seat p slot e is. cc);
  free = each_of_three four few_four (FreeSilent first_slots)
      (one_silent first_slots 0 0 (four.nodes 0) refl (λ e. cc))
      (one_silent first_slots 1 0 (four.nodes 1) refl (λ e. cc))
      (all_silent first_slots 2 (four.nodes 2) refl)
      (λ k le. all_silent first_slots k None
      (rw (beyond k 0 (omega (arith, le)), beyond k 1 (omega (arith, le))) refl));
}

-- the ticks
can_tick_first : Can four first_tick
unfolding terms_at count
can_tick_first = (
  asking_four,
  (
    refl,
    (
      record {
        scheduler = the (four.nodes 0);
        seat = desk_seat;
        there = refl;
        port = refl;
        at_place =
            refl;
        serves = lone_least (book_of (four.nodes 0)) 0 (λ e. cc);
      },
      (
        record {
          scheduler = the (four.nodes 1);
          seat = media_seat;
          there = refl;
          port = refl;
          at_place =
              refl;
          serves = lone_least (book_of (four.nodes 1)) 0 (λ e. cc);
        },
        record { thread = _; there = refl; at_place = refl; ready = refl },
      ),
    ),
  ),
)

-- the move: nobody sits on the player
abbrev OffPlayer : (c : ℕ) → Option Node → Type 0
OffPlayer c node = (port : ℕ) (seat : Seat) (p slot : ℕ) → seat_of node port ≡ Some seat
    → seat.place ≡ At p slot → p ≢ 2

off_player : (c q at : ℕ) (own : Seat) → own.place ≡ At q at → q ≢ 2 → (port : ℕ) (seat : Seat) (p slot : ℕ)
    → slice_get (own ∷ []) port ≡ Some seat → seat.place ≡ At p slot → p ≢ 2
off_player c q at own there ne port seat p slot e is same =
    let at_q = same_slot q at p slot (sym there ∙ placed own seat port p slot e is) in
    ne (sym at_q.node ∙ same)

nobody_on_it : (c : ℕ) → OffPlayer c (five.nodes c)
nobody_on_it = each_of_three five few_five OffPlayer
    (λ port seat p slot e is. let no_slot = placed desk_seat seat port p slot e is in absurd (cc))
    (off_player 1 0 0 media_seat refl (λ e. omega arith))
    (off_player 2 1 0 player_seat refl (λ e. omega arith))
    (λ k le port seat p slot e is. cc)

moved_fits : (slot : ℕ) → priority_at (book_of (five.nodes 0)) slot ≢ Some 7
unfolding terms_at
moved_fits slot = elim (cases_eq slot 0) [
  | inl e ↦ λ has. let at_zero : priority_at (book_of (five.nodes 0)) 0 ≡ Some 7 =
      ap (priority_at (book_of (five.nodes 0))) (sym e) ∙ has in cc
  | inr ne ↦ λ has. let none = rw (ne_eqb 0 slot (λ e. ne (sym e))) at has in cc
]

moved_least : (other : ℕ) → other < 1 → terms_at (book_of (five.nodes 0)) other ≢ None
unfolding terms_at
moved_least other lt none =
    let zeroed : other ≡ 0 = omega arith in
    let at_zero : terms_at (book_of (five.nodes 0)) 0 ≡ None =
    ap (terms_at (book_of (five.nodes 0))) (sym zeroed) ∙ none in
    cc

can_move : Can five move_player
unfolding terms_at
can_move = (
  record {
    sort = λ e. cc;
    under = record {
      itself = refl;
      down = λ c p on is. absurd
          (nobody_on_it c on.port on.seat p on.slot on.sits on.at_place (eqb-true p 2 is));
      up = λ c is. inl (eqb-true c 2 is);
    };
    take = record {
      in_range = record { terms = omega arith; kept = tt };
      free = record {
        scheduler = the (five.nodes 0);
        there = refl;
        fits = fits_number (book_of (five.nodes 0)) 7 moved_fits;
        room = λ full. full 1 (omega arith) refl;
        free = record { within = omega arith; free = refl; least = moved_least };
        derived = later_nothing 7 All tt;
      };
    };
    acyclic = refl;
    rederived = λ c port on_it slot e is. absurd (nobody_on_it c port on_it 2 slot e is refl);
  },
  flat six
      (each_of_three six few_six LowSeats (desk_low _ refl) (media_low _ refl) (thread_low 2 _)
      (λ k le. no_low k)),
)

asking_six : IsAsking six two_ask second_slot
unfolding terms_at count
asking_six = record {
  nodes = each_of_three six few_six (λ k node. two_ask k ≡ asks_now six k (second_slot k) node) refl refl refl
      (λ k le. rw (beyond k 0 (omega (arith, le)), beyond k 2 (omega (arith, le))) refl);
  seats = each_of_three six few_six (SeatsAsk two_ask second_slot)
      (root_asks_so two_ask second_slot 0 desk_seat refl)
      (seat_asks two_ask second_slot 1 0 0 media_seat refl refl)
      (seat_asks two_ask second_slot 2 0 1 moved_seat refl refl) (λ k le port seat p slot e is. cc);
  free = each_of_three six few_six (FreeSilent second_slot)
      (one_silent second_slot 0 1 (six.nodes 0) refl (λ e. cc)) (all_silent second_slot 1 (six.nodes 1) refl)
      (all_silent second_slot 2 (six.nodes 2) refl)
      (λ k le. all_silent second_slot k None (rw (beyond k 0 (omega (arith, le))) refl));
}

can_tick_second : Can six second_tick
unfolding terms_at count
can_tick_second = (
  asking_six,
  (
    refl,
    (
      record {
        scheduler = the (six.nodes 0);
        seat = desk_seat;
        there = refl;
        port = refl;
        at_place =
            refl;
        serves = lone_least (book_of (six.nodes 0)) 1 (λ e. cc);
      },
      record { thread = _; there = refl; at_place = refl; ready = refl },
    ),
  ),
)

abbrev no_node : ℕ → Bool
no_node k = false

abbrev no_slots : ℕ → ℕ
no_slots k = 0

can_tick_last : Can seven last_tick
unfolding terms_at count
can_tick_last = (
  record {
    nodes = each_of_three seven few_seven (λ k node. false ≡ asks_now seven k 0 node) refl refl refl
        (λ k le. refl);
    seats = each_of_three seven few_seven (SeatsAsk no_node no_slots)
        (root_asks_so no_node no_slots 0 desk_seat refl)
        (seat_asks no_node no_slots 1 0 0 media_seat refl (zero_off 0))
        (seat_asks no_node no_slots 2 0 1 moved_seat refl (zero_off 1)) (λ k le port seat p slot e is. cc);
    free = λ p slot none. zero_off slot;
  },
  refl,
)

pub example_legal : IsLegal start example
example_legal = (
  can_load_desk,
  (
    can_load_media,
    (
      can_admit_player,
      (can_wake_player, (can_tick_first, (can_move, (can_tick_second, (can_tick_last, tt))))),
    ),
  ),
)
