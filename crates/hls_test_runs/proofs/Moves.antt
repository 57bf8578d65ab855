-- The run of moves is legal.
use Rattle.std.proofs.Common.{◌≡◌, ◌≢◌, ℕ, zero, suc, ◌<◌, [], ◌∷◌, Some, None, refl}
use Rattle.std.proofs.Common.{arith}
use Rattle.std.specs.Prelude.{codes}
use Rattle.std.proofs.lemmas.Bool.{ne_eqb}
use Rattle.hls_chron.specs.Seats.{terms_at, priority_at}
use Rattle.hls_guarantee.specs.declared.Guarantee.TheVariants.{All, Null}
use Rattle.hls_machine.specs.Hierarchy.{Hierarchy, start, name_of, book_of}
use Rattle.hls_machine.specs.Steps.{Rouse, Refuse, after}
use Rattle.hls_machine.specs.Legal.{MaySit, Can, IsLegal}
use Rattle.hls_test_runs.specs.Moves.{root_seat, branch_seat, helper_seat, worker, helper, load_root, load_branch}
use Rattle.hls_test_runs.specs.Moves.{admit_worker, admit_helper, worker_tick, helper_tick}
use Rattle.hls_test_runs.specs.Moves.{move_worker, move_branch, moves}
use Rattle.hls_test_runs.proofs.Small.{Few, few_after, each_of_four, root_all, later_nothing, fits_number}
use Rattle.hls_test_runs.proofs.Small.{first_seat, take_one, take_first, LowSeats, low_seat, no_low, flat, the}
use Rattle.hls_test_runs.proofs.Awake.{IsAwake, can_run_worker, can_run_helper, awake_ran_worker}
use Rattle.hls_test_runs.proofs.Moved.{can_move_worker, awake_moved_worker, can_move_branch, awake_moved_branch}

-- the hierarchy as it is set up
abbrev one : Hierarchy
one = after start load_root

abbrev two : Hierarchy
two = after one load_branch

abbrev three : Hierarchy
three = after two admit_worker

abbrev four : Hierarchy
four = after three admit_helper

abbrev five : Hierarchy
five = after four (Rouse worker None)

abbrev pub all_awake : Hierarchy
all_awake = after five (Rouse helper None)

few_one : Few 4 one
few_one = few_after 4 start load_root (λ k le e. omega (arith, le, e)) (λ k le. refl)

few_two : Few 4 two
few_two = few_after 4 one load_branch (λ k le e. omega (arith, le, e)) few_one

few_three : Few 4 three
few_three = few_after 4 two admit_worker (λ k le e. omega (arith, le, e)) few_two

few_four : Few 4 four
few_four = few_after 4 three admit_helper (λ k le e. omega (arith, le, e)) few_three

few_five : Few 4 five
few_five = few_after 4 four (Rouse worker None) (λ k le made. made) few_four

few_awake : Few 4 all_awake
few_awake = few_after 4 five (Rouse helper None) (λ k le made. made) few_five

can_load_root : Can start load_root
can_load_root = (
  record {
    new = record { unused = refl; named = refl; fresh = λ other e. cc };
    few = omega arith;
    kind = λ e. cc;
    in_range = tt;
    ports = refl;
    places = take_one start root_seat
        (record {
          in_range = record { terms = tt; kept = tt };
          free = record { fits = refl; free = refl; derived = root_all };
        });
  },
  flat one
      (each_of_four one few_one LowSeats (low_seat 0 _ root_seat refl (omega arith)) (no_low 1) (no_low 2)
      (no_low 3) (λ k le. no_low k)),
)

can_load_branch : Can one load_branch
can_load_branch = (
  record {
    new = record {
      unused = refl;
      named = refl;
      fresh =
          each_of_four one few_one (λ k node. name_of node ≢ Some (codes "f")) (λ e. cc) (λ e. cc) (λ e. cc)
          (λ e. cc) (λ k le e. cc);
    };
    few = omega arith;
    kind = λ e. cc;
    in_range = tt;
    ports = refl;
    places = take_first one 0 (first_seat one 0 _ _ _ _ root_seat refl refl);
  },
  flat two
      (each_of_four two few_two LowSeats (low_seat 0 _ root_seat refl (omega arith))
      (low_seat 1 _ branch_seat refl (omega arith, omega arith)) (no_low 2) (no_low 3) (λ k le. no_low k)),
)

letter : (n m : ℕ) → Some (n ∷ []) ≡ Some (m ∷ []) → n ≡ m
letter n m e = cc

can_admit_worker : Can two admit_worker
can_admit_worker = record {
  new = record {
    unused = refl;
    named = refl;
    fresh =
        each_of_four two few_two (λ k node. name_of node ≢ Some (codes "a")) (λ e. cc)
        (λ e. omega (arith, letter 102 97 e)) (λ e. cc)
        (λ e. cc) (λ k le e. cc);
  };
  few = omega arith;
  place = λ e. cc;
  places = take_first two 1 (first_seat two 1 _ _ _ _ branch_seat refl refl);
}

-- the helper takes the second slot of the root
two_unused : (slot : ℕ) → priority_at (book_of (three.nodes 0)) slot ≢ Some 2
unfolding terms_at
two_unused zero has = cc
two_unused (suc slot) has = let none = rw (ne_eqb 0 (suc slot) (λ e. omega (arith, e))) at has in cc

second_least : (other : ℕ) → other < 1 → terms_at (book_of (three.nodes 0)) other ≢ None
unfolding terms_at
second_least zero lt none = cc
second_least (suc other) lt none = omega (arith, lt)

helper_sits : MaySit three [] helper_seat 0 1
unfolding terms_at
helper_sits = record {
  scheduler = the (three.nodes 0);
  there = refl;
  fits = fits_number (book_of (three.nodes 0)) 2 two_unused;
  room = λ full. full 1 (omega arith) refl;
  free = record { within = omega arith; free = refl; least = second_least };
  derived = later_nothing 2 All tt;
}

can_admit_helper : Can three admit_helper
can_admit_helper = record {
  new = record {
    unused = refl;
    named = refl;
    fresh =
        each_of_four three few_three (λ k node. name_of node ≢ Some (codes "b")) (λ e. cc)
        (λ e. omega (arith, letter 102 98 e)) (λ e. omega (arith, letter 97 98 e))
        (λ e. cc) (λ k le e. cc);
  };
  few = omega arith;
  place = λ e. cc;
  places = take_one three helper_seat
      (record { in_range = record { terms = omega arith; kept = tt }; free = helper_sits });
}

awake_all : IsAwake all_awake 0 0 All All
unfolding terms_at
awake_all = record {
  few = few_awake;
  rooted = refl;
  top = book_of (all_awake.nodes 0);
  low = book_of (all_awake.nodes 1);
  worker_stay = 0;
  helper_stay = 0;
  root_there = refl;
  branch_there = refl;
  worker_there = refl;
  helper_there = refl;
  branch_terms = refl;
  helper_terms = refl;
  top_free =
      λ slot le. rw (ne_eqb 0 slot (λ e. omega (arith, le, e)), ne_eqb 1 slot (λ e. omega (arith, le, e)))
      refl;
  worker_terms = refl;
  low_free = λ slot le. rw (ne_eqb 0 slot (λ e. omega (arith, le, e))) refl;
}

-- and after each command and tick from then on
abbrev first_tick : Hierarchy
first_tick = after all_awake worker_tick

abbrev pub second_tick : Hierarchy
second_tick = after first_tick worker_tick

abbrev pub third_tick : Hierarchy
third_tick = after second_tick worker_tick

abbrev fourth_tick : Hierarchy
fourth_tick = after third_tick worker_tick

abbrev worker_moved : Hierarchy
worker_moved = after fourth_tick move_worker

abbrev fifth_tick : Hierarchy
fifth_tick = after worker_moved worker_tick

abbrev branch_moved : Hierarchy
branch_moved = after fifth_tick move_branch

awake_first : IsAwake first_tick 0 0 All All
awake_first = awake_ran_worker all_awake 0 0 All All awake_all

pub awake_second : IsAwake second_tick 0 0 All All
awake_second = awake_ran_worker first_tick 0 0 All All awake_first

pub awake_third : IsAwake third_tick 0 0 All All
awake_third = awake_ran_worker second_tick 0 0 All All awake_second

awake_fourth : IsAwake fourth_tick 0 0 All All
awake_fourth = awake_ran_worker third_tick 0 0 All All awake_third

awake_worker_moved : IsAwake worker_moved 0 1 All Null
awake_worker_moved = awake_moved_worker fourth_tick awake_fourth

awake_fifth : IsAwake fifth_tick 0 1 All Null
awake_fifth = awake_ran_worker worker_moved 0 1 All Null awake_worker_moved

awake_branch_moved : IsAwake branch_moved 3 1 Null Null
awake_branch_moved = awake_moved_branch fifth_tick awake_fifth

-- so that each step may be taken
moves_on : IsLegal fourth_tick (move_worker ∷ worker_tick ∷ move_branch ∷ helper_tick ∷ [])
moves_on = (
  can_move_worker fourth_tick awake_fourth awake_worker_moved,
  (
    can_run_worker worker_moved 0 1 All Null awake_worker_moved (omega arith),
    (
      can_move_branch fifth_tick awake_fifth awake_branch_moved,
      (can_run_helper branch_moved 3 1 Null Null awake_branch_moved (omega arith), tt),
    ),
  ),
)

runs : (h : Hierarchy) → IsAwake h 0 0 All All → Can h worker_tick
runs h awake = can_run_worker h 0 0 All All awake (omega arith)

-- a refused command may always be given
all_run : IsLegal all_awake (worker_tick ∷ worker_tick ∷ Refuse ∷ worker_tick ∷ Refuse ∷ worker_tick
    ∷ move_worker ∷ worker_tick ∷ move_branch ∷ helper_tick ∷ [])
all_run = (
  runs all_awake awake_all,
  (
    runs first_tick awake_first,
    (tt, (runs second_tick awake_second, (tt, (runs third_tick awake_third, moves_on)))),
  ),
)

pub moves_legal : IsLegal start moves
moves_legal = (
  can_load_root,
  (
    can_load_branch,
    (
      can_admit_worker,
      (
        can_admit_helper,
        (record { thread = _; there = refl }, (record { thread = _; there = refl }, all_run)),
      ),
    ),
  ),
)
