-- The two moves of the run of moves: that they may be taken, and what they leave.
use Rattle.std.proofs.Common.{◌≡◌, ◌≢◌, ◌⊎◌, ℕ, zero, suc, inl, inr, ◌≤◌, List, [], ◌∷◌, Option, Some, None}
use Rattle.std.proofs.Common.{◌==◌, ◌||◌, slice_get, refl, sym, ap, ◌∙◌, subst, arith}
use Rattle.std.proofs.lemmas.Bool.{cases_eq, ne_eqb, eqb-true}
use Rattle.hls_chron.specs.declared.plain.Config.TheVariants as configs
use Rattle.hls_chron.specs.declared.plain.Terms.TheVariants.{Prio}
use Rattle.hls_chron.specs.declared.book.Event.{Event}
use Rattle.hls_chron.specs.declared.book.Event.TheVariants as events
use Rattle.hls_chron.specs.Ledger.{Ledger, with_mark}
use Rattle.hls_chron.specs.Seats.{terms_at, priority_in, priority_at}
use Rattle.hls_chron.proofs.BookLaws.{terms_at-mark}
use Rattle.hls_kinds.specs.Room.{IsFree}
use Rattle.hls_guarantee.specs.declared.Guarantee.{Guarantee}
use Rattle.hls_guarantee.specs.declared.Guarantee.TheVariants.{All, Null}
use Rattle.hls_machine.specs.Ledgers.{with_marks}
use Rattle.hls_machine.specs.Derived.{Follows}
use Rattle.hls_machine.specs.Hierarchy.{Hierarchy, Node, At, Seat, seat_of, seats_of, haves_of, config_of}
use Rattle.hls_machine.specs.Steps.{after, reseated}
use Rattle.hls_machine.specs.Legal.{IsBelow, MayMoveTo, MayTake, Can}
use Rattle.hls_test_runs.specs.Moves.{root_seat, helper_seat, later_worker_seat, later_branch_seat, move_worker}
use Rattle.hls_test_runs.specs.Moves.{move_branch}
use Rattle.hls_machine.proofs.Seatings.{lone_port}
use Rattle.hls_machine.proofs.Marks.{terms_at-marks}
use Rattle.hls_test_runs.proofs.Small.{few_after, each_of_four, placed, same_slot, later_nothing, fits_number}
use Rattle.hls_test_runs.proofs.Awake.{IsAwake, awake_flat, branch_on, worker_on}

-- who sits on whom
abbrev Sits : (c p : ℕ) → Type 0
Sits c p = ((c ≡ 1) × (p ≡ 0)) ⊎ (((c ≡ 2) × (p ≡ 1)) ⊎ ((c ≡ 3) × (p ≡ 0)))

abbrev SitsAs : (c : ℕ) → Option Node → Type 0
SitsAs c node = (port : ℕ) (seat : Seat) (p slot : ℕ) → seat_of node port ≡ Some seat
    → seat.place ≡ At p slot → Sits c p

on_node : (own : Seat) (q at port : ℕ) (seat : Seat) (p slot : ℕ) → own.place ≡ At q at
    → slice_get (own ∷ []) port ≡ Some seat → seat.place ≡ At p slot → p ≡ q
on_node own q at port seat p slot there e is =
    (same_slot q at p slot (sym there ∙ placed own seat port p slot e is)).node

sits : (h : Hierarchy) (first second : ℕ) (kept have : Guarantee) → IsAwake h first second kept have
    → (c : ℕ) → SitsAs c (h.nodes c)
sits h first second kept have awake = each_of_four h awake.few SitsAs
    (rw awake.root_there
    (λ port seat p slot e is. let no_slot = placed root_seat seat port p slot e is in absurd (cc)))
    (rw awake.branch_there
    (λ port seat p slot e is. inl (refl, on_node (branch_on first kept) 0 0 port seat p slot refl e is)))
    (rw awake.worker_there
    (λ port seat p slot e is. inr (inl
    (refl, on_node (worker_on second have) 1 0 port seat p slot refl e is))))
    (rw awake.helper_there
    (λ port seat p slot e is. inr (inr (refl, on_node helper_seat 0 1 port seat p slot refl e is))))
    (λ k le port seat p slot e is. cc)

-- the terms at a slot of a book after a seat was left and taken anew there
abbrev anew : (priority : ℕ) → List Event
anew priority = events.Leave 0 ∷ events.Seat 0 (Prio priority) ∷ []

anew_here : (b : Ledger) (priority : ℕ) → terms_at (with_marks b (anew priority)) 0 ≡ Some (Prio priority)
anew_here b priority = terms_at-marks b 0 (anew priority)

anew_there : (b : Ledger) (priority slot : ℕ) → 1 ≤ slot
    → terms_at (with_marks b (anew priority)) slot ≡ terms_at b slot
anew_there b priority slot le =
    terms_at-marks b slot (anew priority) ∙ (rw (ne_eqb 0 slot (λ e. omega (arith, le, e))) refl)

left_free : (b : Ledger) → IsFree configs.Fp (with_marks b (events.Leave 0 ∷ [])) 0
left_free b = record {
  within = omega arith;
  free = terms_at-marks b 0 (events.Leave 0 ∷ []);
  least = λ other lt. absurd (omega (arith, lt));
}

-- the worker moves to a later seat
below_worker : (h : Hierarchy) → IsAwake h 0 0 All All → IsBelow h 2 (λ k. k == 2)
below_worker h awake = record {
  itself = refl;
  down = λ c p on is. absurd
      (elim (sits h 0 0 All All awake c on.port on.seat p on.slot on.sits on.at_place) [
        | inl one ↦ omega (arith, one.1, eqb-true p 2 is)
        | inr (inl two) ↦ omega (arith, two.1, eqb-true p 2 is)
        | inr (inr three) ↦ omega (arith, three.1, eqb-true p 2 is)
      ]);
  up = λ c is. inl (eqb-true c 2 is);
}

numberless : (found : Option ℕ) (n : ℕ) → found ≡ None → found ≢ Some n
numberless found n none some = cc

other_number : (found : Option ℕ) (n m : ℕ) → found ≡ Some n → found ≡ Some m → n ≢ m → ⊥
other_number found n m one two ne = ne (cc)

one_unused : (b : Ledger) → terms_at b 0 ≡ Some (Prio 0) → ((slot : ℕ) → 1 ≤ slot → terms_at b slot ≡ None)
    → (slot : ℕ) → priority_at b slot ≢ Some 1
one_unused b first free zero has = other_number _ 0 1 (ap priority_in first) has (λ e. omega (arith, e))
one_unused b first free (suc slot) has =
    numberless _ 1 (ap priority_in (free (suc slot) (omega arith))) has

pub can_move_worker : (h : Hierarchy) → IsAwake h 0 0 All All → IsAwake (after h move_worker) 0 1 All Null
    → Can h move_worker
can_move_worker h awake next = (
  record {
    sort = subst (MayMoveTo later_worker_seat.place) (sym awake.worker_there) (λ e. cc);
    under = below_worker h awake;
    take = subst (λ node. MayTake h (seats_of node) later_worker_seat) (sym awake.worker_there)
        (record {
          in_range = record { terms = omega arith; kept = tt };
          free = record {
            scheduler = _;
            there = awake.branch_there;
            fits = fits_number awake.low 1 (one_unused awake.low awake.worker_terms awake.low_free);
            room = λ full. full 1 (omega arith) (awake.low_free 1 (omega arith));
            free = left_free awake.low;
            derived = rw awake.branch_there (later_nothing 1 All tt);
          };
        });
    acyclic = refl;
    rederived = λ c port on_it slot e is. absurd (elim (sits h 0 0 All All awake c port on_it 2 slot e is) [
      | inl one ↦ omega (arith, one.1)
      | inr (inl two) ↦ omega (arith, two.1)
      | inr (inr three) ↦ omega (arith, three.1)
    ]);
  },
  awake_flat (after h move_worker) 0 1 All Null next,
)

pub awake_moved_worker : (h : Hierarchy) → IsAwake h 0 0 All All → IsAwake (after h move_worker) 0 1 All Null
awake_moved_worker h awake = record {
  few = few_after 4 h move_worker (λ k le made. made) awake.few;
  rooted = rw awake.worker_there awake.rooted;
  top = awake.top;
  low = with_marks awake.low (anew 1);
  worker_stay = h.now;
  helper_stay = awake.helper_stay;
  root_there = rw (awake.worker_there, awake.root_there) refl;
  branch_there = rw (awake.worker_there, awake.branch_there) refl;
  worker_there = rw awake.worker_there refl;
  helper_there = rw (awake.worker_there, awake.helper_there) refl;
  branch_terms = awake.branch_terms;
  helper_terms = awake.helper_terms;
  top_free = awake.top_free;
  worker_terms = anew_here awake.low 1;
  low_free = λ slot le. anew_there awake.low 1 slot le ∙ awake.low_free slot le;
}

-- the branch moves behind the helper
below_branch : (h : Hierarchy) → IsAwake h 0 1 All Null → IsBelow h 1 (λ k. k == 1 || k == 2)
below_branch h awake = record {
  itself = refl;
  down = λ c p on is. elim (sits h 0 1 All Null awake c on.port on.seat p on.slot on.sits on.at_place) [
    | inl one ↦ absurd (let no = rw one.1 at is in cc)
    | inr (inl two) ↦ rw two.0 refl
    | inr (inr three) ↦ absurd (let no = rw three.1 at is in cc)
  ];
  up = λ c is. elim (cases_eq c 1) [
    | inl e ↦ inl e
    | inr ne ↦ inr (
      1,
      record {
        port = 0;
        seat = worker_on 1 Null;
        slot = 0;
        sits = rw (eqb-true c 2 (rw (ne_eqb c 1 ne) at is), awake.worker_there) refl;
        at_place = refl;
      },
      refl,
    )
  ];
}

three_unused : (b : Ledger) → terms_at b 0 ≡ Some (Prio 0) → terms_at b 1 ≡ Some (Prio 2)
    → ((slot : ℕ) → 2 ≤ slot → terms_at b slot ≡ None) → (slot : ℕ) → priority_at b slot ≢ Some 3
three_unused b first second free zero has =
    other_number _ 0 3 (ap priority_in first) has (λ e. omega (arith, e))
three_unused b first second free (suc zero) has =
    other_number _ 2 3 (ap priority_in second) has (λ e. omega (arith, e))
three_unused b first second free (suc (suc slot)) has =
    numberless _ 3 (ap priority_in (free (suc (suc slot)) (omega arith))) has

pub may_take_behind : (h : Hierarchy) (second : ℕ) (have : Guarantee) → IsAwake h 0 second All have
    → MayTake h (branch_on 0 All ∷ []) later_branch_seat
may_take_behind h second have awake = record {
  in_range = record { terms = omega arith; kept = tt };
  free = record {
    scheduler = _;
    there = awake.root_there;
    fits = fits_number awake.top 3
        (three_unused awake.top awake.branch_terms awake.helper_terms awake.top_free);
    room = λ full. full 2 (omega arith) (awake.top_free 2 (omega arith));
    free = left_free awake.top;
    derived = rw awake.root_there (later_nothing 3 All tt);
  };
}

abbrev Rederived : (c : ℕ) → Option Node → Type 0
Rederived c node = (port : ℕ) (on_it : Seat) (slot : ℕ) → seat_of node port ≡ Some on_it
    → on_it.place ≡ At 1 slot → Follows configs.Fp on_it.terms (Null ∷ []) on_it.kept

not_on_branch : (own : Seat) (q at : ℕ) → own.place ≡ At q at → q ≢ 1 → (port : ℕ) (on_it : Seat) (slot : ℕ)
    → slice_get (own ∷ []) port ≡ Some on_it → on_it.place ≡ At 1 slot
    → Follows configs.Fp on_it.terms (Null ∷ []) on_it.kept
not_on_branch own q at there ne port on_it slot e is =
    absurd (ne (sym (on_node own q at port on_it 1 slot there e is)))

rederived : (h : Hierarchy) → IsAwake h 0 1 All Null → (c : ℕ) → Rederived c (h.nodes c)
rederived h awake = each_of_four h awake.few Rederived
    (rw awake.root_there
    (λ port on_it slot e is. let no_slot = placed root_seat on_it port 1 slot e is in absurd (cc)))
    (rw awake.branch_there (not_on_branch (branch_on 0 All) 0 0 refl (λ e. omega (arith, e))))
    (rw awake.worker_there
    (λ port on_it slot e is. subst (λ (s : Seat). Follows configs.Fp s.terms (Null ∷ []) s.kept)
    (lone_port (worker_on 1 Null) on_it port e).same (later_nothing 1 Null tt)))
    (rw awake.helper_there (not_on_branch helper_seat 0 1 refl (λ e. omega (arith, e))))
    (λ k le port on_it slot e is. cc)

pub can_move_branch : (h : Hierarchy) → IsAwake h 0 1 All Null → IsAwake (after h move_branch) 3 1 Null Null
    → Can h move_branch
can_move_branch h awake next = (
  record {
    sort = subst (MayMoveTo later_branch_seat.place) (sym awake.branch_there) (λ e. cc);
    under = below_branch h awake;
    take = subst (λ node. MayTake h (seats_of node) later_branch_seat) (sym awake.branch_there)
        (may_take_behind h 1 Null awake);
    acyclic = refl;
    rederived = λ c port on_it slot e is. subst
        (λ node. Follows (config_of node) on_it.terms (haves_of (reseated later_branch_seat node)) on_it.kept)
        (sym awake.branch_there) (rederived h awake c port on_it slot e is);
  },
  awake_flat (after h move_branch) 3 1 Null Null next,
)

pub awake_moved_branch : (h : Hierarchy) → IsAwake h 0 1 All Null
    → IsAwake (after h move_branch) 3 1 Null Null
awake_moved_branch h awake = record {
  few = few_after 4 h move_branch (λ k le made. made) awake.few;
  rooted = rw awake.branch_there awake.rooted;
  top = with_marks awake.top (anew 3);
  low = with_mark awake.low events.Settle;
  worker_stay = h.now;
  helper_stay = awake.helper_stay;
  root_there = rw (awake.branch_there, awake.root_there) refl;
  branch_there = rw awake.branch_there refl;
  worker_there = rw (awake.branch_there, awake.worker_there) refl;
  helper_there = rw (awake.branch_there, awake.helper_there) refl;
  branch_terms = anew_here awake.top 3;
  helper_terms = anew_there awake.top 3 1 (omega arith) ∙ awake.helper_terms;
  top_free = λ slot le. anew_there awake.top 3 slot (omega (arith, le)) ∙ awake.top_free slot le;
  worker_terms = terms_at-mark awake.low events.Settle 0 ∙ awake.worker_terms;
  low_free = λ slot le. terms_at-mark awake.low events.Settle slot ∙ awake.low_free slot le;
}
