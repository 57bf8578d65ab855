-- The run of two shares that come apart is legal.
use Rattle.std.proofs.Common.{◌≡◌, ◌≢◌, ℕ, zero, suc, ◌<◌, ◌≤◌, [], ◌∷◌, Some, None, true, false}
use Rattle.std.proofs.Common.{◌+◌, refl, sym, ◌∙◌, arith, inl, inr}
use Rattle.std.specs.Prelude.{codes}
use Rattle.std.proofs.lemmas.Bool.{cases_eq}
use Rattle.hls_chron.specs.declared.plain.Terms.TheVariants.{Weight}
use Rattle.hls_chron.specs.Ledger.{Ledger, now_of}
use Rattle.hls_chron.specs.Seats.{terms_at}
use Rattle.hls_kinds.specs.Asks.{slot_asks}
use Rattle.hls_kinds.specs.Discipline.{Serves}
use Rattle.hls_kinds.specs.Fits.{Fits}
use Rattle.hls_kinds.specs.Room.{room_used}
use Rattle.hls_kinds.specs.Slots.{sum_below}
use Rattle.hls_kinds.specs.Tags.{start_tag}
use Rattle.hls_guarantee.specs.declared.Guarantee.{Guarantee}
use Rattle.hls_guarantee.specs.declared.Guarantee.TheVariants.{All, Resc, Psbe}
use Rattle.hls_guarantee.specs.declared.rule.RuleName.TheVariants.{R6, R8}
use Rattle.hls_guarantee.specs.Limits.{IsValid}
use Rattle.hls_guarantee.proofs.Conversions.{converts-supplies}
use Rattle.hls_machine.specs.Ledgers.{empty_book}
use Rattle.hls_machine.specs.Derived.{Follows}
use Rattle.hls_machine.specs.Hierarchy.{Hierarchy, Thread, Wake, Asleep, Awake, start, name_of}
use Rattle.hls_machine.specs.Steps.{Rouse, after}
use Rattle.hls_machine.specs.Legal.{MaySit, IsAsking, Can, IsLegal, asks_now}
use Rattle.hls_test_runs.specs.Apart.{couple, sleeper_seat, starter_seat, load_couple, admit_sleeper, admit_starter}
use Rattle.hls_test_runs.specs.Apart.{starter_asks, couple_asks, slots, path_down, first_tick, sleeper_tick}
use Rattle.hls_test_runs.specs.Apart.{starter_tick, apart}
use Rattle.hls_test_runs.specs.Moves.{root_seat}
use Rattle.hls_test_runs.proofs.Small.{Few, few_after, each_of_three, beyond, take_one, the, bit_off}
use Rattle.hls_test_runs.proofs.Small.{SeatsAsk, seat_asks, root_asks_so, FreeSilent, all_silent}
use Rattle.hls_test_runs.proofs.Awake.{off_two}
use Rattle.hls_test_runs.proofs.Desk.{first_first, second_first, least_served, IsDesk, can_load_desk}
use Rattle.hls_test_runs.proofs.Desk.{desk_asking, desk_ticked, desk_runs}
use Rattle.hls_test_runs.proofs.Shared.{unit, whole, given_with, valid_given}
use Rattle.hls_test_runs.proofs.Couple.{single, double, once, twice, thrice, tags_once, tags_twice, tags_thrice}

-- the hierarchy as it is set up
abbrev one : Hierarchy
one = after start load_couple

abbrev two : Hierarchy
two = after one admit_sleeper

abbrev three : Hierarchy
three = after two admit_starter

abbrev roused : Hierarchy
roused = after three (Rouse 2 None)

few_one : Few 3 one
few_one = few_after 3 start load_couple (λ k le e. omega (arith, le, e)) (λ k le. refl)

few_two : Few 3 two
few_two = few_after 3 one admit_sleeper (λ k le e. omega (arith, le, e)) few_one

few_three : Few 3 three
few_three = few_after 3 two admit_starter (λ k le e. omega (arith, le, e)) few_two

few_roused : Few 3 roused
few_roused = few_after 3 three (Rouse 2 None) (λ k le made. made) few_three

-- half of all ticks, with an error of one
abbrev lent : Guarantee
lent = Psbe (unit 2 (omega arith)) (whole 1)

valid_lent : IsValid lent
unfolding whole unit
valid_lent = record {
  some = omega arith;
  fits = omega arith;
  rate = record { num = omega arith; den = omega arith };
  error = record { num = omega arith; den = omega arith };
}

half_follows : Follows couple (Weight 1) (All ∷ []) (Resc false 1 4)
unfolding whole unit
half_follows = record {
  port = 0;
  have = All;
  is_have = refl;
  offered = given_with 0;
  lent = lent;
  first = λ f a lo hi s. converts-supplies R8 All (given_with 0) f a lo hi
      (record { from = tt; to = valid_given 0 (omega arith); leads = tt }) s;
  through = record {
    from = valid_given 0 (omega arith);
    to = valid_lent;
    port_of = refl;
    lends = inl (record { others = 1; rest = 1; seats = refl; weights = refl; rate = refl; error = refl });
  };
  last = λ f a lo hi s. converts-supplies R6 lent (Resc false 1 4) f a lo hi (record {
    from = valid_lent;
    to = record { some = omega arith; fits = omega arith; size = omega arith };
    leads = omega arith;
  }) s;
}

-- the weights fit
weight_fits : (b : Ledger) (used : ℕ) → room_used couple b ≡ used → used + 1 ≤ 2 → Fits couple b (Weight 1)
weight_fits b used is le = record {
  of_kind = refl;
  within = λ exceeds. omega (arith, exceeds);
  apart = λ priority e has. cc;
  room = λ free asked lacks. omega (arith, is, le, lacks.left, lacks.asks, lacks.lacks);
}

none_used : room_used couple (empty_book 0 4 8) ≡ 0
unfolding sum_below terms_at
none_used = refl

one_used : room_used couple single ≡ 1
unfolding sum_below terms_at
one_used = refl

sleeper_sits : MaySit one [] sleeper_seat 0 0
unfolding terms_at
sleeper_sits = record {
  scheduler = the (one.nodes 0);
  there = refl;
  fits = weight_fits (empty_book 0 4 8) 0 none_used (omega arith);
  room = λ full. full 0 (omega arith) refl;
  free = record { within = omega arith; free = refl; least = λ other lt. absurd (omega (arith, lt)) };
  derived = half_follows;
}

can_admit_sleeper : Can one admit_sleeper
can_admit_sleeper = record {
  new = record {
    unused = refl;
    named = refl;
    fresh = each_of_three one few_one (λ k node. name_of node ≢ Some (codes "a")) (λ e. cc) (λ e. cc) (λ e. cc)
        (λ k le e. cc);
  };
  few = omega arith;
  place = λ e. cc;
  places = take_one one sleeper_seat
      (record {
        in_range = record {
          terms = (omega arith, omega arith);
          kept = record { some = omega arith; fits = omega arith; size = omega arith };
        };
        free = sleeper_sits;
      });
}

second_least : (other : ℕ) → other < 1 → terms_at single other ≢ None
unfolding terms_at
second_least zero lt none = cc
second_least (suc other) lt none = omega (arith, lt)

starter_sits : MaySit two [] starter_seat 0 1
unfolding terms_at
starter_sits = record {
  scheduler = the (two.nodes 0);
  there = refl;
  fits = weight_fits single 1 one_used (omega arith);
  room = λ full. full 1 (omega arith) refl;
  free = record { within = omega arith; free = refl; least = second_least };
  derived = half_follows;
}

letter : (n m : ℕ) → Some (n ∷ []) ≡ Some (m ∷ []) → n ≡ m
letter n m e = cc

can_admit_starter : Can two admit_starter
can_admit_starter = record {
  new = record {
    unused = refl;
    named = refl;
    fresh = each_of_three two few_two (λ k node. name_of node ≢ Some (codes "b")) (λ e. cc)
        (λ e. omega (arith, letter 97 98 e)) (λ e. cc) (λ k le e. cc);
  };
  few = omega arith;
  place = λ e. cc;
  places = take_one two starter_seat
      (record {
        in_range = record {
          terms = (omega arith, omega arith);
          kept = record { some = omega arith; fits = omega arith; size = omega arith };
        };
        free = starter_sits;
      });
}

abbrev sleeper_thread : Wake → Thread
sleeper_thread wake = record { name = codes "a"; seat = sleeper_seat; wake = wake; stay = 0 }

abbrev starter_thread : Thread
starter_thread = record { name = codes "b"; seat = starter_seat; wake = Awake; stay = 0 }

abbrev IsAt : Hierarchy → Ledger → Wake → Type 0
IsAt h b wake = IsDesk h couple b (Some (sleeper_thread wake)) (Some starter_thread)

at_roused : IsAt roused double Asleep
at_roused =
    record { few = few_roused; rooted = refl; root_there = refl; first_there = refl; second_there = refl }

-- the first tick, in which one thread sleeps
lone_silent : (slot : ℕ) → terms_at double slot ≡ None → slot_asks 2 slot ≡ false
unfolding terms_at
lone_silent slot none = elim (cases_eq slot 1) [
  | inl second ↦ absurd (let taken = rw second at none in cc)
  | inr other ↦ bit_off 1 slot other
]

below_root : (mask k : ℕ) → 1 ≤ k → slots mask k ≡ 0
below_root mask k le = rw (beyond k 0 (omega (arith, le))) refl

starter_asking : IsAsking roused starter_asks (slots 2)
starter_asking = record {
  nodes = each_of_three roused few_roused (λ k node. starter_asks k ≡ asks_now roused k (slots 2 k) node) refl refl refl
      (λ k le. rw (beyond k 0 (omega (arith, le)), beyond k 2 (omega (arith, le))) refl);
  seats = each_of_three roused few_roused (SeatsAsk starter_asks (slots 2))
      (root_asks_so starter_asks (slots 2) 0 root_seat refl)
      (seat_asks starter_asks (slots 2) 1 0 0 sleeper_seat refl refl)
      (seat_asks starter_asks (slots 2) 2 0 1 starter_seat refl refl) (λ k le port seat p slot e is. cc);
  free = each_of_three roused few_roused (FreeSilent (slots 2)) lone_silent
      (all_silent (slots 2) 1 (roused.nodes 1) refl) (all_silent (slots 2) 2 (roused.nodes 2) refl)
      (λ k le. all_silent (slots 2) k None (below_root 2 k (omega (arith, le))));
}

serves_alone : Serves couple double 2 1
serves_alone = least_served 2 2 double 2 1 (record {
  within = omega arith;
  chosen = refl;
  least = λ other lt on. let same = only other on in rw same (omega arith);
  first = λ other lt on tie. let same = only other on in omega (arith, same);
})
  where
    only : (other : ℕ) → slot_asks 2 other ≡ true → other ≡ 1
    only other on = elim (cases_eq other 1) [
      | inl same ↦ same
      | inr apart ↦ absurd (let off = bit_off 1 other apart in let clash : true ≡ false = sym on ∙ off in cc)
    ]

can_first : Can roused first_tick
can_first = desk_runs roused couple double (Some (sleeper_thread Asleep)) (Some starter_thread) at_roused starter_asks
    (slots 2) 1 2 starter_thread starter_asking refl serves_alone at_roused.second_there refl refl

-- the ticks in which both ask
module _ (h : Hierarchy) (b : Ledger) (at : IsAt h b Awake) (one : terms_at b 0 ≢ None) (two : terms_at b 1 ≢ None)
  where
    silent : (slot : ℕ) → terms_at b slot ≡ None → slot_asks 3 slot ≡ false
    silent zero none = absurd (one none)
    silent (suc zero) none = absurd (two none)
    silent (suc (suc slot)) none = off_two slot

    both_asking : IsAsking h couple_asks (slots 3)
    both_asking = desk_asking h couple b (Some (sleeper_thread Awake)) (Some starter_thread) at couple_asks (slots 3)
        refl (refl, refl, refl, refl) (refl, refl, refl, refl)
        (λ k le. rw (beyond k 0 (omega (arith, le)), beyond k 1 (omega (arith, le)), beyond k 2 (omega (arith, le)))
        refl)
        (below_root 3) silent

    can_serve_sleeper : Serves couple b 3 0 → Can h sleeper_tick
    can_serve_sleeper serves = desk_runs h couple b (Some (sleeper_thread Awake)) (Some starter_thread) at couple_asks
        (slots 3) 0 1 (sleeper_thread Awake) both_asking refl serves at.first_there refl refl

    can_serve_starter : Serves couple b 3 1 → Can h starter_tick
    can_serve_starter serves = desk_runs h couple b (Some (sleeper_thread Awake)) (Some starter_thread) at couple_asks
        (slots 3) 1 2 starter_thread both_asking refl serves at.second_there refl refl

abbrev h1 : Hierarchy
h1 = after roused first_tick

abbrev h2 : Hierarchy
h2 = after h1 (Rouse 1 None)

abbrev h3 : Hierarchy
h3 = after h2 sleeper_tick

abbrev h4 : Hierarchy
h4 = after h3 sleeper_tick

at_h1 : IsAt h1 once Asleep
at_h1 = desk_ticked roused couple double (Some (sleeper_thread Asleep)) (Some starter_thread) at_roused starter_asks
    (slots 2) (Some (path_down 1 2))

at_h2 : IsAt h2 once Awake
at_h2 = record {
  few = few_after 3 h1 (Rouse 1 None) (λ k le made. made) at_h1.few;
  rooted = refl;
  root_there = refl;
  first_there = refl;
  second_there = refl;
}

at_h3 : IsAt h3 twice Awake
at_h3 = desk_ticked h2 couple once (Some (sleeper_thread Awake)) (Some starter_thread) at_h2 couple_asks (slots 3)
    (Some (path_down 0 1))

at_h4 : IsAt h4 thrice Awake
at_h4 = desk_ticked h3 couple twice (Some (sleeper_thread Awake)) (Some starter_thread) at_h3 couple_asks (slots 3)
    (Some (path_down 0 1))

serves_once : Serves couple once 3 0
serves_once =
    least_served 2 2 once 3 0 (first_first (start_tag 1 once (now_of once))
    (omega (arith, tags_once.first, tags_once.second)))

serves_twice : Serves couple twice 3 0
serves_twice =
    least_served 2 2 twice 3 0 (first_first (start_tag 1 twice (now_of twice))
    (omega (arith, tags_twice.first, tags_twice.second)))

serves_thrice : Serves couple thrice 3 1
serves_thrice =
    least_served 2 2 thrice 3 1 (second_first (start_tag 1 thrice (now_of thrice))
    (omega (arith, tags_thrice.first, tags_thrice.second)))

ticks_legal : IsLegal h2 (sleeper_tick ∷ sleeper_tick ∷ starter_tick ∷ [])
unfolding terms_at
ticks_legal = (
  can_serve_sleeper h2 once at_h2 (λ e. cc) (λ e. cc) serves_once,
  (
    can_serve_sleeper h3 twice at_h3 (λ e. cc) (λ e. cc) serves_twice,
    (can_serve_starter h4 thrice at_h4 (λ e. cc) (λ e. cc) serves_thrice, tt),
  ),
)

pub apart_legal : IsLegal start apart
apart_legal = (
  can_load_desk couple 4 8 (λ e. cc)
      ((omega arith, omega arith), (omega arith, omega arith), (omega arith, omega arith)) refl,
  (
    can_admit_sleeper,
    (
      can_admit_starter,
      (
        record { thread = _; there = refl },
        (can_first, (record { thread = _; there = refl }, ticks_legal)),
      ),
    ),
  ),
)
