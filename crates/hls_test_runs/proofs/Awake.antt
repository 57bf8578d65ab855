-- What stands in the ticks of the run of moves, when all are awake, and how its ticks elapse.
use Rattle.std.proofs.Common.{◌≡◌, ◌≢◌, ℕ, zero, suc, ◌≤◌, [], ◌∷◌, Option, Some, None}
use Rattle.std.proofs.Common.{false, refl, sym, ap, ◌∙◌, arith}
use Rattle.std.specs.Prelude.{codes}
use Rattle.std.proofs.lemmas.Nat.Bits.{bit_at-zero, bit_at-suc}
use Rattle.hls_chron.specs.declared.plain.Config.TheVariants as configs
use Rattle.hls_chron.specs.declared.plain.Terms.{Terms}
use Rattle.hls_chron.specs.declared.plain.Terms.TheVariants.{Prio}
use Rattle.hls_chron.specs.Ledger.{Ledger, with_row}
use Rattle.hls_chron.specs.Seats.{SlotAsks, terms_at, priority_in, priority_at}
use Rattle.hls_chron.proofs.BookLaws.{terms_at-row}
use Rattle.hls_kinds.specs.Asks.{slot_asks}
use Rattle.hls_kinds.specs.Discipline.{HasLeastPriority}
use Rattle.hls_guarantee.specs.declared.Guarantee.{Guarantee}
use Rattle.hls_machine.specs.Hierarchy.{Hierarchy, Loaded, Admitted, Awake, At, Seat}
use Rattle.hls_machine.specs.Steps.{Path, after, elapsed, row_by, hop_at, hops_of, ticked}
use Rattle.hls_machine.specs.Legal.{IsShallow, IsAsking, Can, asks_now}
use Rattle.hls_test_runs.specs.Moves.{root, branch, worker, root_seat, helper_seat, all_ask, taken_slots}
use Rattle.hls_test_runs.specs.Moves.{branch_hop, worker_hop, worker_tick, helper_tick}
use Rattle.hls_test_runs.proofs.Small.{Few, each_of_four, beyond, LowSeats, low_seat}
use Rattle.hls_test_runs.proofs.Small.{no_low, thread_low, flat, SeatsAsk, seat_asks, root_asks_so, FreeSilent}
use Rattle.hls_test_runs.proofs.Small.{one_silent, all_silent, lone_least}

-- the seats of branch and worker, which keep their places
abbrev pub branch_on : (priority : ℕ) → Guarantee → Seat
branch_on priority kept = record { place = At root 0; terms = Prio priority; kept = kept }

abbrev pub worker_on : (priority : ℕ) → Guarantee → Seat
worker_on priority kept = record { place = At branch 0; terms = Prio priority; kept = kept }

-- all are awake in their seats, as the books have them
pub record IsAwake (h : Hierarchy) (first second : ℕ) (kept have : Guarantee) : Type 0 where
  pub few : Few 4 h
  pub rooted : h.root ≡ Some root
  pub top : Ledger
  pub low : Ledger
  pub worker_stay : ℕ
  pub helper_stay : ℕ
  pub root_there : h.nodes 0 ≡ Some
      (Loaded (record { name = codes "root"; config = configs.Fp; book = top; ports = root_seat ∷ [] }))
  pub branch_there : h.nodes 1 ≡ Some (Loaded (record
      { name = codes "f"; config = configs.Fp; book = low; ports = branch_on first kept ∷ [] }))
  pub worker_there : h.nodes 2 ≡ Some
      (Admitted (record { name = codes "a"; seat = worker_on second have; wake = Awake; stay = worker_stay }))
  pub helper_there : h.nodes 3 ≡ Some
      (Admitted (record { name = codes "b"; seat = helper_seat; wake = Awake; stay = helper_stay }))
  pub branch_terms : terms_at top 0 ≡ Some (Prio first)
  pub helper_terms : terms_at top 1 ≡ Some (Prio 2)
  pub top_free : (slot : ℕ) → 2 ≤ slot → terms_at top slot ≡ None
  pub worker_terms : terms_at low 0 ≡ Some (Prio second)
  pub low_free : (slot : ℕ) → 1 ≤ slot → terms_at low slot ≡ None

-- the levels
pub awake_flat : (h : Hierarchy) (first second : ℕ) (kept have : Guarantee) → IsAwake h first second kept have
    → IsShallow h
awake_flat h first second kept have awake = flat h
    (each_of_four h awake.few LowSeats (rw awake.root_there (low_seat 0 _ root_seat refl (omega arith)))
    (rw awake.branch_there (low_seat 1 _ (branch_on first kept) refl (omega arith, omega arith)))
    (rw awake.worker_there (thread_low 2 _)) (rw awake.helper_there (thread_low 3 _)) (λ k le. no_low k))

taken : (b : Ledger) (slot : ℕ) (terms : Terms) → terms_at b slot ≡ Some terms → terms_at b slot ≢ None
taken b slot terms has none = let no = sym has ∙ none in cc

-- two slots
pub off_two : (slot : ℕ) → slot_asks 3 (suc (suc slot)) ≡ false
off_two slot = let a = bit_at-suc 3 (suc slot) in let b = bit_at-suc 1 slot in let c = bit_at-zero slot in
    rw (a, b, c) refl

pub two_silent : (masks : ℕ → ℕ) (p : ℕ) (b : Ledger) → masks p ≡ 3 → terms_at b 0 ≢ None → terms_at b 1 ≢ None
    → (slot : ℕ) → terms_at b slot ≡ None → slot_asks (masks p) slot ≡ false
two_silent masks p b is first second zero none = absurd (first none)
two_silent masks p b is first second (suc zero) none = absurd (second none)
two_silent masks p b is first second (suc (suc slot)) none = rw is (off_two slot)

least_of_two : (b : Ledger) (least one two : ℕ) → priority_at b 0 ≡ Some one → priority_at b 1 ≡ Some two
    → least ≤ one → least ≤ two → (other rival : ℕ) → SlotAsks 3 other → priority_at b other ≡ Some rival
    → least ≤ rival
least_of_two b least one two first second le less zero rival asks theirs =
    let same : Some one ≡ Some rival = sym first ∙ theirs in let number : one ≡ rival = cc in
    omega (arith, le, number)
least_of_two b least one two first second le less (suc zero) rival asks theirs =
    let same : Some two ≡ Some rival = sym second ∙ theirs in let number : two ≡ rival = cc in
    omega (arith, less, number)
least_of_two b least one two first second le less (suc (suc other)) rival asks theirs =
    let a = bit_at-suc 3 (suc other) in let b = bit_at-suc 1 other in let c = bit_at-zero other in
    absurd (omega (arith, a, b, c, asks))

pub first_least : (b : Ledger) (one two : ℕ) → priority_at b 0 ≡ Some one → priority_at b 1 ≡ Some two
    → one ≤ two → HasLeastPriority b 3 0
first_least b one two first second le = record {
  asks = refl;
  seated = λ none. let no : Some one ≡ None = sym first ∙ none in cc;
  least = λ other priority rival asks mine theirs. let same : Some one ≡ Some priority = sym first
      ∙ mine in let number : one ≡ priority = cc in
      let le_rival = least_of_two b one one two first second (omega arith) le other rival asks theirs in
      omega (arith, number, le_rival);
}

pub second_least : (b : Ledger) (one two : ℕ) → priority_at b 0 ≡ Some one → priority_at b 1 ≡ Some two
    → two ≤ one → HasLeastPriority b 3 1
second_least b one two first second le = record {
  asks = refl;
  seated = λ none. let no : Some two ≡ None = sym second ∙ none in cc;
  least = λ other priority rival asks mine theirs. let same : Some two ≡ Some priority = sym second
      ∙ mine in let number : two ≡ priority = cc in
      let le_rival = least_of_two b two one two first second le (omega arith) other rival asks theirs in
      omega (arith, number, le_rival);
}

-- a tick
pub awake_asking : (h : Hierarchy) (first second : ℕ) (kept have : Guarantee)
    → IsAwake h first second kept have → IsAsking h all_ask taken_slots
awake_asking h first second kept have awake = record {
  nodes = each_of_four h awake.few (λ k node. all_ask k ≡ asks_now h k (taken_slots k) node)
      (rw awake.root_there refl) (rw awake.branch_there refl) (rw awake.worker_there refl)
      (rw awake.helper_there refl)
      (λ k le. rw (
        beyond k 0 (omega (arith, le)),
        beyond k 1 (omega (arith, le)),
        beyond k 2 (omega (arith, le)),
        beyond k 3 (omega (arith, le)),
      ) refl);
  seats = each_of_four h awake.few (SeatsAsk all_ask taken_slots)
      (rw awake.root_there (root_asks_so all_ask taken_slots 0 root_seat refl))
      (rw awake.branch_there (seat_asks all_ask taken_slots 1 0 0 (branch_on first kept) refl refl))
      (rw awake.worker_there (seat_asks all_ask taken_slots 2 1 0 (worker_on second have) refl refl))
      (rw awake.helper_there (seat_asks all_ask taken_slots 3 0 1 helper_seat refl refl))
      (λ k le port seat p slot e is. cc);
  free = each_of_four h awake.few (FreeSilent taken_slots)
      (rw awake.root_there (two_silent taken_slots 0 awake.top refl
      (taken awake.top 0 (Prio first) awake.branch_terms)
      (taken awake.top 1 (Prio 2) awake.helper_terms)))
      (rw awake.branch_there (one_silent taken_slots 1 0 (Some (Loaded (record
      { name = codes "f"; config = configs.Fp; book = awake.low; ports = branch_on first kept ∷ [] }))) refl
      (taken awake.low 0 (Prio second) awake.worker_terms)))
      (all_silent taken_slots 2 (h.nodes 2) refl) (all_silent taken_slots 3 (h.nodes 3) refl)
      (λ k le. all_silent taken_slots k None
      (rw (beyond k 0 (omega (arith, le)), beyond k 1 (omega (arith, le))) refl));
}

awake_elapsed : (h : Hierarchy) (first second : ℕ) (kept have : Guarantee) (path : Option Path)
    → IsAwake h first second kept have → IsAwake (elapsed h all_ask taken_slots path) first second kept have
awake_elapsed h first second kept have path awake =
    let top_row = row_by 3 (hop_at (hops_of path) 0) in
    let low_row = row_by 1 (hop_at (hops_of path) 1) in
    record {
      few = λ k le. ap (ticked (taken_slots k) (hop_at (hops_of path) k)) (awake.few k le);
      rooted = awake.rooted;
      top = with_row awake.top top_row;
      low = with_row awake.low low_row;
      worker_stay = awake.worker_stay;
      helper_stay = awake.helper_stay;
      root_there = ap (ticked 3 (hop_at (hops_of path) 0)) awake.root_there;
      branch_there = ap (ticked 1 (hop_at (hops_of path) 1)) awake.branch_there;
      worker_there = ap (ticked 0 (hop_at (hops_of path) 2)) awake.worker_there;
      helper_there = ap (ticked 0 (hop_at (hops_of path) 3)) awake.helper_there;
      branch_terms = terms_at-row awake.top top_row 0 ∙ awake.branch_terms;
      helper_terms = terms_at-row awake.top top_row 1 ∙ awake.helper_terms;
      top_free = λ slot le. terms_at-row awake.top top_row slot ∙ awake.top_free slot le;
      worker_terms = terms_at-row awake.low low_row 0 ∙ awake.worker_terms;
      low_free = λ slot le. terms_at-row awake.low low_row slot ∙ awake.low_free slot le;
    }

pub awake_ran_worker : (h : Hierarchy) (first second : ℕ) (kept have : Guarantee)
    → IsAwake h first second kept have → IsAwake (after h worker_tick) first second kept have
awake_ran_worker h first second kept have awake = awake_elapsed h first second kept have
    (Some (record { hops = branch_hop ∷ worker_hop ∷ []; thread = worker })) awake

-- the worker runs where the branch is before the helper, and else the helper
pub can_run_worker : (h : Hierarchy) (first second : ℕ) (kept have : Guarantee)
    → IsAwake h first second kept have → first ≤ 2 → Can h worker_tick
can_run_worker h first second kept have awake le = (
  awake_asking h first second kept have awake,
  (
    rw awake.rooted refl,
    (
      record {
        scheduler = _;
        seat = root_seat;
        there = awake.root_there;
        port = refl;
        at_place = refl;
        serves =
            first_least awake.top first 2 (ap priority_in awake.branch_terms)
            (ap priority_in awake.helper_terms) le;
      },
      (
        record {
          scheduler = _;
          seat = branch_on first kept;
          there = awake.branch_there;
          port = refl;
          at_place = refl;
          serves =
              lone_least awake.low 0
              (λ none. let no = sym (ap priority_in awake.worker_terms) ∙ none in cc);
        },
        record { thread = _; there = awake.worker_there; at_place = refl; ready = refl },
      ),
    ),
  ),
)

pub can_run_helper : (h : Hierarchy) (first second : ℕ) (kept have : Guarantee)
    → IsAwake h first second kept have → 2 ≤ first → Can h helper_tick
can_run_helper h first second kept have awake le = (
  awake_asking h first second kept have awake,
  (
    rw awake.rooted refl,
    (
      record {
        scheduler = _;
        seat = root_seat;
        there = awake.root_there;
        port = refl;
        at_place = refl;
        serves =
            second_least awake.top first 2 (ap priority_in awake.branch_terms)
            (ap priority_in awake.helper_terms) le;
      },
      record { thread = _; there = awake.helper_there; at_place = refl; ready = refl },
    ),
  ),
)
