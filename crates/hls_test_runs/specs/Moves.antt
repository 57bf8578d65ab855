-- A run of six ticks over two levels, with two moves. At the processor is the root. On it sit the branch f
-- with the worker a, and behind the branch the helper b. The worker moves to a later seat on the branch,
-- and then the branch, with the worker on it, moves behind the helper, which runs from then on.
use Rattle.std.specs.Prelude.{ℕ, ◌==◌, ◌||◌, List, [], ◌∷◌, Option, Some, None, Bool, if◌then◌else◌, codes}
use Rattle.std.specs.Prelude.{take}
use Rattle.hls_chron.specs.declared.plain.Config.TheVariants.{Fp}
use Rattle.hls_chron.specs.declared.plain.Terms.TheVariants.{Cpu, Prio}
use Rattle.hls_guarantee.specs.declared.Guarantee.{Guarantee}
use Rattle.hls_guarantee.specs.declared.Guarantee.TheVariants.{All, Null}
use Rattle.hls_machine.specs.Hierarchy.{Processor, At, Seat, Stay}
use Rattle.hls_machine.specs.Steps.{Step, Refuse, Load, Admit, Move, Rouse, Elapse, Hop}

abbrev pub root : ℕ
root = 0

abbrev pub branch : ℕ
branch = 1

abbrev pub worker : ℕ
worker = 2

abbrev pub helper : ℕ
helper = 3

abbrev pub root_seat : Seat
root_seat = record { place = Processor; terms = Cpu; kept = All }

abbrev pub branch_seat : Seat
branch_seat = record { place = At root 0; terms = Prio 0; kept = All }

abbrev pub worker_seat : Seat
worker_seat = record { place = At branch 0; terms = Prio 0; kept = All }

abbrev pub helper_seat : Seat
helper_seat = record { place = At root 1; terms = Prio 2; kept = Null }

-- each mover takes the slot that it leaves, on other terms
abbrev pub later_worker_seat : Seat
later_worker_seat = record { place = At branch 0; terms = Prio 1; kept = Null }

abbrev pub behind_helper : (slot : ℕ) → Guarantee → Seat
behind_helper slot kept = record { place = At root slot; terms = Prio 3; kept = kept }

abbrev pub later_branch_seat : Seat
later_branch_seat = behind_helper 0 Null

abbrev pub load_root : Step
load_root = Load root (codes "root") Fp 6 8 (root_seat ∷ [])

abbrev pub load_branch : Step
load_branch = Load branch (codes "f") Fp 6 8 (branch_seat ∷ [])

abbrev pub admit_worker : Step
admit_worker = Admit worker (codes "a") worker_seat

abbrev pub admit_helper : Step
admit_helper = Admit helper (codes "b") helper_seat

abbrev pub move_worker : Step
move_worker = Move worker later_worker_seat (λ k. k == worker)

abbrev pub move_branch : Step
move_branch = Move branch later_branch_seat (λ k. k == branch || k == worker)

-- in each tick all ask, through both slots of the root and the one of the branch
abbrev pub all_ask : ℕ → Bool
all_ask k = k == root || (k == branch || (k == worker || k == helper))

abbrev pub taken_slots : ℕ → ℕ
taken_slots k = if k == root then 3 else if k == branch then 1 else 0

abbrev pub branch_hop : Hop
branch_hop = record { node = root; port = 0; slot = 0 }

abbrev pub worker_hop : Hop
worker_hop = record { node = branch; port = 0; slot = 0 }

abbrev pub helper_hop : Hop
helper_hop = record { node = root; port = 0; slot = 1 }

abbrev pub worker_tick : Step
worker_tick = Elapse all_ask taken_slots
    (Some (record { hops = branch_hop ∷ worker_hop ∷ []; thread = worker }))

abbrev pub helper_tick : Step
helper_tick = Elapse all_ask taken_slots (Some (record { hops = helper_hop ∷ []; thread = helper }))

-- The branch is refused the seat behind the helper twice before the worker moves: as one that gives every
-- tick, and then as one that gives nothing, since the worker on it still has every tick.
abbrev pub moves : List Step
moves = load_root ∷ load_branch ∷ admit_worker ∷ admit_helper ∷ Rouse worker None ∷ Rouse helper None
    ∷ worker_tick ∷ worker_tick ∷ Refuse ∷ worker_tick ∷ Refuse ∷ worker_tick ∷ move_worker ∷ worker_tick
    ∷ move_branch ∷ helper_tick ∷ []

-- the steps before the one refusal, and before the other
abbrev pub before_first : List Step
before_first = take 8 moves

abbrev pub before_second : List Step
before_second = take 10 moves

-- whom each tick served, and the stays with what was guaranteed for them
abbrev pub moves_ticks : List (Option ℕ)
moves_ticks = Some worker ∷ Some worker ∷ Some worker ∷ Some worker ∷ Some worker ∷ Some helper ∷ []

abbrev pub moves_stays : List Stay
moves_stays = record { thread = worker; name = codes "a"; kept = All; since = 0; until = Some 4 }
    ∷ record { thread = helper; name = codes "b"; kept = Null; since = 0; until = None }
    ∷ record { thread = worker; name = codes "a"; kept = Null; since = 4; until = Some 5 }
    ∷ record { thread = worker; name = codes "a"; kept = Null; since = 5; until = None }
    ∷ []
