-- A run of four ticks of fair queueing, with a move. Two threads share the root, of weights 1 and 2, and are ready
-- throughout. Start tags, in steps of weight 1: at first they are 1 and 1/2, so the heavier is served, and is at
-- 1 then. The lighter, which would be served next, moves instead and begins anew, a step above the virtual time
-- 1/2: at 3/2. So the heavier is served once more, and the lighter after it, where both are at 3/2.
use Rattle.std.specs.Prelude.{ℕ, ◌==◌, ◌||◌, List, [], ◌∷◌, Option, Some, None, Bool, false, if◌then◌else◌}
use Rattle.std.specs.Prelude.{codes, take}
use Rattle.hls_chron.specs.declared.plain.Config.{Config}
use Rattle.hls_chron.specs.declared.plain.Terms.TheVariants.{Weight}
use Rattle.hls_chron.specs.Kinds.{fair}
use Rattle.hls_guarantee.specs.declared.Guarantee.TheVariants.{Resc}
use Rattle.hls_machine.specs.Hierarchy.{At, Seat, Stay}
use Rattle.hls_machine.specs.Steps.{Step, Load, Admit, Move, Rouse, Elapse, Path}
use Rattle.hls_test_runs.specs.Moves.{root, root_seat}

abbrev pub lighter : ℕ
lighter = 1

abbrev pub heavier : ℕ
heavier = 2

-- a total weight of 4, and three seats at most
abbrev pub queue : Config
queue = fair 4 3

abbrev pub lighter_seat : Seat
lighter_seat = record { place = At root 0; terms = Weight 1; kept = Resc false 1 12 }

abbrev pub heavier_seat : Seat
heavier_seat = record { place = At root 1; terms = Weight 2; kept = Resc false 1 6 }

abbrev pub load_queue : Step
load_queue = Load root (codes "root") queue 4 8 (root_seat ∷ [])

abbrev pub admit_lighter : Step
admit_lighter = Admit lighter (codes "a") lighter_seat

abbrev pub admit_heavier : Step
admit_heavier = Admit heavier (codes "b") heavier_seat

-- onto the same terms: it takes the slot that it leaves
abbrev pub move_lighter : Step
move_lighter = Move lighter lighter_seat (λ k. k == lighter)

-- in each tick all ask, through both slots
abbrev pub three_ask : ℕ → Bool
three_ask k = k == root || (k == lighter || k == heavier)

abbrev pub both_slots : ℕ → ℕ
both_slots k = if k == root then 3 else 0

abbrev pub path_to : (slot thread : ℕ) → Path
path_to slot thread = record { hops = record { node = root; port = 0; slot = slot } ∷ []; thread = thread }

abbrev pub lighter_tick : Step
lighter_tick = Elapse three_ask both_slots (Some (path_to 0 lighter))

abbrev pub heavier_tick : Step
heavier_tick = Elapse three_ask both_slots (Some (path_to 1 heavier))

abbrev pub shared : List Step
shared = load_queue ∷ admit_lighter ∷ admit_heavier ∷ Rouse lighter None ∷ Rouse heavier None ∷ heavier_tick
    ∷ move_lighter ∷ heavier_tick ∷ lighter_tick ∷ heavier_tick ∷ []

-- the steps before the first tick, and up to the move
abbrev pub before_ticks : List Step
before_ticks = take 5 shared

abbrev pub moved : List Step
moved = take 7 shared

-- whom each tick served, and the stays
abbrev pub shared_ticks : List (Option ℕ)
shared_ticks = Some heavier ∷ Some heavier ∷ Some lighter ∷ Some heavier ∷ []

abbrev pub shared_stays : List Stay
shared_stays = record { thread = lighter; name = codes "a"; kept = Resc false 1 12; since = 0; until = Some 1 }
    ∷ record { thread = heavier; name = codes "b"; kept = Resc false 1 6; since = 0; until = None }
    ∷ record { thread = lighter; name = codes "a"; kept = Resc false 1 12; since = 1; until = None }
    ∷ []
