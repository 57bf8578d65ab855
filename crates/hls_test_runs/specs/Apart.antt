-- A run of four ticks of fair queueing. Two threads of weight 1 share the root. The one in the greater slot has the
-- first tick, while the other sleeps. Start tags, in steps: the virtual time is 1 then, and so is the start tag of the
-- one that wakes, while the other is at 2. So the one that woke has the next tick, and the one after it, where both are
-- at 2. Only the third tick is the other's.
use Rattle.std.specs.Prelude.{ℕ, ◌==◌, ◌||◌, List, [], ◌∷◌, Option, Some, None, Bool, false, if◌then◌else◌, codes}
use Rattle.hls_chron.specs.declared.plain.Config.{Config}
use Rattle.hls_chron.specs.declared.plain.Terms.TheVariants.{Weight}
use Rattle.hls_chron.specs.Kinds.{fair}
use Rattle.hls_guarantee.specs.declared.Guarantee.TheVariants.{Resc}
use Rattle.hls_machine.specs.Hierarchy.{At, Seat}
use Rattle.hls_machine.specs.Steps.{Step, Load, Admit, Rouse, Elapse, Path}
use Rattle.hls_test_runs.specs.Moves.{root, root_seat}

abbrev pub sleeper : ℕ
sleeper = 1

abbrev pub starter : ℕ
starter = 2

-- a total weight of 2, and two seats at most
abbrev pub couple : Config
couple = fair 2 2

abbrev pub sleeper_seat : Seat
sleeper_seat = record { place = At root 0; terms = Weight 1; kept = Resc false 1 4 }

abbrev pub starter_seat : Seat
starter_seat = record { place = At root 1; terms = Weight 1; kept = Resc false 1 4 }

abbrev pub load_couple : Step
load_couple = Load root (codes "root") couple 4 8 (root_seat ∷ [])

abbrev pub admit_sleeper : Step
admit_sleeper = Admit sleeper (codes "a") sleeper_seat

abbrev pub admit_starter : Step
admit_starter = Admit starter (codes "b") starter_seat

-- in the first tick one slot asks, and then both do
abbrev pub starter_asks : ℕ → Bool
starter_asks k = k == root || k == starter

abbrev pub couple_asks : ℕ → Bool
couple_asks k = k == root || (k == sleeper || k == starter)

abbrev pub slots : (mask k : ℕ) → ℕ
slots mask k = if k == root then mask else 0

abbrev pub path_down : (slot thread : ℕ) → Path
path_down slot thread = record { hops = record { node = root; port = 0; slot = slot } ∷ []; thread = thread }

abbrev pub first_tick : Step
first_tick = Elapse starter_asks (slots 2) (Some (path_down 1 starter))

abbrev pub sleeper_tick : Step
sleeper_tick = Elapse couple_asks (slots 3) (Some (path_down 0 sleeper))

abbrev pub starter_tick : Step
starter_tick = Elapse couple_asks (slots 3) (Some (path_down 1 starter))

abbrev pub apart : List Step
apart = load_couple ∷ admit_sleeper ∷ admit_starter ∷ Rouse starter None ∷ first_tick ∷ Rouse sleeper None
    ∷ sleeper_tick ∷ sleeper_tick ∷ starter_tick ∷ []

-- whom each tick served
abbrev pub apart_ticks : List (Option ℕ)
apart_ticks = Some starter ∷ Some sleeper ∷ Some sleeper ∷ Some starter ∷ []
