-- A run of seven ticks of two hard reservations that take up the whole processor: 4 ticks in every 6, and 1 in every 3.
-- Both threads are ready throughout. At first the shorter period has the earlier deadline. At tick 3 its next deadline
-- is that of the longer one, which is in the lesser slot and has half its budget left. So the shorter one waits through
-- the ticks 1 to 4, and is served in the last tick of one period and in the first of the next.
use Rattle.std.specs.Prelude.{ℕ, ◌==◌, ◌||◌, List, [], ◌∷◌, Option, Some, None, Bool, true, if◌then◌else◌, codes, take}
use Rattle.hls_chron.specs.declared.plain.Config.TheVariants.{Edf}
use Rattle.hls_chron.specs.declared.plain.Terms.TheVariants.{Res}
use Rattle.hls_guarantee.specs.declared.Guarantee.TheVariants.{Resb}
use Rattle.hls_machine.specs.Hierarchy.{At, Seat}
use Rattle.hls_machine.specs.Steps.{Step, Load, Admit, Rouse, Elapse, Path}
use Rattle.hls_test_runs.specs.Moves.{root, root_seat}

abbrev pub longer : ℕ
longer = 1

abbrev pub shorter : ℕ
shorter = 2

abbrev pub longer_seat : Seat
longer_seat = record { place = At root 0; terms = Res true 4 6; kept = Resb true 4 6 }

abbrev pub shorter_seat : Seat
shorter_seat = record { place = At root 1; terms = Res true 1 3; kept = Resb true 1 3 }

abbrev pub load_crowd : Step
load_crowd = Load root (codes "root") Edf 7 8 (root_seat ∷ [])

abbrev pub admit_longer : Step
admit_longer = Admit longer (codes "a") longer_seat

abbrev pub admit_shorter : Step
admit_shorter = Admit shorter (codes "b") shorter_seat

-- in each tick all ask, through both slots
abbrev pub all_three_ask : ℕ → Bool
all_three_ask k = k == root || (k == longer || k == shorter)

abbrev pub crowd_slots : ℕ → ℕ
crowd_slots k = if k == root then 3 else 0

abbrev pub crowd_path : (slot thread : ℕ) → Path
crowd_path slot thread = record { hops = record { node = root; port = 0; slot = slot } ∷ []; thread = thread }

abbrev pub longer_tick : Step
longer_tick = Elapse all_three_ask crowd_slots (Some (crowd_path 0 longer))

abbrev pub shorter_tick : Step
shorter_tick = Elapse all_three_ask crowd_slots (Some (crowd_path 1 shorter))

abbrev pub crowded : List Step
crowded = load_crowd ∷ admit_longer ∷ admit_shorter ∷ Rouse longer None ∷ Rouse shorter None ∷ shorter_tick
    ∷ longer_tick ∷ longer_tick ∷ longer_tick ∷ longer_tick ∷ shorter_tick ∷ shorter_tick ∷ []

-- the steps before the first tick
abbrev pub before_crowd : List Step
before_crowd = take 5 crowded

-- whom each tick served
abbrev pub crowded_ticks : List (Option ℕ)
crowded_ticks = Some shorter ∷ Some longer ∷ Some longer ∷ Some longer ∷ Some longer ∷ Some shorter ∷ Some shorter ∷ []
