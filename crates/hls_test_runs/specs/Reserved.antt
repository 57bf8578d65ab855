-- A run of five ticks of one reservation, of 2 ticks in every 4 and hard. The thread is ready throughout. It
-- has its budget in the ticks 0 and 1, and none from then on to its deadline: though nobody else is there, the
-- ticks 2 and 3 are idle. At its deadline it is replenished.
use Rattle.std.specs.Prelude.{ℕ, ◌==◌, ◌||◌, List, [], ◌∷◌, ◌++◌, Option, Some, None, Bool, true, false, if◌then◌else◌}
use Rattle.std.specs.Prelude.{codes, take}
use Rattle.hls_chron.specs.declared.plain.Config.TheVariants.{Edf}
use Rattle.hls_chron.specs.declared.plain.Terms.TheVariants.{Res}
use Rattle.hls_guarantee.specs.declared.Guarantee.TheVariants.{Null, Resb}
use Rattle.hls_machine.specs.Hierarchy.{At, Seat, Stay}
use Rattle.hls_machine.specs.Steps.{Step, Load, Admit, End, Rouse, Elapse, Path}
use Rattle.hls_test_runs.specs.Moves.{root, root_seat}

abbrev pub reserver : ℕ
reserver = 1

abbrev pub reserver_seat : Seat
reserver_seat = record { place = At root 0; terms = Res true 2 4; kept = Resb true 2 4 }

abbrev pub load_root : Step
load_root = Load root (codes "root") Edf 5 8 (root_seat ∷ [])

abbrev pub admit_reserver : Step
admit_reserver = Admit reserver (codes "a") reserver_seat

-- the slot of the thread asks in each tick, and the root where there is a budget
abbrev pub first_slot : ℕ → ℕ
first_slot k = if k == root then 1 else 0

abbrev pub both_ask : ℕ → Bool
both_ask k = k == root || k == reserver

abbrev pub only_reserver_asks : ℕ → Bool
only_reserver_asks k = k == reserver

abbrev pub reserver_path : Path
reserver_path = record { hops = record { node = root; port = 0; slot = 0 } ∷ []; thread = reserver }

abbrev pub served_tick : Step
served_tick = Elapse both_ask first_slot (Some reserver_path)

abbrev pub idle_tick : Step
idle_tick = Elapse only_reserver_asks first_slot None

abbrev pub reserved : List Step
reserved = load_root ∷ admit_reserver ∷ Rouse reserver None ∷ served_tick ∷ served_tick ∷ idle_tick ∷ idle_tick
    ∷ served_tick ∷ []

-- whom each tick served, and the one stay
abbrev pub reserved_ticks : List (Option ℕ)
reserved_ticks = Some reserver ∷ Some reserver ∷ None ∷ None ∷ Some reserver ∷ []

abbrev pub reserved_stay : Stay
reserved_stay = record { thread = reserver; name = codes "a"; kept = Resb true 2 4; since = 0; until = None }

-- the steps up to tick 2, when the budget is used up
abbrev pub used_up : List Step
used_up = take 5 reserved

-- The thread ends after its first tick: until its deadline, at tick 4, its slot and its parts are held.
abbrev pub withdrawn : List Step
withdrawn = load_root ∷ admit_reserver ∷ Rouse reserver None ∷ served_tick ∷ End reserver ∷ []

abbrev pub nobody_asks : Step
nobody_asks = Elapse (λ k. false) (λ k. 0) None

abbrev pub expired : List Step
expired = withdrawn ++ nobody_asks ∷ nobody_asks ∷ nobody_asks ∷ []

-- a reservation for which there is room beside nothing that is held
abbrev pub larger_seat : (slot : ℕ) → Seat
larger_seat slot = record { place = At root slot; terms = Res true 3 4; kept = Null }

abbrev pub admit_larger : Step
admit_larger = Admit 2 (codes "b") (larger_seat 0)
