-- A run of six ticks of two hard reservations that take up the whole processor: 1 tick in every 3, in the lesser slot,
-- and 2 in every 3. Both threads are ready throughout. Their deadlines are the same, so the one in the lesser slot is
-- served first in each period, and the other has each of its ticks as late as its reservation allows.
use Rattle.std.specs.Prelude.{ℕ, ◌==◌, ◌||◌, List, [], ◌∷◌, Option, Some, None, Bool, true, if◌then◌else◌, codes}
use Rattle.hls_chron.specs.declared.plain.Config.TheVariants.{Edf}
use Rattle.hls_chron.specs.declared.plain.Terms.TheVariants.{Res}
use Rattle.hls_guarantee.specs.declared.Guarantee.TheVariants.{Resb}
use Rattle.hls_kinds.specs.declared.reservations.Reservation.{Reservation}
use Rattle.hls_machine.specs.Hierarchy.{At, Seat}
use Rattle.hls_machine.specs.Steps.{Step, Load, Admit, Rouse, Elapse, Path}
use Rattle.hls_test_runs.specs.Moves.{root, root_seat}

abbrev pub former : ℕ
former = 1

abbrev pub latter : ℕ
latter = 2

abbrev pub former_seat : Seat
former_seat = record { place = At root 0; terms = Res true 1 3; kept = Resb true 1 3 }

abbrev pub latter_seat : Seat
latter_seat = record { place = At root 1; terms = Res true 2 3; kept = Resb true 2 3 }

abbrev pub load_pace : Step
load_pace = Load root (codes "root") Edf 6 8 (root_seat ∷ [])

abbrev pub admit_former : Step
admit_former = Admit former (codes "a") former_seat

abbrev pub admit_latter : Step
admit_latter = Admit latter (codes "b") latter_seat

-- in each tick all ask, through both slots
abbrev pub everyone_asks : ℕ → Bool
everyone_asks k = k == root || (k == former || k == latter)

abbrev pub both_slots : ℕ → ℕ
both_slots k = if k == root then 3 else 0

abbrev pub pace_path : (slot thread : ℕ) → Path
pace_path slot thread = record { hops = record { node = root; port = 0; slot = slot } ∷ []; thread = thread }

abbrev pub former_tick : Step
former_tick = Elapse everyone_asks both_slots (Some (pace_path 0 former))

abbrev pub latter_tick : Step
latter_tick = Elapse everyone_asks both_slots (Some (pace_path 1 latter))

abbrev pub paced : List Step
paced = load_pace ∷ admit_former ∷ admit_latter ∷ Rouse former None ∷ Rouse latter None ∷ former_tick ∷ latter_tick
    ∷ latter_tick ∷ former_tick ∷ latter_tick ∷ latter_tick ∷ []

-- whom each tick served
abbrev pub paced_ticks : List (Option ℕ)
paced_ticks = Some former ∷ Some latter ∷ Some latter ∷ Some former ∷ Some latter ∷ Some latter ∷ []

-- the reservation of the latter, of which one job is released in the first tick, for no more than two budgets
abbrev pub latter_reserved : Reservation
latter_reserved = record { x = 2; y = 3; since = 0 }

abbrev pub is_first : ℕ → Bool
is_first t = t == 0

abbrev pub two_periods : ℕ → ℕ
two_periods t = 2
