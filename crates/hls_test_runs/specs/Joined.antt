-- The first four ticks of a run with a join. On the root, of fixed priority, sit reservations and, behind them, round
-- robin. The join has a parent in both: 2 ticks in every 10, and a turn beside another thread. Its own thread
-- gets those 2 ticks first, and then turns, one about with the other thread.
use Rattle.std.specs.Prelude.{ℕ, ◌==◌, ◌||◌, ◌&&◌, List, [], ◌∷◌, Option, Some, None, Bool, true, false}
use Rattle.std.specs.Prelude.{if◌then◌else◌, codes}
use Rattle.hls_chron.specs.declared.plain.Config.TheVariants as configs
use Rattle.hls_chron.specs.declared.plain.Terms.TheVariants as terms
use Rattle.hls_guarantee.specs.declared.Guarantee.TheVariants.{All, Null, Resb}
use Rattle.hls_machine.specs.Hierarchy.{At, Seat, Stay}
use Rattle.hls_machine.specs.Steps.{Step, Load, Admit, Rouse, Elapse, Hop, Path}
use Rattle.hls_test_runs.specs.Moves.{root, root_seat}

abbrev pub reservations : ℕ
reservations = 1

abbrev pub turns : ℕ
turns = 2

abbrev pub join : ℕ
join = 3

abbrev pub joined : ℕ
joined = 4

abbrev pub other : ℕ
other = 5

abbrev pub reservations_seat : Seat
reservations_seat = record { place = At root 0; terms = terms.Prio 0; kept = All }

abbrev pub turns_seat : Seat
turns_seat = record { place = At root 1; terms = terms.Prio 1; kept = Null }

-- one seat for each port of the join
abbrev pub reserved_port : Seat
reserved_port = record { place = At reservations 0; terms = terms.Res true 2 10; kept = Resb true 2 10 }

abbrev pub turn_port : Seat
turn_port = record { place = At turns 0; terms = terms.Turn; kept = Null }

abbrev pub joined_seat : Seat
joined_seat = record { place = At join 0; terms = terms.Sole; kept = Resb false 2 10 }

abbrev pub other_seat : Seat
other_seat = record { place = At turns 1; terms = terms.Turn; kept = Null }

abbrev pub load_root : Step
load_root = Load root (codes "root") configs.Fp 12 16 (root_seat ∷ [])

abbrev pub load_reservations : Step
load_reservations = Load reservations (codes "e") configs.Edf 12 16 (reservations_seat ∷ [])

abbrev pub load_turns : Step
load_turns = Load turns (codes "r") (configs.Rr 1) 12 16 (turns_seat ∷ [])

abbrev pub load_join : Step
load_join = Load join (codes "j") (configs.Join 2) 12 16 (reserved_port ∷ turn_port ∷ [])

abbrev pub admit_joined : Step
admit_joined = Admit joined (codes "a") joined_seat

abbrev pub admit_other : Step
admit_other = Admit other (codes "b") other_seat

-- all ask in each tick, but reservations only while there is a budget
abbrev pub asking_with : (budget : Bool) → ℕ → Bool
asking_with budget k =
    k == root || (k == turns || (k == join || (k == joined || (k == other || (budget && k == reservations)))))

abbrev pub slots_with : (budget : Bool) → ℕ → ℕ
slots_with budget k = if k == root then (if budget then 3 else 2) else if k == reservations then 1
    else if k == turns then 3 else if k == join then 1 else 0

abbrev pub hop : (node port slot : ℕ) → Hop
hop node port slot = record { node = node; port = port; slot = slot }

abbrev pub by_reservation : Path
by_reservation = record {
  hops = hop root 0 0 ∷ hop reservations 0 0 ∷ hop join 0 0 ∷ [];
  thread = joined;
}

abbrev pub by_turn : Path
by_turn = record { hops = hop root 0 1 ∷ hop turns 0 0 ∷ hop join 1 0 ∷ []; thread = joined }

abbrev pub to_other : Path
to_other = record { hops = hop root 0 1 ∷ hop turns 0 1 ∷ []; thread = other }

abbrev pub tick : (budget : Bool) → Path → Step
tick budget path = Elapse (asking_with budget) (slots_with budget) (Some path)

abbrev pub joining : List Step
joining = load_root ∷ load_reservations ∷ load_turns ∷ load_join ∷ admit_joined ∷ admit_other
    ∷ Rouse joined None ∷ Rouse other None ∷ tick true by_reservation ∷ tick true by_reservation
    ∷ tick false by_turn ∷ tick false to_other ∷ []

-- whom each tick served, and the stays
abbrev pub joining_ticks : List (Option ℕ)
joining_ticks = Some joined ∷ Some joined ∷ Some joined ∷ Some other ∷ []

abbrev pub joining_stays : List Stay
joining_stays = record { thread = joined; name = codes "a"; kept = Resb false 2 10; since = 0; until = None }
    ∷ record { thread = other; name = codes "b"; kept = Null; since = 0; until = None }
    ∷ []
