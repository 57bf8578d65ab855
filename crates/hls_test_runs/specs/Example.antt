-- A run of three ticks over two levels, with a move. The desk is at the processor, and the player's
-- first seat is on the media scheduler below it. The player is woken for two ticks, and keeps what is
-- left of them over its move to the desk.
use Rattle.std.specs.Prelude.{ℕ, ◌==◌, ◌||◌, List, [], ◌∷◌, Option, Some, None, Bool, false, if◌then◌else◌}
use Rattle.std.specs.Prelude.{codes}
use Rattle.hls_chron.specs.declared.plain.Config.TheVariants.{Fp}
use Rattle.hls_chron.specs.declared.plain.Terms.TheVariants.{Cpu, Prio}
use Rattle.hls_guarantee.specs.declared.Guarantee.TheVariants.{All, Null}
use Rattle.hls_machine.specs.Hierarchy.{Processor, At, Seat, Stay}
use Rattle.hls_machine.specs.Steps.{Step, Load, Admit, Move, Rouse, Elapse, Path}

abbrev pub desk : ℕ
desk = 0

abbrev pub media : ℕ
media = 1

abbrev pub player : ℕ
player = 2

abbrev pub desk_seat : Seat
desk_seat = record { place = Processor; terms = Cpu; kept = All }

abbrev pub media_seat : Seat
media_seat = record { place = At desk 0; terms = Prio 0; kept = All }

abbrev pub player_seat : Seat
player_seat = record { place = At media 0; terms = Prio 0; kept = All }

abbrev pub moved_seat : Seat
moved_seat = record { place = At desk 1; terms = Prio 7; kept = Null }

abbrev pub load_desk : Step
load_desk = Load desk (codes "desk") Fp 3 8 (desk_seat ∷ [])

abbrev pub load_media : Step
load_media = Load media (codes "media") Fp 3 8 (media_seat ∷ [])

abbrev pub admit_player : Step
admit_player = Admit player (codes "player") player_seat

abbrev pub wake_player : Step
wake_player = Rouse player (Some (record { ticks = 2; every = None }))

-- all ask, through slot 0 of each scheduler
abbrev pub all_ask : ℕ → Bool
all_ask k = k == desk || (k == media || k == player)

abbrev pub first_slots : ℕ → ℕ
first_slots k = if k == desk then 1 else if k == media then 1 else 0

abbrev pub long_path : Path
long_path = record {
  hops = record { node = desk; port = 0; slot = 0 } ∷ record { node = media; port = 0; slot = 0 } ∷ [];
  thread = player;
}

abbrev pub first_tick : Step
first_tick = Elapse all_ask first_slots (Some long_path)

abbrev pub move_player : Step
move_player = Move player moved_seat (λ k. k == player)

-- the player asks through slot 1 of the desk
abbrev pub two_ask : ℕ → Bool
two_ask k = k == desk || k == player

abbrev pub second_slot : ℕ → ℕ
second_slot k = if k == desk then 2 else 0

abbrev pub short_path : Path
short_path = record { hops = record { node = desk; port = 0; slot = 1 } ∷ []; thread = player }

abbrev pub second_tick : Step
second_tick = Elapse two_ask second_slot (Some short_path)

-- nobody asks
abbrev pub last_tick : Step
last_tick = Elapse (λ k. false) (λ k. 0) None

abbrev pub example : List Step
example = load_desk ∷ load_media ∷ admit_player ∷ wake_player ∷ first_tick ∷ move_player ∷ second_tick
    ∷ last_tick ∷ []

-- whom each tick served, and the stays with what was guaranteed for them
abbrev pub example_ticks : List (Option ℕ)
example_ticks = Some player ∷ Some player ∷ None ∷ []

abbrev pub first_stay : Stay
first_stay = record { thread = player; name = codes "player"; kept = All; since = 0; until = Some 1 }

abbrev pub second_stay : Stay
second_stay = record { thread = player; name = codes "player"; kept = Null; since = 1; until = None }
