-- Steps that are the same command with the same outcome, whatever slots, masks and paths go with them.
use Rattle.std.specs.Prelude.{◌≡◌, List, [], ◌∷◌}
use Rattle.hls_machine.specs.Hierarchy.{Seat}
use Rattle.hls_machine.specs.Steps.{Step, Refuse, Load, Admit, End, Unload, Move, Rouse, Block, Elapse}
use Rattle.hls_machine.specs.Legal.{scheduler_at}

-- seats that are the same but for the slot
pub record IsAlikeSeat (one two : Seat) : Type 0 where
  pub parent : scheduler_at one.place ≡ scheduler_at two.place
  pub terms : one.terms ≡ two.terms
  pub kept : one.kept ≡ two.kept

abbrev pub AreAlikeSeats : List Seat → List Seat → Type 0
AreAlikeSeats [] [] = Unit {0}
AreAlikeSeats (seat ∷ seats) (other ∷ others) = IsAlikeSeat seat other × AreAlikeSeats seats others
AreAlikeSeats _ _ = ⊥

-- A load is the same with the same room for its book, and ticks are all alike.
abbrev pub IsAlike : Step → Step → Type 0
IsAlike Refuse Refuse = Unit {0}
IsAlike (Load k name config spare_ticks spare_marks seats) (Load c other set ticks marks others) =
    (k ≡ c) × (name ≡ other) × (config ≡ set) × (spare_ticks ≡ ticks) × (spare_marks ≡ marks)
    × AreAlikeSeats seats others
IsAlike (Admit k name seat) (Admit c other taken) = (k ≡ c) × (name ≡ other) × IsAlikeSeat seat taken
IsAlike (End k) (End c) = k ≡ c
IsAlike (Unload k) (Unload c) = k ≡ c
IsAlike (Move k seat below) (Move c taken under) = (k ≡ c) × IsAlikeSeat seat taken
IsAlike (Rouse k burst) (Rouse c ticks) = (k ≡ c) × (burst ≡ ticks)
IsAlike (Block k) (Block c) = k ≡ c
IsAlike (Elapse asking masks path) (Elapse other slots way) = Unit {0}
IsAlike _ _ = ⊥

abbrev pub AreAlike : List Step → List Step → Type 0
AreAlike [] [] = Unit {0}
AreAlike (step ∷ steps) (other ∷ others) = IsAlike step other × AreAlike steps others
AreAlike _ _ = ⊥
