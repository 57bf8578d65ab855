-- The seats that a command takes or derives anew, in the order of the report, and what is to be derived for
-- each.
use Rattle.std.specs.Prelude.{◌≡◌, ◌≤◌, ℕ, ◌+◌, List, [], ◌∷◌, Option, Some, None, flat_map, ◌==◌}
use Rattle.std.specs.Prelude.{if◌then◌else◌}
use Rattle.hls_text.specs.Lines.{Text}
use Rattle.hls_chron.specs.declared.plain.Config.{Config}
use Rattle.hls_chron.specs.declared.plain.Config.TheVariants as configs
use Rattle.hls_guarantee.specs.declared.Guarantee.{Guarantee}
use Rattle.hls_guarantee.specs.declared.Guarantee.TheVariants.{All}
use Rattle.hls_derive.specs.declared.derivation.Place.{Place}
use Rattle.hls_derive.specs.declared.derivation.Derivation.{Derivation}
use Rattle.hls_derive.specs.Derivation.{conversions}
use Rattle.hls_derive.specs.Derives.{IsDerivation}
use Rattle.hls_scenario.specs.declared.scenario.Spot.{Spot}
use Rattle.hls_scenario.specs.declared.scenario.Spot.TheVariants as spots
use Rattle.hls_scenario.specs.declared.scenario.Perch.{Perch}
use Rattle.hls_scenario.specs.declared.scenario.Command.{Command}
use Rattle.hls_scenario.specs.declared.scenario.Command.TheVariants.{Load, Thread, Move}
use Rattle.hls_report_text.specs.declared.report.Seated.{Seated}
use Rattle.hls_machine.specs.Hierarchy.{Hierarchy, Processor, At, Seat, SeatHolder, name_of, seat_of, haves_of}
use Rattle.hls_machine.specs.Hierarchy.{config_of}
use Rattle.hls_machine.specs.Hierarchy as hierarchy
use Rattle.hls_legal.specs.Tells.{terms_in}
use Rattle.hls_legal.specs.Moment.{number_of, node_of}

-- a derivation that is due: for a port of a named child, at a place, from what the ports of the scheduler
-- there have, to what is wanted
pub record Due : Type 0 where
  pub name : Text
  pub port : ℕ
  pub place : Place
  pub haves : List Guarantee
  pub want : Guarantee

-- it is one, of at most so many conversions
pub record Derives (depth : ℕ) (due : Due) (d : Derivation) : Type 0 where
  pub derives : IsDerivation due.place due.haves due.want d
  pub short : conversions d ≤ depth

-- there is none
abbrev pub IsUnderivable : (depth : ℕ) → Due → Type 0
IsUnderivable depth due = (d : Derivation) → ¬ Derives depth due d

-- ---- the dues of a command

-- the processor has every tick
abbrev pub config_there : Hierarchy → Spot → Config
config_there h spots.Cpu = configs.Cpu
config_there h (spots.Under sched terms) = config_of (node_of h sched)

abbrev pub haves_there : Hierarchy → Spot → List Guarantee
haves_there h spots.Cpu = All ∷ []
haves_there h (spots.Under sched terms) = haves_of (node_of h sched)

abbrev pub due_at : Hierarchy → Text → (port : ℕ) → Perch → Due
due_at h name port perch = record {
  name = name;
  port = port;
  place = record { config = config_there h perch.spot; terms = terms_in perch.spot };
  haves = haves_there h perch.spot;
  want = perch.want;
}

-- one for each port
abbrev pub dues_from : Hierarchy → Text → (port : ℕ) → List Perch → List Due
dues_from h name port [] = []
dues_from h name port (perch ∷ perches) = due_at h name port perch ∷ dues_from h name (port + 1) perches

abbrev pub told_name : Option Text → Text
told_name None = []
told_name (Some name) = name

-- a seat on scheduler k, on its present terms and with what is kept for it, once k has another guarantee
abbrev pub dues_in : Hierarchy → (k : ℕ) → (has : Guarantee) → SeatHolder → Seat → hierarchy.Place → List Due
dues_in h k has s seat Processor = []
dues_in h k has s seat (At p slot) = if p == k then (record {
  name = told_name (name_of (h.nodes s.node));
  port = s.port;
  place = record { config = config_of (h.nodes k); terms = seat.terms };
  haves = has ∷ [];
  want = seat.kept;
}) ∷ [] else []

abbrev pub dues_of : Hierarchy → (k : ℕ) → (has : Guarantee) → SeatHolder → Option Seat → List Due
dues_of h k has s None = []
dues_of h k has s (Some seat) = dues_in h k has s seat seat.place

-- the seats on the moved scheduler, in the order in which they were taken
abbrev pub dues_on : Hierarchy → (has : Guarantee) → (moved : Option ℕ) → List Due
dues_on h has None = []
dues_on h has (Some k) = flat_map (λ (s : SeatHolder). dues_of h k has s (seat_of (h.nodes s.node) s.port)) h.seats

-- the new seats in the order of their ports, and then the seats on a moved scheduler
abbrev pub dues : Hierarchy → Command → List Due
dues h (Load name config perches) = dues_from h name 0 perches
dues h (Thread name perch) = due_at h name 0 perch ∷ []
dues h (Move name perch) = due_at h name 0 perch ∷ dues_on h perch.want (number_of h name)
dues h _ = []

-- ---- the seats that an answer tells

-- the seat is told by its child's name and port, with a derivation
pub record IsSettled (depth : ℕ) (due : Due) (s : Seated) : Type 0 where
  pub name : s.name ≡ due.name
  pub port : s.port ≡ due.port
  pub derives : Derives depth due s.derivation

abbrev pub AreSettled : (depth : ℕ) → List Due → List Seated → Type 0
AreSettled depth [] [] = Unit {0}
AreSettled depth (due ∷ dues) (s ∷ seats) = IsSettled depth due s × AreSettled depth dues seats
AreSettled depth _ _ = ⊥
