-- How deep schedulers would be, and how many fair queueing ones a path would hold, were a command done.
use Rattle.std.specs.Prelude.{◌≡◌, ℕ, ◌+◌, List, [], ◌∷◌, ◌++◌, length, Option, Some, None, slice_get}
use Rattle.std.specs.Prelude.{if◌then◌else◌, ◌==◌}
use Rattle.hls_chron.specs.declared.plain.Config.{Config}
use Rattle.hls_scenario.specs.declared.scenario.Spot.{Spot}
use Rattle.hls_scenario.specs.declared.scenario.Spot.TheVariants.{Cpu, Under}
use Rattle.hls_scenario.specs.declared.scenario.Perch.{Perch}
use Rattle.hls_scenario.specs.declared.scenario.Command.{Command}
use Rattle.hls_scenario.specs.declared.scenario.Command.TheVariants.{Load, Move}
use Rattle.hls_machine.specs.Hierarchy.{Hierarchy, Place, Processor, At, Seat}
use Rattle.hls_machine.specs.Steps.{reseated}
use Rattle.hls_chron.specs.Kinds.{fair_queue}
use Rattle.hls_machine.specs.Legal.{IsChain, fair_queues}
use Rattle.hls_legal.specs.Tells.{terms_in}
use Rattle.hls_legal.specs.Moment.{number_of}

-- schedulers from the processor down, each of which sits under the one before: so many, of which so many are
-- fair queueing
pub record HasChain (h : Hierarchy) (level shares : ℕ) : Type 0 where
  pub chain : List ℕ
  pub stands : IsChain h None chain
  pub level_is : level ≡ length chain
  pub shares_are : shares ≡ fair_queues h chain

-- such schedulers down to a place, the scheduler there included
abbrev pub LeadsTo : Hierarchy → Spot → List ℕ → Type 0
LeadsTo h Cpu chain = chain ≡ []
LeadsTo h (Under sched terms) chain = (front : List ℕ) × (p : ℕ) × (number_of h sched ≡ Some p)
    × (chain ≡ front ++ p ∷ []) × IsChain h None chain

-- those that lead to a place of a new scheduler, and behind them the new one
pub record HasNewChain (h : Hierarchy) (config : Config) (perches : List Perch) (level shares : ℕ) : Type 0
  where
    pub port : ℕ
    pub perch : Perch
    pub at_port : slice_get perches port ≡ Some perch
    pub chain : List ℕ
    pub leads : LeadsTo h perch.spot chain
    pub level_is : level ≡ length chain + 1
    pub shares_are : shares ≡ fair_queues h chain + fair_queue config

-- The hierarchy with the moved scheduler in its new seat, whichever slot that has.
abbrev pub place_on : Option ℕ → Place
place_on None = Processor
place_on (Some p) = At p 0

abbrev pub place_there : Hierarchy → Spot → Place
place_there h Cpu = Processor
place_there h (Under sched terms) = place_on (number_of h sched)

abbrev pub seat_there : Hierarchy → Perch → Seat
seat_there h perch =
    record { place = place_there h perch.spot; terms = terms_in perch.spot; kept = perch.want }

abbrev pub with_mover : Hierarchy → (moved : Option ℕ) → Perch → Hierarchy
with_mover h None perch = h
with_mover h (Some k) perch = record h {
  nodes = λ c. if c == k then reseated (seat_there h perch) (h.nodes c) else h.nodes c;
}

-- once the command is done, a path goes through so many schedulers, of which so many are fair queueing
abbrev pub HasChainAfter : Hierarchy → Command → (level shares : ℕ) → Type 0
HasChainAfter h (Load name config perches) level shares = HasNewChain h config perches level shares
HasChainAfter h (Move name perch) level shares = HasChain (with_mover h (number_of h name) perch) level shares
HasChainAfter h _ level shares = ⊥
