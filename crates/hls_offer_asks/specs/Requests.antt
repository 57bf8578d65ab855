-- What is asked for: a seat for a thread on a scheduler, with a guarantee, and what the request is answered.
use Rattle.std.specs.Prelude.{Bool, true, false, List}
use Rattle.hls_chron.specs.Name.{IsName}
use Rattle.hls_guarantee.specs.declared.Guarantee.{Guarantee}
use Rattle.hls_scenario.specs.declared.scenario.Spot.TheVariants.{Under}
use Rattle.hls_scenario.specs.declared.scenario.Perch.{Perch}
use Rattle.hls_scenario.specs.declared.scenario.Command.{Command}
use Rattle.hls_scenario.specs.declared.scenario.Command.TheVariants.{Thread, Move}
use Rattle.hls_scenario.specs.Grammar.{IsTerms}
use Rattle.hls_report_text.specs.declared.refusal.Refusal.{Refusal}
use Rattle.hls_report_text.specs.declared.report.Seated.{Seated}
use Rattle.hls_report_text.specs.declared.report.Answer.TheVariants.{Done, Refused}
use Rattle.hls_machine.specs.Hierarchy.{Hierarchy, config_of, haves_of}
use Rattle.hls_machine.specs.Steps.{is_thread}
use Rattle.hls_legal.specs.Moment.{Moment, node_of}
use Rattle.hls_legal.specs.Answers.{IsAnswer}
use Rattle.hls_offer_laws.specs.Offered.{IsOffered}
use Rattle.hls_offer_asks.specs.declared.wish.Wish.{Wish}

-- within the grammar of scenarios
pub record IsWish (wish : Wish) : Type 0 where
  pub name : IsName wish.name
  pub on : IsName wish.on
  pub terms : IsTerms wish.terms

abbrev pub perch_for : Wish → (wanted : Guarantee) → Perch
perch_for wish wanted = record { spot = Under wish.on wish.terms; want = wanted }

-- a known thread is moved, and one of any other name is to be admitted
abbrev pub request_for : (known : Bool) → Wish → (wanted : Guarantee) → Command
request_for true wish wanted = Move wish.name (perch_for wish wanted)
request_for false wish wanted = Thread wish.name (perch_for wish wanted)

-- the request: known are the threads that are admitted
abbrev pub request_of : Hierarchy → Wish → (wanted : Guarantee) → Command
request_of h wish wanted = request_for (is_thread (node_of h wish.name)) wish wanted

-- the request is done at the moment
abbrev pub IsDoneFor : Moment → Wish → (wanted : Guarantee) → Type 0
IsDoneFor m wish wanted = (seats : List Seated) × IsAnswer m (request_of m.hierarchy wish wanted) (Done seats)

-- it is refused
abbrev pub IsRefusedFor : Moment → Wish → (wanted : Guarantee) → Refusal → Type 0
IsRefusedFor m wish wanted refusal = IsAnswer m (request_of m.hierarchy wish wanted) (Refused refusal)

-- The seat has a derivation of what is wanted: from what the ports of the scheduler have, as it is configured, of at
-- most as many conversions as the depth in force.
abbrev pub HasDerivation : Moment → Wish → (wanted : Guarantee) → Type 0
HasDerivation m wish wanted =
    IsOffered (record { config = config_of (node_of m.hierarchy wish.on); terms = wish.terms })
    (haves_of (node_of m.hierarchy wish.on)) m.depth wanted
