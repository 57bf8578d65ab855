-- The scenario of a number: a hierarchy of five kinds of threads, whose wakes and blocks are drawn every ten ticks,
-- and in which one reservation is exchanged, and a move is refused, every two thousand.
use Rattle.std.specs.Prelude.{ℕ, zero, suc, ◌+◌, ◌*◌, ◌%◌, ◌==◌, List, [], ◌∷◌, ◌++◌, Some, None}
use Rattle.std.specs.Prelude.{true, codes, if◌then◌else◌, slice_index_or}
use Rattle.std.proofs.Math.Nat.{zero-lt-suc}
use Rattle.hls_text.specs.Lines.{Text}
use Rattle.hls_frac.specs.declared.Frac.{Frac}
use Rattle.hls_frac.proofs.Quotients.{quotient_of}
use Rattle.hls_chron.specs.declared.plain.Config.{Config}
use Rattle.hls_chron.specs.declared.plain.Config.TheVariants as configs
use Rattle.hls_chron.specs.declared.plain.Terms.{Terms}
use Rattle.hls_chron.specs.declared.plain.Terms.TheVariants as terms
use Rattle.hls_chron.specs.Kinds.{fair}
use Rattle.hls_guarantee.specs.declared.Guarantee.{Guarantee}
use Rattle.hls_guarantee.specs.declared.Guarantee.TheVariants.{All, Null, Resb, Psbe}
use Rattle.hls_scenario.specs.declared.scenario.Spot.TheVariants.{Cpu, Under}
use Rattle.hls_scenario.specs.declared.scenario.Perch.{Perch}
use Rattle.hls_scenario.specs.declared.scenario.Command.{Command}
use Rattle.hls_scenario.specs.declared.scenario.Command.TheVariants.{Load, Thread, End, Move, Wake, Block}
use Rattle.hls_scenario.specs.declared.scenario.Item.{Item}
use Rattle.hls_scenario.specs.declared.scenario.Scenario.{Scenario}
use Rattle.hls_gen.specs.Draws.{first_state, next_state, drawn}

-- ---- commands

abbrev pub under : Text → Terms → Guarantee → Perch
under sched terms want = record { spot = Under sched terms; want = want }

abbrev pub fraction : (num less : ℕ) → Frac
fraction num less = (quotient_of num (suc less) (zero-lt-suc less)).0

-- three tenths, with an error of 42 ticks
abbrev pub three_tenths : Guarantee
three_tenths = Psbe (fraction 3 9) (fraction 42 0)

abbrev pub load : Text → Config → Perch → Command
load name config perch = Load name config (perch ∷ [])

abbrev pub reserved : (name : Text) → (x y : ℕ) → Command
reserved name x y = Thread name (under (codes "e") (terms.Res true x y) (Resb true x y))

abbrev pub weighted : (name : Text) → (weight : ℕ) → Command
weighted name weight = Thread name (under (codes "s") (terms.Weight weight) Null)

abbrev pub turned : (name : Text) → Command
turned name = Thread name (under (codes "r") terms.Turn Null)

-- a move of the reservations behind all else, which takes the fair queue's guarantee away
abbrev pub demotion : Command
demotion = Move (codes "e") (under (codes "root") (terms.Prio 2) Null)

-- the threads that are woken and blocked
abbrev pub thread_names : List Text
thread_names = codes "h0" ∷ codes "h1" ∷ codes "h2" ∷ codes "h3" ∷ codes "w0" ∷ codes "w1" ∷ codes "w2" ∷ codes "b0"
    ∷ codes "b1" ∷ []

abbrev pub thread_name : (number : ℕ) → Text
thread_name number = slice_index_or thread_names number (codes "b1")

-- ---- what is made so far: the items, and the state of the draws

pub record Made : Type 0 where
  pub items : List Item
  pub state : ℕ

-- a command more, from this state on
abbrev pub with_command : (tick : ℕ) → Command → (state : ℕ) → Made → Made
with_command tick command state made = record {
  items = made.items ++ (record { tick = tick; command = command }) ∷ [];
  state = state;
}

-- and one for which nothing is drawn
abbrev pub with_plain : (tick : ℕ) → Command → Made → Made
with_plain tick command made = with_command tick command made.state made

-- a reservation of 1 to 5 ticks in every 40 to 99
unfoldable pub with_reserved : (tick : ℕ) → (name : Text) → Made → Made
with_reserved tick name made =
    let first = next_state made.state in
    let second = next_state first in
    with_command tick (reserved name (1 + drawn first 5) (40 + drawn second 60)) second made

-- a weight of 1 to 3
unfoldable pub with_weighted : (name : Text) → Made → Made
with_weighted name made =
    let first = next_state made.state in
    with_command 0 (weighted name (1 + drawn first 3)) first made

-- one of the nine threads is blocked, once in three times, or else is woken for 1 to 20 ticks
unfoldable pub with_wake : (tick : ℕ) → Made → Made
with_wake tick made =
    let first = next_state made.state in
    let second = next_state first in
    let third = next_state second in
    let name = thread_name (drawn first 9) in
    if drawn second 3 == 0 then with_command tick (Block name) second made
    else with_command tick (Wake name None (Some (1 + drawn third 20))) third made

-- the first reservation ends and another comes for it, and the move is tried
unfoldable pub with_exchange : (tick : ℕ) → Made → Made
with_exchange tick made =
    with_plain tick demotion (with_reserved tick (codes "h0") (with_plain tick (End (codes "h0")) made))

unfoldable pub with_round : (tick : ℕ) → Made → Made
with_round tick made = with_wake tick (if tick % 2000 == 0 then with_exchange tick made else made)

-- ---- the scenario

unfoldable pub with_schedulers : Made → Made
with_schedulers made =
    with_plain 0 (load (codes "s") (fair 10 5) (under (codes "e") (terms.Res true 30 100) three_tenths))
    (with_plain 0 (load (codes "r") (configs.Rr 5) (under (codes "root") (terms.Prio 1) Null))
    (with_plain 0 (load (codes "e") configs.Edf (under (codes "root") (terms.Prio 0) All))
    (with_plain 0 (load (codes "root") configs.Fp (record { spot = Cpu; want = All })) made)))

unfoldable pub with_reservations : Made → Made
with_reservations made =
    with_reserved 0 (codes "h3") (with_reserved 0 (codes "h2") (with_reserved 0 (codes "h1")
    (with_reserved 0 (codes "h0") made)))

unfoldable pub with_weights : Made → Made
with_weights made =
    with_weighted (codes "w2") (with_weighted (codes "w1") (with_weighted (codes "w0") made))

unfoldable pub with_turns : Made → Made
with_turns made = with_plain 0 (turned (codes "b1")) (with_plain 0 (turned (codes "b0")) made)

-- all that comes at tick 0
abbrev pub opening : (number : ℕ) → Made
opening number =
    with_turns (with_weights (with_reservations (with_schedulers (record { items = []; state = first_state number }))))

-- so many rounds, one every ten ticks
unfoldable pub after_rounds : (rounds : ℕ) → Made → Made
after_rounds zero made = made
after_rounds (suc rounds) made = with_round (10 * suc rounds) (after_rounds rounds made)

unfoldable pub generated : (number : ℕ) → Scenario
generated number = record {
  version = 1;
  horizon = 20000;
  depth = Some 3;
  items = (after_rounds 1999 (opening number)).items;
}
