-- What is generated is within the grammar.
use Rattle.std.proofs.Common.{◌≡◌, ℕ, zero, suc, ◌+◌, ◌*◌, ◌%◌, ◌==◌, ◌<◌, ◌≤◌, refl, arith}
use Rattle.std.proofs.Common.{List, [], ◌∷◌, ◌++◌, length, lit≤}
use Rattle.std.proofs.Common.{Bool, true, false, if◌then◌else◌, Some, None, subst, codes, slice_index_or, sym, ◌/◌}
use Rattle.std.proofs.Math.Nat.{mod-lt}
use Rattle.hls_text.specs.Lines.{Text}
use Rattle.hls_chron.specs.Name.{IsName}
use Rattle.hls_scenario.specs.declared.scenario.Command.{Command}
use Rattle.hls_scenario.specs.declared.scenario.Command.TheVariants as said
use Rattle.hls_scenario.specs.declared.scenario.Item.{Item}
use Rattle.hls_scenario.specs.declared.scenario.Spot.TheVariants.{Cpu}
use Rattle.hls_scenario.specs.declared.scenario.Perch.{Perch}
use Rattle.hls_scenario.specs.Grammar.{IsCommand, IsLoad, AreItems, IsScenario}
use Rattle.hls_chron.specs.declared.plain.Config.{Config}
use Rattle.hls_chron.specs.declared.plain.Config.TheVariants as configs
use Rattle.hls_chron.specs.declared.plain.Terms.TheVariants as terms
use Rattle.hls_chron.specs.Kinds.{fair}
use Rattle.hls_guarantee.specs.declared.Guarantee.TheVariants.{All, Null}
use Rattle.hls_gen.specs.Draws.{next_state, drawn}
use Rattle.hls_gen.specs.Generated.{Made, with_command, with_plain, with_reserved, with_weighted, with_wake}
use Rattle.hls_gen.specs.Generated.{with_exchange, with_round, with_schedulers, with_reservations, with_weights}
use Rattle.hls_gen.specs.Generated.{with_turns, opening, after_rounds, generated, reserved, weighted, turned, demotion}
use Rattle.hls_gen.specs.Generated.{thread_name, thread_names, load, under, three_tenths}
use Rattle.hls_gen.proofs.Shares.{narrow_share}
use Rattle.hls_gen.proofs.Rounds.{rounds_none, rounds_more}

-- ---- items at the end of a list

abbrev last_tick : (last : ℕ) → List Item → ℕ
last_tick last [] = last
last_tick last (item ∷ items) = last_tick item.tick items

items_snoc : (horizon last : ℕ) (items : List Item) (item : Item) → AreItems 1 horizon last items
    → IsCommand 1 item.command → last_tick last items ≤ item.tick → item.tick < horizon
    → AreItems 1 horizon last (items ++ item ∷ [])
items_snoc horizon last [] item are is from below = (is, from, below, tt)
items_snoc horizon last (first ∷ items) item are is from below =
    (are.0, are.1, are.2, items_snoc horizon first.tick items item are.3 is from below)

last_snoc : (last : ℕ) (items : List Item) (item : Item) → last_tick last (items ++ item ∷ []) ≡ item.tick
last_snoc last [] item = refl
last_snoc last (first ∷ items) item = last_snoc first.tick items item

length_snoc : (items : List Item) (item : Item) → length (items ++ item ∷ []) ≡ suc (length items)
length_snoc [] item = refl
length_snoc (first ∷ items) item = (let more = length_snoc items item in cc)

-- so many items at most, of ticks up to this one
pub record Is (tick count : ℕ) (made : Made) : Type 0 where
  pub items : AreItems 1 20000 0 made.items
  pub late : last_tick 0 made.items ≤ tick
  pub few : length made.items ≤ count

put : (before tick count state : ℕ) (command : Command) (made : Made) → IsCommand 1 command → before ≤ tick
    → tick < 20000 → Is before count made → Is tick (suc count) (with_command tick command state made)
put before tick count state command made is from below has =
    let item : Item = record { tick = tick; command = command } in
    let late = has.late in
    let last = last_snoc 0 made.items item in
    let few = has.few in
    let more = length_snoc made.items item in
    record {
      items = items_snoc 20000 0 made.items item has.items is (omega (arith, late, from)) below;
      late = omega (arith, last);
      few = omega (arith, few, more);
    }

-- ---- commands

below_one : (state bound : ℕ) → 0 < bound → drawn state bound < bound
below_one state bound some = mod-lt (state / 65536) some

is_reserved : (name : Text) (x y : ℕ) → IsName name → 1 ≤ x → x ≤ 5 → 40 ≤ y → y ≤ 99
    → IsCommand 1 (reserved name x y)
is_reserved name x y is low high from to = (
  is,
  record {
    spot = (refl, (low, omega (arith, high, from), omega (arith, to)));
    want = record { some = low; fits = omega (arith, high, from); size = omega (arith, to) };
  },
)

is_weighted : (name : Text) (weight : ℕ) → IsName name → 1 ≤ weight → weight ≤ 3
    → IsCommand 1 (weighted name weight)
is_weighted name weight is low high = (is, record { spot = (refl, (low, omega (arith, high))); want = tt })

abbrev AreNames : List Text → Type 0
AreNames [] = Unit {0}
AreNames (name ∷ names) = IsName name × AreNames names

named_in : (names : List Text) (other : Text) (number : ℕ) → AreNames names → IsName other
    → IsName (slice_index_or names number other)
named_in [] other number are is = is
named_in (name ∷ names) other zero are is = are.0
named_in (name ∷ names) other (suc number) are is = named_in names other number are.1 is

name_at : (number : ℕ) → IsName (thread_name number)
name_at number =
    named_in thread_names (codes "b1") number
    (refl, (refl, (refl, (refl, (refl, (refl, (refl, (refl, (refl, tt))))))))) refl

-- ---- steps

module _ (tick count : ℕ) (made : Made) (before : ℕ) (from : before ≤ tick) (below : tick < 20000)
    (has : Is before count made) where
  pub plain : (command : Command) → IsCommand 1 command → Is tick (suc count) (with_plain tick command made)
  plain command is = put before tick count made.state command made is from below has

  pub reserve : (name : Text) → IsName name → Is tick (suc count) (with_reserved tick name made)
  unfolding with_reserved
  reserve name is =
      let first = next_state made.state in
      let second = next_state first in
      let x = below_one first 5 (omega arith) in
      let y = below_one second 60 (omega arith) in
      put before tick count second _ made
      (is_reserved name (1 + drawn first 5) (40 + drawn second 60) is (omega arith) (omega (arith, x)) (omega arith)
      (omega (arith, y))) from below has

  pub wake : Is tick (suc count) (with_wake tick made)
  unfolding with_wake
  wake =
      let first = next_state made.state in
      let second = next_state first in
      let third = next_state second in
      let ticks = below_one third 20 (omega arith) in
      by (drawn second 3 == 0) ticks
    where
      by : (blocks : Bool) → drawn (next_state (next_state (next_state made.state))) 20 < 20
          → Is tick (suc count) (if blocks then
          with_command tick (said.Block (thread_name (drawn (next_state made.state) 9)))
          (next_state (next_state made.state)) made
          else with_command tick
          (said.Wake (thread_name (drawn (next_state made.state) 9)) None
          (Some (1 + drawn (next_state (next_state (next_state made.state))) 20)))
          (next_state (next_state (next_state made.state))) made)
      by true ticks = put before tick count _ _ made (name_at _) from below has
      by false ticks = put before tick count _ _ made (name_at _, (omega arith, omega (arith, ticks))) from below has

module _ (count : ℕ) (made : Made) (has : Is 0 count made) where
  pub weight : (name : Text) → IsName name → Is 0 (suc count) (with_weighted name made)
  unfolding with_weighted
  weight name is =
      let first = next_state made.state in
      let most = below_one first 3 (omega arith) in
      put 0 0 count first _ made (is_weighted name (1 + drawn first 3) is (omega arith) (omega (arith, most)))
      (omega arith) (omega arith) has

-- ---- the opening

is_load : (name : Text) → IsName name → (config : Config) (perch : Perch) → IsLoad 1 config (perch ∷ [])
    → IsCommand 1 (load name config perch)
is_load name is config perch load = (is, load)

schedulers : (made : Made) → Is 0 0 made → Is 0 4 (with_schedulers made)
unfolding with_schedulers
schedulers made has =
    let first = plain 0 0 made 0 (omega arith) (omega arith) has
    (load (codes "root") configs.Fp (record { spot = Cpu; want = All }))
    (refl, ((tt, tt), record { spot = tt; want = tt })) in
    let second = plain 0 1 _ 0 (omega arith) (omega arith) first
    (load (codes "e") configs.Edf (under (codes "root") (terms.Prio 0) All))
    (refl, ((tt, tt), record { spot = (refl, omega arith); want = tt })) in
    let third = plain 0 2 _ 0 (omega arith) (omega arith) second
    (load (codes "r") (configs.Rr 5) (under (codes "root") (terms.Prio 1) Null))
    (refl, (((omega arith, omega arith), tt), record { spot = (refl, omega arith); want = tt })) in
    plain 0 3 _ 0 (omega arith) (omega arith) third
    (load (codes "s") (fair 10 5) (under (codes "e") (terms.Res true 30 100) three_tenths)) (
      refl,
      (
        (((omega arith, omega arith), (omega arith, omega arith), (omega arith, omega arith)), λ one. refl),
        record { spot = (refl, (omega arith, omega arith, omega arith)); want = narrow_share },
      ),
    )

reservations : (count : ℕ) (made : Made) → Is 0 count made → Is 0 (suc (suc (suc (suc count)))) (with_reservations made)
unfolding with_reservations
reservations count made has =
    let first = reserve 0 count made 0 (omega arith) (omega arith) has (codes "h0") refl in
    let second = reserve 0 (suc count) _ 0 (omega arith) (omega arith) first (codes "h1") refl in
    let third = reserve 0 (suc (suc count)) _ 0 (omega arith) (omega arith) second (codes "h2") refl in
    reserve 0 (suc (suc (suc count))) _ 0 (omega arith) (omega arith) third (codes "h3") refl

weights : (count : ℕ) (made : Made) → Is 0 count made → Is 0 (suc (suc (suc count))) (with_weights made)
unfolding with_weights
weights count made has =
    let first = weight count made has (codes "w0") refl in
    let second = weight (suc count) _ first (codes "w1") refl in
    weight (suc (suc count)) _ second (codes "w2") refl

turns : (count : ℕ) (made : Made) → Is 0 count made → Is 0 (suc (suc count)) (with_turns made)
unfolding with_turns
turns count made has =
    let first = plain 0 count made 0 (omega arith) (omega arith) has (turned (codes "b0"))
    (refl, record { spot = (refl, tt); want = tt }) in
    plain 0 (suc count) _ 0 (omega arith) (omega arith) first (turned (codes "b1"))
    (refl, record { spot = (refl, tt); want = tt })

opened : (number : ℕ) → Is 0 13 (opening number)
opened number =
    turns 11 _ (weights 8 _ (reservations 4 _ (schedulers _ (record {
      items = tt;
      late = omega arith;
      few = omega arith;
    }))))

-- ---- rounds

exchange : (tick count : ℕ) (made : Made) (before : ℕ) → before ≤ tick → tick < 20000 → Is before count made
    → Is tick (suc (suc (suc count))) (with_exchange tick made)
unfolding with_exchange
exchange tick count made before from below has =
    let first = plain tick count made before from below has (said.End (codes "h0")) refl in
    let second = reserve tick (suc count) _ tick (omega arith) below first (codes "h0") refl in
    plain tick (suc (suc count)) _ tick (omega arith) below second demotion
    (refl, record { spot = (refl, omega arith); want = tt })

more : (tick count : ℕ) (made : Made) → Is tick count made → Is tick (suc (suc (suc count))) made
more tick count made has =
    let few = has.few in
    record { items = has.items; late = has.late; few = omega (arith, few) }

later : (before tick count : ℕ) (made : Made) → before ≤ tick → Is before count made → Is tick count made
later before tick count made from has =
    let late = has.late in
    record { items = has.items; late = omega (arith, late, from); few = has.few }

amid : (exchanges : Bool) (tick count : ℕ) (made : Made) (before : ℕ) → before ≤ tick → tick < 20000
    → Is before count made → Is tick (suc (suc (suc count))) (if exchanges then with_exchange tick made else made)
amid true tick count made before from below has = exchange tick count made before from below has
amid false tick count made before from below has = more tick count made (later before tick count made from has)

round : (tick count : ℕ) (made : Made) (before : ℕ) → before ≤ tick → tick < 20000 → Is before count made
    → Is tick (suc (suc (suc (suc count)))) (with_round tick made)
unfolding with_round
round tick count made before from below has =
    wake tick (suc (suc (suc count))) _ tick (omega arith) below
    (amid (tick % 2000 == 0) tick count made before from below has)

rounds : (n : ℕ) (made : Made) → n ≤ 1999 → Is 0 13 made → Is (10 * n) (4 * n + 13) (after_rounds n made)
rounds zero made few has = subst (λ (m : Made). Is 0 13 m) (sym (rounds_none made)) has
rounds (suc n) made few has =
    let before = rounds n made (omega (arith, few)) has in
    let next =
    round (10 * suc n) (4 * n + 13) (after_rounds n made) (10 * n) (omega arith) (omega (arith, few)) before in
    let few = next.few in
    subst (λ (m : Made). Is (10 * suc n) (4 * suc n + 13) m) (sym (rounds_more n made))
    (record { items = next.items; late = next.late; few = omega (arith, few) })

pub generated_within : (number : ℕ) → IsScenario (generated number)
unfolding generated
generated_within number =
    let all = rounds 1999 (opening number) (omega arith) (opened number) in
    let few = all.few in
    record {
      version = (omega arith, omega arith);
      horizon = (omega arith, lit≤ tt);
      depth = omega arith;
      few = omega (arith, few);
      items = all.items;
    }
