-- The seats of a load to which no refusal applies.
use Rattle.std.proofs.Common.{◌≡◌, ◌≢◌, ℕ, zero, suc, inl, inr, ◌+◌, ◌<◌, List, [], ◌∷◌, length}
use Rattle.std.proofs.Common.{Some, refl, sym, ap, ◌∙◌, subst, arith, slice_get, map}
use Rattle.std.proofs.lemmas.Bool.{cases_lt}
use Rattle.std.specs.List.{AllByRecursion}
use Rattle.hls_text.specs.Lines.{Text}
use Rattle.hls_chron.specs.declared.plain.Config.{Config}
use Rattle.hls_chron.specs.declared.plain.Config.TheVariants as configs
use Rattle.hls_chron.specs.declared.plain.Kind.TheVariants as kinds
use Rattle.hls_chron.specs.Kinds.{kind_of, by_shares}
use Rattle.hls_chron.specs.Ranges.{ConfigInRange}
use Rattle.hls_chron.proofs.ConfigLaws.{by_kind}
use Rattle.hls_scenario.specs.declared.scenario.Spot.{Spot}
use Rattle.hls_scenario.specs.declared.scenario.Spot.TheVariants.{Cpu, Under}
use Rattle.hls_scenario.specs.declared.scenario.Perch.{Perch}
use Rattle.hls_scenario.specs.Grammar as grammar
use Rattle.hls_machine.specs.Hierarchy.{Hierarchy, Place, Processor, At, Seat}
use Rattle.hls_machine.specs.Legal.{scheduler_at, MayTake}
use Rattle.hls_chron.specs.Kinds.{port_count}
use Rattle.hls_legal.specs.Tells.{IsSpot, ArePerches}
use Rattle.hls_legal.specs.Dues.{due_at, dues_from}
use Rattle.hls_legal.proofs.Unrefused.{IsSeatFor}

-- ---- what the grammar says of a load

pub record IsLoadShape (config : Config) (perches : List Perch) : Type 0 where
  pub kind : kind_of config ≢ kinds.Cpu
  pub in_range : ConfigInRange config
  pub ports : length perches ≡ port_count config
  pub each : (port : ℕ) (perch : Perch) → slice_get perches port ≡ Some perch → grammar.IsPerch perch
  pub apart : (port other : ℕ) (one two : Perch) → port < other → slice_get perches port ≡ Some one
      → slice_get perches other ≡ Some two → grammar.Differ one.spot two.spot

lone_shape : (config : Config) (perch : Perch) → kind_of config ≢ kinds.Cpu → port_count config ≡ 1
    → ConfigInRange config → grammar.IsPerch perch → IsLoadShape config (perch ∷ [])
lone_shape config perch kind one in_range is = record {
  kind = kind;
  in_range = in_range;
  ports = sym one;
  each = only;
  apart = none;
}
  where
    only : (port : ℕ) (other : Perch) → slice_get (perch ∷ []) port ≡ Some other → grammar.IsPerch other
    only zero other e = (let same : perch ≡ other = cc in subst (λ (p : Perch). grammar.IsPerch p) same is)
    only (suc port) other e = absurd (cc)

    none : (port other : ℕ) (a b : Perch) → port < other → slice_get (perch ∷ []) port ≡ Some a
        → slice_get (perch ∷ []) other ≡ Some b → grammar.Differ a.spot b.spot
    none port zero a b lt e f = absurd (omega (arith, lt))
    none port (suc other) a b lt e f = absurd (cc)

all_at : {A : Type 0} (P : A → Type 0) (xs : List A) (i : ℕ) (x : A) → AllByRecursion P xs → slice_get xs i ≡ Some x
    → P x
all_at P [] i x all e = absurd (cc)
all_at P (y ∷ ys) zero x all e = (let same : y ≡ x = cc in subst P same all.0)
all_at P (y ∷ ys) (suc i) x all e = all_at P ys i x all.1 e

ports_each : (perches : List Perch) → grammar.ArePorts perches → (port : ℕ) (perch : Perch)
    → slice_get perches port ≡ Some perch → grammar.IsPerch perch
ports_each [] are port perch e = absurd (cc)
ports_each (p ∷ perches) are zero perch e =
    (let same : p ≡ perch = cc in subst (λ (x : Perch). grammar.IsPerch x) same are.0)
ports_each (p ∷ perches) are (suc port) perch e = ports_each perches are.2 port perch e

ports_apart : (perches : List Perch) → grammar.ArePorts perches → (port other : ℕ) (one two : Perch) → port < other
    → slice_get perches port ≡ Some one → slice_get perches other ≡ Some two → grammar.Differ one.spot two.spot
ports_apart [] are port other one two lt e f = absurd (cc)
ports_apart (p ∷ perches) are zero zero one two lt e f = absurd (omega (arith, lt))
ports_apart (p ∷ perches) are zero (suc other) one two lt e f =
    let same : p ≡ one = cc in
    subst (λ (x : Perch). grammar.Differ x.spot two.spot) same
    (all_at (λ (x : Perch). grammar.Differ p.spot x.spot) perches other two are.1 f)
ports_apart (p ∷ perches) are (suc port) zero one two lt e f = absurd (omega (arith, lt))
ports_apart (p ∷ perches) are (suc port) (suc other) one two lt e f =
    ports_apart perches are.2 port other one two (omega (arith, lt)) e f

-- a load with one perch
abbrev IsLone : (version : ℕ) → Config → List Perch → Type 0
IsLone version config (perch ∷ []) = grammar.IsConfig version config × grammar.IsPerch perch
IsLone version config _ = ⊥

lone_load : (version : ℕ) (config : Config) → kind_of config ≢ kinds.Cpu → port_count config ≡ 1
    → (perches : List Perch) → IsLone version config perches → IsLoadShape config perches
lone_load version config kind one (perch ∷ []) is = lone_shape config perch kind one is.0.0 is.1
lone_load version config kind one [] is = absurd is
lone_load version config kind one (perch ∷ other ∷ perches) is = absurd is

pub load_shape : (version : ℕ) (config : Config) (perches : List Perch) → grammar.IsLoad version config perches
    → IsLoadShape config perches
load_shape version = by_kind (λ config. (perches : List Perch) → grammar.IsLoad version config perches
    → IsLoadShape config perches)
    (λ perches is. absurd is) (lone_load version configs.Fp (λ e. cc) refl)
    (lone_load version configs.Edf (λ e. cc) refl)
    (λ sharing. lone_load version (by_shares sharing) (λ e. cc) refl)
    (λ quantum. lone_load version (configs.Rr quantum) (λ e. cc) refl)
    (λ frame. lone_load version (configs.Wheel frame) (λ e. cc) refl)
    (λ ports perches is. record {
      kind = λ e. cc;
      in_range = is.1;
      ports = sym is.0;
      each = ports_each perches is.2;
      apart = ports_apart perches is.2;
    })

-- ---- the seats of a load

pub record AreSeatsFor (h : Hierarchy) (perches : List Perch) : Type 0 where
  pub seats : List Seat
  pub are : ArePerches h seats perches
  pub may : (port : ℕ) (seat : Seat) → slice_get seats port ≡ Some seat → MayTake h [] seat
  pub counted : length seats ≡ length perches

pub seats_for : (h : Hierarchy) (perches : List Perch)
    → ((port : ℕ) (perch : Perch) → slice_get perches port ≡ Some perch → IsSeatFor h [] perch)
    → AreSeatsFor h perches
seats_for h [] each = record { seats = []; are = tt; may = λ port seat e. absurd (cc); counted = refl }
seats_for h (perch ∷ perches) each =
    let one = each 0 perch refl in
    let rest = seats_for h perches (λ port other e. each (suc port) other e) in
    record {
      seats = one.seat ∷ rest.seats;
      are = (one.is, rest.are);
      may = first one rest;
      counted = ap suc rest.counted;
    }
  where
    first : (one : IsSeatFor h [] perch) (rest : AreSeatsFor h perches) (port : ℕ) (seat : Seat)
        → slice_get (one.seat ∷ rest.seats) port ≡ Some seat → MayTake h [] seat
    first one rest zero seat e = (let same : one.seat ≡ seat = cc in subst (λ (s : Seat). MayTake h [] s) same one.may)
    first one rest (suc port) seat e = rest.may port seat e

-- the perch of a seat
pub record IsOfPerch (h : Hierarchy) (perches : List Perch) (port : ℕ) (seat : Seat) : Type 0 where
  pub perch : Perch
  pub at_port : slice_get perches port ≡ Some perch
  pub spot : IsSpot h seat.place perch.spot

of_perch : (h : Hierarchy) (seats : List Seat) (perches : List Perch) (port : ℕ) (seat : Seat)
    → ArePerches h seats perches → slice_get seats port ≡ Some seat → IsOfPerch h perches port seat
of_perch h [] perches port seat are e = absurd (cc)
of_perch h (s ∷ seats) [] port seat are e = absurd are
of_perch h (s ∷ seats) (perch ∷ perches) zero seat are e =
    let same : s ≡ seat = cc in
    record {
      perch = perch;
      at_port = refl;
      spot = subst (λ (x : Seat). IsSpot h x.place perch.spot) same are.0.place;
    }
of_perch h (s ∷ seats) (perch ∷ perches) (suc port) seat are e =
    let rest = of_perch h seats perches port seat are.1 e in
    record { perch = rest.perch; at_port = rest.at_port; spot = rest.spot }

-- places that a command names apart are on schedulers that differ
differ_places : (h : Hierarchy) (here there : Place) (one two : Spot) → IsSpot h here one → IsSpot h there two
    → scheduler_at here ≡ scheduler_at there → ¬ grammar.Differ one two
differ_places h Processor Processor Cpu Cpu is at same differ = differ
differ_places h (At p slot) (At q at_slot) (Under a t) (Under b u) is at same differ =
    (let node : p ≡ q = cc in
    let both = sym is ∙ ap (λ n. Rattle.hls_machine.specs.Hierarchy.name_of (h.nodes n)) node ∙ at in
    differ (cc))
differ_places h Processor (At q at_slot) one two is at same differ = cc
differ_places h (At p slot) Processor one two is at same differ = cc
differ_places h Processor Processor (Under a t) two is at same differ = is
differ_places h Processor Processor Cpu (Under b u) is at same differ = at
differ_places h (At p slot) (At q at_slot) Cpu two is at same differ = is
differ_places h (At p slot) (At q at_slot) (Under a t) Cpu is at same differ = at

pub seats_apart : (h : Hierarchy) (config : Config) (seats : List Seat) (perches : List Perch)
    → ArePerches h seats perches → IsLoadShape config perches → (port other : ℕ) (one two : Seat)
    → slice_get seats port ≡ Some one → slice_get seats other ≡ Some two
    → scheduler_at one.place ≡ scheduler_at two.place → port ≡ other
seats_apart h config seats perches are shape port other one two e f same =
    let a = of_perch h seats perches port one are e in
    let b = of_perch h seats perches other two are f in
    elim (cases_lt port other) [
      | inl lt ↦ absurd (differ_places h one.place two.place a.perch.spot b.perch.spot a.spot b.spot same
          (shape.apart port other a.perch b.perch lt a.at_port b.at_port))
      | inr ge ↦ elim (cases_lt other port) [
        | inl lt ↦ absurd (differ_places h two.place one.place b.perch.spot a.perch.spot b.spot a.spot (sym same)
            (shape.apart other port b.perch a.perch lt b.at_port a.at_port))
        | inr le ↦ omega (arith, ge, le)
      ]
    ]

-- the due of a port
pub due_from : (h : Hierarchy) (name : Text) (first : ℕ) (perches : List Perch) (at : ℕ) (perch : Perch)
    → slice_get perches at ≡ Some perch
    → (port : ℕ) × (slice_get (dues_from h name first perches) at ≡ Some (due_at h name port perch))
due_from h name first [] at perch e = absurd (cc)
due_from h name first (p ∷ perches) zero perch e =
    (first, (let same : p ≡ perch = cc in ap (λ (x : Perch). Some (due_at h name first x)) same))
due_from h name first (p ∷ perches) (suc at) perch e = due_from h name (first + 1) perches at perch e

-- the spot of a port
pub spot_at : (perches : List Perch) (at : ℕ) (perch : Perch) → slice_get perches at ≡ Some perch
    → slice_get (map (λ (p : Perch). p.spot) perches) at ≡ Some perch.spot
spot_at [] at perch e = absurd (cc)
spot_at (p ∷ perches) zero perch e = (let same : p ≡ perch = cc in ap (λ (x : Perch). Some x.spot) same)
spot_at (p ∷ perches) (suc at) perch e = spot_at perches at perch e
