-- A command to which no refusal applies, and whose seats have derivations, can be done.
use Rattle.std.proofs.Common.{◌≡◌, ℕ, zero, suc, inl, inr, ◌+◌, ◌<◌, ◌≤◌, List, [], ◌∷◌, length, Option}
use Rattle.std.proofs.Common.{Some, None, Bool, true, refl, sym, ap, ◌∙◌, subst, arith, slice_get}
use Rattle.std.specs.Prelude.{is_some}
use Rattle.std.proofs.lemmas.Bool.{cases_eq, cases_lt}
use Rattle.hls_text.specs.Lines.{Text}
use Rattle.hls_chron.specs.declared.plain.Config.{Config}
use Rattle.hls_chron.specs.declared.plain.Terms.{Terms}
use Rattle.hls_chron.specs.Ledger.{Ledger}
use Rattle.hls_chron.specs.Seats.{terms_at}
use Rattle.hls_chron.specs.Ticks.{count, one_if}
use Rattle.hls_chron.specs.Name.{IsName}
use Rattle.hls_scenario.specs.declared.scenario.Spot.{Spot}
use Rattle.hls_scenario.specs.declared.scenario.Spot.TheVariants.{Cpu, Under}
use Rattle.hls_scenario.specs.declared.scenario.Perch.{Perch}
use Rattle.hls_scenario.specs.declared.scenario.Command.{Command}
use Rattle.hls_scenario.specs.declared.scenario.Command.TheVariants as said
use Rattle.hls_scenario.specs.Grammar as grammar
use Rattle.hls_report_text.specs.declared.refusal.Refusal.{Refusal}
use Rattle.hls_report_text.specs.declared.refusal.Refusal.TheVariants as refusals
use Rattle.hls_machine.specs.Hierarchy.{Hierarchy, Node, Loaded, Admitted, Scheduler, Place, Processor, At, Seat}
use Rattle.hls_machine.specs.Hierarchy.{start, config_of, name_of}
use Rattle.hls_machine.specs.Steps.{Step, Load, Admit, End, Unload, Rouse, Block, state, loaded, effect, nobody}
use Rattle.hls_machine.specs.Legal.{IsChain, IsShallow, MayTake, IsNew, CanLoad, IsLegal, fair_queues}
use Rattle.hls_machine.specs.Lists.{IsListed}
use Rattle.hls_machine.proofs.Kept.{IsSound}
use Rattle.hls_machine.proofs.Lists.{run_listed}
use Rattle.hls_book.proofs.Books.{range_made, admission_made}
use Rattle.hls_machine.proofs.Books.{made_at}
use Rattle.hls_machine.proofs.Solutions.{CanGo, run_goes, start_goes}
use Rattle.hls_legal.specs.Tells.{HasName, IsSpot, burst_of}
use Rattle.hls_legal.specs.Moment.{Moment, number_of, node_of}
use Rattle.hls_legal.specs.Levels.{LeadsTo, HasNewChain}
use Rattle.hls_legal.specs.Dues.{due_at}
use Rattle.hls_legal.specs.Refusals.{seats_taken}
use Rattle.hls_legal.specs.Answers.{Applies}
use Rattle.hls_legal.specs.Doable.{MayDo, AreDerivable}
use Rattle.hls_legal.proofs.Found.{IsFound, named_there, named_is}
use Rattle.hls_legal.proofs.Shallow.{run_shallow, start_shallow}
use Rattle.hls_legal.proofs.Loads.{new_chain}
use Rattle.hls_legal.proofs.Unrefused.{no_command, low_level, few_shares, no_thread, IsSeatFor, seat_for}
use Rattle.hls_legal.proofs.Unrefused.{LeavesRoom, due_follows}
use Rattle.hls_legal.proofs.LoadsDone.{IsLoadShape, load_shape, AreSeatsFor, seats_for, seats_apart, due_from}
use Rattle.hls_legal.proofs.LoadsDone.{spot_at}
use Rattle.hls_chron.proofs.ConfigLaws.{one_queue, few_seats}

-- what is known where a legal run leads
pub record IsReached (h : Hierarchy) : Type 0 where
  pub go : CanGo h
  pub listed : IsListed h
  pub shallow : IsShallow h

pub reached : (steps : List Step) → IsLegal start steps → IsReached (state start steps)
reached steps legal = record {
  go = run_goes steps start start_goes legal;
  listed = run_listed steps legal;
  shallow = run_shallow steps start start_shallow legal;
}

pub queues_short : (h : Hierarchy) (chain : List ℕ) → fair_queues h chain ≤ length chain
queues_short h [] = omega arith
queues_short h (c ∷ chain) =
    let one = one_queue (config_of (h.nodes c)) in
    let rest = queues_short h chain in
    omega (arith, one, rest)

-- ---- commands that take no seat

count_some : (test : ℕ → Bool) (n x : ℕ) → x < n → test x ≡ true → 1 ≤ count test 0 n
unfolding count
count_some test zero x lt on = absurd (omega (arith, lt))
count_some test (suc n) x lt on = elim (cases_eq x n) [
  | inl e ↦
      let zero_more : 0 + n ≡ n = omega arith in
      let one : one_if (test (0 + n)) ≡ 1 = ap one_if (ap test (zero_more ∙ sym e) ∙ on) in
      omega (arith, one)
  | inr ne ↦ let rest = count_some test n x (omega (arith, lt, ne)) on in omega (arith, rest)
]

empty_slot : (b : Ledger) (slot : ℕ) (any : Option Terms) → terms_at b slot ≡ any
    → ((terms : Terms) → terms_at b slot ≡ Some terms → slot < 32) → (1 ≤ seats_taken b → ⊥)
    → terms_at b slot ≡ None
empty_slot b slot None e few free = e
empty_slot b slot (Some terms) e few free =
    absurd (free (count_some (λ s. is_some (terms_at b s)) 32 slot (few terms e) (ap is_some e)))

module _ (m : Moment) (is_reached : IsReached m.hierarchy) where
  abbrev h : Hierarchy
  h = m.hierarchy

  abbrev rank : ℕ → ℕ
  rank = is_reached.go.kept.rank

  pub sound : IsSound h rank
  sound = is_reached.go.kept.sound

  -- whom the command is about
  module _ (c : Command) (none : (r : Refusal) → ¬ Applies m c r) (name : Text)
      (old : Rattle.hls_legal.specs.Moment.old_name c ≡ Some name) where
    unknown : (any : Option Node) → node_of h name ≡ any → (node : Node) × IsFound h name node
    unknown None e = absurd (no_command m c none (refusals.NoSuchName name) (record { old = old; unknown = e }))
    unknown (Some node) e = (node, named_there h name node e)

    pub whom : (node : Node) × IsFound h name node
    whom = unknown (node_of h name) refl

  pub found_is : (name : Text) (node : Node) → IsFound h name node → node_of h name ≡ Some node
  found_is name node f = named_is h is_reached.listed f.number name f.has ∙ f.there

  pub ends : (name : Text) → ((r : Refusal) → ¬ Applies m (said.End name) r) → MayDo h (said.End name)
  ends name none = by (whom (said.End name) none name refl).0 (whom (said.End name) none name refl).1
    where
      by : (node : Node) → IsFound h name node → MayDo h (said.End name)
      by (Loaded s) f = absurd (no_command m (said.End name) none (refusals.WrongSort (Some name))
          (record { old = refl; wrong = record { scheduler = s; there = found_is name (Loaded s) f } }))
      by (Admitted t) f =
          record { step = End f.number; does = f.has; can = record { thread = t; there = f.there } }

  pub blocks : (name : Text) → ((r : Refusal) → ¬ Applies m (said.Block name) r) → MayDo h (said.Block name)
  blocks name none = by (whom (said.Block name) none name refl).0 (whom (said.Block name) none name refl).1
    where
      by : (node : Node) → IsFound h name node → MayDo h (said.Block name)
      by (Loaded s) f = absurd (no_command m (said.Block name) none (refusals.WrongSort (Some name))
          (record { old = refl; wrong = record { scheduler = s; there = found_is name (Loaded s) f } }))
      by (Admitted t) f =
          record { step = Block f.number; does = f.has; can = record { thread = t; there = f.there } }

  pub wakes : (name : Text) (every burst : Option ℕ)
      → ((r : Refusal) → ¬ Applies m (said.Wake name every burst) r) → MayDo h (said.Wake name every burst)
  wakes name every burst none =
      by (whom (said.Wake name every burst) none name refl).0 (whom (said.Wake name every burst) none name refl).1
    where
      by : (node : Node) → IsFound h name node → MayDo h (said.Wake name every burst)
      by (Loaded s) f = absurd (no_command m (said.Wake name every burst) none (refusals.WrongSort (Some name))
          (record { old = refl; wrong = record { scheduler = s; there = found_is name (Loaded s) f } }))
      by (Admitted t) f = record {
        step = Rouse f.number (burst_of every burst);
        does = (f.has, refl);
        can = record { thread = t; there = f.there };
      }

  pub unloads : (name : Text) → ((r : Refusal) → ¬ Applies m (said.Unload name) r) → MayDo h (said.Unload name)
  unloads name none =
      by (whom (said.Unload name) none name refl).0 (whom (said.Unload name) none name refl).1
    where
      by : (node : Node) → IsFound h name node → MayDo h (said.Unload name)
      by (Admitted t) f = absurd (no_command m (said.Unload name) none (refusals.WrongSort (Some name))
          (record { old = refl; wrong = record { thread = t; there = found_is name (Admitted t) f } }))
      by (Loaded s) f =
          let made = made_at h f.number s is_reached.go.made f.there in
          record {
            step = Unload f.number;
            does = f.has;
            can = record {
              scheduler = s;
              there = f.there;
              empty = λ slot. empty_slot s.book slot (terms_at s.book slot) refl
                  (λ terms e.
                  (let lt = (admission_made s.config s.book made).seats.within slot terms e in
                  let few = few_seats s.config (range_made s.config s.book made) in
                  omega (arith, lt, few)))
                  (λ some. no_command m (said.Unload name) none (refusals.NotEmpty name (seats_taken s.book))
                  (record {
                    unloads = refl;
                    place = record { scheduler = s; there = found_is name (Loaded s) f };
                    seats_are = refl;
                    some = some;
                  }));
            };
          }

  -- ---- new nodes

  is_new : (c : Command) (none : (r : Refusal) → ¬ Applies m c r) (name : Text)
      → Rattle.hls_legal.specs.Moment.new_name c ≡ Some name → IsName name
      → IsNew h is_reached.go.finite.count name
  is_new c none name new named = record {
    unused = is_reached.go.finite.none is_reached.go.finite.count (omega arith);
    named = named;
    fresh = λ other has. taken other has (h.nodes other) refl;
  }
    where
      taken : (other : ℕ) → HasName h other name → (any : Option Node) → h.nodes other ≡ any → ⊥
      taken other has None e = (let lost = sym has ∙ ap name_of e in cc)
      taken other has (Some node) e = no_command m c none (refusals.NameTaken name) (record {
        new = new;
        taken = ap is_some (named_is h is_reached.listed other name has ∙ e);
      })

  nothing_left : LeavesRoom h []
  nothing_left p s there not_full = not_full

  -- ---- a thread

  pub admits : (version : ℕ) (name : Text) (perch : Perch) → grammar.IsCommand version (said.Thread name perch)
      → ((r : Refusal) → ¬ Applies m (said.Thread name perch) r) → AreDerivable m (said.Thread name perch)
      → MayDo h (said.Thread name perch)
  admits version name perch is none are =
      let c = said.Thread name perch in
      let seat = seat_for m c none [] nothing_left 0 perch refl is.1
      (due_follows m c are 0 (due_at h name 0 perch) refl) in
      record {
        step = Admit is_reached.go.finite.count name seat.seat;
        does = (refl, seat.is);
        can = record {
          new = is_new c none name refl is.0;
          few = elim (cases_lt (length h.threads) 256) [
            | inl lt ↦ lt
            | inr many ↦ absurd (no_command m c none (refusals.TooManyThreads 256)
                (record { name = name; perch = perch; admits = refl; many = many; most_is = refl }))
          ];
          place = λ at. no_thread m c none 0 perch.spot refl (off_spot seat.seat.place perch.spot seat.is.place at) tt;
          places = record {
            take = take_one seat;
            apart = λ port other one two e f same. lone_ports seat.seat port other one two e f;
          };
        };
      }
    where
      off_spot : (place : Place) (spot : Spot) → IsSpot h place spot → place ≡ Processor → spot ≡ Cpu
      off_spot Processor Cpu is at = refl
      off_spot Processor (Under sched terms) is at = absurd is
      off_spot (At p slot) spot is at = absurd (cc)

      take_one : (s : IsSeatFor h [] perch) (port : ℕ) (seat : Seat) → slice_get (s.seat ∷ []) port ≡ Some seat
          → MayTake h [] seat
      take_one s zero seat e = (let same : s.seat ≡ seat = cc in subst (λ (x : Seat). MayTake h [] x) same s.may)
      take_one s (suc port) seat e = absurd (cc)

      lone_ports : (s : Seat) (port other : ℕ) (one two : Seat) → slice_get (s ∷ []) port ≡ Some one
          → slice_get (s ∷ []) other ≡ Some two → port ≡ other
      lone_ports s zero zero one two e f = refl
      lone_ports s zero (suc other) one two e f = absurd (cc)
      lone_ports s (suc port) other one two e f = absurd (cc)

  -- ---- a load

  module _ (version : ℕ) (name : Text) (config : Config) (perches : List Perch)
      (is : grammar.IsCommand version (said.Load name config perches))
      (none : (r : Refusal) → ¬ Applies m (said.Load name config perches) r)
      (are : AreDerivable m (said.Load name config perches)) where
    abbrev load : Command
    load = said.Load name config perches

    shape : IsLoadShape config perches
    shape = load_shape version config perches is.1

    load_seats : AreSeatsFor h perches
    load_seats = seats_for h perches (λ port perch e.
        let due = due_from h name 0 perches port perch e in
        seat_for m load none [] nothing_left port perch (spot_at perches port perch e) (shape.each port perch e)
        (due_follows m load are port (due_at h name due.0 perch) due.1))

    abbrev k : ℕ
    k = is_reached.go.finite.count

    can_load : CanLoad h k name config load_seats.seats
    can_load = record {
      new = is_new load none name refl is.0;
      few = elim (cases_lt (length h.schedulers) 64) [
        | inl lt ↦ lt
        | inr many ↦ absurd (no_command m load none (refusals.TooManyNodes 64)
            (record {
              name = name;
              config = config;
              perches = perches;
              loads = refl;
              many = many;
              most_is = refl;
            }))
      ];
      kind = shape.kind;
      in_range = shape.in_range;
      ports = load_seats.counted ∙ shape.ports;
      places = record {
        take = load_seats.may;
        apart = seats_apart h config load_seats.seats perches load_seats.are shape;
      };
    }

    leads_low : (spot : Spot) (chain : List ℕ) → LeadsTo h spot chain → length chain ≤ 8
    leads_low Cpu chain is = (let e = ap length is in omega (arith, e))
    leads_low (Under sched terms) chain is = is_reached.shallow.levels chain is.4

    pub new_bounded : (level shares : ℕ) → HasNewChain h config perches level shares → (level ≤ 9) × (shares ≤ 9)
    new_bounded level shares new =
        let low = leads_low new.perch.spot new.chain new.leads in
        let short = queues_short h new.chain in
        let one = one_queue config in
        let is_level = new.level_is in
        let is_shares = new.shares_are in
        (omega (arith, low, is_level), omega (arith, low, short, one, is_shares))

    abbrev scheduler : Scheduler
    scheduler = loaded h.now name config 0 0 load_seats.seats

    abbrev made : Hierarchy
    made = effect h k (Some (Loaded scheduler)) nobody

    low_chain : (chain : List ℕ) → IsChain made None chain
        → (length chain ≤ 8) × (fair_queues made chain ≤ 4)
    low_chain chain on =
        elim (new_chain h rank sound is_reached.listed k can_load.new.unused scheduler perches load_seats.are config
        refl chain on) [
          | inl old ↦
              let shares = is_reached.shallow.shares chain old.0 in
              let same = old.1 in
              (is_reached.shallow.levels chain old.0, omega (arith, shares, same))
          | inr new ↦ (
            low_level m load none 9 new_bounded (length chain) (fair_queues made chain) new,
            few_shares m load none 9 new_bounded (length chain) (fair_queues made chain) new,
          )
        ]

    pub loads : MayDo h load
    loads = record {
      step = Load k name config 0 0 load_seats.seats;
      does = (refl, refl, load_seats.are);
      can = (
        can_load,
        record {
          levels = λ chain on. (low_chain chain on).0;
          shares = λ chain on. (low_chain chain on).1;
        },
      );
    }
