-- The step of a load that nothing refuses.
use Rattle.std.proofs.Common.{◌≡◌, ℕ, suc, inl, inr, List, [], ◌∷◌, Some, None, refl, sym}
use Rattle.std.proofs.Common.{◌≤◌, arith, subst, slice_get, length}
use Rattle.hls_text.specs.Lines.{Text}
use Rattle.hls_chron.specs.declared.plain.Config.{Config}
use Rattle.hls_kinds.specs.Room.{IsFree}
use Rattle.hls_scenario.specs.declared.scenario.Perch.{Perch}
use Rattle.hls_scenario.specs.declared.scenario.Command.{Command}
use Rattle.hls_scenario.specs.declared.scenario.Command.TheVariants as said
use Rattle.hls_scenario.specs.Grammar.{IsCommand}
use Rattle.hls_report_text.specs.declared.refusal.Refusal.{Refusal}
use Rattle.hls_machine.specs.Hierarchy.{Hierarchy, Loaded, Scheduler, At, Seat}
use Rattle.hls_machine.specs.Hierarchy.{book_of, config_of, start}
use Rattle.hls_machine.specs.Steps.{Step, Load, state, effect, nobody, loaded}
use Rattle.hls_machine.specs.Legal.{MayTake, CanLoad, Can, IsLegal, IsChain, fair_queues}
use Rattle.hls_machine.specs.Lists.{IsListed}
use Rattle.hls_legal.specs.Tells.{ArePerches, Does}
use Rattle.hls_legal.specs.Moment.{Moment}
use Rattle.hls_legal.specs.Answers.{Applies}
use Rattle.hls_legal.specs.Doable.{MayDo, AreDerivable}
use Rattle.hls_legal.proofs.Done.{IsReached, reached, sound, new_bounded}
use Rattle.hls_legal.proofs.Converse.{may_do}
use Rattle.hls_legal.proofs.Loads.{new_chain}
use Rattle.hls_legal.proofs.Unrefused.{low_level, few_shares}
use Rattle.hls_manager.proofs.Admits.{same_seat}

-- each at the least slot that is free
abbrev pub AreAtFree : Hierarchy → List Seat → Type 0
AreAtFree h seats = (port : ℕ) (seat : Seat) → slice_get seats port ≡ Some seat → (p slot : ℕ)
    → seat.place ≡ At p slot → IsFree (config_of (h.nodes p)) (book_of (h.nodes p)) slot

same_seats : (h : Hierarchy) → IsListed h → (seats others : List Seat) (perches : List Perch)
    → ArePerches h seats perches → ArePerches h others perches → AreAtFree h seats
    → ((port : ℕ) (seat : Seat) → slice_get others port ≡ Some seat → MayTake h [] seat) → others ≡ seats
same_seats h listed [] [] [] a b free may = refl
same_seats h listed (s ∷ seats) (o ∷ others) (perch ∷ perches) a b free may =
    let one = same_seat h listed [] perch s o (record { is = a.0; free = free 0 s refl }) b.0 (may 0 o refl) in
    let rest = same_seats h listed seats others perches a.1 b.1 (λ port seat e. free (suc port) seat e)
    (λ port seat e. may (suc port) seat e) in
    λ i. one i ∷ rest i
same_seats h listed [] (o ∷ others) [] a b free may = absurd b
same_seats h listed [] others (perch ∷ perches) a b free may = absurd a
same_seats h listed (s ∷ seats) others [] a b free may = absurd a
same_seats h listed (s ∷ seats) [] (perch ∷ perches) a b free may = absurd b

module _ (m : Moment) (past : List Step) (legal : IsLegal start past) (leads : m.hierarchy ≡ state start past)
    (name : Text) (config : Config) (perches : List Perch)
    (within : IsCommand 2 (said.Load name config perches))
    (none : (r : Refusal) → ¬ Applies m (said.Load name config perches) r)
    (derivable : AreDerivable m (said.Load name config perches)) where
  abbrev h : Hierarchy
  h = m.hierarchy

  abbrev c : Command
  c = said.Load name config perches

  pub is_reached : IsReached h
  is_reached = subst (λ (g : Hierarchy). IsReached g) (sym leads) (reached past legal)

  may : MayDo h c
  may = may_do m is_reached 2 c within none derivable

  record IsLoaded : Type 0 where
    pub k : ℕ
    pub seats : List Seat
    pub are : ArePerches h seats perches
    pub can : CanLoad h k name config seats

  by_step : (step : Step) → Does h c step → Can h step → IsLoaded
  by_step (Load k new set spare_ticks spare_marks seats) does can = record {
    k = k;
    seats = seats;
    are = does.2;
    can = subst (λ (x : Config). CanLoad h k name x seats) does.1
        (subst (λ (n : Text). CanLoad h k n set seats) does.0 can.0);
  }
  by_step _ does can = absurd does

  some : IsLoaded
  some = by_step may.step may.does may.can

  module _ (k spare_ticks spare_marks : ℕ) (seats : List Seat) (unused : h.nodes k ≡ None)
      (are : ArePerches h seats perches) (free : AreAtFree h seats) where
    same : some.seats ≡ seats
    same = same_seats h is_reached.listed seats some.seats perches are some.are free some.can.places.take

    can_load : CanLoad h k name config seats
    can_load =
        let can : CanLoad h some.k name config seats =
        subst (λ (s : List Seat). CanLoad h some.k name config s) same some.can in
        record {
          new = record { unused = unused; named = can.new.named; fresh = can.new.fresh };
          few = can.few;
          kind = can.kind;
          in_range = can.in_range;
          ports = can.ports;
          places = can.places;
        }

    abbrev scheduler : Scheduler
    scheduler = loaded h.now name config spare_ticks spare_marks seats

    abbrev made : Hierarchy
    made = effect h k (Some (Loaded scheduler)) nobody

    low_chain : (chain : List ℕ) → IsChain made None chain → (length chain ≤ 8) × (fair_queues made chain ≤ 4)
    low_chain chain on =
        elim (new_chain h is_reached.go.kept.rank (sound m is_reached) is_reached.listed k unused scheduler perches are
        config refl chain on) [
          | inl old ↦
              let shares = is_reached.shallow.shares chain old.0 in
              let is = old.1 in
              (is_reached.shallow.levels chain old.0, omega (arith, shares, is))
          | inr new ↦ (
            low_level m c none 9 (new_bounded m is_reached 2 name config perches within none derivable) (length chain)
                (fair_queues made chain) new,
            few_shares m c none 9 (new_bounded m is_reached 2 name config perches within none derivable)
                (length chain) (fair_queues made chain) new,
          )
        ]

    -- the seats that were taken, on a node that is new
    pub can : Can h (Load k name config spare_ticks spare_marks seats)
    can = (
      can_load,
      record {
        levels = λ chain on. (low_chain chain on).0;
        shares = λ chain on. (low_chain chain on).1;
      },
    )
