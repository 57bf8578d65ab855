-- What is known of the places of a command that no refusal applies to.
use Rattle.std.proofs.Common.{◌≡◌, ℕ, zero, suc, inl, inr, ◌+◌, ◌<◌, ◌≤◌, List, Option}
use Rattle.std.proofs.Common.{Some, None, refl, sym, ap, subst, arith, slice_get}
use Rattle.std.specs.Prelude.{is_some}
use Rattle.std.proofs.lemmas.Bool.{cases_lt}
use Rattle.hls_text.specs.Lines.{Text}
use Rattle.hls_chron.specs.declared.plain.Terms.{Terms}
use Rattle.hls_chron.specs.declared.plain.Terms.TheVariants as terms
use Rattle.hls_chron.specs.Kinds.{kind_of, terms_kind}
use Rattle.hls_chron.specs.Ranges.{TermsInRange}
use Rattle.hls_kinds.specs.declared.fault.SeatFault.{SeatFault}
use Rattle.hls_kinds.specs.declared.fault.SeatFault.TheVariants as faults
use Rattle.hls_kinds.specs.Faults as seats
use Rattle.hls_kinds.specs.Fits.{Fits}
use Rattle.hls_kinds.specs.Room.{IsFull}
use Rattle.hls_guarantee.specs.declared.Guarantee.{Guarantee}
use Rattle.hls_scenario.specs.declared.scenario.Spot.{Spot}
use Rattle.hls_scenario.specs.declared.scenario.Spot.TheVariants.{Cpu, Under}
use Rattle.hls_scenario.specs.declared.scenario.Perch.{Perch}
use Rattle.hls_scenario.specs.declared.scenario.Command.{Command}
use Rattle.hls_scenario.specs.Grammar as grammar
use Rattle.hls_report_text.specs.declared.refusal.Refusal.{Refusal}
use Rattle.hls_report_text.specs.declared.refusal.Refusal.TheVariants as refusals
use Rattle.hls_machine.specs.Ledgers.{with_marks}
use Rattle.hls_machine.specs.Derived.{Follows}
use Rattle.hls_machine.specs.Hierarchy.{Hierarchy, Node, Loaded, Admitted, Scheduler, Processor, At, Seat}
use Rattle.hls_machine.specs.Hierarchy.{haves_of, config_of}
use Rattle.hls_machine.specs.Steps.{leavings}
use Rattle.hls_machine.specs.Legal.{SeatInRange, MayTake}
use Rattle.hls_legal.specs.Tells.{HasName, IsPerch, terms_in}
use Rattle.hls_legal.specs.Moment.{Moment, number_of, node_of, spots_of}
use Rattle.hls_legal.specs.Levels.{HasChainAfter}
use Rattle.hls_legal.specs.Dues.{Due, dues, config_there, haves_there}
use Rattle.hls_legal.specs.Refusals.{PlacesThread}
use Rattle.hls_legal.specs.Answers.{RefusesCommand, RefusesPlace, Applies}
use Rattle.hls_legal.specs.Doable.{AreDerivable}
use Rattle.hls_legal.proofs.Found.{named_there}
use Rattle.hls_legal.proofs.KindLaws.{kind_cases}
use Rattle.hls_legal.proofs.FreeSlots.{some_free}
use Rattle.hls_machine.proofs.Follows.{derivation_follows}
use Rattle.hls_legal.proofs.Shallow.{none_greatest}

-- ---- a seat for a perch

pub record IsSeatFor (h : Hierarchy) (left : List Seat) (perch : Perch) : Type 0 where
  pub seat : Seat
  pub is : IsPerch h seat perch
  pub may : MayTake h left seat

-- leaving these seats makes no scheduler full
abbrev pub LeavesRoom : Hierarchy → List Seat → Type 0
LeavesRoom h left = (p : ℕ) (s : Scheduler) → h.nodes p ≡ Some (Loaded s) → ¬ IsFull s.config s.book
    → ¬ IsFull s.config (with_marks s.book (leavings left p))

pub spot_terms : (spot : Spot) → grammar.IsSpot spot → TermsInRange (terms_in spot)
spot_terms Cpu is = tt
spot_terms (Under sched terms.Cpu) is = absurd is.1
spot_terms (Under sched (terms.Prio priority)) is = is.1
spot_terms (Under sched (terms.Res hard x y)) is = is.1
spot_terms (Under sched (terms.Weight weight)) is = is.1
spot_terms (Under sched (terms.Slots places)) is = is.1
spot_terms (Under sched terms.Turn) is = tt
spot_terms (Under sched terms.Sole) is = tt

module _ (m : Moment) (c : Command) (none : (r : Refusal) → ¬ Applies m c r) where
  abbrev h : Hierarchy
  h = m.hierarchy

  pub no_command : (r : Refusal) → ¬ RefusesCommand m c r
  no_command r f = none r (inl f)

  no_place_by : (room port : ℕ) → port < room → (spot : Spot) → slice_get (spots_of c) port ≡ Some spot
      → (r : Refusal) → ¬ RefusesPlace h c spot r
  no_place_by zero port lt spot e r f = absurd (omega (arith, lt))
  no_place_by (suc room) port lt spot e r f = none r (inr (record {
    first = record {
      at = port;
      item = spot;
      item_is = e;
      tells = record { refuses = f; number_is = refl };
      first = λ before other some earlier at by.
          no_place_by room before (omega (arith, lt, earlier)) other at some by.refuses;
    };
    only = λ other same g. none other (inl g);
  }))

  -- no place refuses
  pub no_place : (port : ℕ) (spot : Spot) → slice_get (spots_of c) port ≡ Some spot → (r : Refusal)
      → ¬ RefusesPlace h c spot r
  no_place port spot e r f = no_place_by (port + 1) port (omega arith) spot e r f

  -- ---- levels and shares

  abbrev IsDeep : ℕ → Type 0
  IsDeep level = (8 < level) × ((shares : ℕ) × HasChainAfter h c level shares)

  abbrev IsShared : ℕ → Type 0
  IsShared shares = (4 < shares) × ((level : ℕ) × HasChainAfter h c level shares)

  module _ (most : ℕ)
      (bounded : (level shares : ℕ) → HasChainAfter h c level shares → (level ≤ most) × (shares ≤ most)) where
    deep_none : (level : ℕ) → IsDeep level
        → ((other : ℕ) → IsDeep other → other ≤ level) → ⊥
    deep_none level deep greatest = no_command (refusals.TooDeep level) (record {
      shares = deep.1.0;
      chain = deep.1.1;
      greatest = λ other fewer has. elim (cases_lt 8 other) [
        | inl more ↦ greatest other (more, (fewer, has))
        | inr le ↦ (let above = deep.0 in omega (arith, le, above))
      ];
      above = deep.0;
    })

    shared_none : (shares : ℕ) → IsShared shares
        → ((other : ℕ) → IsShared other → other ≤ shares) → ⊥
    shared_none shares shared greatest = no_command (refusals.TooManyShares shares) (record {
      level = shared.1.0;
      chain = shared.1.1;
      greatest = λ deep other has. elim (cases_lt 4 other) [
        | inl more ↦ greatest other (more, (deep, has))
        | inr le ↦ (let above = shared.0 in omega (arith, le, above))
      ];
      above = shared.0;
    })

    pub low_level : (level shares : ℕ) → HasChainAfter h c level shares → level ≤ 8
    low_level level shares has = elim (cases_lt 8 level) [
      | inl more ↦ absurd (none_greatest IsDeep most (λ n deep. (bounded n deep.1.0 deep.1.1).0) deep_none level
          (more, (shares, has)))
      | inr le ↦ le
    ]

    pub few_shares : (level shares : ℕ) → HasChainAfter h c level shares → shares ≤ 4
    few_shares level shares has = elim (cases_lt 4 shares) [
      | inl more ↦ absurd (none_greatest IsShared most (λ n shared. (bounded shared.1.0 n shared.1.1).1)
          shared_none shares (more, (level, has)))
      | inr le ↦ le
    ]

  -- ---- places

  -- the scheduler at a place
  pub record IsSchedulerAt (sched : Text) : Type 0 where
    pub scheduler : Scheduler
    pub number : ℕ
    pub has : HasName h number sched
    pub there : h.nodes number ≡ Some (Loaded scheduler)
    pub found : number_of h sched ≡ Some number
    pub is : node_of h sched ≡ Some (Loaded scheduler)

  module _ (port : ℕ) (spot : Spot) (at_port : slice_get (spots_of c) port ≡ Some spot) where
    refuses_none : (r : Refusal) → ¬ RefusesPlace h c spot r
    refuses_none = no_place port spot at_port

    scheduler_by : (sched : Text) (t : Terms) → spot ≡ Under sched t → (any : Option Node) → node_of h sched ≡ any
        → IsSchedulerAt sched
    scheduler_by sched t e None f =
        absurd (subst (λ (s : Spot). ¬ RefusesPlace h c s (refusals.NoSuchName sched)) e
        (refuses_none (refusals.NoSuchName sched)) (record { place = refl; unknown = f }))
    scheduler_by sched t e (Some (Admitted x)) f =
        absurd (subst (λ (s : Spot). ¬ RefusesPlace h c s (refusals.WrongSort (Some sched))) e
        (refuses_none (refusals.WrongSort (Some sched))) (refl, record { thread = x; there = f }))
    scheduler_by sched t e (Some (Loaded s)) f =
        let found = named_there h sched (Loaded s) f in
        record {
          scheduler = s;
          number = found.number;
          has = found.has;
          there = found.there;
          found = found.found;
          is = f;
        }

    pub scheduler_at_place : (sched : Text) (t : Terms) → spot ≡ Under sched t → IsSchedulerAt sched
    scheduler_at_place sched t e = scheduler_by sched t e (node_of h sched) refl

    module _ (sched : Text) (t : Terms) (e : spot ≡ Under sched t) (s : Scheduler)
        (is : node_of h sched ≡ Some (Loaded s)) where
      sound : (fault : SeatFault) → seats.Applies s.config s.book t fault → (r : Refusal)
          → (Rattle.hls_legal.specs.Refusals.HasFault h spot sched fault → RefusesPlace h c spot r) → ⊥
      sound fault f r refuses =
          refuses_none r (refuses (record { terms = t; place = e; scheduler = s; there = is; applies = f }))

      of_kind : terms_kind t ≡ kind_of s.config
      of_kind = elim (kind_cases (terms_kind t) (kind_of s.config)) [
        | inl same ↦ same
        | inr ne ↦ absurd (sound faults.Unfit (inl ne) (refusals.TermsUnfit sched) (λ f. f))
      ]

      pub fits : Fits s.config s.book t
      fits = record {
        of_kind = of_kind;
        within = λ more. sound faults.Unfit (inr more) (refusals.TermsUnfit sched) (λ f. f);
        apart = λ priority prio has. sound (faults.PriorityTaken priority) (prio, has)
            (refusals.PriorityTaken priority) (λ f. (sched, f));
        room = λ free asked lacks. sound (faults.NoRoom free asked) lacks (refusals.NoRoom free asked)
            (λ f. (sched, f));
      }

      pub not_full : ¬ IsFull s.config s.book
      not_full full =
          sound (faults.Full (Rattle.hls_chron.specs.Seats.most_seats s.config)) (full, refl)
          (refusals.SeatsFull (Some sched) (Rattle.hls_chron.specs.Seats.most_seats s.config)) (λ f. f)

    root_by : spot ≡ Cpu → (root : Option ℕ) → h.root ≡ root → h.root ≡ None
    root_by e None f = f
    root_by e (Some k) f =
        absurd (refuses_none (refusals.SeatsFull None 1)
        (record { place = e; taken = ap is_some f; seats_are = refl }))

    pub root_free : spot ≡ Cpu → h.root ≡ None
    root_free e = root_by e h.root refl

    pub no_thread : spot ≡ Cpu → ¬ PlacesThread h c
    no_thread e places =
        subst (λ (s : Spot). ¬ RefusesPlace h c s (refusals.WrongSort None)) e
        (refuses_none (refusals.WrongSort None)) places

  -- ---- the seat for a perch

  module _ (left : List Seat) (roomy : LeavesRoom h left) (port : ℕ) (perch : Perch)
      (at_port : slice_get (spots_of c) port ≡ Some perch.spot) (within : grammar.IsPerch perch)
      (follows : Follows (config_there h perch.spot) (terms_in perch.spot) (haves_there h perch.spot) perch.want)
    where
      follows_at : (spot : Spot) → perch.spot ≡ spot
          → Follows (config_there h spot) (terms_in spot) (haves_there h spot) perch.want
      follows_at spot e =
          subst (λ (s : Spot). Follows (config_there h s) (terms_in s) (haves_there h s) perch.want) e follows

      in_range : (seat : Seat) → seat.terms ≡ terms_in perch.spot → seat.kept ≡ perch.want → SeatInRange seat
      in_range seat e f = record {
        terms = subst (λ (t : Terms). TermsInRange t) (sym e) (spot_terms perch.spot within.spot);
        kept = subst (λ (g : Guarantee). Rattle.hls_guarantee.specs.Limits.IsNarrow g) (sym f) within.want;
      }

      seat_by : (spot : Spot) → perch.spot ≡ spot → IsSeatFor h left perch
      seat_by Cpu e =
          let seat : Seat = record { place = Processor; terms = terms.Cpu; kept = perch.want } in
          record {
            seat = seat;
            is = record {
              place = subst (Rattle.hls_legal.specs.Tells.IsSpot h Processor) (sym e) tt;
              terms = sym (ap terms_in e);
              kept = refl;
            };
            may = record {
              in_range = in_range seat (sym (ap terms_in e)) refl;
              free = record {
                fits = refl;
                free = root_free port perch.spot at_port e;
                derived = follows_at Cpu e;
              };
            };
          }
      seat_by (Under sched t) e =
          let at = scheduler_at_place port perch.spot at_port sched t e in
          let s = at.scheduler in
          let open_slot = some_free s.config (with_marks s.book (leavings left at.number))
          (roomy at.number s at.there (not_full port perch.spot at_port sched t e s at.is)) in
          let seat : Seat = record { place = At at.number open_slot.0; terms = t; kept = perch.want } in
          record {
            seat = seat;
            is = record {
              place = subst (Rattle.hls_legal.specs.Tells.IsSpot h (At at.number open_slot.0)) (sym e) at.has;
              terms = sym (ap terms_in e);
              kept = refl;
            };
            may = record {
              in_range = in_range seat (sym (ap terms_in e)) refl;
              free = record {
                scheduler = s;
                there = at.there;
                fits = fits port perch.spot at_port sched t e s at.is;
                room = not_full port perch.spot at_port sched t e s at.is;
                free = open_slot.1;
                derived = subst (λ (n : Option Node). Follows s.config t (haves_of n) perch.want) (sym at.there)
                    (subst (λ (n : Option Node). Follows (config_of n) t (haves_of n) perch.want) at.is
                    (follows_at (Under sched t) e));
              };
            };
          }

      pub seat_for : IsSeatFor h left perch
      seat_for = seat_by perch.spot refl

-- what is derivable follows
pub due_follows : (m : Moment) (c : Command) → AreDerivable m c → (at : ℕ) (due : Due)
    → slice_get (dues m.hierarchy c) at ≡ Some due
    → Follows due.place.config due.place.terms due.haves due.want
due_follows m c are at due e =
    let d = are at due e in derivation_follows due.place due.haves due.want d.0 d.1.derives
