-- The answers to the admission of a thread.
use Rattle.std.proofs.Common.{◌≡◌, ◌⊎◌, inl, inr, ℕ, zero, suc, [], ◌∷◌, Some, None, refl, sym, ap}
use Rattle.std.proofs.Common.{◌<◌, ◌≤◌, arith, subst, slice_get, length}
use Rattle.std.specs.Prelude.{IsSome, is_some}
use Rattle.hls_text.specs.Lines.{Text}
use Rattle.hls_chron.specs.declared.plain.Terms.{Terms}
use Rattle.hls_kinds.specs.declared.fault.SeatFault.{SeatFault}
use Rattle.hls_kinds.specs.Faults.{IsFirstFault}
use Rattle.hls_kinds.specs.Faults as seats
use Rattle.hls_derive.specs.declared.derivation.Derivation.{Derivation}
use Rattle.hls_scenario.specs.declared.scenario.Spot.{Spot}
use Rattle.hls_scenario.specs.declared.scenario.Spot.TheVariants.{Cpu, Under}
use Rattle.hls_scenario.specs.declared.scenario.Perch.{Perch}
use Rattle.hls_scenario.specs.declared.scenario.Command.{Command}
use Rattle.hls_scenario.specs.declared.scenario.Command.TheVariants as said
use Rattle.hls_report_text.specs.declared.refusal.Refusal.{Refusal}
use Rattle.hls_report_text.specs.declared.refusal.Refusal.TheVariants.{NameTaken, NoSuchName, WrongSort}
use Rattle.hls_report_text.specs.declared.refusal.Refusal.TheVariants.{TooManyNodes, TooManyThreads, NotEmpty}
use Rattle.hls_report_text.specs.declared.refusal.Refusal.TheVariants.{TermsUnfit, PriorityTaken, SeatsFull}
use Rattle.hls_report_text.specs.declared.refusal.Refusal.TheVariants.{Cycle, TooDeep, TooManyShares, KitEmpty}
use Rattle.hls_report_text.specs.declared.refusal.Refusal.TheVariants.{NoRoom, NoDerivation}
use Rattle.hls_machine.specs.Hierarchy.{Hierarchy, Loaded, Admitted, Scheduler, Thread}
use Rattle.hls_legal.specs.Moment.{Moment, node_of}
use Rattle.hls_legal.specs.Dues.{Due, due_at, Derives, IsUnderivable}
use Rattle.hls_legal.specs.Answers.{number, RefusesCommand, RefusesPlace, RefusesFirstPlace, Applies, IsRefused}
use Rattle.hls_legal.specs.Answers.{IsDone}
use Rattle.hls_manager.specs.Faults.{fault_refusal}
use Rattle.hls_manager.proofs.Places.{from_ten, to_last, place_number, at_processor, unknown_place, known_place}
use Rattle.hls_manager.proofs.Places.{to_fault, of_fault, first_fault, late_fault}

module _ (m : Moment) (name : Text) (perch : Perch) where
  abbrev h : Hierarchy
  h = m.hierarchy

  abbrev c : Command
  c = said.Thread name perch

  abbrev due : Due
  due = due_at h name 0 perch

  -- what refuses it as a whole
  abbrev Whole : Refusal → Type 0
  Whole (NameTaken other) = IsSome (node_of h name)
  Whole (TooManyThreads most) = 256 ≤ length h.threads
  Whole (NoDerivation other depth) = IsUnderivable m.depth due
  Whole _ = ⊥

  whole : (r : Refusal) → RefusesCommand m c r → Whole r
  whole (NameTaken other) f =
      let e = f.new in
      let same : other ≡ name = cc in
      subst (λ n. IsSome (node_of h n)) same f.taken
  whole (NoSuchName other) f = (let e = f.old in cc)
  whole (WrongSort (Some other)) f = (let e = f.old in cc)
  whole (WrongSort None) f = f
  whole (TooManyNodes most) f = (let e = f.loads in cc)
  whole (TooManyThreads most) f = f.many
  whole (NotEmpty other seats) f = (let e = f.unloads in cc)
  whole (TermsUnfit other) f = f
  whole (PriorityTaken priority) f = f
  whole (SeatsFull other seats) f = f
  whole (Cycle other) f = (let e = f.moves in cc)
  whole (TooDeep level) f = f.chain
  whole (TooManyShares shares) f = f.chain
  whole (KitEmpty kind used) f = (let e = f.loads in cc)
  whole (NoRoom free asked) f = f
  whole (NoDerivation other depth) f = lacking f.0.at f.0.item f.0.item_is f.0.tells.lacks
    where
      lacking : (at : ℕ) (item : Due) → slice_get (due ∷ []) at ≡ Some item → IsUnderivable m.depth item
          → IsUnderivable m.depth due
      lacking zero item e lacks =
          (let same : item ≡ due = cc in subst (λ (d : Due). IsUnderivable m.depth d) same lacks)
      lacking (suc at) item e lacks = absurd (cc)

  at_spot : (r : Refusal) → RefusesFirstPlace m c r → RefusesPlace h c perch.spot r
  at_spot r f = by f.first.at f.first.item f.first.item_is f.first.tells.refuses
    where
      by : (at : ℕ) (item : Spot) → slice_get (perch.spot ∷ []) at ≡ Some item → RefusesPlace h c item r
          → RefusesPlace h c perch.spot r
      by zero item e refuses =
          (let same : item ≡ perch.spot = cc in subst (λ (s : Spot). RefusesPlace h c s r) same refuses)
      by (suc at) item e refuses = absurd (cc)

  abbrev Hinders : Refusal → Type 0
  Hinders r = Whole r ⊎ RefusesPlace h c perch.spot r

  hinders : (r : Refusal) → Applies m c r → Hinders r
  hinders r (inl f) = inl (whole r f)
  hinders r (inr f) = inr (at_spot r f)

  no_number : (r other : Refusal) → RefusesPlace h c perch.spot r → number other ≡ number r → Whole other → ⊥
  no_number r (NameTaken a) f e g = (place_number h c perch.spot r f).taken (sym e)
  no_number r (TooManyThreads most) f e g = (place_number h c perch.spot r f).threads (sym e)
  no_number r (NoDerivation a depth) f e g = (place_number h c perch.spot r f).derived (sym e)
  no_number r _ f e g = g

  pub place_applies : (r : Refusal) → RefusesPlace h c perch.spot r → Applies m c r
  place_applies r f = inr (record {
    first = record {
      at = 0;
      item = perch.spot;
      item_is = refl;
      tells = record { refuses = f; number_is = refl };
      first = λ before other some lt e tells. absurd (omega (arith, lt));
    };
    only = λ other same g. no_number r other f same (whole other g);
  })

  -- ---- the name is taken

  pub name_taken : IsSome (node_of h name) → IsRefused m c (NameTaken name)
  name_taken some = record {
    applies = inl (record { new = refl; taken = some });
    least = λ other f. from_ten other;
  }

  -- ---- it is not

  module _ (free : node_of h name ≡ None) where
    untaken : IsSome (node_of h name) → ⊥
    untaken some = (let none = ap is_some free in cc)

    least_place : (r : Refusal) → (number r ≤ 14) ⊎ (length h.threads < 256)
        → ((other : Refusal) → RefusesPlace h c perch.spot other → number r ≤ number other)
        → (other : Refusal) → Hinders other → number r ≤ number other
    least_place r few least (NameTaken a) (inl g) = absurd (untaken g)
    least_place r (inl le) least (TooManyThreads most) (inl g) = omega (arith, le)
    least_place r (inr lt) least (TooManyThreads most) (inl g) = absurd (omega (arith, lt, g))
    least_place r few least (NoDerivation a depth) (inl g) = to_last r
    least_place r few least other (inr g) = least other g
    least_place r few least _ (inl g) = absurd g

    -- a refusal of the place, and none of the place is less
    pub place_refused : (r : Refusal) → RefusesPlace h c perch.spot r
        → (number r ≤ 14) ⊎ (length h.threads < 256)
        → ((other : Refusal) → RefusesPlace h c perch.spot other → number r ≤ number other) → IsRefused m c r
    place_refused r f few least = record {
      applies = place_applies r f;
      least = λ other g. least_place r few least other (hinders other g);
    }

    pub on_processor : perch.spot ≡ Cpu → IsRefused m c (WrongSort None)
    on_processor at =
        place_refused (WrongSort None) (subst (λ (s : Spot). RefusesPlace h c s (WrongSort None)) (sym at) tt)
        (inl (omega arith))
        (λ other f. at_processor h c other (subst (λ (s : Spot). RefusesPlace h c s other) at f))

    module _ (sched : Text) (terms : Terms) (at : perch.spot ≡ Under sched terms) where
      there_is : (r : Refusal) → RefusesPlace h c (Under sched terms) r → RefusesPlace h c perch.spot r
      there_is r f = subst (λ (s : Spot). RefusesPlace h c s r) (sym at) f

      is_there : (r : Refusal) → RefusesPlace h c perch.spot r → RefusesPlace h c (Under sched terms) r
      is_there r f = subst (λ (s : Spot). RefusesPlace h c s r) at f

      pub on_nobody : node_of h sched ≡ None → IsRefused m c (NoSuchName sched)
      on_nobody none =
          place_refused (NoSuchName sched)
          (there_is (NoSuchName sched) (record { place = refl; unknown = none })) (inl (omega arith))
          (λ other f. unknown_place h c sched terms other (is_there other f))

      pub on_thread : (t : Thread) → node_of h sched ≡ Some (Admitted t) → IsRefused m c (WrongSort (Some sched))
      on_thread t there =
          place_refused (WrongSort (Some sched))
          (there_is (WrongSort (Some sched)) (refl, record { thread = t; there = there })) (inl (omega arith))
          (λ other f. known_place h c sched terms (Admitted t) there other (is_there other f))

      module _ (s : Scheduler) (there : node_of h sched ≡ Some (Loaded s)) where
        least_many : (other : Refusal) → Hinders other → 14 ≤ number other
        least_many (NameTaken a) (inl g) = absurd (untaken g)
        least_many (TooManyThreads most) (inl g) = omega arith
        least_many (NoDerivation a depth) (inl g) = omega arith
        least_many other (inr g) =
            (let le = late_fault h c sched terms s there other (is_there other g) in omega (arith, le))
        least_many _ (inl g) = absurd g

        pub too_many : 256 ≤ length h.threads → IsRefused m c (TooManyThreads 256)
        too_many many = record {
          applies = inl (record { name = name; perch = perch; admits = refl; many = many; most_is = refl });
          least = λ other f. least_many other (hinders other f);
        }

        module _ (few : length h.threads < 256) where
          pub seat_fault : (fault : SeatFault) → IsFirstFault s.config s.book terms fault
              → IsRefused m c (fault_refusal sched fault)
          seat_fault fault first =
              place_refused (fault_refusal sched fault)
              (there_is (fault_refusal sched fault) (to_fault h c sched terms s there fault first.applies)) (inr few)
              (λ other f. first_fault h c sched terms s there fault first other (is_there other f))

          module _ (fits : (fault : SeatFault) → ¬ seats.Applies s.config s.book terms fault) where
            no_place : (r : Refusal) → ¬ RefusesPlace h c perch.spot r
            no_place r f = (let of = of_fault h c sched terms s there r (is_there r f) in fits of.fault of.applies)

            least_lack : (other : Refusal) → Hinders other → 24 ≤ number other
            least_lack (NameTaken a) (inl g) = absurd (untaken g)
            least_lack (TooManyThreads most) (inl g) = absurd (omega (arith, few, g))
            least_lack (NoDerivation a depth) (inl g) = omega arith
            least_lack other (inr g) = absurd (no_place other g)
            least_lack _ (inl g) = absurd g

            pub underived : IsUnderivable m.depth due → IsRefused m c (NoDerivation name m.depth)
            underived lacks = record {
              applies = inl (
                record {
                  at = 0;
                  item = due;
                  item_is = refl;
                  tells = record { whose = refl; lacks = lacks };
                  first = λ before other some lt e tells. absurd (omega (arith, lt));
                },
                refl,
              );
              least = λ other f. least_lack other (hinders other f);
            }

            module _ (d : Derivation) (derives : Derives m.depth due d) where
              none_hinders : (r : Refusal) → ¬ Hinders r
              none_hinders (NameTaken a) (inl g) = untaken g
              none_hinders (TooManyThreads most) (inl g) = omega (arith, few, g)
              none_hinders (NoDerivation a depth) (inl g) = g d derives
              none_hinders r (inr g) = no_place r g
              none_hinders _ (inl g) = g

              pub derived : IsDone m c ((record { name = name; port = 0; derivation = d }) ∷ [])
              derived = record {
                none = λ r f. none_hinders r (hinders r f);
                settled = (record { name = refl; port = refl; derives = derives }, tt);
              }
