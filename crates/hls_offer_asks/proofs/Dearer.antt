-- Of terms that are no priority, those behind the ones that find no seat find none.
use Rattle.std.proofs.Common.{◌≡◌, ◌≢◌, ℕ, ◌≤◌, inl, inr, List, Option, Some, None, Bool, refl, sym, ap, ◌∙◌}
use Rattle.std.proofs.Common.{subst, arith}
use Rattle.std.proofs.lemmas.Bool.{cases_lt}
use Rattle.hls_text.specs.Lines.{Text}
use Rattle.hls_chron.specs.declared.plain.Config.{Config}
use Rattle.hls_chron.specs.declared.plain.Config.TheVariants as configs
use Rattle.hls_chron.specs.declared.plain.Terms.{Terms}
use Rattle.hls_chron.specs.declared.plain.Terms.TheVariants as terms
use Rattle.hls_chron.specs.Kinds.{kind_of, terms_kind}
use Rattle.hls_chron.specs.Parts.{parts}
use Rattle.hls_chron.proofs.ConfigLaws.{of_sfq}
use Rattle.hls_kinds.specs.Fits.{Exceeds}
use Rattle.hls_kinds.specs.Room.{room_asked}
use Rattle.hls_kinds.specs.declared.fault.SeatFault.{SeatFault}
use Rattle.hls_kinds.specs.declared.fault.SeatFault.TheVariants as faults
use Rattle.hls_scenario.specs.declared.scenario.Spot.TheVariants.{Under}
use Rattle.hls_scenario.specs.declared.scenario.Command.{Command}
use Rattle.hls_report_text.specs.declared.refusal.Refusal.{Refusal}
use Rattle.hls_report_text.specs.declared.refusal.Refusal.TheVariants.{NameTaken, NoSuchName, WrongSort}
use Rattle.hls_report_text.specs.declared.refusal.Refusal.TheVariants.{TooManyNodes, TooManyThreads, NotEmpty}
use Rattle.hls_report_text.specs.declared.refusal.Refusal.TheVariants.{TermsUnfit, PriorityTaken, SeatsFull}
use Rattle.hls_report_text.specs.declared.refusal.Refusal.TheVariants.{Cycle, TooDeep, TooManyShares, KitEmpty}
use Rattle.hls_report_text.specs.declared.refusal.Refusal.TheVariants.{NoRoom, NoDerivation}
use Rattle.hls_machine.specs.Hierarchy.{config_of}
use Rattle.hls_machine.specs.Steps.{is_thread}
use Rattle.hls_machine.specs.Legal.{IsReached}
use Rattle.hls_legal.specs.Moment.{Moment, node_of}
use Rattle.hls_legal.specs.Refusals.{HasFault}
use Rattle.hls_legal.specs.Answers.{number, Applies, RefusesCommand, RefusesPlace}
use Rattle.hls_offer_lines.specs.Cost.{ComesBefore, IsFit}
use Rattle.hls_offer_asks.specs.declared.needs.Need.{Need}
use Rattle.hls_offer_asks.specs.Requests.{request_of}
use Rattle.hls_offer_asks.specs.Needs.{IsDerivedOn, IsDoneOn, IsRefusedOn, config_on, wish_of}
use Rattle.hls_offer_asks.proofs.Alike.{first_place, place_applies}
use Rattle.hls_offer_asks.proofs.Asked.{not_for_want}
use Rattle.hls_offer_asks.proofs.Barring.{others_alike}

-- ---- what comes later asks for no less room

pub room_rises : (config : Config) (its other : Terms) → terms_kind its ≡ kind_of config
    → terms_kind other ≡ kind_of config → ¬ ComesBefore other its → room_asked config its ≤ room_asked config other
room_rises configs.Edf (terms.Res hard x y) (terms.Res rigid u v) is also late =
    elim (cases_lt (parts u v) (parts x y)) [ inl less ↦ absurd (late (inl less)) | inr le ↦ le ]
room_rises configs.Edf (terms.Res hard x y) other is also late = absurd (cc)
room_rises (configs.Wheel frame) (terms.Slots k) (terms.Slots j) is also late =
    elim (cases_lt j k) [ inl less ↦ absurd (late less) | inr le ↦ le ]
room_rises (configs.Wheel frame) (terms.Slots k) other is also late = absurd (cc)
room_rises config (terms.Weight w) (terms.Weight v) is also late =
    of_sfq (λ config. room_asked config (terms.Weight w) ≤ room_asked config (terms.Weight v))
    (λ s. elim (cases_lt v w) [ inl less ↦ absurd (late less) | inr le ↦ le ]) config (sym is)
room_rises config (terms.Weight w) other is also late = absurd (cc)
room_rises _ _ _ is also late = omega arith

-- ---- refusals at the place are none of the whole

record IsNoPlace (n : ℕ) : Type 0 where
  full : n ≢ 18
  room : n ≢ 23

whole_number : (m : Moment) (c : Command) (r : Refusal) → RefusesCommand m c r → IsNoPlace (number r)
whole_number m c (NameTaken n) by = record { full = λ e. omega (arith, e); room = λ e. omega (arith, e) }
whole_number m c (NoSuchName n) by = record { full = λ e. omega (arith, e); room = λ e. omega (arith, e) }
whole_number m c (WrongSort n) by = record { full = λ e. omega (arith, e); room = λ e. omega (arith, e) }
whole_number m c (TooManyNodes most) by = record { full = λ e. omega (arith, e); room = λ e. omega (arith, e) }
whole_number m c (TooManyThreads most) by = record { full = λ e. omega (arith, e); room = λ e. omega (arith, e) }
whole_number m c (NotEmpty n seats) by = record { full = λ e. omega (arith, e); room = λ e. omega (arith, e) }
whole_number m c (Cycle n) by = record { full = λ e. omega (arith, e); room = λ e. omega (arith, e) }
whole_number m c (TooDeep level) by = record { full = λ e. omega (arith, e); room = λ e. omega (arith, e) }
whole_number m c (TooManyShares shares) by = record { full = λ e. omega (arith, e); room = λ e. omega (arith, e) }
whole_number m c (KitEmpty kind used) by = record { full = λ e. omega (arith, e); room = λ e. omega (arith, e) }
whole_number m c (NoDerivation n depth) by = record { full = λ e. omega (arith, e); room = λ e. omega (arith, e) }
whole_number m c _ by = absurd by

module _ (m : Moment) (reached : IsReached m.hierarchy) (need : Need) (on : Text) (its other : Terms)
    (apart : (p : ℕ) → its ≢ terms.Prio p) (periods : Option (List ℕ))
    (fits : IsFit (config_on m on) periods its) (derived : IsDerivedOn m need on its)
    (dearer : room_asked (config_on m on) its ≤ room_asked (config_on m on) other)
    (done : IsDoneOn m need on other) where
  abbrev known : Bool
  known = is_thread (node_of m.hierarchy need.name)

  abbrev ask : Terms → Command
  ask t = request_of m.hierarchy (wish_of need on t) need.wanted

  none : (r : Refusal) → Applies m (ask other) r → ⊥
  none r applies = done.1.none r applies

  none_there : (r : Refusal) → RefusesPlace m.hierarchy (ask other) (Under on other) r
      → ((more : Refusal) → number more ≡ number r → ¬ RefusesCommand m (ask other) more) → ⊥
  none_there r refuses only = none r (place_applies known m need.name on other need.wanted r refuses only)

  -- where the scheduler has a fault
  record IsFaulty (n : Text) (f : SeatFault) (has : HasFault m.hierarchy (Under on its) n f) : Type 0 where
    name : on ≡ n
    terms_are : has.terms ≡ its
    config : config_on m on ≡ has.scheduler.config

  faulty : (n : Text) (f : SeatFault) (has : HasFault m.hierarchy (Under on its) n f) → IsFaulty n f has
  faulty n f has =
      let same = has.place in
      let name : on ≡ n = cc in
      record {
        name = name;
        terms_are = (let is : has.terms ≡ its = cc in is);
        config = ap config_of (ap (node_of m.hierarchy) name ∙ has.there);
      }

  by_place : (r : Refusal) → RefusesPlace m.hierarchy (ask its) (Under on its) r → Applies m (ask its) r → ⊥
  by_place (TermsUnfit n) by applies = elim by.applies [
    | inl ne ↦
        let is = faulty n faults.Unfit by in
        ne (ap terms_kind is.terms_are ∙ fits.of_kind ∙ ap kind_of is.config)
    | inr more ↦
        let is = faulty n faults.Unfit by in
        fits.within (subst (λ (c : Config). Exceeds c its) (sym is.config)
        (subst (λ (t : Terms). Exceeds by.scheduler.config t) is.terms_are more))
  ]
  by_place (PriorityTaken priority) by applies =
      let is = faulty by.0 (faults.PriorityTaken priority) by.1 in
      apart priority (sym is.terms_are ∙ by.1.applies.0)
  by_place (SeatsFull None seats) by applies = (let at = by.place in cc)
  by_place (SeatsFull (Some n) seats) by applies =
      let is = faulty n (faults.Full seats) by in
      none_there (SeatsFull (Some n) seats) (record {
        terms = other;
        place = ap (λ x. Under x other) is.name;
        scheduler = by.scheduler;
        there = by.there;
        applies = by.applies;
      }) (λ more same whole. (whole_number m (ask other) more whole).full same)
  by_place (NoRoom free asked) by applies =
      let is = faulty by.0 (faults.NoRoom free asked) by.1 in
      let lacks = by.1.applies.lacks in
      let asks_it : asked ≡ room_asked (config_on m on) its =
      by.1.applies.asks ∙ ap (room_asked by.1.scheduler.config) is.terms_are
      ∙ ap (λ (c : Config). room_asked c its) (sym is.config) in
      none_there (NoRoom free (room_asked (config_on m on) other)) (
        by.0,
        record {
          terms = other;
          place = ap (λ x. Under x other) is.name;
          scheduler = by.1.scheduler;
          there = by.1.there;
          applies = record {
            left = by.1.applies.left;
            asks = ap (λ (c : Config). room_asked c other) is.config;
            lacks = omega (arith, lacks, asks_it, dearer);
          };
        },
      ) (λ more same whole. (whole_number m (ask other) more whole).room same)
  by_place (NoSuchName n) by applies =
      none (NoSuchName n) (others_alike m need on its other (NoSuchName n) tt applies)
  by_place (WrongSort n) by applies =
      none (WrongSort n) (others_alike m need on its other (WrongSort n) tt applies)
  by_place _ by applies = by

  by_whole : (r : Refusal) → RefusesCommand m (ask its) r → Applies m (ask its) r → ⊥
  by_whole (NoDerivation n depth) by applies =
      not_for_want m reached (wish_of need on its) need.wanted (NoDerivation n depth) refl derived applies
  by_whole (TermsUnfit n) by applies = by
  by_whole (PriorityTaken priority) by applies = by
  by_whole (SeatsFull n seats) by applies = by
  by_whole (NoRoom free asked) by applies = by
  by_whole (NameTaken n) by applies = none (NameTaken n) (others_alike m need on its other (NameTaken n) tt applies)
  by_whole (NoSuchName n) by applies = none (NoSuchName n) (others_alike m need on its other (NoSuchName n) tt applies)
  by_whole (WrongSort n) by applies = none (WrongSort n) (others_alike m need on its other (WrongSort n) tt applies)
  by_whole (TooManyNodes n) by applies =
      none (TooManyNodes n) (others_alike m need on its other (TooManyNodes n) tt applies)
  by_whole (TooManyThreads n) by applies =
      none (TooManyThreads n) (others_alike m need on its other (TooManyThreads n) tt applies)
  by_whole (NotEmpty n seats) by applies =
      none (NotEmpty n seats) (others_alike m need on its other (NotEmpty n seats) tt applies)
  by_whole (Cycle n) by applies = none (Cycle n) (others_alike m need on its other (Cycle n) tt applies)
  by_whole (TooDeep n) by applies = none (TooDeep n) (others_alike m need on its other (TooDeep n) tt applies)
  by_whole (TooManyShares n) by applies =
      none (TooManyShares n) (others_alike m need on its other (TooManyShares n) tt applies)
  by_whole (KitEmpty kind used) by applies =
      none (KitEmpty kind used) (others_alike m need on its other (KitEmpty kind used) tt applies)

  blocked : (r : Refusal) → Applies m (ask its) r → Applies m (ask its) r → ⊥
  blocked r (inl by) applies = by_whole r by applies
  blocked r (inr by) applies =
      by_place r (first_place known m need.name on its need.wanted r by) applies

  pub none_dearer : (r : Refusal) → IsRefusedOn m need on r its → ⊥
  none_dearer r is = blocked r is.applies is.applies
