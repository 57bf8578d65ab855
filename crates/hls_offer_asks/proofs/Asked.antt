-- What requests for a seat are answered, by what can be derived.
use Rattle.std.proofs.Common.{◌≡◌, ◌≢◌, ℕ, ◌≤◌, inl, inr, List, [], ◌∷◌, Option, Some, None, Bool, true, refl}
use Rattle.std.proofs.Common.{sym, ap, ◌∙◌, subst, arith, slice_get, zero, suc}
use Rattle.std.proofs.lemmas.Bool.{cases_eq}
use Rattle.hls_text.specs.Lines.{Text}
use Rattle.hls_chron.specs.declared.plain.Terms.{Terms}
use Rattle.hls_guarantee.specs.declared.Guarantee.{Guarantee}
use Rattle.hls_scenario.specs.declared.scenario.Spot.TheVariants.{Under}
use Rattle.hls_scenario.specs.declared.scenario.Command.{Command}
use Rattle.hls_report_text.specs.declared.refusal.Refusal.{Refusal}
use Rattle.hls_report_text.specs.declared.refusal.Refusal.TheVariants.{NameTaken, NoSuchName, WrongSort}
use Rattle.hls_report_text.specs.declared.refusal.Refusal.TheVariants.{TooManyNodes, TooManyThreads, NotEmpty}
use Rattle.hls_report_text.specs.declared.refusal.Refusal.TheVariants.{TermsUnfit, PriorityTaken, SeatsFull}
use Rattle.hls_report_text.specs.declared.refusal.Refusal.TheVariants.{Cycle, TooDeep, TooManyShares, KitEmpty}
use Rattle.hls_report_text.specs.declared.refusal.Refusal.TheVariants.{NoRoom, NoDerivation}
use Rattle.hls_report_text.specs.declared.report.Seated.{Seated}
use Rattle.hls_report_text.specs.declared.report.Answer.TheVariants.{Done, Refused}
use Rattle.hls_machine.specs.Hierarchy.{Hierarchy, Node, Loaded, Admitted}
use Rattle.hls_machine.specs.Steps.{is_thread}
use Rattle.hls_machine.specs.Legal.{IsReached}
use Rattle.hls_legal.specs.Moment.{Moment, NamesThread, node_of}
use Rattle.hls_legal.specs.Dues.{AreSettled, Derives, Due, IsUnderivable, dues}
use Rattle.hls_legal.specs.Answers.{number, Applies, IsAnswer, RefusesPlace}
use Rattle.hls_offer_asks.specs.declared.wish.Wish.{Wish}
use Rattle.hls_offer_asks.specs.Requests.{HasDerivation, IsDoneFor, IsRefusedFor, request_of}
use Rattle.hls_offer_asks.specs.Inside.Hindering.{IsUnhindered}
use Rattle.hls_offer_asks.proofs.Alike.{asks, applies_alike, first_place}
use Rattle.hls_offer_asks.proofs.Dues.{due_for, one_due}

-- ---- numbers of refusals

pub last_number : (r : Refusal) → number r ≤ 24
last_number (NameTaken name) = omega arith
last_number (NoSuchName name) = omega arith
last_number (WrongSort name) = omega arith
last_number (TooManyNodes most) = omega arith
last_number (TooManyThreads most) = omega arith
last_number (NotEmpty name seats) = omega arith
last_number (TermsUnfit name) = omega arith
last_number (PriorityTaken priority) = omega arith
last_number (SeatsFull name seats) = omega arith
last_number (Cycle name) = omega arith
last_number (TooDeep level) = omega arith
last_number (TooManyShares shares) = omega arith
last_number (KitEmpty kind used) = omega arith
last_number (NoRoom free asked) = omega arith
last_number (NoDerivation name depth) = omega arith

-- ---- of what the answer tells

pub done_unhindered : (m : Moment) (c : Command) (seats : List Seated) → IsAnswer m c (Done seats)
    → IsUnhindered m c
done_unhindered m c seats is r ne applies = is.none r applies

pub underived_unhindered : (m : Moment) (c : Command) (r : Refusal) → number r ≡ 24 → IsAnswer m c (Refused r)
    → IsUnhindered m c
underived_unhindered m c r last is other ne applies =
    let least = is.least other applies in
    let most = last_number other in
    ne (omega (arith, least, most, last))

-- ---- what is wanted plays no part, but for the derivation

place_same : (known : Bool) (h : Hierarchy) (name on : Text) (terms : Terms) (g f : Guarantee) (r : Refusal)
    → RefusesPlace h (asks known name on terms g) (Under on terms) r
    → RefusesPlace h (asks known name on terms f) (Under on terms) r
place_same known h name on terms g f (NoSuchName n) by = by
place_same known h name on terms g f (WrongSort None) by = absurd by
place_same known h name on terms g f (WrongSort (Some n)) by = by
place_same known h name on terms g f (TermsUnfit n) by = by
place_same known h name on terms g f (PriorityTaken priority) by = by
place_same known h name on terms g f (SeatsFull None seats) by = by
place_same known h name on terms g f (SeatsFull (Some n) seats) by = by
place_same known h name on terms g f (NoRoom free asked) by = by
place_same known h name on terms g f _ by = absurd by

module _ (known : Bool) (m : Moment) (reached : IsReached m.hierarchy) (name on : Text)
    (moved : known ≡ true → NamesThread m.hierarchy name) (terms : Terms) where
  abbrev ask : Guarantee → Command
  ask g = asks known name on terms g

  abbrev Derived : Guarantee → Type 0
  Derived g = HasDerivation m (record { name = name; on = on; terms = terms }) g

  alike : (g f : Guarantee) (r : Refusal) → number r ≢ 24 → Applies m (ask g) r → Applies m (ask f) r
  alike g f r ne applies =
      applies_alike known m name on moved terms terms g f r ne (place_same known m.hierarchy name on terms g f r)
      applies

  any_unhindered : (g f : Guarantee) → IsUnhindered m (ask g) → IsUnhindered m (ask f)
  any_unhindered g f un r ne applies = un r ne (alike f g r ne applies)

  any_refused : (g f : Guarantee) (r : Refusal) → number r ≢ 24 → IsAnswer m (ask g) (Refused r)
      → IsAnswer m (ask f) (Refused r)
  any_refused g f r ne is = record {
    applies = alike g f r ne is.applies;
    least = λ other applies. elim (cases_eq (number other) 24) [
      | inl last ↦ (let most = last_number r in omega (arith, most, last))
      | inr more ↦ is.least other (alike f g other more applies)
    ];
  }

  dues_are : (g : Guarantee) → dues m.hierarchy (ask g) ≡ due_for m.hierarchy name on terms g ∷ []
  dues_are g = one_due known m.hierarchy reached name on moved terms g

  -- ---- what is done has a derivation

  settled_offered : (g : Guarantee) (seats : List Seated)
      → AreSettled m.depth (due_for m.hierarchy name on terms g ∷ []) seats → Derived g
  settled_offered g [] settled = absurd settled
  settled_offered g (s ∷ seats) settled = record {
    derivation = s.derivation;
    derives = settled.0.derives.derives;
    fits = settled.0.derives.short;
  }

  done_offered : (g : Guarantee) (seats : List Seated) → IsAnswer m (ask g) (Done seats) → Derived g
  done_offered g seats is =
      settled_offered g seats (subst (λ ds. AreSettled m.depth ds seats) (dues_are g) is.settled)

  -- ---- and what has a derivation is done, where nothing else refuses it

  derives_it : (g : Guarantee) (is : Derived g)
      → Derives m.depth (due_for m.hierarchy name on terms g) is.derivation
  derives_it g is = record { derives = is.derives; short = is.fits }

  lacks_at : (g : Guarantee) (at : ℕ) (due : Due) → slice_get (due_for m.hierarchy name on terms g ∷ []) at ≡ Some due
      → IsUnderivable m.depth due → Derived g → ⊥
  lacks_at g zero due e lacks is =
      let same : due ≡ due_for m.hierarchy name on terms g = cc in
      subst (λ d. IsUnderivable m.depth d) same lacks is.derivation (derives_it g is)
  lacks_at g (suc at) due e lacks is = absurd (cc)

  lacks_none : (g : Guarantee) (r : Refusal) → number r ≡ 24 → Derived g → Applies m (ask g) r → ⊥
  lacks_none g (NoDerivation n depth) last is (inl by) =
      lacks_at g by.0.at by.0.item (ap (λ ds. slice_get ds by.0.at) (sym (dues_are g)) ∙ by.0.item_is) by.0.tells.lacks
      is
  lacks_none g (NoDerivation n depth) last is (inr by) = first_place known m name on terms g (NoDerivation n depth) by
  lacks_none g (NameTaken n) last is by = omega (arith, last)
  lacks_none g (NoSuchName n) last is by = omega (arith, last)
  lacks_none g (WrongSort n) last is by = omega (arith, last)
  lacks_none g (TooManyNodes most) last is by = omega (arith, last)
  lacks_none g (TooManyThreads most) last is by = omega (arith, last)
  lacks_none g (NotEmpty n seats) last is by = omega (arith, last)
  lacks_none g (TermsUnfit n) last is by = omega (arith, last)
  lacks_none g (PriorityTaken priority) last is by = omega (arith, last)
  lacks_none g (SeatsFull n seats) last is by = omega (arith, last)
  lacks_none g (Cycle n) last is by = omega (arith, last)
  lacks_none g (TooDeep level) last is by = omega (arith, last)
  lacks_none g (TooManyShares shares) last is by = omega (arith, last)
  lacks_none g (KitEmpty kind used) last is by = omega (arith, last)
  lacks_none g (NoRoom free asked) last is by = omega (arith, last)

  offered_done : (g : Guarantee) → IsUnhindered m (ask g) → Derived g
      → (seats : List Seated) × IsAnswer m (ask g) (Done seats)
  offered_done g un is = (
    record { name = name; port = 0; derivation = is.derivation } ∷ [],
    record {
      none = λ r applies. elim (cases_eq (number r) 24) [
        | inl last ↦ lacks_none g r last is applies
        | inr ne ↦ un r ne applies
      ];
      settled = subst (λ ds. AreSettled m.depth ds (record { name = name; port = 0; derivation = is.derivation } ∷ []))
          (sym (dues_are g)) (record { name = refl; port = refl; derives = derives_it g is }, tt);
    },
  )

  unoffered_refused : (g : Guarantee) → IsUnhindered m (ask g) → ¬ Derived g
      → IsAnswer m (ask g) (Refused (NoDerivation name m.depth))
  unoffered_refused g un ne = record {
    applies = inl (
      record {
        at = 0;
        item = due_for m.hierarchy name on terms g;
        item_is = ap (λ ds. slice_get ds 0) (dues_are g);
        tells = record {
          whose = refl;
          lacks = λ d told. ne (record { derivation = d; derives = told.derives; fits = told.short });
        };
        first = λ before other some lt e tells. absurd (omega (arith, lt));
      },
      refl,
    );
    least = λ other applies. elim (cases_eq (number other) 24) [
      | inl last ↦ omega (arith, last)
      | inr more ↦ absurd (un other more applies)
    ];
  }

-- ---- the same of the request as it is defined

thread_by : (h : Hierarchy) (name : Text) (node : Option Node) → node_of h name ≡ node → is_thread node ≡ true
    → NamesThread h name
thread_by h name None e on = absurd (cc)
thread_by h name (Some (Loaded s)) e on = absurd (cc)
thread_by h name (Some (Admitted t)) e on = record { thread = t; there = e }

pub is_moved : (h : Hierarchy) (name : Text) → is_thread (node_of h name) ≡ true → NamesThread h name
is_moved h name = thread_by h name (node_of h name) refl

module _ (m : Moment) (reached : IsReached m.hierarchy) (wish : Wish) where
  abbrev known : Bool
  known = is_thread (node_of m.hierarchy wish.name)

  pub others_unhindered : (g f : Guarantee) → IsUnhindered m (request_of m.hierarchy wish g)
      → IsUnhindered m (request_of m.hierarchy wish f)
  others_unhindered g f un =
      any_unhindered known m reached wish.name wish.on (is_moved m.hierarchy wish.name) wish.terms g f un

  pub others_refused : (g f : Guarantee) (r : Refusal) → number r ≢ 24 → IsRefusedFor m wish g r
      → IsRefusedFor m wish f r
  others_refused g f r ne is =
      any_refused known m reached wish.name wish.on (is_moved m.hierarchy wish.name) wish.terms g f r ne is

  pub offered_if_done : (g : Guarantee) → IsDoneFor m wish g → HasDerivation m wish g
  offered_if_done g is =
      done_offered known m reached wish.name wish.on (is_moved m.hierarchy wish.name) wish.terms g is.0 is.1

  pub not_for_want : (g : Guarantee) (r : Refusal) → number r ≡ 24 → HasDerivation m wish g
      → Applies m (request_of m.hierarchy wish g) r → ⊥
  not_for_want g r last is applies =
      lacks_none known m reached wish.name wish.on (is_moved m.hierarchy wish.name) wish.terms g r last is applies

  pub done_if_offered : (g : Guarantee) → IsUnhindered m (request_of m.hierarchy wish g)
      → HasDerivation m wish g → IsDoneFor m wish g
  done_if_offered g un is =
      offered_done known m reached wish.name wish.on (is_moved m.hierarchy wish.name) wish.terms g un is

  pub refused_if_not : (g : Guarantee) → IsUnhindered m (request_of m.hierarchy wish g)
      → ¬ HasDerivation m wish g → IsRefusedFor m wish g (NoDerivation wish.name m.depth)
  refused_if_not g un ne =
      unoffered_refused known m reached wish.name wish.on (is_moved m.hierarchy wish.name) wish.terms g un ne
