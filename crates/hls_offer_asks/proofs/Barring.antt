-- Refusals that come whatever the terms.
use Rattle.std.proofs.Common.{◌≡◌, ◌≤◌, ◌<◌, ◌⊎◌, inl, inr, Option, Some, None, refl, arith}
use Rattle.hls_text.specs.Lines.{Text}
use Rattle.hls_chron.specs.declared.plain.Terms.{Terms}
use Rattle.hls_scenario.specs.declared.scenario.Spot.TheVariants.{Under}
use Rattle.hls_scenario.specs.declared.scenario.Command.{Command}
use Rattle.hls_report_text.specs.declared.refusal.Refusal.{Refusal}
use Rattle.hls_report_text.specs.declared.refusal.Refusal.TheVariants.{NameTaken, NoSuchName, WrongSort}
use Rattle.hls_report_text.specs.declared.refusal.Refusal.TheVariants.{TooManyNodes, TooManyThreads, NotEmpty}
use Rattle.hls_report_text.specs.declared.refusal.Refusal.TheVariants.{TermsUnfit, PriorityTaken, SeatsFull}
use Rattle.hls_report_text.specs.declared.refusal.Refusal.TheVariants.{Cycle, TooDeep, TooManyShares, KitEmpty}
use Rattle.hls_report_text.specs.declared.refusal.Refusal.TheVariants.{NoRoom, NoDerivation}
use Rattle.hls_report_text.specs.declared.report.Answer.TheVariants.{Refused}
use Rattle.hls_machine.specs.Hierarchy.{Hierarchy, Node, Loaded, Admitted}
use Rattle.hls_machine.specs.Steps.{is_thread}
use Rattle.hls_legal.specs.Moment.{Moment, NamesScheduler, node_of}
use Rattle.hls_legal.specs.Answers.{number, Applies, IsAnswer, RefusesPlace}
use Rattle.hls_offer_asks.specs.declared.needs.Need.{Need}
use Rattle.hls_offer_asks.specs.Requests.{request_of}
use Rattle.hls_offer_asks.specs.Needs.{IsBarred, IsOfNames, IsUnbarred, wish_of}
use Rattle.hls_offer_asks.proofs.Alike.{applies_alike, place_applies}
use Rattle.hls_offer_asks.proofs.Asked.{is_moved}

-- a refusal that looks at no terms
abbrev pub LooksAtNone : Refusal → Type 0
LooksAtNone (TermsUnfit name) = ⊥
LooksAtNone (PriorityTaken priority) = ⊥
LooksAtNone (SeatsFull name seats) = ⊥
LooksAtNone (NoRoom free asked) = ⊥
LooksAtNone (NoDerivation name depth) = ⊥
LooksAtNone _ = Unit {0}

pub place_any : (h : Hierarchy) (c d : Command) (on : Text) (terms other : Terms) (r : Refusal) → LooksAtNone r
    → RefusesPlace h c (Under on terms) r → RefusesPlace h d (Under on other) r
place_any h c d on terms other (NoSuchName n) looks by = record { place = by.place; unknown = by.unknown }
place_any h c d on terms other (WrongSort None) looks by = absurd by
place_any h c d on terms other (WrongSort (Some n)) looks by = by
place_any h c d on terms other (TermsUnfit n) looks by = absurd looks
place_any h c d on terms other (PriorityTaken priority) looks by = absurd looks
place_any h c d on terms other (SeatsFull n seats) looks by = absurd looks
place_any h c d on terms other (NoRoom free asked) looks by = absurd looks
place_any h c d on terms other _ looks by = absurd by

not_last : (r : Refusal) → LooksAtNone r → number r ≡ 24 → ⊥
not_last (NameTaken n) looks last = omega (arith, last)
not_last (NoSuchName n) looks last = omega (arith, last)
not_last (WrongSort n) looks last = omega (arith, last)
not_last (TooManyNodes most) looks last = omega (arith, last)
not_last (TooManyThreads most) looks last = omega (arith, last)
not_last (NotEmpty n seats) looks last = omega (arith, last)
not_last (Cycle n) looks last = omega (arith, last)
not_last (TooDeep level) looks last = omega (arith, last)
not_last (TooManyShares shares) looks last = omega (arith, last)
not_last (KitEmpty kind used) looks last = omega (arith, last)
not_last _ looks last = looks

none_or_late : (r : Refusal) → LooksAtNone r ⊎ (16 ≤ number r)
none_or_late (TermsUnfit n) = inr (omega arith)
none_or_late (PriorityTaken priority) = inr (omega arith)
none_or_late (SeatsFull n seats) = inr (omega arith)
none_or_late (NoRoom free asked) = inr (omega arith)
none_or_late (NoDerivation n depth) = inr (omega arith)
none_or_late _ = inl tt

names_early : (r : Refusal) → IsOfNames r → number r < 16
names_early (NameTaken n) names = omega arith
names_early (NoSuchName n) names = omega arith
names_early (WrongSort n) names = omega arith
names_early (TooManyThreads most) names = omega arith
names_early _ names = absurd names

pub names_any : (r : Refusal) → IsOfNames r → LooksAtNone r
names_any (NameTaken n) names = tt
names_any (NoSuchName n) names = tt
names_any (WrongSort n) names = tt
names_any (TooManyThreads most) names = tt
names_any _ names = absurd names

first_names : (r : Refusal) → number r ≤ 12 → IsOfNames r
first_names (NameTaken n) low = tt
first_names (NoSuchName n) low = tt
first_names (WrongSort n) low = tt
first_names (TooManyThreads most) low = tt
first_names (TooManyNodes most) low = absurd (omega (arith, low))
first_names (NotEmpty n seats) low = absurd (omega (arith, low))
first_names (TermsUnfit n) low = absurd (omega (arith, low))
first_names (PriorityTaken priority) low = absurd (omega (arith, low))
first_names (SeatsFull n seats) low = absurd (omega (arith, low))
first_names (Cycle n) low = absurd (omega (arith, low))
first_names (TooDeep level) low = absurd (omega (arith, low))
first_names (TooManyShares shares) low = absurd (omega (arith, low))
first_names (KitEmpty kind used) low = absurd (omega (arith, low))
first_names (NoRoom free asked) low = absurd (omega (arith, low))
first_names (NoDerivation n depth) low = absurd (omega (arith, low))

module _ (m : Moment) (need : Need) (on : Text) where
  abbrev ask : Terms → Command
  ask its = request_of m.hierarchy (wish_of need on its) need.wanted

  pub others_alike : (its other : Terms) (r : Refusal) → LooksAtNone r → Applies m (ask its) r
      → Applies m (ask other) r
  others_alike its other r looks applies =
      applies_alike (is_thread (node_of m.hierarchy need.name)) m need.name on (is_moved m.hierarchy need.name) its
      other need.wanted need.wanted r (not_last r looks)
      (place_any m.hierarchy (ask its) (ask other) on its other r looks) applies

  pub barred_any : (its : Terms) (r : Refusal) → IsOfNames r → IsAnswer m (ask its) (Refused r)
      → IsBarred m need on r
  barred_any its r names is = record {
    of_names = names;
    refused = λ other. record {
      applies = others_alike its other r (names_any r names) is.applies;
      least = λ more applies. elim (none_or_late more) [
        | inl none ↦ is.least more (others_alike other its more none applies)
        | inr late ↦ (let early = names_early r names in omega (arith, early, late))
      ];
    };
  }

  pub unbarred_any : (its : Terms) → ((r : Refusal) → IsOfNames r → ¬ Applies m (ask its) r) → IsUnbarred m need on
  unbarred_any its free other r names applies =
      free r names (others_alike other its r (names_any r names) applies)

  -- so the name is of a scheduler
  scheduler_by : (its : Terms) → IsUnbarred m need on → (node : Option Node) → node_of m.hierarchy on ≡ node
      → NamesScheduler m.hierarchy on
  scheduler_by its free None e =
      absurd (free its (NoSuchName on) tt
      (place_applies (is_thread (node_of m.hierarchy need.name)) m need.name on its need.wanted (NoSuchName on)
      (record { place = refl; unknown = e })
      (λ other same by. free its other (first_names other (omega (arith, same))) (inl by))))
  scheduler_by its free (Some (Admitted t)) e =
      absurd (free its (WrongSort (Some on)) tt
      (place_applies (is_thread (node_of m.hierarchy need.name)) m need.name on its need.wanted (WrongSort (Some on))
      (refl, record { thread = t; there = e })
      (λ other same by. free its other (first_names other (omega (arith, same))) (inl by))))
  scheduler_by its free (Some (Loaded s)) e = record { scheduler = s; there = e }

  pub unbarred_scheduler : (its : Terms) → IsUnbarred m need on → NamesScheduler m.hierarchy on
  unbarred_scheduler its free = scheduler_by its free (node_of m.hierarchy on) refl
