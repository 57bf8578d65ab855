-- Answers as tests find them: numbers in their order, and places in the order of their ports.
use Rattle.std.proofs.Common.{◌≡◌, ℕ, ◌<◌, ◌≤◌, inl, inr, List, [], ◌∷◌, ◌++◌, Some, refl, slice_get}
use Rattle.std.proofs.lemmas.Bool.{cases_lt}
use Rattle.std.proofs.lemmas.List.Sums.{fold-append}
use Rattle.hls_scenario.specs.declared.scenario.Spot.{Spot}
use Rattle.hls_scenario.specs.declared.scenario.Command.{Command}
use Rattle.hls_derive.specs.declared.derivation.Derivation.{Derivation}
use Rattle.hls_report_text.specs.declared.refusal.Refusal.{Refusal}
use Rattle.hls_report_text.specs.declared.report.Seated.{Seated}
use Rattle.hls_report_text.specs.declared.report.Answer.TheVariants.{Done, Refused}
use Rattle.hls_report_text.specs.declared.report.Answered.{Answered}
use Rattle.hls_legal.specs.Moment.{Boxes, Moment, spots_of}
use Rattle.hls_legal.specs.Dues.{Due, dues, Derives, IsUnderivable, AreSettled}
use Rattle.hls_legal.specs.Refusals.{IsUnderived}
use Rattle.hls_legal.specs.Answers.{number, RefusesCommand, RefusesPlace, Applies, IsAnswer}
use Rattle.hls_legal.specs.Kit.{boxes_after, boxes_left}
use Rattle.hls_legal.specs.Tested.{PassesPlaces, PassesPlacesBefore}

module _ (m : Moment) (c : Command) (r : Refusal) (whole : (other : Refusal) → number other < number r
    → ¬ RefusesCommand m c other) (places : (other : Refusal) → number other < number r
    → PassesPlaces m.hierarchy c other) where
  least : (other : Refusal) → Applies m c other → number r ≤ number other
  least other applies = elim (cases_lt (number other) (number r)) [
    | inr le ↦ le
    | inl lt ↦ absurd (none lt applies)
  ]
    where
      none : number other < number r → Applies m c other → ⊥
      none lt (inl f) = whole other lt f
      none lt (inr f) = places other lt f.first.at f.first.item f.first.item_is f.first.tells.refuses

  pub refused_whole : RefusesCommand m c r → IsAnswer m c (Refused r)
  refused_whole refuses = record { applies = inl refuses; least = least }

  pub refused_at : ((other : Refusal) → number other ≡ number r → ¬ RefusesCommand m c other) → (port : ℕ)
      (spot : Spot) → slice_get (spots_of c) port ≡ Some spot → RefusesPlace m.hierarchy c spot r
      → ((other : Refusal) → number other ≡ number r → PassesPlacesBefore m.hierarchy c port other)
      → IsAnswer m c (Refused r)
  refused_at only port spot there refuses before = record {
    applies = inr (record {
      first = record {
        at = port;
        item = spot;
        item_is = there;
        tells = record { refuses = refuses; number_is = refl };
        first = λ p s other lt e by. before other by.number_is p s lt e by.refuses;
      };
      only = only;
    });
    least = least;
  }

pub done_by : (m : Moment) (c : Command) (seats : List Seated) → ((r : Refusal) → ¬ RefusesCommand m c r)
    → ((r : Refusal) → PassesPlaces m.hierarchy c r) → AreSettled m.depth (dues m.hierarchy c) seats
    → IsAnswer m c (Done seats)
done_by m c seats whole places settled = record { none = none; settled = settled }
  where
    none : (r : Refusal) → ¬ Applies m c r
    none r (inl f) = whole r f
    none r (inr f) = places r f.first.at f.first.item f.first.item_is f.first.tells.refuses

pub underived_at : (m : Moment) (c : Command) (at : ℕ) (due : Due) → slice_get (dues m.hierarchy c) at ≡ Some due
    → IsUnderivable m.depth due
    → ((before : ℕ) (other : Due) → before < at → slice_get (dues m.hierarchy c) before ≡ Some other
    → (d : Derivation) × Derives m.depth other d)
    → IsUnderived m.hierarchy m.depth c due.name
underived_at m c at due there lacks before = record {
  at = at;
  item = due;
  item_is = there;
  tells = record { whose = refl; lacks = lacks };
  first = λ p other some lt e tells. (let d = before p other lt e in tells.lacks d.0 d.1);
}

pub boxes_go : (boxes : Boxes) (answered : List Answered) (a : Answered)
    → boxes_left boxes (answered ++ a ∷ []) ≡ boxes_after (boxes_left boxes answered) a.command a.answer
boxes_go boxes answered a =
    fold-append (λ left (b : Answered). boxes_after left b.command b.answer) boxes answered (a ∷ [])
