-- It cannot be that a command has no answer.
use Rattle.std.proofs.Common.{◌≡◌, ◌≢◌, ◌⊎◌, ℕ, zero, suc, inl, inr, ◌+◌, ◌<◌, ◌≤◌, List, [], ◌∷◌, Some, refl}
use Rattle.std.proofs.Common.{sym, ap, ◌∙◌}
use Rattle.std.proofs.Common.{arith, slice_get}
use Rattle.std.proofs.lemmas.Bool.{cases_lt}
use Rattle.hls_text.specs.Lines.{Text}
use Rattle.hls_derive.specs.declared.derivation.Derivation.{Derivation}
use Rattle.hls_scenario.specs.declared.scenario.Command.{Command}
use Rattle.hls_report_text.specs.declared.refusal.Refusal.{Refusal}
use Rattle.hls_report_text.specs.declared.refusal.Refusal.TheVariants.{NoDerivation}
use Rattle.hls_report_text.specs.declared.report.Seated.{Seated}
use Rattle.hls_report_text.specs.declared.report.Answer.{Answer}
use Rattle.hls_report_text.specs.declared.report.Answer.TheVariants.{Done, Refused}
use Rattle.hls_legal.specs.Moment.{Moment}
use Rattle.hls_legal.specs.Dues.{Due, dues, Derives, IsUnderivable, AreSettled}
use Rattle.hls_legal.specs.Refusals.{IsFirstSuch, LacksDerivation}
use Rattle.hls_legal.specs.Answers.{number, Applies, IsAnswer}

-- ---- seats of which none is the first without a derivation

module _ (depth : ℕ) where
  abbrev NoneLacks : List Due → Type 0
  NoneLacks xs = (name : Text) → ¬ IsFirstSuch xs (LacksDerivation depth) name

  derivable_first : (x : Due) (xs : List Due) → NoneLacks (x ∷ xs) → ¬ IsUnderivable depth x
  derivable_first x xs none lacks = none x.name (record {
    at = 0;
    item = x;
    item_is = refl;
    tells = record { whose = refl; lacks = lacks };
    first = λ before other some lt e tells. absurd (omega (arith, lt));
  })

  later : (x : Due) (xs : List Due) (d : Derivation) → Derives depth x d → NoneLacks (x ∷ xs) → NoneLacks xs
  later x xs d derives none name f = none name (record {
    at = suc f.at;
    item = f.item;
    item_is = f.item_is;
    tells = f.tells;
    first = before_it;
  })
    where
      before_it : (before : ℕ) (other : Due) (some : Text) → before < suc f.at
          → slice_get (x ∷ xs) before ≡ Some other → ¬ LacksDerivation depth other some
      before_it zero other some lt e tells =
          (let same : x ≡ other = cc in
          tells.lacks d (Rattle.std.proofs.Common.subst (λ (y : Due). Derives depth y d) same derives))
      before_it (suc before) other some lt e tells = f.first before other some (omega (arith, lt)) e tells

  pub settled : (xs : List Due) → NoneLacks xs → ¬ ((seats : List Seated) → ¬ AreSettled depth xs seats)
  settled [] none never = never [] tt
  settled (x ∷ xs) none never = derivable_first x xs none (λ d derives.
      settled xs (later x xs d derives none) (λ seats are.
      never ((record { name = x.name; port = x.port; derivation = d }) ∷ seats)
      (record { name = refl; port = refl; derives = derives }, are)))

-- ---- answers

module _ (m : Moment) (c : Command) (never : (answer : Answer) → ¬ IsAnswer m c answer) where
  none_below : (n : ℕ) (r : Refusal) → number r < n → ¬ Applies m c r
  none_below zero r lt f = absurd (omega (arith, lt))
  none_below (suc n) r lt f = never (Refused r) (record {
    applies = f;
    least = λ other g. elim (cases_lt (number other) (number r)) [
      | inl less ↦ absurd (none_below n other (omega (arith, lt, less)) g)
      | inr le ↦ le
    ];
  })

  none_applies : (r : Refusal) → ¬ Applies m c r
  none_applies r f = none_below (number r + 1) r (omega arith) f

  pub answered : ⊥
  answered =
      settled m.depth (dues m.hierarchy c)
      (λ name f. none_applies (NoDerivation name m.depth) (inl (f, refl)))
      (λ seats are. never (Done seats) (record { none = none_applies; settled = are }))
