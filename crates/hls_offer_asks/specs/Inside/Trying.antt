-- How the terms of a need are found.
use Rattle.std.specs.Prelude.{◌≡◌, ◌<◌, ◌⊎◌, ℕ, List, Option, Some, None}
use Rattle.hls_text.specs.Lines.{Text}
use Rattle.hls_chron.specs.declared.plain.Terms.{Terms}
use Rattle.hls_chron.specs.declared.plain.Terms.TheVariants.{Prio}
use Rattle.hls_scenario.specs.declared.scenario.Command.{Command}
use Rattle.hls_report_text.specs.declared.refusal.Refusal.{Refusal}
use Rattle.hls_report_text.specs.declared.report.Answer.{Answer}
use Rattle.hls_report_text.specs.declared.report.Answer.TheVariants as answers
use Rattle.hls_legal.specs.Moment.{Moment}
use Rattle.hls_legal.specs.Answers.{Applies, IsAnswer}
use Rattle.hls_offer_lines.specs.Cost.{IsFit}
use Rattle.hls_offer_asks.specs.declared.needs.Need.{Need}
use Rattle.hls_offer_asks.specs.declared.needs.Had.{Had}
use Rattle.hls_offer_asks.specs.declared.needs.Had.TheVariants.{At, Refused}
use Rattle.hls_offer_asks.specs.Needs.{IsDerivedOn, IsDoneOn, IsFirstWith, IsOfNames, IsRefusedOn, config_on}

-- a refusal of the names and so on, or no such refusal
pub record IsBarredBy (m : Moment) (command : Command) (refusal : Refusal) : Type 0 where
  pub answer : IsAnswer m command (answers.Refused refusal)
  pub of_names : IsOfNames refusal

abbrev pub IsBar : Moment → Command → Option Refusal → Type 0
IsBar m command None = (r : Refusal) → IsOfNames r → ¬ Applies m command r
IsBar m command (Some refusal) = IsBarredBy m command refusal

-- the first terms that have a derivation, if there are any
abbrev pub IsDerivedFirst : Moment → Need → (on : Text) → (periods : Option (List ℕ)) → Option Terms → Type 0
IsDerivedFirst m need on periods None =
    (its : Terms) → IsFit (config_on m on) periods its → ¬ IsDerivedOn m need on its
IsDerivedFirst m need on periods (Some its) = IsFirstWith (config_on m on) periods (IsDerivedOn m need on) its

abbrev pub refusal_of : Answer → Option Refusal
refusal_of (answers.Done seats) = None
refusal_of (answers.Refused refusal) = Some refusal

-- the first priority below one on which it is done, if there is one
pub record IsDoneBelow (m : Moment) (need : Need) (on : Text) (high low : ℕ) : Type 0 where
  pub below : low < high
  pub done : IsDoneOn m need on (Prio low)
  pub between : (p : ℕ) → low < p → p < high → ¬ IsDoneOn m need on (Prio p)

abbrev pub IsDoneBelowIfAny : Moment → Need → (on : Text) → (high : ℕ) → Option ℕ → Type 0
IsDoneBelowIfAny m need on high None = (p : ℕ) → p < high → ¬ IsDoneOn m need on (Prio p)
IsDoneBelowIfAny m need on high (Some low) = IsDoneBelow m need on high low

-- of other terms there is none behind
abbrev pub IsDoneBehind : Moment → Need → (on : Text) → Terms → Option Terms → Type 0
IsDoneBehind m need on (Prio high) None = (p : ℕ) → p < high → ¬ IsDoneOn m need on (Prio p)
IsDoneBehind m need on (Prio high) (Some (Prio low)) = IsDoneBelow m need on high low
IsDoneBehind m need on (Prio high) (Some _) = ⊥
IsDoneBehind m need on _ None = Unit {0}
IsDoneBehind m need on _ (Some _) = ⊥

-- with these terms it is done; or it is refused, and done with later ones or not
abbrev pub IsTried : Moment → Need → (on : Text) → Terms → Had → Type 0
IsTried m need on its (At other) = ((other ≡ its) × IsDoneOn m need on its)
    ⊎ ((refusal : Refusal) × IsRefusedOn m need on refusal its × IsDoneBehind m need on its (Some other))
IsTried m need on its (Refused None refusal) = ⊥
IsTried m need on its (Refused (Some other) refusal) =
    (other ≡ its) × IsRefusedOn m need on refusal its × IsDoneBehind m need on its None
