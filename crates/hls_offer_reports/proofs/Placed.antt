-- A command that would be done at the moment of a tick, in the reports of scenarios with it.
use Rattle.std.proofs.Common.{◌≡◌, ℕ, ◌-◌, List, [], ◌∷◌, ◌++◌, Some, length, map, refl, sym, ap, ◌∙◌, subst, arith}
use Rattle.std.proofs.Common.{slice_get, length-append}
use Rattle.std.proofs.lemmas.List.{length-map}
use Rattle.hls_scenario.specs.declared.scenario.Item.{Item}
use Rattle.hls_scenario.specs.declared.scenario.Scenario.{Scenario}
use Rattle.hls_scenario.specs.declared.scenario.Command.{Command}
use Rattle.hls_report_text.specs.declared.report.Seated.{Seated}
use Rattle.hls_report_text.specs.declared.report.Answer.{Answer}
use Rattle.hls_report_text.specs.declared.report.Answer.TheVariants.{Done, Refused}
use Rattle.hls_report_text.specs.Content.{Content}
use Rattle.hls_report_text.specs.ReportText.{item_of}
use Rattle.hls_legal.specs.Moment.{Boxes, Moment}
use Rattle.hls_legal.specs.Answers.{IsAnswer}
use Rattle.hls_legal.specs.AlikeAnswers.{IsAlikeAnswer}
use Rattle.hls_legal.proofs.OneAnswer.{answer_one}
use Rattle.hls_legal.specs.Legal.{depth_in_force, IsRun, IsLegalContent}
use Rattle.hls_legal_moments.specs.Moments.{moment_behind}
use Rattle.hls_legal_moments.proofs.Meeting.{answered_behind}
use Rattle.hls_offer.specs.Moments.{items_to, IsMoment}
use Rattle.hls_offer_reports.specs.Reports.{item_at, items_behind, scenario_to, scenario_with, IsDoneAt}
use Rattle.hls_offer_reports.specs.Reports.{IsDoneInReports}

alike_done : (seats : List Seated) (answer : Answer) → IsAlikeAnswer (Done seats) answer
    → (others : List Seated) × (answer ≡ Done others)
alike_done seats (Done others) alike = (others, refl)
alike_done seats (Refused r) alike = absurd alike

module _ (s : Scenario) (given : ℕ) (boxes : Boxes) (tick : ℕ) (m : Moment) (command : Command) (seats : List Seated)
    (is : IsMoment s given boxes tick m) (was : IsAnswer m command (Done seats)) where
  moment_is : moment_behind m.depth boxes is.told is.steps ≡ m
  moment_is = λ i. record { hierarchy = sym is.leads i; boxes = sym is.left i; depth = m.depth }

  done_behind : (t : Scenario) (later : List Item) → t.depth ≡ s.depth
      → t.items ≡ items_to tick s.items ++ item_at tick command ∷ later → (c : Content)
      → IsLegalContent t given boxes c → IsDoneAt c (length (items_to tick s.items)) (item_at tick command)
  done_behind t later same are c legal =
      let item = item_at tick command in
      let depth : c.depth ≡ m.depth = legal.depth ∙ ap (depth_in_force given) same ∙ sym is.depth in
      let run : IsRun m.depth boxes c legal.steps = subst (λ (n : ℕ). IsRun n boxes c legal.steps) depth legal.run in
      let items : map item_of c.answered ≡ map item_of is.told.answered ++ item ∷ later =
      legal.commands ∙ are ∙ ap (λ (xs : List Item). xs ++ item ∷ later) (sym is.commands) in
      let found = answered_behind m.depth boxes is.told c is.steps legal.steps item later is.run run (sym is.ticks)
      items in
      let answer : IsAnswer m command found.answered.answer =
      subst (λ (x : Moment). IsAnswer x command found.answered.answer) moment_is found.answer in
      let done = alike_done seats found.answered.answer
      (answer_one m command (Done seats) found.answered.answer was answer) in
      let place : length is.told.answered ≡ length (items_to tick s.items) =
      sym (length-map is.told.answered item_of) ∙ ap (λ (xs : List Item). length xs) is.commands in
      record {
        answered = found.answered;
        there = subst (λ (n : ℕ). slice_get c.answered n ≡ Some found.answered) place found.there;
        item_is = found.item_is;
        seats = done.0;
        done = done.1;
      }

  last_place : (c : Content) → IsLegalContent (scenario_to s tick command) given boxes c
      → length (items_to tick s.items) ≡ length c.answered - 1
  last_place c legal =
      let one = sym (length-map c.answered item_of) ∙ ap (λ (xs : List Item). length xs) legal.commands in
      let two = length-append (items_to tick s.items) (item_at tick command ∷ []) in
      omega (arith, one, two)

  pub in_reports : IsDoneInReports s given boxes tick command
  in_reports = record {
    last = λ c legal. subst (λ (n : ℕ). IsDoneAt c n (item_at tick command)) (last_place c legal)
        (done_behind (scenario_to s tick command) [] refl refl c legal);
    put_in = done_behind (scenario_with s tick command) (items_behind tick s.items) refl refl;
  }

pub done_in_reports : (s : Scenario) (given : ℕ) (boxes : Boxes) (tick : ℕ) (m : Moment) (command : Command)
    (seats : List Seated) → IsMoment s given boxes tick m → IsAnswer m command (Done seats)
    → IsDoneInReports s given boxes tick command
done_in_reports s given boxes tick m command seats is was = in_reports s given boxes tick m command seats is was
