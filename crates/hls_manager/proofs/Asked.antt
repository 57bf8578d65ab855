-- What a question about a request comes to.
use Rattle.std.proofs.Common.{◌≡◌, ℕ, ◌∷◌, Some, sym, ap, ◌∙◌, subst}
use Rattle.std.specs.Prelude.{IfOk}
use Rattle.std.specs.declared.result.Result.{Result}
use Rattle.std.specs.declared.result.Result.TheVariants.{Ok, Err}
use Rattle.hls_text.specs.Lines.{Text}
use Rattle.hls_scenario.specs.declared.scenario.Perch.{Perch}
use Rattle.hls_scenario.specs.declared.scenario.Command.TheVariants as said
use Rattle.hls_scenario.specs.Grammar.{IsCommand}
use Rattle.hls_report_text.specs.declared.refusal.Refusal.TheVariants.{NoDerivation}
use Rattle.hls_report_text.specs.declared.report.Answer.{Answer}
use Rattle.hls_report_text.specs.declared.report.Answer.TheVariants.{Refused}
use Rattle.hls_machine.specs.Legal.{IsReached}
use Rattle.hls_legal.specs.Moment.{Moment}
use Rattle.hls_legal.specs.Dues.{dues_on, AreSettled}
use Rattle.hls_legal.specs.Refusals.{IsFirstSuch, LacksDerivation}
use Rattle.hls_legal.specs.Answers.{IsAnswer}
use Rattle.hls_tree.specs.declared.seat.Seat.{Seat}
use Rattle.hls_manager.specs.Seats.{due_for}
use Rattle.hls_manager.specs.Rederived.{AreRederived}
use Rattle.hls_manager.specs.Inside.Shifts.{IsMovable}
use Rattle.hls_manager.specs.Inside.Told.{IsToldBy}
use Rattle.hls_manager.specs.declared.rederiving.Rederived.{Rederived}
use Rattle.hls_manager.specs.declared.rederiving.Rederived.TheVariants.{All, Lacks}
use Rattle.hls_manager.proofs.Shifted.{lacks_answer, done_answer}

-- a result whose answer is known
pub answered_by : {E : Type 0} (r : Result Answer E) (told : Answer) (Q : Answer → Type 0)
    → IfOk r (λ answer. answer ≡ told) → Q told → IfOk r Q
answered_by (Ok answer) told Q is q = subst Q (sym is) q
answered_by (Err error) told Q is q = tt

module _ (m : Moment) (reached : IsReached m.hierarchy) (name : Text) (perch : Perch)
    (within : IsCommand 2 (said.Move name perch)) (id : ℕ) (seat : Seat)
    (movable : IsMovable m.hierarchy name perch id seat) (depth : ℕ) (deep : m.depth ≡ depth) where
  -- a move is answered by what is found for its seats
  pub move_answered : (told : Rederived) (answer : Answer)
      → AreRederived depth (due_for m.hierarchy name 0 seat ∷ dues_on m.hierarchy seat.kept (Some id)) told
      → IsToldBy depth told answer → IsAnswer m (said.Move name perch) answer
  move_answered (All seats) answer are told =
      let settled = subst (λ n. AreSettled n
      (due_for m.hierarchy name 0 seat ∷ dues_on m.hierarchy seat.kept (Some id)) seats) (sym deep) are in
      subst (λ (a : Answer). IsAnswer m (said.Move name perch) a) (sym told.0)
      (done_answer m reached name perch within id seat movable seats settled)
  move_answered (Lacks other) answer are told =
      let lacks = subst (λ n. IsFirstSuch (due_for m.hierarchy name 0 seat ∷ dues_on m.hierarchy seat.kept (Some id))
      (LacksDerivation n) other) (sym deep) are in
      let is = lacks_answer m reached name perch within id seat movable other lacks in
      let same : answer ≡ Refused (NoDerivation other m.depth) =
      told.0 ∙ ap (λ n. Refused (NoDerivation other n)) (sym deep) in
      subst (λ (a : Answer). IsAnswer m (said.Move name perch) a) (sym same) is
