-- Answers along a run that grows at its end.
use Rattle.std.proofs.Common.{ℕ, List, [], ◌∷◌, ◌++◌}
use Rattle.hls_report_text.specs.declared.report.Answered.{Answered}
use Rattle.hls_machine.specs.Hierarchy.{Hierarchy}
use Rattle.hls_machine.specs.Steps.{Step, Elapse, after, state}
use Rattle.hls_legal.specs.Moment.{Boxes}
use Rattle.hls_legal.specs.Answers.{IsAnswer}
use Rattle.hls_legal.specs.Kit.{boxes_after, boxes_left}
use Rattle.hls_legal.specs.Along.{IsTick, AnswersAlong}

-- a command at the end
pub along_command : (depth : ℕ) (steps : List Step) (h : Hierarchy) (boxes : Boxes) (answered : List Answered)
    (step : Step) (a : Answered) → AnswersAlong depth h boxes steps answered → ¬ IsTick step
    → IsAnswer (record { hierarchy = state h steps; boxes = boxes_left boxes answered; depth = depth }) a.command
    a.answer
    → AnswersAlong depth h boxes (steps ++ step ∷ []) (answered ++ a ∷ [])
along_command depth [] h boxes [] (Elapse asking masks path) a along not answer = absurd (not tt)
along_command depth [] h boxes [] _ a along not answer = (answer, tt)
along_command depth [] h boxes (b ∷ left) step a along not answer = absurd along
along_command depth (Elapse asking masks path ∷ steps) h boxes left step a along not answer =
    along_command depth steps (after h (Elapse asking masks path)) boxes left step a along not answer
along_command depth (s ∷ steps) h boxes [] step a along not answer = absurd along
along_command depth (s ∷ steps) h boxes (b ∷ left) step a along not answer = (
  along.0,
  along_command depth steps (after h s) (boxes_after boxes b.command b.answer) left step a along.1 not answer,
)

-- a tick at the end
pub along_tick : (depth : ℕ) (steps : List Step) (h : Hierarchy) (boxes : Boxes) (answered : List Answered)
    (tick : Step) → AnswersAlong depth h boxes steps answered → IsTick tick
    → AnswersAlong depth h boxes (steps ++ tick ∷ []) answered
along_tick depth [] h boxes [] (Elapse asking masks path) along is = tt
along_tick depth [] h boxes [] _ along is = absurd is
along_tick depth [] h boxes (b ∷ left) tick along is = absurd along
along_tick depth (Elapse asking masks path ∷ steps) h boxes left tick along is =
    along_tick depth steps (after h (Elapse asking masks path)) boxes left tick along is
along_tick depth (s ∷ steps) h boxes [] tick along is = absurd along
along_tick depth (s ∷ steps) h boxes (b ∷ left) tick along is =
    (along.0, along_tick depth steps (after h s) (boxes_after boxes b.command b.answer) left tick along.1 is)
