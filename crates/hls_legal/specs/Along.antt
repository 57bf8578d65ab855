-- The defined answers along a run.
use Rattle.std.specs.Prelude.{ℕ, List, [], ◌∷◌}
use Rattle.hls_report_text.specs.declared.report.Answered.{Answered}
use Rattle.hls_machine.specs.Hierarchy.{Hierarchy}
use Rattle.hls_machine.specs.Steps.{Step, Elapse, after}
use Rattle.hls_legal.specs.Moment.{Boxes}
use Rattle.hls_legal.specs.Answers.{IsAnswer}
use Rattle.hls_legal.specs.Kit.{boxes_after}

-- a tick that elapses, and no command
abbrev pub IsTick : Step → Type 0
IsTick (Elapse asking masks path) = Unit {0}
IsTick _ = ⊥

-- Along these steps each command has its defined answer where it stands. A command is one step, and ticks
-- that elapse stand between them.
abbrev pub AnswersAlong : (depth : ℕ) → Hierarchy → Boxes → List Step → List Answered → Type 0
AnswersAlong depth h boxes [] [] = Unit {0}
AnswersAlong depth h boxes (Elapse asking masks path ∷ steps) left =
    AnswersAlong depth (after h (Elapse asking masks path)) boxes steps left
AnswersAlong depth h boxes (step ∷ steps) (a ∷ left) =
    IsAnswer (record { hierarchy = h; boxes = boxes; depth = depth }) a.command a.answer
    × AnswersAlong depth (after h step) (boxes_after boxes a.command a.answer) steps left
AnswersAlong depth h boxes _ _ = ⊥
