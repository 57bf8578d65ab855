use Rattle.hls_legal.proofs.Tests.{boxes_go}
use Rattle.hls_legal.proofs.Grows.{along_command, along_tick}
use Rattle.hls_legal.proofs.laws.answers.answers_go_on.Goals as goal

pub returns-clause-command : goal.returns-clause-command
returns-clause-command c = λ depth h boxes steps answered step a along not answer.
    along_command depth steps h boxes answered step a along not answer

pub returns-clause-tick : goal.returns-clause-tick
returns-clause-tick c = λ depth h boxes steps answered tick along is.
    along_tick depth steps h boxes answered tick along is

pub returns-clause-boxes : goal.returns-clause-boxes
returns-clause-boxes c = λ boxes answered a. boxes_go boxes answered a
