use Rattle.hls_legal.proofs.Taken.{only_late, possible_done}
use Rattle.hls_legal.proofs.laws.answers.doable_commands_are_done.Goals as goal

pub returns-clause-only : goal.returns-clause-only
returns-clause-only c = λ m command listed may r f. only_late m listed command may r f

pub returns-clause-done : goal.returns-clause-done
returns-clause-done c = λ m command listed may box are. possible_done m listed command may box are
