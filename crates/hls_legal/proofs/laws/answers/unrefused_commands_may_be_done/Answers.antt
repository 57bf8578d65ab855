use Rattle.std.proofs.Common.{sym, subst}
use Rattle.hls_machine.specs.Hierarchy.{Hierarchy}
use Rattle.hls_legal.proofs.Done.{IsReached, reached}
use Rattle.hls_legal.proofs.Converse.{may_do}
use Rattle.hls_legal.proofs.laws.answers.unrefused_commands_may_be_done.Goals as goal

pub returns : goal.returns
returns c = λ past legal m is version command within none are.
    may_do m (subst (λ (h : Hierarchy). IsReached h) (sym is) (reached past legal)) version command within none are
