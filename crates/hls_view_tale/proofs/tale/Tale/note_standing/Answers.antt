use Rattle.std.proofs.Common.{◌∙◌, List, ap, sym}
use Rattle.std.proofs.lemmas.Result.{on_ok_weaker}
use Rattle.hls_text.specs.Lines.{Text}
use Rattle.hls_scenario.specs.declared.scenario.Command.{Command}
use Rattle.hls_audit_clauses.specs.declared.member.Member.{Member}
use Rattle.hls_view_tale.specs.Standings.{moved_with, with_reopened, standing_after}
use Rattle.hls_view_tale.proofs.tale.Tale.note_standing.Goals as goal

pub returns-in_ok-moved-in-Move-clause-standing : goal.returns-in_ok-moved-in-Move-clause-standing
returns-in_ok-moved-in-Move-clause-standing c =
    let tree = c.args.self.now.tree.items in
    let threads = c.args.self.now.threads.items in
    let all = c.args.self.now.standing.items in
    on_ok_weaker c.reopen_all.result
    (λ e. e
    ∙ ap (λ (names : List Text). with_reopened c.args.place names all)
    (c.deref-in-Move-2.ensures.value
    ∙ c.in_ok-moved-in-Move.ensures
    ∙ ap (λ (ms : List Member). moved_with ms c.deref-in-Move.result.now c.in-Move.name) c.deref.ensures.value
    ∙ ap (λ (ts : List Text). moved_with tree ts c.in-Move.name) c.deref-in-Move.ensures.value)
    ∙ ap (λ (command : Command). standing_after tree threads c.args.place command all) (sym c.in-Move.is))
    c.reopen_all.ensures
