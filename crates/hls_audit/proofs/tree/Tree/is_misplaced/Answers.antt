use Rattle.std.proofs.Common.{◌∙◌, ◌||◌, ◌&&◌, List, ap, sym}
use Rattle.std.specs.Prelude.{not}
use Rattle.std.specs.List.{list_any}
use Rattle.std.proofs.lemmas.Result.{IfOk-weaker}
use Rattle.hls_scenario.specs.declared.scenario.Perch.{Perch}
use Rattle.hls_scenario.specs.declared.scenario.Command.{Command}
use Rattle.hls_scenario.specs.declared.scenario.Command.TheVariants.{Load}
use Rattle.hls_legal.specs.Under.{is_on}
use Rattle.hls_audit_clauses.specs.Names.{is_there, is_join, is_scheduler, is_under}
use Rattle.hls_audit_clauses.specs.Misplaced.{is_wrong_spot, is_misplaced}
use Rattle.hls_audit.proofs.Misplacing.{load_misplaced, move_misplaced, end_misplaced, wake_misplaced, block_misplaced}
use Rattle.hls_audit.proofs.tree.Tree.is_misplaced.Goals as goal

pub returns-else-is_there : goal.returns-else-is_there
returns-else-is_there c =
    let tree = c.args.self.now.members.items in
    let wrong = (λ (command : Command). λ (perches : List Perch).
    list_any (λ (perch : Perch). is_wrong_spot tree command perch.spot) perches) in
    let told = c.has_wrong_perch.ensures ∙ ap (wrong c.args.command.now) c.items.ensures
    ∙ ap (λ (command : Command). wrong command c.in-Load.perches) c.in-Load.is in
    told
    ∙ ap (λ b. b || list_any
    (λ (perch : Perch). is_wrong_spot tree (Load c.in-Load.name c.in-Load.config c.in-Load.perches)
    perch.spot) c.in-Load.perches) (sym c.if-is_there.false ∙ c.is_there.ensures)
    ∙ load_misplaced tree c.in-Load.name c.in-Load.config c.in-Load.perches
    ∙ ap (is_misplaced tree) (sym c.in-Load.is)

pub returns-in-Move : goal.returns-in-Move
returns-in-Move c =
    let tree = c.args.self.now.members.items in
    IfOk-weaker c.is_unmovable.result _ _
    (λ unmovable e. e
    ∙ ap (λ (command : Command). not (is_there tree c.in-Move.name) || is_join tree c.in-Move.name
    || (is_scheduler tree c.in-Move.name && is_on (is_under tree c.in-Move.name) c.in-Move.perch.spot)
    || is_wrong_spot tree command c.in-Move.perch.spot) c.in-Move.is
    ∙ move_misplaced tree c.in-Move.name c.in-Move.perch
    ∙ ap (is_misplaced tree) (sym c.in-Move.is))
    c.is_unmovable.ensures

pub returns-in-End : goal.returns-in-End
returns-in-End c =
    let tree = c.args.self.now.members.items in
    ap not c.is_thread.ensures ∙ end_misplaced tree c.in-End.name ∙ ap (is_misplaced tree) (sym c.in-End.is)

pub returns-in-Wake : goal.returns-in-Wake
returns-in-Wake c =
    let tree = c.args.self.now.members.items in
    ap not c.is_thread-in-Wake.ensures ∙ wake_misplaced tree c.in-Wake.name c.in-Wake.every c.in-Wake.burst
    ∙ ap (is_misplaced tree) (sym c.in-Wake.is)

pub returns-in-Block : goal.returns-in-Block
returns-in-Block c =
    let tree = c.args.self.now.members.items in
    ap not c.is_thread-in-Block.ensures ∙ block_misplaced tree c.in-Block.name
    ∙ ap (is_misplaced tree) (sym c.in-Block.is)
