use Rattle.std.proofs.Common.{◌≡◌, Some, sym, ◌∙◌, ap, arith}
use Rattle.hls_text.specs.Tokens.{tokens_of}
use Rattle.hls_scenario.specs.declared.scenario.Item.{Item}
use Rattle.hls_lang.proofs.CommandLaws.{item_is, item_next}
use Rattle.hls_lang.proofs.commands.read_item.Goals as goal

pub returns-in-Ok-clause-found : goal.returns-in-Ok-clause-found
returns-in-Ok-clause-found c =
    item_is c.args.version c.args.horizon c.args.last (tokens_of c.args.line.now) c.in-Ok.item (omega arith)
    c.in-Ok.ensures

pub returns-in-Ok-clause-exact : goal.returns-in-Ok-clause-exact
returns-in-Ok-clause-exact c = λ item is.
    let e = sym c.in-Ok.ensures
    ∙ item_next c.args.version c.args.horizon c.args.last (tokens_of c.args.line.now) item (omega arith) is in
    let same : c.in-Ok.item ≡ item = cc in ap (λ (i : Item). Some i) same

pub returns-in-Err-Fault-clause-exact : goal.returns-in-Err-Fault-clause-exact
returns-in-Err-Fault-clause-exact c = λ item is.
    let read = rw c.in-Err-Fault.field-0-is at c.in-Err-Fault.ensures in
    let e = sym read
    ∙ item_next c.args.version c.args.horizon c.args.last (tokens_of c.args.line.now) item (omega arith) is in absurd cc
