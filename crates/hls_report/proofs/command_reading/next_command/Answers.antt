use Rattle.std.proofs.Common.{◌-◌, ◌∷◌, []}
use Rattle.std.proofs.lemmas.Result.{err_from_is_err_and}
use Rattle.hls_report_text.specs.ReportText.{item_text}
use Rattle.hls_report.specs.Inside.Rests.{CommandRest, AnswerRest}
use Rattle.hls_report.proofs.CommandSteps.{answer_comes}
use Rattle.hls_report.proofs.Stuck.{fail_behind}
use Rattle.hls_report.proofs.command_reading.next_command.Goals as goal

pub returns-in_err-answer-in-Some-clause-err : goal.returns-in_err-answer-in-Some-clause-err
returns-in_err-answer-in-Some-clause-err c =
    let i = c.in-Some.item in
    let p = rw c.in-Some.is at c.in_ok-item.ensures.ok in
    let left = c.args.left - 1 in
    let e = err_from_is_err_and c.from_residual-in_err-answer-in-Some.result
    c.from_residual-in_err-answer-in-Some.ensures.1 in
    rw (e.1, e.2) (fail_behind (CommandRest c.args.version c.args.horizon c.args.last c.args.left)
    (AnswerRest i.command c.args.version c.args.horizon i.tick left) (item_text c.args.version i ∷ []) c.args.lines.now
    c.next_item.new.lines c.in_err-answer-in-Some.field-0.0 p.2
    (c.in_err-answer-in-Some.ensures.err c.args.version c.args.horizon i.tick left))

pub returns-in_ok-answer-in-Some-clause-ok : goal.returns-in_ok-answer-in-Some-clause-ok
returns-in_ok-answer-in-Some-clause-ok c =
    let i = c.in-Some.item in
    let p = rw c.in-Some.is at c.in_ok-item.ensures.ok in
    answer_comes c.args.version c.args.horizon c.args.last c.args.left i c.in_ok-answer-in-Some.answer c.args.lines.now
    c.next_item.new.lines c.answer.new.lines p c.in_ok-answer-in-Some.ensures.ok.0
    c.in_ok-answer-in-Some.ensures.ok.1
