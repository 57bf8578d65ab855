use Rattle.std.proofs.Common.{◌++◌, ap, sym, take, ◌∙◌}
use Rattle.std.proofs.lemmas.List.{take_min}
use Rattle.std.proofs.lemmas.Result.{IfOk-equal}
use Rattle.hls_core_journal.specs.Schedule.{tail_text}
use Rattle.hls_core_journal.proofs.Endings.{tail_spelled}
use Rattle.hls_core_journal.proofs.tails.put_tail.Goals as goal

pub returns-in_ok-put_places-in-Some : goal.returns-in_ok-put_places-in-Some
returns-in_ok-put_places-in-Some c =
    let path = c.in-Some.path in
    IfOk-equal _ _ _ _ c.put-in-Some.ensures
    (tail_spelled c.args.out.now.items c.put.new.out.items c.put_places.new.out.items c.args.names.now.keys path _
    c.in_ok-put-in-Some.ensures
    (ap (λ n. take n path.names) c.min-count.ensures ∙ take_min c.from.result path.names
    ∙ ap (λ n. take n path.names) c.from.ensures)
    c.in_ok-put_places-in-Some.ensures
    ∙ ap (λ p. c.args.out.now.items ++ tail_text c.args.names.now.keys p) (sym c.in-Some.is))
