use Rattle.std.proofs.Common.{arith}
use Rattle.hls_core_journal.proofs.Pairs.{moved_last}
use Rattle.hls_core_journal.proofs.answered.move_last.Goals as goal

pub returns-in_ok-push-clause-told : goal.returns-in_ok-push-clause-told
returns-in_ok-push-clause-told c =
    let same = c.requires in
    let items = c.in-Some-Some.ensures.fewer in
    let answers = c.in-Some-Some.ensures'.fewer in
    moved_last _ _ _ _ c.in-Some-Some.item c.in-Some-Some.answer _ _ (omega (arith, same, items, answers))
    c.in-Some-Some.ensures.items c.in-Some-Some.ensures'.items c.in_ok-push.ensures.items
