use Rattle.std.proofs.Common.{◌-◌, ap, arith}
use Rattle.hls_core.proofs.Tellings.{may_put, told_last, on_done, item_at, untold_within}
use Rattle.hls_core.proofs.telling.tell_last.Goals as goal

pub put_answered-requires-clause-command : goal.put_answered-requires-clause-command
put_answered-requires-clause-command g c =
    let at = ap (λ n. n - 1) c.place.ensures in
    let within = untold_within _ c.args.core.now c.args.text.now.items c.requires in
    let there = item_at c.args.core.now.scenario.items c.items.result.now _ c.index-items-place.result c.items.ensures
    (omega (arith, at, within)) c.index-items-place.is in
    (may_put _ c.args.core.now c.take_last.new.self.answers.items c.args.text.now.items _ c.index-items-place.result
    c.in-Some.answer c.requires at there c.in-Some.ensures.taken).command

pub put_answered-requires-clause-answer : goal.put_answered-requires-clause-answer
put_answered-requires-clause-answer g c =
    let at = ap (λ n. n - 1) c.place.ensures in
    let within = untold_within _ c.args.core.now c.args.text.now.items c.requires in
    let there = item_at c.args.core.now.scenario.items c.items.result.now _ c.index-items-place.result c.items.ensures
    (omega (arith, at, within)) c.index-items-place.is in
    (may_put _ c.args.core.now c.take_last.new.self.answers.items c.args.text.now.items _ c.index-items-place.result
    c.in-Some.answer c.requires at there c.in-Some.ensures.taken).fits

pub returns-clause-told : goal.returns-clause-told
returns-clause-told g c =
    let at = ap (λ n. n - 1) c.place.ensures in
    let within = untold_within _ c.args.core.now c.args.text.now.items c.requires in
    let there = item_at c.args.core.now.scenario.items c.items.result.now _ c.index-items-place.result c.items.ensures
    (omega (arith, at, within)) c.index-items-place.is in
    on_done c.put_answered.result
    (told_last _ c.args.core.now c.take_last.new.self c.args.text.now.items c.put_answered.new.out.items _
    c.index-items-place.result c.in-Some.answer at there c.in-Some.ensures.taken c.in-Some.ensures.room
    c.in-Some.ensures.others)
    c.put_answered.ensures
