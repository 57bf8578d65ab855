use Rattle.std.proofs.Common.{arith, sym, ◌-◌, ap, ◌∙◌}
use Rattle.hls_kinds.specs.Tags.{start_tags}
use Rattle.hls_chron.specs.Seats.{served}
use Rattle.hls_chron.specs.Ticks.{count}
use Rattle.hls_kinds.proofs.TagLaws.{start_tags-zero, start_tags-more, start_of-parts}
use Rattle.hls_kinds_lookup.proofs.tags.+tags.Goals as goal

pub start_in-returns-then-rounds-eq0-clause-start :
    goal.start_in-returns-then-rounds-eq0-clause-start
start_in-returns-then-rounds-eq0-clause-start t c =
    rw (c.if-rounds-eq0.true) (sym (start_tags-zero c.args.quantum c.args.book.now c.args.tick c.args.slot))

pub start_in-returns-clause-start : goal.start_in-returns-clause-start
start_in-returns-clause-start t c =
    let b = c.args.book.now in
    let earlier = c.args.rounds - 1 in
    let tick = c.args.tick in
    let slot = c.args.slot in
    let quantum = c.args.quantum in
    let start = start_tags quantum b earlier in
    let more = start_tags-more quantum b c.args.rounds earlier tick slot (omega (arith, c.if-rounds-eq0.false)) in
    let had = ap (count (served b slot) c.asking_since-from.result) c.saturating_sub.ensures in
    let had = c.count_served-served.ensures ∙ had in
    let of_share = start_of-parts quantum b start c.share_of-share.result tick slot _ _ _ _ _ _ _
    c.asking_since-from.ensures.since c.time_in-time.ensures.time c.finish_in-finish.ensures.finish
    c.max.ensures had c.tag_step-step.ensures.step c.steps.ensures.steps in
    rw (more, ← c.tenant_then.ensures, ← c.share_of-share.ensures) of_share
