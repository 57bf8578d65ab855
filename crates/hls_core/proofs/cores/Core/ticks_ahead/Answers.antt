use Rattle.std.proofs.Common.{◌≡◌, arith, sym, ◌∙◌}
use Rattle.hls_core.proofs.Items.{inner, next_is, next_later, none_within, within_none}
use Rattle.hls_core.proofs.cores.Core.ticks_ahead.Goals as goal

pub overflow_sub-result : goal.overflow_sub-result
overflow_sub-result g c =
    let later = next_later _ c.ticks-now.result c.in-Some.tick c.next_after.result c.next_after.ensures c.in-Some.is in
    let least = c.min.ensures in
    let now = c.ticks-now.ensures in
    let early = c.requires.early in omega (arith, later, least, now, early)

pub returns-in-Some-clause-some : goal.returns-in-Some-clause-some
returns-in-Some-clause-some g c =
    let later = next_later _ c.ticks-now.result c.in-Some.tick c.next_after.result c.next_after.ensures c.in-Some.is in
    let least = c.min.ensures in
    let now = c.ticks-now.ensures in
    let early = c.requires.early in omega (arith, later, least, now, early)

pub returns-in-Some-clause-none_due : goal.returns-in-Some-clause-none_due
returns-in-Some-clause-none_due g c =
    none_within c.args.self.now.scenario.items c.args.self.now.agenda c.args.self.now.journal.ticks c.ticks-now.result _
    c.next_after.result c.requires.none_due c.ticks-now.ensures c.next_after.ensures
    (λ t e. (let same : t ≡ c.in-Some.tick = inner t c.in-Some.tick (sym e ∙ c.in-Some.is) in
    let later = next_later _ c.ticks-now.result c.in-Some.tick c.next_after.result c.next_after.ensures c.in-Some.is in
    let least = c.min.ensures in
    let now = c.ticks-now.ensures in
    let early = c.requires.early in omega (arith, same, later, least, now, early)))

pub returns-in-None-clause-none_due : goal.returns-in-None-clause-none_due
returns-in-None-clause-none_due g c =
    none_within c.args.self.now.scenario.items c.args.self.now.agenda c.args.self.now.journal.ticks c.ticks-now.result _
    c.next_after.result c.requires.none_due c.ticks-now.ensures c.next_after.ensures
    (λ t e. within_none t c.next_after.result c.in-None.is e)

pub returns-in-Some-clause-next : goal.returns-in-Some-clause-next
returns-in-Some-clause-next g c = λ before.
    let next = next_is c.args.self.now.scenario.items c.args.self.now.agenda c.args.self.now.journal.ticks
    c.ticks-now.result c.in-Some.tick c.next_after.result c.requires.none_due c.ticks-now.ensures c.next_after.ensures
    c.in-Some.is in
    let later = next_later _ c.ticks-now.result c.in-Some.tick c.next_after.result c.next_after.ensures c.in-Some.is in
    let least = c.min.ensures in
    let now = c.ticks-now.ensures in
    let at = next.2 in
    (next.0, next.1, omega (arith, before, later, least, now, at))
