use Rattle.std.proofs.Common.{◌≡◌, true, false, refl, arith, get_or, sym, ◌∙◌}
use Rattle.hls_audit_watch.proofs.Shorts.{shortless_none, shortless_off, shortless_on}
use Rattle.hls_audit_watch.proofs.Shorts.{short_found, short_nowhere}
use Rattle.hls_audit_watch.proofs.shortage.find_short.Goals as goal

pub loop-at-init : goal.loop-at-init
loop-at-init c =
    shortless_none c.args.watch.now.guarantee c.args.ready.now c.args.served.now c.args.watch.now refl c.requires.room
    c.requires.none

pub returns : goal.returns
returns c =
    short_nowhere c.args.watch.now.guarantee c.args.ready.now c.args.served.now c.loop-at.watch c.loop-at.at
    (omega (arith, c.loop-at-test.false, c.requires.same)) c.loop-at.invariant

pub loop-at-preserved-then-not-ready-at : goal.loop-at-preserved-then-not-ready-at
loop-at-preserved-then-not-ready-at c =
    shortless_off c.args.watch.now.guarantee c.args.ready.now c.args.served.now c.loop-at.watch c.restart.new.self
    c.loop-at.at c.restart.ensures c.if-not-ready-at.true c.loop-at.invariant

pub returns-then-not-kept : goal.returns-then-not-kept
returns-then-not-kept c =
    short_found c.args.watch.now.guarantee c.args.ready.now c.args.served.now c.loop-at.watch c.push.new.self
    c.loop-at.at (get_or c.args.served.now c.loop-at.at false) c.push.ensures c.if-not-ready-at.false refl
    (λ s. let no : false ≡ true = sym c.if-not-kept.true ∙ c.kept.ensures.1 s in cc) c.loop-at.invariant

pub loop-at-preserved : goal.loop-at-preserved
loop-at-preserved c =
    shortless_on c.args.watch.now.guarantee c.args.ready.now c.args.served.now c.loop-at.watch c.push.new.self
    c.loop-at.at (get_or c.args.served.now c.loop-at.at false) c.push.ensures c.if-not-ready-at.false refl
    (c.kept.ensures.0 c.if-not-kept.false) c.loop-at.invariant
