use Rattle.std.proofs.Common.{◌+◌, ◌<◌, ◌≤◌, List, length, sym, ap, ◌∙◌, subst, arith, true, false, get_or}
use Rattle.std.specs.Prelude.{None, not}
use Rattle.hls_report_text.specs.declared.report.Run.{Run}
use Rattle.hls_audit_threads.proofs.MarkedLaws.{run_there, run_few, run_order}
use Rattle.hls_audit.proofs.IdleLaws.{IsCounted, counted_first, counted_few, counted_idle, counted_busy, counted_all}
use Rattle.hls_audit.proofs.IdleLaws.{none_if}
use Rattle.hls_audit.proofs.counts.idle_of.Goals.{then-is_none, else-is_none}
use Rattle.hls_audit.proofs.counts.idle_of.Goals as goal

abbrev no_run : Run
no_run = record { from = 0; to = 0; path = None }

pub loop-run-init : goal.loop-run-init
loop-run-init c = counted_first c.args.report.now c.requires.content

pub overflow_add-idle : goal.overflow_add-idle
overflow_add-idle c =
    let r = c.args.report.now in
    let lt = subst (λ (l : List Run). c.loop-run.run-index < length l) c.items-run-items.ensures c.loop-run-test.true in
    let few = run_few r c.items-run-items.result.now c.loop-run.run-index no_run c.requires.content
    c.items-run-items.ensures lt in
    omega (arith, few)

pub overflow_sub-idle : goal.overflow_sub-idle
overflow_sub-idle c =
    let r = c.args.report.now in
    let lt = subst (λ (l : List Run). c.loop-run.run-index < length l) c.items-run-items.ensures c.loop-run-test.true in
    let order = run_order r c.items-run-items.result.now c.loop-run.run-index no_run c.requires.content
    c.items-run-items.ensures lt in
    omega (arith, order)

pub overflow_add-idle-then-is_none : goal.overflow_add-idle-then-is_none
overflow_add-idle-then-is_none c =
    let r = c.args.report.now in
    let items = c.items-run-items.result.now in
    let at = c.loop-run.run-index in
    let lt = subst (λ (l : List Run). at < length l) c.items-run-items.ensures c.loop-run-test.true in
    let few = run_few r items at no_run c.requires.content c.items-run-items.ensures lt in
    let order = run_order r items at no_run c.requires.content c.items-run-items.ensures lt in
    let less = counted_few r at c.loop-run.idle (get_or items at no_run)
    (run_there r items at no_run c.items-run-items.ensures lt) c.loop-run.invariant in
    omega (arith, few, order, less)

pub loop-run-preserved : goal.loop-run-preserved
loop-run-preserved c =
    let r = c.args.report.now in
    let items = c.items-run-items.result.now in
    let at = c.loop-run.run-index in
    let lt = subst (λ (l : List Run). at < length l) c.items-run-items.ensures c.loop-run-test.true in
    let there = run_there r items at no_run c.items-run-items.ensures lt in
    elim c.if-is_none.branch [
      | then-is_none w ↦
          subst (IsCounted r (at + 1)) (sym w.idle-is)
          (counted_idle r at c.loop-run.idle (get_or items at no_run) c.requires.content there
          (none_if (get_or items at no_run).path true (c.is_none.ensures ∙ ap not w.if-is_none.true))
          c.loop-run.invariant)
      | else-is_none w ↦
          subst (IsCounted r (at + 1)) (sym w.idle-is)
          (counted_busy r at c.loop-run.idle (get_or items at no_run) c.requires.content there
          (none_if (get_or items at no_run).path false (c.is_none.ensures ∙ ap not w.if-is_none.false))
          c.loop-run.invariant)
    ]

pub returns : goal.returns
returns c =
    let r = c.args.report.now in
    counted_all r c.loop-run.run-index c.loop-run.idle
    (subst (λ (l : List Run). length l ≤ c.loop-run.run-index) c.items-run-items.ensures c.loop-run-test.false)
    c.loop-run.invariant
