use Rattle.std.proofs.Common.{◌+◌, [], List, arith, sym, subst}
use Rattle.std.specs.Prelude.{None}
use Rattle.hls_text.specs.Lines.{Text}
use Rattle.hls_report_text.specs.declared.report.Run.{Run}
use Rattle.hls_report.specs.Inside.Rests.{RunRest, FailsAt}
use Rattle.hls_report.proofs.RunSteps.{RunsRead, no_runs, one_run_more, whole_schedule, run_fails}
use Rattle.hls_report.proofs.RunSteps.{accounts_fail, nothing, err_gives}
use Rattle.hls_report.proofs.run_reading.runs.Goals as goal

pub loop-from-init : goal.loop-from-init
loop-from-init c =
    let known = c.in_ok-known.known.names.keys in
    let start = c.args.lines.now in record {
      read = subst (λ (last : Text). RunsRead c.args.horizon known c.new-runs.result.items 0 last start start)
          (sym c.as_slice-last.ensures)
          (subst (λ (runs : List Run). RunsRead c.args.horizon known runs 0 [] start start)
          (sym c.new-runs.ensures.items)
          (subst (λ (names : List Text). RunsRead c.args.horizon names [] 0 [] start start)
          (nothing known c.in_ok-known.ensures.names) (no_runs c.args.horizon start)));
      recent = c.in_ok-known.ensures.recent;
    }

pub next_run-requires-clause-room : goal.next_run-requires-clause-room
next_run-requires-clause-room c =
    let less = c.loop-from.invariant.read.passes.room in let room = c.requires.room in omega arith

pub next_run-requires-clause-known : goal.next_run-requires-clause-known
next_run-requires-clause-known c = c.loop-from.invariant.read.names

pub returns-in_err-told-clause-err : goal.returns-in_err-told-clause-err
returns-in_err-told-clause-err c =
    err_gives _ c.from_residual-in_err-told.result c.in_err-told.field-0.0
    (λ fault. FailsAt (RunRest c.args.horizon 0 None []) c.args.lines.now fault) c.from_residual-in_err-told.ensures.1
    (run_fails c.args.horizon c.loop-from.known.names.keys c.loop-from.runs.items c.loop-from.from
    c.loop-from.last.now c.args.lines.now c.loop-from.lines c.in_err-told.field-0.0 c.loop-from.invariant.read
    c.in_err-told.ensures.err)

pub next_run-requires-clause-recent : goal.next_run-requires-clause-recent
next_run-requires-clause-recent c = c.loop-from.invariant.recent

pub loop-from-preserved : goal.loop-from-preserved
loop-from-preserved c = record {
  read = subst (λ (runs : List Run). RunsRead c.args.horizon c.next_run.new.known.names.keys runs
      (c.in_ok-told.told.run.to + 1) c.in_ok-told.told.words.now c.args.lines.now c.next_run.new.lines)
      (sym c.in_ok-keep_run.ensures)
      (one_run_more c.args.horizon c.loop-from.known.names.keys c.next_run.new.known.names.keys
      c.loop-from.runs.items c.loop-from.from c.loop-from.last.now c.in_ok-told.told.words.now
      c.in_ok-told.told.run c.args.lines.now c.loop-from.lines c.next_run.new.lines
      c.loop-from.invariant.read c.in_ok-told.ensures.ok);
  recent = c.in_ok-told.ensures.recent;
}

pub accounts_line-requires : goal.accounts_line-requires
accounts_line-requires c =
    let less = c.loop-from.invariant.read.passes.room in let room = c.requires.room in omega arith

pub returns-in_err-accounts_line-clause-err : goal.returns-in_err-accounts_line-clause-err
returns-in_err-accounts_line-clause-err c =
    err_gives _ c.from_residual-in_err-accounts_line.result c.in_err-accounts_line.field-0.0
    (λ fault. FailsAt (RunRest c.args.horizon 0 None []) c.args.lines.now fault)
    c.from_residual-in_err-accounts_line.ensures.1
    (accounts_fail c.args.horizon c.loop-from.known.names.keys c.loop-from.runs.items c.loop-from.from
    c.loop-from.last.now c.args.lines.now c.loop-from.lines c.in_err-accounts_line.field-0.0
    c.loop-from.invariant.read c.loop-from-test.false c.in_err-accounts_line.ensures.err)

pub returns-clause-ok : goal.returns-clause-ok
returns-clause-ok c =
    let p = whole_schedule c.args.horizon c.loop-from.known.names.keys c.in_ok-names_of.field-0
    c.loop-from.runs.items c.loop-from.from c.loop-from.last.now c.args.lines.now c.loop-from.lines
    c.accounts_line.new.lines c.requires.few c.loop-from.invariant.read c.loop-from-test.false
    c.in_ok-accounts_line.ensures.ok c.in_ok-names_of.ensures in rw c.of.ensures p
