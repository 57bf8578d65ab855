use Rattle.std.proofs.Common.{ℕ, ◌+◌, ◌<◌, sym, subst, length}
use Rattle.std.specs.Prelude.{Option}
use Rattle.hls_audit_threads.specs.Inside.Chains.{IsNext, next_of}
use Rattle.hls_audit_threads.proofs.ChainLaws.{left_behind, chain_smaller}
use Rattle.hls_audit_threads.proofs.MarkedLaws.{IsServing, serving_there, serving_next, serving_more, serving_all}
use Rattle.hls_audit_threads.proofs.MarkedLaws.{run_there, run_order, run_few}
use Rattle.hls_audit_threads.proofs.threads.served_ticks.Goals as goal

pub add_run-requires-clause-order : goal.add_run-requires-clause-order
add_run-requires-clause-order c =
    let r = c.args.report.now in
    let keys = c.args.lookup.now.served.items in
    let name = c.args.name.now in
    let spans = c.loop-next.served.spans.items in
    let going = subst (IsServing r keys name spans) c.in-Some.is c.loop-next.invariant in
    let lt = serving_there r keys name spans c.in-Some.at c.requires.lookup.served going in
    run_order r c.items-runs.result.now c.in-Some.at _ c.requires.formed.content c.items-runs.ensures lt

pub add_run-requires-clause-few : goal.add_run-requires-clause-few
add_run-requires-clause-few c =
    let r = c.args.report.now in
    let keys = c.args.lookup.now.served.items in
    let name = c.args.name.now in
    let spans = c.loop-next.served.spans.items in
    let going = subst (IsServing r keys name spans) c.in-Some.is c.loop-next.invariant in
    let lt = serving_there r keys name spans c.in-Some.at c.requires.lookup.served going in
    run_few r c.items-runs.result.now c.in-Some.at _ c.requires.formed.content c.items-runs.ensures lt

pub loop-next-smaller : goal.loop-next-smaller
loop-next-smaller c =
    let r = c.args.report.now in
    let keys = c.args.lookup.now.served.items in
    let name = c.args.name.now in
    let spans = c.loop-next.served.spans.items in
    let going = subst (IsServing r keys name spans) c.in-Some.is c.loop-next.invariant in
    let lt = serving_there r keys name spans c.in-Some.at c.requires.lookup.served going in
    let count = length r.runs in
    subst (λ (n : Option ℕ). left_behind count n < left_behind count c.loop-next.next) (sym c.next-next.ensures)
    (subst (λ (m : Option ℕ). left_behind count (next_of c.args.lookup.now.runs c.in-Some.at) < left_behind count m)
    (sym c.in-Some.is)
    (chain_smaller keys name c.in-Some.at count (next_of c.args.lookup.now.runs c.in-Some.at) lt
    (serving_next r keys c.args.lookup.now.runs name spans c.in-Some.at c.requires.lookup.runs going)))

pub loop-next-preserved : goal.loop-next-preserved
loop-next-preserved c =
    let r = c.args.report.now in
    let keys = c.args.lookup.now.served.items in
    let name = c.args.name.now in
    let spans = c.loop-next.served.spans.items in
    let going = subst (IsServing r keys name spans) c.in-Some.is c.loop-next.invariant in
    let lt = serving_there r keys name spans c.in-Some.at c.requires.lookup.served going in
    serving_more r keys name spans c.add_run.new.served.spans.items c.in-Some.at _ c.next-next.result
    c.requires.formed.content c.requires.lookup.served
    (run_there r c.items-runs.result.now c.in-Some.at _ c.items-runs.ensures lt) c.in_ok-add_run.ensures
    (subst (IsNext keys name (c.in-Some.at + 1)) (sym c.next-next.ensures)
    (serving_next r keys c.args.lookup.now.runs name spans c.in-Some.at c.requires.lookup.runs going)) going

pub returns : goal.returns
returns c =
    let r = c.args.report.now in
    let keys = c.args.lookup.now.served.items in
    let name = c.args.name.now in
    let spans = c.loop-next.served.spans.items in
    serving_all r keys name spans c.requires.formed.content c.requires.lookup.served
    (subst (IsServing r keys name spans) c.in_default.is c.loop-next.invariant)
