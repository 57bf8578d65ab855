use Rattle.std.proofs.Common.{◌≡◌, ◌+◌, List, refl, sym, subst, arith, length, get_or}
use Rattle.std.proofs.lemmas.Option.{slice_get_read}
use Rattle.hls_report_text.specs.declared.report.Answered.{Answered}
use Rattle.hls_report_text.specs.Content.{content_of}
use Rattle.hls_legal.specs.Schedule.{is_served}
use Rattle.hls_audit_threads.specs.Inside.Chains.{IsNext}
use Rattle.hls_audit_threads.proofs.Formed.{are_in_order}
use Rattle.hls_audit_threads.proofs.Linked.{ready_told, commands_early}
use Rattle.hls_audit_threads.proofs.LineLaws.{IsFilling, filling_here, filling_more, filling_all, filling_next}
use Rattle.hls_audit_threads.proofs.threads.ready_ticks.Goals as goal

pub loop-next-preserved : goal.loop-next-preserved
loop-next-preserved c =
    let r = c.args.report.now in
    let content = content_of r in
    let xs = r.answered in
    let keys = c.args.lookup.now.roused.items in
    let name = c.args.name.now in
    let f = is_served content.stretches name in
    let end = r.horizon in
    let since = c.loop-next.since in
    let ready = c.loop-next.ready.spans.items in
    let readiness = c.loop-next.readiness in
    let at = c.in-Some.at in
    let a = c.index-answered-at.result in
    let formed = c.requires.formed.content in
    let going = subst (IsFilling xs keys name f end since ready readiness) c.in-Some.is c.loop-next.invariant in
    let here = filling_here xs keys name f end since ready readiness at c.requires.lookup.roused going in
    let is : a ≡ get_or xs at a =
    subst (λ (l : List Answered). a ≡ get_or l at a) c.items-answered.ensures c.index-answered-at.is in
    let there = slice_get_read xs (length xs) at a refl here.0 is in
    let early = commands_early content xs end formed refl refl at a there in
    subst (λ x. IsFilling xs keys name f end a.tick c.fill.new.ready.spans.items x c.next-next.result)
    (sym c.readiness_of-readiness.ensures)
    (filling_more xs keys name f end since ready c.fill.new.ready.spans.items readiness at a c.next-next.result
    (are_in_order content xs formed refl) c.requires.lookup.roused going is early
    (λ g tell same. c.in_ok-fill.ensures f g end c.requires.served early tell same)
    (subst (IsNext keys name (at + 1)) (sym c.next-next.ensures)
    (filling_next xs keys c.args.lookup.now.commands name f end since ready readiness at c.requires.lookup.commands
    going)))

pub returns : goal.returns
returns c =
    let r = c.args.report.now in
    let content = content_of r in
    let xs = r.answered in
    let keys = c.args.lookup.now.roused.items in
    let name = c.args.name.now in
    let f = is_served content.stretches name in
    let end = r.horizon in
    let since = c.loop-next.since in
    let ready = c.loop-next.ready.spans.items in
    let readiness = c.loop-next.readiness in
    ready_told content xs name c.fill-2.new.ready.spans.items refl
    (filling_all xs keys name f end since ready c.fill-2.new.ready.spans.items readiness c.requires.lookup.roused
    (subst (IsFilling xs keys name f end since ready readiness) c.in_default.is c.loop-next.invariant)
    (λ g tell same. c.in_ok-fill-2.ensures f g end c.requires.served (omega arith) tell same))
