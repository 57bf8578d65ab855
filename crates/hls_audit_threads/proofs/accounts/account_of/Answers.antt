use Rattle.std.proofs.Common.{ℕ, ◌-◌, ◌≤◌, refl, ap, ◌∙◌, arith}
use Rattle.hls_report_text.specs.Content.{content_of}
use Rattle.hls_legal.specs.Accounts.{end_of, ticks_in}
use Rattle.hls_legal.specs.Ready.{is_ready}
use Rattle.hls_legal.specs.Schedule.{is_served}
use Rattle.hls_audit_threads.proofs.Counted.{counted_in, account_by}
use Rattle.hls_audit_threads.proofs.Found.{if_some}
use Rattle.hls_audit_threads.proofs.accounts.account_of.Goals as goal

pub returns : goal.returns
returns c =
    let content = content_of c.args.report.now in
    let stay = c.args.stay.now in
    let end = c.end_of-end.result in
    let n = c.saturating_sub-ticks.result in
    let is = c.end_of-end.ensures in
    let some = c.if-end-stay.false in
    let ends = c.requires.ends in
    let order : stay.since ≤ end = omega (arith, some) in
    let within : end ≤ content.horizon = omega (arith, is, ends) in
    if_some content stay end _ is (omega (arith, some))
    (account_by stay.name stay.name stay.since stay.since c.saturating_sub.result (end_of content stay - 1) stay.kept
    stay.kept c.count.result (ticks_in content stay (is_ready content stay.name)) c.count-2.result
    (ticks_in content stay (is_served content.stretches stay.name)) refl refl
    (c.saturating_sub.ensures ∙ ap (λ (m : ℕ). m - 1) is) refl
    (counted_in content stay (is_ready content stay.name) c.args.ready.now.spans.items c.count.result end n
    c.requires.ready is c.saturating_sub-ticks.ensures order within c.count.ensures)
    (counted_in content stay (is_served content.stretches stay.name) c.args.served.now.spans.items c.count-2.result
    end n c.requires.served is c.saturating_sub-ticks.ensures order within c.count-2.ensures))
