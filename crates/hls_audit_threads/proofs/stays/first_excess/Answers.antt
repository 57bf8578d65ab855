use Rattle.std.proofs.Common.{◌≡◌, ℕ, ◌≤◌, sym, arith}
use Rattle.std.specs.Prelude.{Option}
use Rattle.std.proofs.lemmas.Result.{IfOk-weaker}
use Rattle.hls_report_text.specs.Content.{Content, content_of}
use Rattle.hls_legal.specs.Accounts.{end_of}
use Rattle.hls_audit_watch.specs.First.{FirstAt}
use Rattle.hls_audit_threads.specs.Inside.Sites.{Exceeds}
use Rattle.hls_audit_threads.specs.Inside.Ticks.{TellsServed}
use Rattle.hls_audit_threads.proofs.stays.first_excess.Goals as goal

pub returns : goal.returns
returns c =
    let stay = c.args.stay.now in
    let until = c.end_of-until.result in
    let is = c.end_of-until.ensures in
    let ends = c.requires.ends in
    IfOk-weaker c.first_exceeding.result
    (λ (first : Option ℕ). (content : Content) → end_of content stay ≡ until → until ≤ content.horizon →
    TellsServed content stay.name c.args.served.now.spans.items →
    FirstAt (λ t. Exceeds content t stay) first)
    (λ (first : Option ℕ). FirstAt (λ t. Exceeds (content_of c.args.report.now) t stay) first)
    (λ first told. told (content_of c.args.report.now) (sym is) (omega (arith, is, ends)) c.requires.served)
    c.first_exceeding.ensures
