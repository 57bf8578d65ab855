use Rattle.std.proofs.Common.{arith, sym, subst}
use Rattle.std.specs.Prelude.{Some, None}
use Rattle.hls_audit_spans.specs.Spans.{IsNext, IsNextAt}
use Rattle.hls_audit_threads.specs.Inside.Lines.{IsReleaseFrom}
use Rattle.hls_releases.proofs.Releases.{last_upto, last_is_release}
use Rattle.hls_audit_threads.proofs.ReleaseLaws.{last_above}
use Rattle.hls_audit_threads.proofs.lines.Periodic.used.Goals as goal

pub returns-then-at-until-clause-release : goal.returns-then-at-until-clause-release
returns-then-at-until-clause-release c =
    let period = c.args.self.now.period in
    let since = c.args.self.now.since in
    let at = c.max-at.result in
    let most = c.max-at.ensures in
    let release = c.requires.release (omega arith) in
    let early = release.0 in
    let above = last_above period since c.args.release at c.requires.some release (omega arith) in
    let upto = last_upto (Some period) since at (omega arith) in
    subst (IsReleaseFrom period since c.args.release c.args.until) (sym c.last_release.ensures) (record {
      order = above;
      within = omega arith;
      is = last_is_release period since at (omega arith);
    })

pub returns-then-at-until-clause-next : goal.returns-then-at-until-clause-next
returns-then-at-until-clause-next c = λ f end tell le within t lo hi.
    let found : IsNextAt f c.args.release end c.in-Some.at =
    subst (IsNext f c.args.release end) c.in-Some.is (c.next_near.ensures f end tell le) in
    let release = c.requires.release (omega arith) in
    let early = release.0 in
    let behind = found.behind in
    let upto = last_upto (Some c.args.self.now.period) c.args.self.now.since c.max-at.result (omega arith) in
    let is = c.last_release.ensures in
    found.none t lo (omega arith)

pub returns-else-at-until-clause-next : goal.returns-else-at-until-clause-next
returns-else-at-until-clause-next c = λ f end tell le within t lo hi.
    let found : IsNextAt f c.args.release end c.in-Some.at =
    subst (IsNext f c.args.release end) c.in-Some.is (c.next_near.ensures f end tell le) in
    let behind = found.behind in
    found.none t lo (omega arith)

pub returns-in-None-clause-next : goal.returns-in-None-clause-next
returns-in-None-clause-next c = λ f end tell le within t lo hi.
    let none : IsNext f c.args.release end None =
    subst (IsNext f c.args.release end) c.in-None.is (c.next_near.ensures f end tell le) in
    none t lo (omega arith)
