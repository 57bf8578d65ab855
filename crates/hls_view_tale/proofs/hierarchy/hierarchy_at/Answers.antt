use Rattle.std.proofs.Common.{sym, subst}
use Rattle.std.specs.List.{AllByRecursion}
use Rattle.hls_report_text.specs.Content.{content_of}
use Rattle.hls_view_tale.proofs.Promised.{IsPlaceValid, places_valid}
use Rattle.hls_view_tale.proofs.hierarchy.hierarchy_at.Goals as goal

pub go_to-requires-clause-following : goal.go_to-requires-clause-following
go_to-requires-clause-following c = c.new-following.ensures.following (content_of c.args.report.now)

pub returns-clause-valid : goal.returns-clause-valid
returns-clause-valid c =
    let content = content_of c.args.report.now in
    subst (AllByRecursion IsPlaceValid) (sym c.in_ok-go_to.ensures.hierarchy.places)
    (places_valid content c.args.tick c.requires.content)
