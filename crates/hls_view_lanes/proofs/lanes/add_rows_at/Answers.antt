use Rattle.std.proofs.Common.{◌≡◌, ◌∙◌, List, true, ap, sym, subst, fold, map}
use Rattle.std.proofs.lemmas.Result.{on_ok_weaker}
use Rattle.hls_report_text.specs.Content.{content_of}
use Rattle.hls_view_tale.specs.declared.label.Label.{Label}
use Rattle.hls_view_tale.specs.declared.place.Place.{Place}
use Rattle.hls_view_tale.specs.declared.standing.Standing.{Standing}
use Rattle.hls_view_tale.specs.Places.{labels_of}
use Rattle.hls_view_tale.specs.Hierarchies.{standing_at}
use Rattle.hls_view_lanes.specs.Rows.{ways_at, has_row, with_rows, by_stays, ways_by_stays}
use Rattle.hls_view_lanes.specs.Inside.Kept.{HaveRows}
use Rattle.hls_view_lanes.proofs.RowLaws.{have-after, had-before}
use Rattle.hls_view_lanes.proofs.Stays.{by-stays-all, all-by-stays}
use Rattle.hls_view_lanes.proofs.lanes.add_rows_at.Goals as goal

pub returns-then-not-branch-clause-rows : goal.returns-then-not-branch-clause-rows
returns-then-not-branch-clause-rows c =
    let content = content_of c.args.report.now in
    let tick = c.args.tick in
    let rows = c.args.rows.now.items in
    let same : map labels_of c.args.following.now.hierarchy.places.items ≡ ways_at content tick =
    ap (λ (ps : List Place). map labels_of ps)
    (sym (c.in_ok-go_to.ensures.same c.if-not-branch.true) ∙ c.in_ok-go_to.ensures.hierarchy.places) in
    sym (had-before rows (ways_by_stays content tick)
    (by-stays-all (λ (way : List Label). has_row rows way ≡ true) content tick
    (subst (λ (ws : List (List Label)). HaveRows rows ws) same c.requires.have)))

pub returns-clause-have : goal.returns-clause-have
returns-clause-have c =
    let content = content_of c.args.report.now in
    let tick = c.args.tick in
    let ways = c.deref.result.now in
    let all = fold with_rows c.args.rows.now.items ways in
    let hierarchy = c.go_to.new.self.hierarchy in
    let is : ways ≡ ways_by_stays content tick =
    c.deref.ensures.value ∙ c.in_ok-ways.ensures
    ∙ ap (λ (s : List Standing). by_stays s hierarchy.places.items) c.in_ok-go_to.ensures.hierarchy.standing
    ∙ ap (by_stays (standing_at content tick)) c.in_ok-go_to.ensures.hierarchy.places in
    let have : HaveRows all (ways_at content tick) =
    all-by-stays (λ (way : List Label). has_row all way ≡ true) content tick
    (subst (λ (ws : List (List Label)). HaveRows all ws) is (have-after c.args.rows.now.items ways)) in
    on_ok_weaker c.add_rows.result
    (λ e. subst (λ (rs : List (List Label)). HaveRows rs (map labels_of hierarchy.places.items)) (sym e)
    (subst (λ (ps : List Place). HaveRows all (map labels_of ps)) (sym c.in_ok-go_to.ensures.hierarchy.places) have))
    c.add_rows.ensures
