use Rattle.std.proofs.Common.{refl}
use Rattle.std.proofs.lemmas.Result.{on_ok_weaker}
use Rattle.hls_view_lanes.proofs.TellingLaws.{renewed}
use Rattle.hls_view_lanes.proofs.telling.Telling.go_to.Goals as goal

pub returns-then-branch : goal.returns-then-branch
returns-then-branch c =
    on_ok_weaker c.renew.result
    (λ is. renewed c.args.report.now c.args.self.now.rows.items c.args.tick _ c.renew.new.self refl
    c.requires.telling.readings c.in_ok-go_to.ensures.following c.in_ok-go_to.ensures.hierarchy is)
    c.renew.ensures
