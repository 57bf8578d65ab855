use Rattle.std.proofs.Common.{ap}
use Rattle.std.proofs.lemmas.Result.{on_ok_weaker}
use Rattle.hls_legal.specs.Commands.{is_done}
use Rattle.hls_view_tale.proofs.Followed.{told_done, told_refused}
use Rattle.hls_view_tale.proofs.tale.Tale.follow.Goals as goal

pub returns-in-Done : goal.returns-in-Done
returns-in-Done c =
    on_ok_weaker c.carry_out.result
    (λ does. told_done c.args.self.now c.carry_out.new.self c.args.answered.now c.args.place
    c.index-answered-place.result c.requires.place c.index-answered-place.is (ap is_done c.in-Done.is) does
    c.requires.told)
    c.carry_out.ensures

pub returns-in-Refused : goal.returns-in-Refused
returns-in-Refused c =
    told_refused c.args.self.now c.args.answered.now c.args.place c.index-answered-place.result c.requires.place
    c.index-answered-place.is (ap is_done c.in-Refused.is) c.requires.told
