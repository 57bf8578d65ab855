use Rattle.hls_view_tale.proofs.Followed.{told_none}
use Rattle.hls_view_tale.proofs.tale.Tale.new.Goals as goal

pub returns : goal.returns
returns c = λ all. told_none _ all c.new.ensures.items c.new-2.ensures.items c.new-3.ensures.items
