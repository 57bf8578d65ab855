use Rattle.std.proofs.Common.{codes, decimal, ◌++◌}
use Rattle.std.proofs.lemmas.Result.{IfOk-equal}
use Rattle.hls_offer_text.proofs.Heads.{three_lines}
use Rattle.hls_offer_text.proofs.writing.put_head.Goals as goal

pub returns : goal.returns
returns c =
    IfOk-equal _ _ _ _ c.put_line-2.ensures
    (rw (c.in_ok-put_line.ensures, c.in_ok-put.ensures, c.from.ensures, c.from-2.ensures)
    (three_lines c.args.out.now.items (codes "hls-offer 1") (codes "tick " ++ decimal c.args.tick)
    (codes "depth " ++ decimal c.args.depth)))
