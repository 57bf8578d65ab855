use Rattle.hls_view_tree.proofs.Slices.{part_of}
use Rattle.hls_view_tree.proofs.derived.commands_from.Goals as goal

pub returns : goal.returns
returns c =
    part_of c.args.answered.now c.args.from c.args.to c.end_behind-end.result c.min.result c.end_behind-end.ensures
    c.min.ensures
