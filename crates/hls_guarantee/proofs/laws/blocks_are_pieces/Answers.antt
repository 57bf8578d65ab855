use Rattle.std.proofs.Common.{length}
use Rattle.hls_guarantee.specs.Service.{schedule_of}
use Rattle.hls_guarantee.proofs.Pieces.{pieces-whole, whole-pieces}
use Rattle.hls_guarantee.proofs.laws.blocks_are_pieces.Goals as goal

pub returns : goal.returns
returns c = λ list. (
  pieces-whole c.args.hard c.args.x c.args.y (schedule_of list) (length list),
  whole-pieces c.args.hard c.args.x c.args.y (schedule_of list) (length list),
)
