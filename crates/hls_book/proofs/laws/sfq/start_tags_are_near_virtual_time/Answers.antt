use Rattle.hls_book.proofs.Bounds.{near-virtual-time}
use Rattle.hls_book.proofs.laws.sfq.start_tags_are_near_virtual_time.Goals as goal

pub returns : goal.returns
returns c = near-virtual-time c.args.sharing
