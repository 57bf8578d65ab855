use Rattle.std.proofs.Common.{refl, ap, arith, bit_or, bit_and, w32}
use Rattle.std.specs.Int.{bit_not}
use Rattle.hls_tree_nodes.proofs.Telling.{told_set, told_clear}
use Rattle.hls_tree_nodes.proofs.station.Station.tell.Goals as goal

pub returns-then-not-is_set : goal.returns-then-not-is_set
returns-then-not-is_set g c =
    told_set c.args.slot c.args.asks _ _ c.«if-asks».true c.requires.posted c.requires.taken c.request.ensures
    (ap (bit_or c.args.self.now.mask) c.bit.ensures) refl refl refl

pub returns-then-is_set : goal.returns-then-is_set
returns-then-is_set g c =
    told_clear c.args.slot c.args.asks _ _ c.«if-asks».false c.requires.within (omega arith) c.requires.posted
    c.release.ensures
    (ap (λ b. bit_and c.args.self.now.mask (bit_not w32 b)) c.«bit-then-is_set».ensures) refl refl refl
