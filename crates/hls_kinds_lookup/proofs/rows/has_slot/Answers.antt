use Rattle.std.proofs.Common.{arith}
use Rattle.std.proofs.lemmas.Bool.{le-ltb}
use Rattle.std.proofs.lemmas.Nat.Bits.{bit_at_above}
use Rattle.hls_kinds_lookup.proofs.rows.has_slot.Goals as goal

pub returns-else-slot-lt32 : goal.returns-else-slot-lt32
returns-else-slot-lt32 c =
    rw (bit_at_above c.args.mask 32 c.args.slot (omega arith) (omega arith))
    (le-ltb c.args.slot 32 c.if-slot-lt32.false)
