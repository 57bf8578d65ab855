-- A part of the full height.
use Rattle.std.proofs.Common.{◌≡◌, ℕ, ◌*◌, ◌/◌, ◌<◌, ◌≤◌, arith}
use Rattle.std.proofs.lemmas.Nat.{mul-le, div_below}
use Rattle.std.proofs.Math.Nat.{div-le_of_le-mul, mul-div_cancel_left, mul-lt-mul_of_pos_left, mul_comm}

pub part_within : (some all full : ℕ) → some ≤ all → some * full / all ≤ full
part_within some all full few = div-le_of_le-mul all (mul-le some full all full few (omega arith))

pub part_below : (some all full : ℕ) → some < all → 0 < full → some * full / all < full
part_below some all full few seen =
    div_below (some * full) all full (omega (arith, few))
    (rw (mul_comm some full) (mul-lt-mul_of_pos_left few seen))

pub part_whole : (all full : ℕ) → 0 < all → all * full / all ≡ full
part_whole all full some = mul-div_cancel_left full some
