-- Why a seat cannot be taken.
use Rattle.std.specs.Prelude.{Option, Some, Bool, true, false}
use Rattle.hls_kinds.specs.declared.fault.SeatFault.{SeatFault}
use Rattle.hls_kinds.specs.declared.fault.SeatFault.TheVariants.{PriorityTaken}

-- another seat has its priority
abbrev pub is_of_priority : Option SeatFault → Bool
is_of_priority (Some (PriorityTaken priority)) = true
is_of_priority _ = false
