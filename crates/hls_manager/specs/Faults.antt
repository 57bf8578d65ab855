-- The refusal that a fault of a seat comes to.
use Rattle.std.specs.Prelude.{Some}
use Rattle.hls_text.specs.Lines.{Text}
use Rattle.hls_kinds.specs.declared.fault.SeatFault.{SeatFault}
use Rattle.hls_kinds.specs.declared.fault.SeatFault.TheVariants as faults
use Rattle.hls_report_text.specs.declared.refusal.Refusal.{Refusal}
use Rattle.hls_report_text.specs.declared.refusal.Refusal.TheVariants.{TermsUnfit, PriorityTaken, SeatsFull, NoRoom}

-- of a seat on the scheduler of this name
abbrev pub fault_refusal : (sched : Text) → SeatFault → Refusal
fault_refusal sched faults.Unfit = TermsUnfit sched
fault_refusal sched (faults.PriorityTaken priority) = PriorityTaken priority
fault_refusal sched (faults.Full seats) = SeatsFull (Some sched) seats
fault_refusal sched (faults.NoRoom free asked) = NoRoom free asked
