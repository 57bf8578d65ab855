use Rattle.std.proofs.Common.{◌≡◌, ◌++◌, take}
use Rattle.hls_report_text.specs.ReportText.{ended}
use Rattle.hls_legal.specs.Moment.{Moment}
use Rattle.hls_core.specs.Asking.{IsMomentOf}
use Rattle.hls_offer.specs.Told.{open_told}
use Rattle.hls_offer.proofs.offering.put_requests.Given as goal

abbrev pub invariant-loop-wanted : goal.invariant-loop-wanted
invariant-loop-wanted g l =
    (m : Moment) → IsMomentOf (λ z. (goal.Scheduler-dyn g z).seen z.1) l.core m → l.out.items
    ≡ l.fn.out.items ++ ended (open_told m.hierarchy l.core.journal.ticks l.wish (take l.wanted-index l.lines)).lines
