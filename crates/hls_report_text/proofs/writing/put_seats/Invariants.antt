use Rattle.std.proofs.Common.{◌≡◌, ◌++◌, take, flat_map}
use Rattle.hls_report_text.specs.ReportText.{with_end, seat_text}
use Rattle.hls_report_text.proofs.writing.put_seats.Given as goal

abbrev pub invariant-loop-seat : goal.invariant-loop-seat
invariant-loop-seat l =
    l.out.items ≡ l.fn.out.items ++ flat_map (λ seat. with_end (seat_text seat)) (take l.seat-index l.seats)
