use Rattle.std.proofs.Common.{append_assoc}
use Rattle.std.proofs.lemmas.Result.{IfOk-equal}
use Rattle.hls_report_text.proofs.Writings.{ended-map}
use Rattle.hls_report_text.proofs.writing.put_answer.Goals as goal

pub returns-in_ok-put-in-Done : goal.returns-in_ok-put-in-Done
returns-in_ok-put-in-Done c =
    rw (c.in-Done.is)
    (IfOk-equal _ _ _ _ c.put_seats.ensures
    (simp (c.in_ok-put-in-Done.ensures, c.items.ensures, ended-map, append_assoc)))
