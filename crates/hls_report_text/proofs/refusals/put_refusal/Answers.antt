use Rattle.std.proofs.Common.{append_assoc}
use Rattle.std.proofs.lemmas.Result.{IfOk-equal}
use Rattle.hls_report_text.proofs.refusals.put_refusal.Goals as goal

pub returns-in_ok-put_named-in-NotEmpty : goal.returns-in_ok-put_named-in-NotEmpty
returns-in_ok-put_named-in-NotEmpty c =
    rw c.in-NotEmpty.is
    (IfOk-equal _ _ _ _ c.put_counted-in-NotEmpty.ensures
    (simp (c.in_ok-put_named-in-NotEmpty.ensures, append_assoc)))

pub returns-in_ok-put_place-in-SeatsFull : goal.returns-in_ok-put_place-in-SeatsFull
returns-in_ok-put_place-in-SeatsFull c =
    rw c.in-SeatsFull.is
    (IfOk-equal _ _ _ _ c.put_counted-in-SeatsFull.ensures
    (simp (c.in_ok-put_place-in-SeatsFull.ensures, append_assoc)))

pub returns-in_ok-put_named-in-NoDerivation : goal.returns-in_ok-put_named-in-NoDerivation
returns-in_ok-put_named-in-NoDerivation c =
    rw c.in-NoDerivation.is
    (IfOk-equal _ _ _ _ c.put_counted-in-NoDerivation.ensures
    (simp (c.in_ok-put_named-in-NoDerivation.ensures, c.from.ensures, append_assoc)))
