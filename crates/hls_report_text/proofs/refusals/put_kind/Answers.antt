use Rattle.std.proofs.Common.{append_assoc}
use Rattle.std.proofs.lemmas.Result.{IfOk-equal}
use Rattle.hls_report_text.proofs.refusals.put_kind.Goals as goal

pub returns : goal.returns
returns c =
    IfOk-equal _ _ _ _ c.put_counted.ensures
    (simp (c.in_ok-put-2.ensures, c.in_ok-put.ensures, c.kind_word.ensures, append_assoc))
