use Rattle.std.proofs.lemmas.Result.{IfOk-equal}
use Rattle.hls_report_text.proofs.Writings.{head_text}
use Rattle.hls_report_text.proofs.writing.put_head.Goals as goal

pub returns : goal.returns
returns c =
    IfOk-equal _ _ _ _ c.put-4.ensures
    (rw (
      c.in_ok-put_number-3.ensures,
      c.in_ok-put-3.ensures,
      c.in_ok-put_number-2.ensures,
      c.in_ok-put-2.ensures,
      c.in_ok-put_number.ensures,
      c.in_ok-put.ensures,
      c.from.ensures,
      c.from-2.ensures,
      c.from-3.ensures,
    ) (head_text c.args.out.now.items c.args.version c.args.horizon c.args.depth))
