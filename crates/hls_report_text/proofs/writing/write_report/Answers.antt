use Rattle.hls_report_text.proofs.Writings.{commands_answers, accounts_kept, whole_report}
use Rattle.hls_report_text.proofs.writing.write_report.Goals as goal

pub put_all_answered-requires : goal.put_all_answered-requires
put_all_answered-requires c = rw c.items.ensures (commands_answers _ _ _ _ c.requires.content.answered)

pub put_accounts-requires : goal.put_accounts-requires
put_accounts-requires c = rw c.items-4.ensures (accounts_kept _ _ c.requires.content.accounts)

pub returns : goal.returns
returns c =
    rw (
      c.in_ok-put_end.ensures,
      c.in_ok-put_accounts.ensures,
      c.in_ok-put-2.ensures,
      c.in_ok-put_runs.ensures,
      c.in_ok-put.ensures,
      c.in_ok-put_all_answered.ensures,
      c.in_ok-put_head.ensures,
      c.items.ensures,
      c.items-2.ensures,
      c.items-3.ensures,
      c.items-4.ensures,
      c.new-out.ensures.items,
    )
    (whole_report c.args.report.now)
