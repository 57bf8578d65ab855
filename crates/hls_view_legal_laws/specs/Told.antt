-- What a margin has of an account.
use Rattle.hls_report_text.specs.declared.report.Account.{Account}
use Rattle.hls_view_margins.specs.declared.margin.Margin.{Margin}

abbrev pub account_told : Margin → Account
account_told m = record {
  name = m.name;
  from = m.from;
  to = m.to;
  kept = m.kept;
  ready = m.ready;
  served = m.served;
}
