-- The accounts of stays.
use Rattle.std.specs.Prelude.{◌≤◌, ◌<◌}
use Rattle.hls_guarantee.specs.Limits.{IsValid}
use Rattle.hls_report_text.specs.declared.report.Account.{Account}
use Rattle.hls_report_text.specs.Content.{Content}
use Rattle.hls_view_margins.specs.declared.margin.Margin.{Margin}

abbrev pub account_by : Margin → Account
account_by m =
    record { name = m.name; from = m.from; to = m.to; kept = m.kept; ready = m.ready; served = m.served }

-- its ticks lie before the horizon, and what is guaranteed can be spelled
pub record IsWithin (c : Content) (a : Account) : Type 0 where
  pub order : a.from ≤ a.to
  pub early : a.to < c.horizon
  pub valid : IsValid a.kept
