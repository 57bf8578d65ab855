-- The margins that are written, and the accounts of the report.
use Rattle.std.specs.Prelude.{◌≡◌, List, ◌++◌, codes, map}
use Rattle.std.specs.Io.KnownBytes.{Appends}
use Rattle.hls_report_text.specs.Content.{Content}
use Rattle.hls_view_margins.specs.declared.margin.Margin.{Margin}
use Rattle.hls_view_margins.specs.Margins.{AreMargins, lasting}
use Rattle.hls_view_rows.specs.Margins.{margins_text}
use Rattle.hls_view_legal_laws.specs.Told.{account_told}
use Rattle.hls_view.specs.Viewing.{Viewing}

-- what was written is a table of margins, below the line that says that the report is kept; they are those of the
-- stays that have a tick, and have the names, ticks, guarantees and numbers of the accounts, in their order
pub record ShowsAccounts (x : Viewing) (c : Content) : Type 0 where
  pub margins : List Margin
  pub are : AreMargins c (lasting c) margins
  pub numbers : map account_told margins ≡ c.accounts
  pub written : Appends x.sink.written x.sink.written_after
      (codes "hlsview-margins 1\naudit kept\n" ++ margins_text margins)
