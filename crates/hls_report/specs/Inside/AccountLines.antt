-- What a line of the accounts leaves to come.
use Rattle.std.specs.Prelude.{ℕ, ◌^◌, ◌<◌, ◌++◌, ◌∷◌, [], codes, decimal}
use Rattle.hls_report.specs.declared.account_reading.AccountLine.{AccountLine}
use Rattle.hls_report.specs.declared.account_reading.AccountLine.TheVariants.{Stay, Idle}
use Rattle.hls_report.specs.declared.lines.Lines.{Lines}
use Rattle.hls_report_text.specs.ReportText.{account_text}
use Rattle.hls_report_text.specs.WellFormed.{IsAccount}
use Rattle.hls_report.specs.Inside.Rests.{Passes, AccountRest, EndRest}

-- an account of the horizon, behind which further accounts may come, or the idle ticks and the end
abbrev pub AccountPasses : (horizon : ℕ) → AccountLine → (old new : Lines) → Type 0
AccountPasses horizon (Stay account) old new = IsAccount horizon account
    × Passes (AccountRest horizon) (AccountRest horizon) (account_text account ∷ []) old new
AccountPasses horizon (Idle ticks) old new = (ticks < 2 ^ 32)
    × Passes (AccountRest horizon) EndRest ((codes "idle " ++ decimal ticks) ∷ []) old new
