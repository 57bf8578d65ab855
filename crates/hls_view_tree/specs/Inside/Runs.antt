-- The run of a tick.
use Rattle.std.specs.Prelude.{ℕ, Bool, ◌&&◌, nat_le}
use Rattle.hls_report_text.specs.declared.report.Run.{Run}

abbrev pub is_run_of : (t : ℕ) → Run → Bool
is_run_of t run = nat_le run.from t && nat_le t run.to
