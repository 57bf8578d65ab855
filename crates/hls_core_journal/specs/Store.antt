-- What contracts see of runs that are kept together.
use Rattle.std.specs.Prelude.{ℕ, List}
use Rattle.hls_report_text.specs.declared.report.Run.{Run}

-- the runs in their order, and how many there may be without memory
pub record Store : Type 0 where
  pub items : List Run
  pub capacity : ℕ
