use Rattle.std.proofs.Common.{◌≡◌, take, map}
use Rattle.hls_view_table.specs.Tables.{cells_of}
use Rattle.hls_view_rows.specs.Jobs.{job_cells}
use Rattle.hls_view_rows.proofs.jobs.job_rows.Given as goal

abbrev pub invariant-loop-job : goal.invariant-loop-job
invariant-loop-job l = map cells_of l.rows.items ≡ map job_cells (take l.job-index l.jobs)
