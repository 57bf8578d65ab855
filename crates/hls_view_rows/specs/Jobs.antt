-- The rows of jobs: a line for each thread, or for each job.
use Rattle.std.specs.Prelude.{◌+◌, ◌-◌, ℕ, List, [], ◌∷◌, ◌++◌, codes, decimal, map, Option, Some, None}
use Rattle.hls_text.specs.Lines.{Text}
use Rattle.hls_guarantee.specs.Spelling.{fraction_text}
use Rattle.hls_view_jobs.specs.declared.job.Sort.{Sort}
use Rattle.hls_view_jobs.specs.declared.job.Sort.TheVariants.{Wakes, Blocks, Ends}
use Rattle.hls_view_jobs.specs.declared.job.Word.{Word}
use Rattle.hls_view_jobs.specs.declared.job.Fate.{Fate}
use Rattle.hls_view_jobs.specs.declared.job.Fate.TheVariants.{Done, Dropped, Open}
use Rattle.hls_view_jobs.specs.declared.job.Job.{Job}
use Rattle.hls_view_jobs.specs.declared.summary.Responses.{Responses}
use Rattle.hls_view_jobs.specs.declared.summary.Summary.{Summary}
use Rattle.hls_view_jobs.specs.declared.summary.ThreadJobs.{ThreadJobs}
use Rattle.hls_view_table.specs.declared.table.Side.{Side}
use Rattle.hls_view_table.specs.declared.table.Side.TheVariants.{Left, Right}
use Rattle.hls_view_table.specs.Tables.{aligned}
use Rattle.hls_view_rows.specs.Cells.{span_text, dash}

abbrev pub or_dash : Option ℕ → Text
or_dash None = dash
or_dash (Some number) = decimal number

-- ---- a line for each thread

-- how many jobs there are, and how many of each fate
abbrev pub count_cells : Summary → List Text
count_cells s = decimal s.jobs ∷ decimal s.done ∷ decimal s.dropped ∷ decimal s.by_wake ∷ decimal s.unfinished ∷ []

-- what they asked for, and what was lost; how far they are apart, and the most that one asked for
abbrev pub size_cells : Summary → List Text
size_cells s = decimal s.asked ∷ decimal s.lost ∷ or_dash s.apart ∷ or_dash s.most ∷ []

-- in how many ticks they were done: at best, in the mean and at worst, and where
abbrev pub response_cells : Option Responses → List Text
response_cells None = dash ∷ dash ∷ dash ∷ dash ∷ []
response_cells (Some r) = decimal r.best ∷ fraction_text r.mean ∷ decimal r.longest.ticks
    ∷ span_text r.longest.release (r.longest.release + r.longest.ticks - 1) ∷ []

abbrev pub line_cells : ThreadJobs → List Text
line_cells line = line.name ∷ span_text line.from line.to ∷ decimal line.wakes ∷ (count_cells line.summary
    ++ (size_cells line.summary ++ (response_cells line.summary.responses ++ or_dash line.summary.bound ∷ [])))

abbrev pub line_heads : List Text
line_heads = codes "thread" ∷ codes "ticks" ∷ codes "wakes" ∷ codes "jobs" ∷ codes "done" ∷ codes "dropped"
    ∷ codes "by wake" ∷ codes "open" ∷ codes "asked" ∷ codes "lost" ∷ codes "apart" ∷ codes "most" ∷ codes "best"
    ∷ codes "mean" ∷ codes "worst" ∷ codes "where" ∷ codes "bound" ∷ []

abbrev pub line_sides : List Side
line_sides = Left ∷ Left ∷ Right ∷ Right ∷ Right ∷ Right ∷ Right ∷ Right ∷ Right ∷ Right ∷ Right ∷ Right ∷ Right
    ∷ Right ∷ Right ∷ Left ∷ Right ∷ []

abbrev pub lines_text : List ThreadJobs → Text
lines_text lines = aligned line_sides (line_heads ∷ map line_cells lines)

-- ---- a line for each job

abbrev pub sort_text : Sort → Text
sort_text (Wakes burst) = codes "wake"
sort_text Blocks = codes "block"
sort_text Ends = codes "end"

abbrev pub dropped_cells : Word → List Text
dropped_cells by = (codes "dropped by " ++ sort_text by.sort) ∷ decimal by.tick ∷ dash ∷ []

-- what became of it, and when; and in how many ticks it was done
abbrev pub fate_cells : Job → Fate → List Text
fate_cells job (Done at) = codes "done" ∷ decimal at ∷ decimal job.ticks ∷ []
fate_cells job (Dropped by) = dropped_cells by
fate_cells job Open = codes "open" ∷ dash ∷ dash ∷ []

-- behind these, how many of its ticks it was not served
abbrev pub job_cells : Job → List Text
job_cells job = decimal job.release ∷ decimal job.asked ∷ decimal job.got ∷ (fate_cells job job.fate
    ++ decimal (job.ticks - job.got) ∷ or_dash job.bound ∷ [])

abbrev pub job_heads : List Text
job_heads = codes "release" ∷ codes "asked" ∷ codes "got" ∷ codes "fate" ∷ codes "at" ∷ codes "response"
    ∷ codes "waited" ∷ codes "bound" ∷ []

abbrev pub job_sides : List Side
job_sides = Right ∷ Right ∷ Right ∷ Left ∷ Right ∷ Right ∷ Right ∷ Right ∷ []

abbrev pub jobs_text : List Job → Text
jobs_text jobs = aligned job_sides (job_heads ∷ map job_cells jobs)
