-- What a view says of a report.
use Rattle.std.specs.Prelude.{◌≡◌, ℕ, ◌+◌, ◌-◌, ◌≤◌, List, [], ◌∷◌, ◌++◌, codes, decimal, length, max, min}
use Rattle.std.specs.Prelude.{Option, Some, None}
use Rattle.hls_text.specs.Lines.{Text}
use Rattle.hls_report_text.specs.Content.{Content}
use Rattle.hls_audit.specs.declared.auditing.Outcome.{Outcome}
use Rattle.hls_top.specs.Summaries.{verdict}
use Rattle.hls_view_words.specs.declared.views.View.{View}
use Rattle.hls_view_words.specs.declared.views.View.TheVariants.{Margins, Tree, Jobs, Svg, Trace}
use Rattle.hls_view_margins.specs.declared.margin.Margin.{Margin}
use Rattle.hls_view_margins.specs.Margins.{AreMargins, lasting}
use Rattle.hls_view_rows.specs.Margins.{margins_text}
use Rattle.hls_view_jobs.specs.declared.job.Job.{Job}
use Rattle.hls_view_jobs.specs.declared.summary.ThreadJobs.{ThreadJobs}
use Rattle.hls_view_jobs.specs.Threads as threads
use Rattle.hls_view_jobs.specs.Summaries.{AreLines}
use Rattle.hls_view_scale.specs.declared.scale.Scale.{Scale}
use Rattle.hls_view_tale.specs.declared.label.Label.{Label}
use Rattle.hls_view_lanes.specs.Rows.{rows_of}
use Rattle.hls_view_picture_rows.specs.declared.picture.Picture.{Picture}
use Rattle.hls_view_picture.specs.Pictures.{picture_text}
use Rattle.hls_view_drawing.specs.Drawing.{IsDrawing}
use Rattle.hls_view_trace.specs.declared.event.Trace as traces
use Rattle.hls_view_trace.specs.Traces.{trace_text}
use Rattle.hls_view_timeline.specs.Timeline.{rows_shown, IsTrace}
use Rattle.hls_view_rows.specs.Trees.{tree_text}
use Rattle.hls_view_rows.specs.Jobs.{lines_text, jobs_text}

-- the first lines: the name of the view, and what the audit of the report comes to
abbrev pub opening : (name : Text) → Outcome → Text
opening name audit =
    codes "hlsview-" ++ (name ++ (codes " 1" ++ (10 ∷ (codes "audit " ++ (verdict audit ++ 10 ∷ [])))))

-- the margins of all stays that have a tick, in the order in which they begin
pub record ShowsMargins (c : Content) (audit : Outcome) (output : Text) : Type 0 where
  pub margins : List Margin
  pub are : AreMargins c (lasting c) margins
  pub spelled : output ≡ opening (codes "margins") audit ++ margins_text margins

-- the tick that is stated, or the last one where none or a later one is
abbrev pub tick_shown : Content → Option ℕ → ℕ
tick_shown c None = c.horizon - 1
tick_shown c (Some tick) = min tick (c.horizon - 1)

abbrev pub name_line : (name : Text) → Text
name_line name = codes "hlsview-" ++ (name ++ (codes " 1" ++ 10 ∷ []))

abbrev pub tick_line : Content → (tick : ℕ) → Text
tick_line c tick = codes "tick " ++ (decimal tick ++ (codes " of " ++ (decimal c.horizon ++ 10 ∷ [])))

abbrev pub audit_line : Outcome → Text
audit_line audit = codes "audit " ++ (verdict audit ++ 10 ∷ [])

-- the first lines of a view of one tick: they name the tick besides
abbrev pub opening_at : (name : Text) → Content → (tick : ℕ) → Outcome → Text
opening_at name c tick audit = name_line name ++ (tick_line c tick ++ audit_line audit)

-- the hierarchy at a tick
abbrev pub shows_tree : Content → (tick : ℕ) → Outcome → Text
shows_tree c tick audit = opening_at (codes "tree") c tick audit ++ tree_text c tick

-- a line for each thread that has a tick, in the order of their admissions
pub record ShowsThreads (c : Content) (audit : Outcome) (output : Text) : Type 0 where
  pub lines : List ThreadJobs
  pub are : AreLines c (threads.lasting c) lines
  pub spelled : output ≡ opening (codes "jobs") audit ++ lines_text lines

-- a line for each job of the threads of a name, in the order of their releases
pub record ShowsJobs (c : Content) (audit : Outcome) (name output : Text) : Type 0 where
  pub jobs : List Job
  pub are : threads.AreJobsOf c name jobs
  pub spelled : output ≡ opening (codes "jobs") audit ++ (codes "thread " ++ (name ++ (10 ∷ jobs_text jobs)))

-- ---- pictures and traces

-- the first tick of a picture: the one that is stated, or else the first of all, but none behind the last
abbrev pub first_shown : Content → Option ℕ → ℕ
first_shown c None = 0
first_shown c (Some tick) = min tick (c.horizon - 1)

-- with the row for idle ticks there are more than 4096
abbrev pub IsTall : (rows : List (List Label)) → Type 0
IsTall rows = 4096 ≤ length rows

-- the last one: the one that is stated, or else the last of all, and none before the first
abbrev pub last_shown : Content → (from to : Option ℕ) → ℕ
last_shown c from to = max (tick_shown c to) (first_shown c from)

abbrev pub shown_rows : Content → (from to : ℕ) → List (List Label)
shown_rows c from to = rows_of c from (to + 1 - from)

abbrev pub HasManyRows : View → Content → Type 0
HasManyRows (Svg from to) c = IsTall (shown_rows c (first_shown c from) (last_shown c from to))
HasManyRows (Trace tick) c = IsTall (rows_shown c)
HasManyRows _ c = ⊥

-- the picture of these ticks
pub record ShowsPicture (c : Content) (audit : Outcome) (from to : ℕ) (output : Text) : Type 0 where
  pub few : ¬ IsTall (shown_rows c from to)
  pub scale : Scale
  pub begins : scale.from ≡ from
  pub ends : scale.to ≡ to
  pub picture : Picture
  pub is : IsDrawing c audit scale picture
  pub spelled : output ≡ picture_text picture

-- how many microseconds are shown as a tick: so many as are stated, or else one
abbrev pub tick_length : Option ℕ → ℕ
tick_length None = 1
tick_length (Some length) = length

-- the trace of all ticks
pub record ShowsTrace (c : Content) (audit : Outcome) (tick : ℕ) (output : Text) : Type 0 where
  pub few : ¬ IsTall (rows_shown c)
  pub trace : traces.Trace
  pub is : IsTrace c audit tick trace
  pub spelled : output ≡ trace_text trace

-- the view of a report with this content, whose audit comes to this
abbrev pub IsViewText : View → Content → Outcome → (output : Text) → Type 0
IsViewText Margins c audit output = ShowsMargins c audit output
IsViewText (Tree at) c audit output = output ≡ shows_tree c (tick_shown c at) audit
IsViewText (Svg from to) c audit output = ShowsPicture c audit (first_shown c from) (last_shown c from to) output
IsViewText (Trace tick) c audit output = ShowsTrace c audit (tick_length tick) output
IsViewText (Jobs None) c audit output = ShowsThreads c audit output
IsViewText (Jobs (Some name)) c audit output = ShowsJobs c audit name output
