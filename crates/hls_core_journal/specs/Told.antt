-- What a journal tells of the first commands of a scenario and of the ticks that have passed.
use Rattle.std.specs.Prelude.{◌≡◌, ℕ, List, [], map, zip}
use Rattle.hls_scenario.specs.declared.scenario.Item.{Item}
use Rattle.hls_report_text.specs.declared.report.Answer.{Answer}
use Rattle.hls_report_text.specs.declared.report.Answered.{Answered}
use Rattle.hls_report_text.specs.declared.report.Account.{Account}
use Rattle.hls_report_text.specs.declared.report.Report.{Report}
use Rattle.hls_report_text.specs.declared.stretch.Stretch.{Stretch}
use Rattle.hls_report_text.specs.Content.{Content, stretch_of, content_of}
use Rattle.hls_report_text.specs.WellFormed.{IsWellFormed}
use Rattle.hls_legal.specs.Accounts.{accounts_of, idle_of}
use Rattle.hls_core_journal.specs.declared.journal.Journal.{Journal}

abbrev pub answered_as : Item → Answer → Answered
answered_as item answer = record { tick = item.tick; command = item.command; answer = answer }

-- the first commands with these answers
abbrev pub answered_by : List Item → List Answer → List Answered
answered_by items answers = map (λ p. answered_as p.0 p.1) (zip items answers)

abbrev pub stretches_of : Journal → List Stretch
stretches_of j = map (stretch_of j.names.keys) j.runs.items

-- without accounts and idle ticks
abbrev pub told : (version : ℕ) → List Item → (depth : ℕ) → Journal → Content
told version items depth j = record {
  version = version;
  horizon = j.ticks;
  depth = depth;
  answered = answered_by items j.answers.items;
  stretches = stretches_of j;
  accounts = [];
  idle = 0;
}

-- the accounts and the idle ticks that come of it
abbrev pub with_totals : Content → Content
with_totals c = record c { accounts = accounts_of c; idle = idle_of c }

-- the report tells this with these accounts and idle ticks
pub record IsTotalled (version : ℕ) (items : List Item) (depth : ℕ) (j : Journal) (accounts : List Account) (idle : ℕ)
    (r : Report) : Type 0 where
  pub content : content_of r ≡ record (told version items depth j) { accounts = accounts; idle = idle }
  pub runs : r.runs ≡ j.runs.items

-- the report has a text, and tells this with what comes of it
pub record IsReportOf (c : Content) (r : Report) : Type 0 where
  pub formed : IsWellFormed r
  pub content : content_of r ≡ with_totals c
