-- What is looked up of a report, and its threads by the places of their admissions.
use Rattle.std.specs.Prelude.{◌≡◌, ℕ, ◌+◌, ◌<◌, List, [], ◌∷◌, Option, Some, None, map, filter, drop, length}
use Rattle.hls_report_text.specs.declared.report.Answered.{Answered}
use Rattle.hls_report_text.specs.declared.report.Report.{Report}
use Rattle.hls_report_text.specs.Content.{Content, content_of}
use Rattle.hls_legal.specs.Stays.{stays}
use Rattle.hls_audit_stays.specs.Found.{stay_by, lasts}
use Rattle.hls_audit_threads.specs.Inside.Lookups.{IsLookup}
use Rattle.hls_audit_threads.specs.Inside.KnownThreads.{AreKnown}
use Rattle.hls_view_jobs.specs.declared.sources.Sources.{Sources}
use Rattle.hls_view_jobs.specs.declared.admissions.Admission.{Admission}
use Rattle.hls_view_jobs.specs.Words.{words_on, wakes_on, end_in}
use Rattle.hls_view_jobs.specs.Threads.{Life}
use Rattle.hls_view_jobs.specs.Inside.Sound.{AreWords}

pub record AreSources (r : Report) (s : Sources) : Type 0 where
  pub lookup : IsLookup r s.lookup
  pub stays : map (stay_by r.answered) s.stays.items ≡ filter lasts (stays r.answered)
  pub known : AreKnown (content_of r) s.known

abbrev pub life_by : (horizon : ℕ) → List Answered → Admission → Life
life_by horizon answered one = record {
  name = one.name;
  from = one.from;
  words = words_on horizon one.name (drop (one.place + 1) answered);
  wakes = wakes_on one.name (drop (one.place + 1) answered);
}

-- the thread has a tick, and its words come in their order
pub record IsAdmission (c : Content) (one : Admission) : Type 0 where
  pub within : one.place < length c.answered
  pub until : one.until ≡ end_in c.horizon (words_on c.horizon one.name (drop (one.place + 1) c.answered))
  pub some : one.from < one.until
  pub words : AreWords c.horizon one.from (words_on c.horizon one.name (drop (one.place + 1) c.answered))

abbrev pub listed : Option Admission → List Admission
listed None = []
listed (Some one) = one ∷ []
