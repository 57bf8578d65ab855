-- Words and releases in their order, and stays of one thread.
use Rattle.std.specs.Prelude.{◌≡◌, ℕ, ◌≤◌, ◌<◌, List, [], ◌∷◌, Option, Some, None, find, filter, All, zero, suc}
use Rattle.std.specs.Prelude.{◌-◌, nat_le, if◌then◌else◌}
use Rattle.std.specs.List.{AllByRecursion}
use Rattle.hls_text.specs.Lines.{Text}
use Rattle.hls_guarantee.specs.Limits.{IsValid}
use Rattle.hls_scenario.specs.Grammar.{IsBurst}
use Rattle.hls_report_text.specs.Content.{Content}
use Rattle.hls_legal.specs.declared.stay.Stay.{Stay}
use Rattle.hls_legal.specs.Stays.{stays}
use Rattle.hls_audit_stays.specs.Found.{lasts}
use Rattle.hls_view_jobs.specs.declared.job.Sort.{Sort}
use Rattle.hls_view_jobs.specs.declared.job.Sort.TheVariants.{Wakes}
use Rattle.hls_view_jobs.specs.declared.job.Word.{Word}
use Rattle.hls_view_jobs.specs.declared.job.Release.{Release}
use Rattle.hls_view_jobs.specs.declared.job.Fate.{Fate}
use Rattle.hls_view_jobs.specs.declared.job.Fate.TheVariants.{Done, Dropped, Open}
use Rattle.hls_view_jobs.specs.Jobs.{until, is_of, has_ticks}

abbrev pub HasBurst : Sort → Type 0
HasBurst (Wakes burst) = IsBurst burst
HasBurst _ = Unit {0}

-- ticks never fall and are below the horizon
abbrev pub AreWords : (horizon last : ℕ) → List Word → Type 0
AreWords horizon last [] = Unit {0}
AreWords horizon last (word ∷ words) = HasBurst word.sort × (last ≤ word.tick) × (word.tick < horizon)
    × AreWords horizon word.tick words

pub record IsRelease (horizon : ℕ) (r : Release) : Type 0 where
  pub some : 1 ≤ r.asked
  pub few : r.asked ≤ 100000
  pub order : r.tick ≤ until horizon r
  pub ends : until horizon r ≤ horizon

abbrev pub AreReleases : (horizon : ℕ) → List Release → Type 0
AreReleases horizon all = AllByRecursion (IsRelease horizon) all

-- the stays of the thread of a name that have a tick
pub record AreStaysOf (c : Content) (name : Text) (all : List Stay) : Type 0 where
  pub named : all ≡ filter (is_of name) (filter lasts (stays c.answered))
  pub valid : All (λ (s : Stay). IsValid s.kept) all

-- the first of these that has so many ticks from one on
abbrev pub stay_among : (horizon from ticks : ℕ) → List Stay → Option Stay
stay_among horizon from zero all = None
stay_among horizon from (suc ticks) all = find (has_ticks horizon from (suc ticks)) all

-- what became of a job that got so much up to a tick
abbrev pub fate_left : (next : Option Word) → Fate
fate_left None = Open
fate_left (Some by) = Dropped by

abbrev pub fate_by : Release → (reach got : ℕ) → Fate
fate_by r reach got = if nat_le r.asked got then Done (reach - 1) else fate_left r.next
