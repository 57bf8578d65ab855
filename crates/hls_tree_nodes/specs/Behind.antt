-- Boxes that are behind: ticks have passed of which their books do not have the rows yet.
use Rattle.std.specs.Prelude.{◌≡◌, ℕ, ◌+◌, ◌-◌, ◌<◌, ◌≤◌, Bool, true, false, Option, Some, None}
use Rattle.hls_chron.specs.Ledger.{Ledger, with_rows}
use Rattle.hls_kinds.specs.Stands.{stands_idle}
use Rattle.hls_sched.specs.Seen.{Seen, IsLawful, config_of, tick_row}
use Rattle.hls_tree_nodes.specs.Shown.{Post, What, Scheduler, Thread, Shown, IsPosted, asks_in, on_post}
use Rattle.hls_tree_nodes.specs.Leapt.{post_leapt}
use Rattle.hls_tree_nodes.specs.declared.station.Lag.{Lag}

-- the book with the rows that it lacks, where any may be behind
abbrev pub late_book : (behind : Bool) → (tick : ℕ) → Option Lag → Seen → Ledger
late_book false tick lag unit = unit.book
late_book true tick None unit = unit.book
late_book true tick (Some lag) unit = with_rows unit.book (tick_row unit.mask None None) (tick - lag.since)

abbrev pub late_lag : (behind : Bool) → Option Lag → Option Lag
late_lag false lag = lag
late_lag true lag = None

-- a box as if it were not behind
abbrev pub late_post : (behind : Bool) → (tick : ℕ) → Post → Post
late_post behind tick post = record post {
  unit = record post.unit { book = late_book behind tick post.lag post.unit };
  lag = late_lag behind post.lag;
}

abbrev pub late_what : (behind : Bool) → (tick : ℕ) → What → What
late_what behind tick (Scheduler post) = Scheduler (late_post behind tick post)
late_what behind tick (Thread ready) = Thread ready

abbrev pub late : (behind : Bool) → (tick : ℕ) → Option Shown → Option Shown
late behind tick None = None
late behind tick (Some s) = Some (record s { what = late_what behind tick s.what })

-- A box may be behind where it stands always: it is not granted, and of a kind that stands then. It is lawful, and has
-- room for the rows that it lacks.
pub record MayLag (tick : ℕ) (lag : Lag) (post : Post) : Type 0 where
  pub since : lag.since ≤ tick
  pub within : lag.at < 64
  pub posted : IsPosted post
  pub idle : stands_idle (config_of post.unit) ≡ true
  pub free : post.unit.grant ≡ None
  pub lawful : IsLawful post.unit
  pub room : tick - lag.since ≤ post.unit.book.spare_ticks

abbrev pub LagsRight : (tick : ℕ) → Option Lag → Post → Type 0
LagsRight tick None post = Unit {0}
LagsRight tick (Some lag) post = MayLag tick lag post

abbrev pub LagsWhat : (tick : ℕ) → What → Type 0
LagsWhat tick (Scheduler post) = LagsRight tick post.lag post
LagsWhat tick (Thread ready) = Unit {0}

abbrev pub LagsIn : (tick : ℕ) → Option Shown → Type 0
LagsIn tick None = Unit {0}
LagsIn tick (Some s) = LagsWhat tick s.what

-- the place in the list of a scheduler that is behind
abbrev pub lag_place : Option Lag → Option ℕ
lag_place None = None
lag_place (Some lag) = Some lag.at

abbrev pub place_what : What → Option ℕ
place_what (Scheduler post) = lag_place post.lag
place_what (Thread ready) = None

abbrev pub behind_at : Option Shown → Option ℕ
behind_at None = None
behind_at (Some s) = place_what s.what

-- so many ticks have passed of a node that is stored, at once or by its being behind; then it may be
pub record HasElapsed (ticks : ℕ) (behind : Bool) (tick : ℕ) (choice : Option ℕ) (old new : Option Shown) : Type 0 where
  pub is : late behind (tick + ticks) new ≡ on_post (post_leapt ticks choice) (late behind tick old)
  pub lags : behind ≡ true → LagsIn (tick + ticks) new

-- a scheduler is behind from here on, as it may be
abbrev pub with_lag : Lag → Post → Post
with_lag lag post = record post { lag = Some lag }

abbrev pub IsIdleWhat : What → Type 0
IsIdleWhat (Scheduler post) =
    (stands_idle (config_of post.unit) ≡ true) × (post.unit.grant ≡ None) × (post.lag ≡ None) × IsLawful post.unit
IsIdleWhat (Thread ready) = ⊥

abbrev pub IsIdle : Option Shown → Type 0
IsIdle None = ⊥
IsIdle (Some s) = IsIdleWhat s.what

pub record IsNoted (lag : Lag) (told : Bool) (old new : Option Shown) : Type 0 where
  pub idle : IsIdle old
  pub asks : asks_in old ≡ told
  pub noted : new ≡ on_post (with_lag lag) old
