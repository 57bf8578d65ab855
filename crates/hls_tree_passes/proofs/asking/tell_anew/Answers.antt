use Rattle.std.proofs.Common.{◌∙◌}
use Rattle.hls_tree_nodes.specs.Views.{shown_at}
use Rattle.hls_tree_nodes.proofs.Snapshots.{alike_then, revoked_alike}
use Rattle.hls_tree_passes.proofs.Tells.{telling_start, roll_alike}
use Rattle.hls_tree_passes.proofs.Levels.{by_level_alike}
use Rattle.hls_tree_passes.proofs.Voices.{voices_all}
use Rattle.hls_tree_nodes.proofs.Late.{stays_then}
use Rattle.hls_tree_passes.proofs.Quiet.{quiet_none}
use Rattle.hls_tree_passes.proofs.asking.tell_anew.Goals as goal

pub tell_changed-requires : goal.tell_changed-requires
tell_changed-requires g c = record {
  telling = telling_start _ _ _ c.requires.laid c.requires.posted c.requires.told
      c.begin_all-places.ensures.revoked;
  late = c.begin_all-places.ensures.late;
}

pub tell_schedulers-requires : goal.tell_schedulers-requires
tell_schedulers-requires g c =
    let alike = alike_then _ _ _ (revoked_alike _ _ c.begin_all-places.ensures.revoked)
    c.tell_changed.ensures.alike in
    record {
      roll = roll_alike _ _ _ alike c.requires.roll;
      places = by_level_alike _ _ _ _ alike c.begin_all-places.ensures.places;
      telling = c.tell_changed.ensures.telling;
      late = c.tell_changed.ensures.late.late;
    }

pub returns-clause-alike : goal.returns-clause-alike
returns-clause-alike g c =
    let told = alike_then _ _ _ (revoked_alike _ _ c.begin_all-places.ensures.revoked)
    c.tell_changed.ensures.alike in
    alike_then _ _ _ told c.tell_schedulers.ensures.alike

pub returns-clause-known : goal.returns-clause-known
returns-clause-known g c =
    let told = alike_then _ _ _ (revoked_alike _ _ c.begin_all-places.ensures.revoked)
    c.tell_changed.ensures.alike in
    record {
      places = by_level_alike _ _ _ _ (alike_then _ _ _ told c.tell_schedulers.ensures.alike)
          c.begin_all-places.ensures.places;
      voices = voices_all
          (shown_at (λ b. (goal.Scheduler-dyn g (b.vtable, b.value)).seen b.value) c.tell_schedulers.new.nodes)
          _ _ c.voices_of-voices.ensures c.tell_schedulers.ensures.telling;
    }

pub voices_of-voices-requires : goal.voices_of-voices-requires
voices_of-voices-requires g c = record {
  posted = c.tell_schedulers.ensures.telling.posted;
  late = c.tell_schedulers.ensures.late.late;
}

pub returns-clause-late : goal.returns-clause-late
returns-clause-late g c = c.tell_schedulers.ensures.late.late

pub returns-clause-quiet : goal.returns-clause-quiet
returns-clause-quiet g c = quiet_none _ _ _ _ _ c.begin_all-places.ensures.behind c.begin_all-places.ensures.quiet
    (stays_then _ _ _ _ c.tell_changed.ensures.late c.tell_schedulers.ensures.late)

pub returns-clause-tick : goal.returns-clause-tick
returns-clause-tick g c =
    c.tell_schedulers.ensures.late.tick ∙ c.tell_changed.ensures.late.tick ∙ c.begin_all-places.ensures.tick
