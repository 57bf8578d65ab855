use Rattle.hls_tree_nodes.specs.Views.{shown_at}
use Rattle.hls_tree_nodes.proofs.Snapshots.{alike_then, revoked_alike}
use Rattle.hls_tree_passes.proofs.Tells.{telling_start, roll_alike}
use Rattle.hls_tree_passes.proofs.Levels.{by_level_alike}
use Rattle.hls_tree_passes.proofs.Keeping.{known_revoked, known_still}
use Rattle.hls_tree_nodes.proofs.Late.{stays_then, quiet_stays}
use Rattle.hls_tree_passes.proofs.asking.tell_again.Goals as goal

pub revoke_route-requires : goal.revoke_route-requires
revoke_route-requires g c = record {
  posted = c.requires.posted;
  along = c.requires.along;
  late = c.requires.late;
  behind = c.requires.quiet.behind;
}

pub tell_changed-requires : goal.tell_changed-requires
tell_changed-requires g c = record {
  telling = telling_start _ _ _ c.requires.laid c.requires.posted c.requires.told
      c.revoke_route.ensures.revoked;
  late = c.revoke_route.ensures.late.late;
}

pub tell_schedulers_news-known-requires : goal.tell_schedulers_news-known-requires
tell_schedulers_news-known-requires g c =
    let alike = alike_then _ _ _ (revoked_alike _ _ c.revoke_route.ensures.revoked) c.tell_changed.ensures.alike in
    record {
      roll = roll_alike _ _ _ alike c.requires.roll;
      known = known_still
          (shown_at (λ b. (goal.Scheduler-dyn g (b.vtable, b.value)).seen b.value) c.revoke_route.new.nodes)
          (shown_at (λ b. (goal.Scheduler-dyn g (b.vtable, b.value)).seen b.value) c.tell_changed.new.nodes)
          _ _ c.tell_changed.ensures.alike c.tell_changed.ensures.still
          (known_revoked
          (shown_at (λ b. (goal.Scheduler-dyn g (b.vtable, b.value)).seen b.value) c.args.nodes.now)
          (shown_at (λ b. (goal.Scheduler-dyn g (b.vtable, b.value)).seen b.value) c.revoke_route.new.nodes)
          _ _ c.revoke_route.ensures.revoked c.requires.known);
      telling = c.tell_changed.ensures.telling;
      late = c.tell_changed.ensures.late.late;
      quiet = quiet_stays _ _ _ _ _ c.requires.quiet
          (stays_then _ _ _ _ c.revoke_route.ensures.late c.tell_changed.ensures.late);
    }

pub returns-clause-alike : goal.returns-clause-alike
returns-clause-alike g c =
    let told = alike_then _ _ _ (revoked_alike _ _ c.revoke_route.ensures.revoked) c.tell_changed.ensures.alike in
    alike_then _ _ _ told c.tell_schedulers_news-known.ensures.alike

pub returns-clause-known : goal.returns-clause-known
returns-clause-known g c =
    let told = alike_then _ _ _ (revoked_alike _ _ c.revoke_route.ensures.revoked) c.tell_changed.ensures.alike in
    record {
      places = by_level_alike _ _ _ _ (alike_then _ _ _ told c.tell_schedulers_news-known.ensures.alike)
          c.requires.known.places;
      voices = c.tell_schedulers_news-known.ensures.voices;
    }

pub returns-clause-late : goal.returns-clause-late
returns-clause-late g c = stays_then _ _ _ _ c.revoke_route.ensures.late
    (stays_then _ _ _ _ c.tell_changed.ensures.late c.tell_schedulers_news-known.ensures.late)
