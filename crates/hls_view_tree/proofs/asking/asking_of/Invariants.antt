use Rattle.std.proofs.Common.{◌≡◌, map, filter, take}
use Rattle.hls_report_text.specs.Content.{content_of}
use Rattle.hls_audit_threads.specs.Inside.KnownThreads.{AreKnown}
use Rattle.hls_view_tree.specs.Activities.{names_of, is_asking}
use Rattle.hls_view_tree.proofs.asking.asking_of.Given as goal

abbrev pub invariant-loop-place : goal.invariant-loop-place
invariant-loop-place l = record {
  known : AreKnown (content_of l.report) l.known;
  asking : l.asking.items
      ≡ map names_of (filter (is_asking (content_of l.report) l.tick) (take l.place-index l.places));
}
