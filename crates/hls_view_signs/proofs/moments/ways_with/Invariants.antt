use Rattle.std.proofs.Common.{◌≡◌, take, map, filter}
use Rattle.hls_report_text.specs.Content.{content_of}
use Rattle.hls_view_tale.specs.declared.place.Place.{Place}
use Rattle.hls_view_tale.specs.Places.{labels_of}
use Rattle.hls_view_signs.specs.Happenings.{happens_to}
use Rattle.hls_view_signs.specs.Inside.Sources.{AreSources}
use Rattle.hls_view_signs.proofs.moments.ways_with.Given as goal

abbrev pub invariant-loop-place : goal.invariant-loop-place
invariant-loop-place l = record {
  sources : AreSources l.report l.sources;
  ways : l.ways.items ≡ map labels_of
      (filter (λ (p : Place). happens_to (content_of l.report) l.asked.tick l.asked.event p.label)
      (take l.place-index l.scene.hierarchy.now.places.items));
}
