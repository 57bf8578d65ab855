use Rattle.std.proofs.Common.{◌≡◌, List, take}
use Rattle.hls_report_text.specs.Content.{content_of}
use Rattle.hls_view_tale.specs.declared.label.Label.{Label}
use Rattle.hls_view_tights.specs.Tights.{tights_in}
use Rattle.hls_view_tights.specs.Inside.Sightings.{seen_in}
use Rattle.hls_view_tights.proofs.sightings.sightings_of.Given as goal

abbrev pub invariant-loop-margin : goal.invariant-loop-margin
invariant-loop-margin l = (row : List Label) → seen_in row l.sightings.items
    ≡ tights_in (content_of l.report) l.scale row (take l.margin-index l.margins)
