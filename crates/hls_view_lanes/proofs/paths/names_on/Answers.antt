use Rattle.std.proofs.Common.{◌≤◌, List, subst, take, length, get_or}
use Rattle.hls_text.specs.Lines.{Text}
use Rattle.hls_view_lanes.proofs.PathLaws.{name-there}
use Rattle.hls_view_lanes.proofs.paths.names_on.Goals as goal

pub unreachable-requires : goal.unreachable-requires
unreachable-requires c =
    let path = c.args.path.now in
    name-there c.args.report.now.names (take path.len path.names) c.loop-place.place-index c.requires.named
    c.loop-place-test.true
    (subst (λ (names : List Text). length names ≤ get_or (take path.len path.names) c.loop-place.place-index 0)
    c.items.ensures c.in-None.ensures.lookup.3)
