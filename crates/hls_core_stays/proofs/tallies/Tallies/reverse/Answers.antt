use Rattle.std.proofs.Common.{ap, reverse, ◌∙◌}
use Rattle.hls_core_stays.specs.Inside.Rows.{tally_by, tallies_by}
use Rattle.hls_core_stays.specs.Store.{Store}
use Rattle.hls_core_stays.proofs.Lists.{map_reverse}
use Rattle.hls_core_stays.proofs.tallies.Tallies.reverse.Goals as goal

pub returns : goal.returns
returns c =
    ap (tallies_by c.self.inside.seatings.items) c.reverse.ensures.items
    ∙ map_reverse (tally_by c.self.inside.seatings.items) c.self.inside.rows.items
    ∙ ap (λ (s : Store). reverse s.items) c.self.view_is
