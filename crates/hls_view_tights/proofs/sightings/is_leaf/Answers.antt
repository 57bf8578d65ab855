use Rattle.std.proofs.Common.{◌∙◌, ap, sym}
use Rattle.hls_view_tights.proofs.Ends.{ends_in_thread, leaf_by_end}
use Rattle.hls_view_tights.proofs.sightings.is_leaf.Goals as goal

pub returns-in-Some : goal.returns-in-Some
returns-in-Some c =
    c.is_thread.ensures ∙ ap ends_in_thread c.in-Some.ensures ∙ sym (leaf_by_end c.args.way.now)

pub returns-in-None : goal.returns-in-None
returns-in-None c = ap ends_in_thread c.in-None.ensures ∙ sym (leaf_by_end c.args.way.now)
