use Rattle.std.proofs.Common.{◌∙◌, take, sym}
use Rattle.hls_view_tree.proofs.Runs.{never_missing, named_more}
use Rattle.hls_view_tree.proofs.paths.names_on.Goals as goal

pub unreachable-requires : goal.unreachable-requires
unreachable-requires c =
    never_missing c.args.known.now (take c.args.path.now.len c.args.path.now.names) c.loop-place.place-index
    c.loop-place-test.true c.requires.named (sym c.name_at.ensures ∙ c.in_default.is)

pub loop-place-preserved : goal.loop-place-preserved
loop-place-preserved c =
    named_more c.args.known.now (take c.args.path.now.len c.args.path.now.names) c.loop-place.place-index
    c.in-Some.name c.loop-place.names.items c.push.new.self.items c.loop-place-test.true
    (sym c.name_at.ensures ∙ c.in-Some.is) c.in_ok-push.ensures.items c.loop-place.invariant
