use Rattle.hls_view_tale.proofs.before.tale_before.Goals as goal

pub loop-place-init : goal.loop-place-init
loop-place-init c = c.new-tale.ensures c.args.answered.now
