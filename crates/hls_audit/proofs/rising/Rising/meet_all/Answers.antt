use Rattle.std.proofs.Common.{refl}
use Rattle.std.proofs.lemmas.Option.{slice_get_read}
use Rattle.hls_audit.proofs.RisingLaws.{meets_start, meets_more, meets_all}
use Rattle.hls_audit.proofs.rising.Rising.meet_all.Goals as goal

pub loop-perch-init : goal.loop-perch-init
loop-perch-init c = meets_start c.args.self.now c.args.perches.now

pub loop-perch-preserved : goal.loop-perch-preserved
loop-perch-preserved c =
    meets_more c.args.self.now c.loop-perch.self c.meet_spot.new.self c.args.perches.now c.loop-perch.perch-index
    c.perch-item.result
    (slice_get_read c.args.perches.now _ c.loop-perch.perch-index c.perch-item.result refl c.loop-perch-test.true
    c.perch-item.is)
    c.loop-perch.invariant c.in_ok-meet_spot.ensures

pub returns : goal.returns
returns c =
    meets_all c.args.self.now c.loop-perch.self c.args.perches.now c.loop-perch.perch-index c.loop-perch-test.false
    c.loop-perch.invariant
