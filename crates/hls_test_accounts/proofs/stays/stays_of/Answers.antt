use Rattle.hls_legal.proofs.StayLaws.{stays-more, stays-all}
use Rattle.hls_test_accounts.proofs.stays.stays_of.Goals as goal

pub loop-place-preserved : goal.loop-place-preserved
loop-place-preserved c =
    stays-more c.args.answered.now c.loop-place.place c.index-answered-place.result c.loop-place.all.items
    c.put_stays.new.out.items _ c.loop-place-test.true c.index-answered-place.is c.in_ok-put_stays.ensures
    c.loop-place.invariant

pub returns : goal.returns
returns c = stays-all c.args.answered.now c.loop-place.place c.loop-place.all.items _ c.loop-place-test.false
    c.loop-place.invariant
