use Rattle.hls_legal.proofs.StayLaws.{put-all}
use Rattle.hls_test_accounts.proofs.stays.put_stays.Goals as goal

pub returns : goal.returns
returns c =
    put-all c.args.answered.now c.args.place c.args.a.now c.args.out.now.items c.loop-name.out.items
    c.deref-name-items.result.now c.in_ok-names.names.items c.loop-name.name-index c.requires.place
    c.requires.there c.loop-name-test.false c.deref-name-items.ensures.value c.in_ok-names.ensures
    c.loop-name.invariant
