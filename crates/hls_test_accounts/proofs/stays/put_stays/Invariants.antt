use Rattle.std.proofs.Common.{◌≡◌, ◌++◌, ◌+◌, map, take, drop}
use Rattle.hls_legal.specs.Stays.{stay_of}
use Rattle.hls_test_accounts.proofs.stays.put_stays.Given as goal

abbrev pub invariant-loop-name : goal.invariant-loop-name
invariant-loop-name l = l.out.items ≡ l.fn.out.items ++ map
    (stay_of (take (l.place + 1) l.answered) (drop (l.place + 1) l.answered) l.a.tick)
    (take l.name-index l.name-items)
