use Rattle.hls_search.proofs.Hitting.{NoneFound}
use Rattle.hls_search.proofs.searching.converted_before.Given as goal

abbrev pub invariant-loop-port : goal.invariant-loop-port
invariant-loop-port g l = NoneFound l.haves l.want l.depth l.port
