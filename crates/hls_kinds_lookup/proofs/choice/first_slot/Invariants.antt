use Rattle.hls_kinds_lookup.specs.Rankings.{takes_part, key_of}
use Rattle.hls_kinds_lookup.proofs.RankingLaws.{IsBest}
use Rattle.hls_kinds_lookup.proofs.choice.first_slot.Given as goal

abbrev pub invariant-loop-slot : goal.invariant-loop-slot
invariant-loop-slot l =
    IsBest (takes_part l.ranking l.book l.mask) (key_of l.ranking l.book l.mask) l.slot l.best
