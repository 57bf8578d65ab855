use Rattle.std.proofs.Common.{◌≡◌, ◌+◌, length}
use Rattle.hls_guarantee.specs.Limits.{IsValid}
use Rattle.hls_derive.specs.Derivation.{end_of}
use Rattle.hls_derive.specs.Derives.{FollowsBy}
use Rattle.hls_search_laws.specs.Words.{Walks}
use Rattle.hls_search.proofs.words.walk.Given as goal

abbrev pub invariant-loop-rule : goal.invariant-loop-rule
invariant-loop-rule g l = record {
  follows : FollowsBy l.fn.from l.chain;
  ends : end_of l.fn.from l.chain ≡ l.reached;
  count : length l.chain + length l.left ≡ length l.fn.word;
  valid : IsValid l.reached;
  walks : Walks l.fn.word l.fn.from l.want → Walks l.left l.reached l.want;
}

abbrev pub decreases-loop-rule : goal.decreases-loop-rule
decreases-loop-rule g l = length l.left
