use Rattle.std.proofs.Common.{◌≡◌, ◌≤◌, take}
use Rattle.hls_top.specs.Summaries.{done_of}
use Rattle.hls_top.proofs.trying.done_of.Given as goal

abbrev pub invariant-loop-one : goal.invariant-loop-one
invariant-loop-one l = record {
  count : l.count ≡ done_of (take l.one-index l.answered);
  few : l.count ≤ l.one-index;
}
