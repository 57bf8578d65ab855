use Rattle.std.proofs.Common.{◌≡◌, ◌≤◌, ◌*◌, take}
use Rattle.std.specs.Prelude.{sum}
use Rattle.hls_view_jobs.proofs.numbers.sum_of.Given as goal

abbrev pub invariant-loop-number : goal.invariant-loop-number
invariant-loop-number l = record {
  total : l.total ≡ sum (take l.number-index l.numbers);
  few : l.total ≤ l.number-index * 4294967296;
}
