use Rattle.std.proofs.Common.{◌≡◌, ◌++◌, length, take, drop}
use Rattle.hls_view_lanes.specs.Inside.Tallies.{all_with}
use Rattle.hls_view_lanes.proofs.tallies.add_facts.Given as goal

abbrev pub invariant-loop-at : goal.invariant-loop-at
invariant-loop-at l = record {
  long : length l.facts ≡ length l.tallies;
  is : take l.at l.tallies ++ all_with (drop l.at l.tallies) (drop l.at l.facts) ≡ all_with l.fn.tallies l.facts;
}
