use Rattle.std.proofs.Common.{◌≡◌, ◌-◌, ◌++◌, ◌≤◌, replicate}
use Rattle.std.specs.Prelude.{vec_len, vec_capacity}
use Rattle.hls_core_guesses.proofs.guesses.Guesses.reserve.Given as goal

abbrev pub invariant-loop-sum : goal.invariant-loop-sum
invariant-loop-sum l = record {
  items : l.self.places.items ≡ l.fn.self.places.items ++ replicate (l._sum - l.len) 0;
  count : vec_len l.self.places ≡ l._sum;
  more : l.len ≤ l._sum;
  few : l._sum - l.len ≤ l.count - l.len;
  room : l.count ≤ vec_capacity l.self.places;
}
