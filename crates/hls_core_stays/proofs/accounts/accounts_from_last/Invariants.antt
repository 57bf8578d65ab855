use Rattle.std.proofs.Common.{◌≡◌, ◌-◌, length}
use Rattle.hls_core_stays.specs.Inside.Accounts.{accounts_by}
use Rattle.hls_core_stays.proofs.Told.{IsTaking}
use Rattle.hls_core_stays.proofs.accounts.accounts_from_last.Given as goal

abbrev pub invariant-loop-at : goal.invariant-loop-at
invariant-loop-at l = record {
  told : IsTaking l.now l.left.items l.accounts.items (accounts_by l.now l.fn.tallies.items);
  left : length l.left.items ≡ length l.fn.tallies.items - l._at;
}
