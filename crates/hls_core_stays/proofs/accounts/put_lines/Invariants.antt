use Rattle.std.proofs.Common.{◌≡◌, ◌-◌, ◌++◌, length}
use Rattle.hls_core_stays.specs.Inside.Accounts.{accounts_by}
use Rattle.hls_core_stays.specs.Told.{lines_of, AreValid}
use Rattle.hls_core_stays.proofs.Worded.{left_of, whole_of}
use Rattle.hls_core_stays.proofs.accounts.put_lines.Given as goal

abbrev pub invariant-loop-at : goal.invariant-loop-at
invariant-loop-at l = record {
  told : whole_of l.now l.out.items l.left.items
      ≡ l.fn.out.items ++ lines_of (accounts_by l.now l.fn.tallies.items);
  valid : AreValid (left_of l.now l.left.items);
  left : length l.left.items ≡ length l.fn.tallies.items - l._at;
}
