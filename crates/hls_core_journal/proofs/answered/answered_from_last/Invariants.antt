use Rattle.std.proofs.Common.{◌≡◌, ◌-◌, length}
use Rattle.hls_core_journal.specs.Told.{answered_by}
use Rattle.hls_core_journal.proofs.Pairs.{IsTaking}
use Rattle.hls_core_journal.proofs.answered.answered_from_last.Given as goal

abbrev pub invariant-loop-at : goal.invariant-loop-at
invariant-loop-at l = record {
  told :
      IsTaking l.items_left.items l.answers_left.items l.all.items
      (answered_by l.fn.items.items l.fn.answers.items);
  items : length l.items_left.items ≡ l.count - l._at;
  answers : length l.answers_left.items ≡ l.count - l._at;
}
