use Rattle.std.proofs.Common.{◌≡◌, take}
use Rattle.hls_legal.specs.Moment.{Boxes}
use Rattle.hls_legal.specs.Kit.{boxes_left}
use Rattle.hls_test_answers.proofs.boxes.boxes_after.Given as goal

abbrev pub invariant-loop-a : goal.invariant-loop-a
invariant-loop-a l = record {
  left : (boxes : Boxes) → boxes.left l.kind ≡ l.fn.count.left → boxes.used l.kind ≡ l.fn.count.used
      → l.after.left ≡ (boxes_left boxes (take l.a-index l.answered)).left l.kind;
  used : (boxes : Boxes) → boxes.left l.kind ≡ l.fn.count.left → boxes.used l.kind ≡ l.fn.count.used
      → l.after.used ≡ (boxes_left boxes (take l.a-index l.answered)).used l.kind;
}
