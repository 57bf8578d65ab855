use Rattle.std.proofs.Common.{◌≡◌, ◌∙◌, ◌+◌, ◌-◌, suc, sym, ap, take, arith}
use Rattle.hls_audit_stays.specs.Inside.Marks.{next_marks}
use Rattle.hls_audit_stays.proofs.BelowLaws.{within_marks, marks-none, marks-next, marks-steady, marks-end}
use Rattle.hls_audit_stays.proofs.seats.Seats.marks_below.Goals as goal

pub loop-round-init : goal.loop-round-init
loop-round-init c = record {
  marks_are = c.in_ok-marks.ensures
      ∙ marks-none c.args.self.now (take c.args.place c.args.answered.now) c.args.above.now;
  few = omega arith;
}

pub returns-then-are_same : goal.returns-then-are_same
returns-then-are_same c =
    let s = c.args.self.now in
    let all = c.args.answered.now in
    let marks = c.loop-round.marks.items in
    let same : c.deref-in-loop-round.result.now ≡ c.deref-in-loop-round-2.result.now =
    c.are_same.ensures.0 c.if-are_same.true in
    let next : next_marks s all marks c.args.above.now ≡ c.in_ok-next.next.items =
    ap (λ bs. next_marks s all bs c.args.above.now) (sym c.deref.ensures.value) ∙ sym c.in_ok-next.ensures in
    let steady : next_marks s all marks c.args.above.now ≡ marks =
    next ∙ sym c.deref-in-loop-round.ensures.value ∙ same ∙ c.deref-in-loop-round-2.ensures.value in
    marks-end s all c.args.place c.args.above.now marks c.requires.seats c.requires.within
    (marks-steady s all c.args.place (c.loop-round._round - 1) (c.args.place - 1) c.args.above.now marks
    c.requires.seats c.loop-round.invariant.few c.loop-round.invariant.marks_are steady)

pub loop-round-preserved : goal.loop-round-preserved
loop-round-preserved c =
    let s = c.args.self.now in
    let all = c.args.answered.now in
    let more : suc (c.loop-round._round - 1) ≡ c.loop-round._round + 1 - 1 = omega arith in
    record {
      marks_are =
          c.in_ok-next.ensures
          ∙ ap (λ bs. next_marks s all bs c.args.above.now) c.deref.ensures.value
          ∙ marks-next s all c.args.place (c.loop-round._round - 1) c.args.above.now c.loop-round.marks.items
          c.requires.seats c.loop-round.invariant.marks_are
          ∙ ap (λ n. within_marks s (take c.args.place all) n c.args.above.now) more;
      few = omega arith;
    }

pub returns : goal.returns
returns c =
    let few = c.loop-round.invariant.few in
    let last : c.loop-round._round - 1 ≡ c.args.place - 1 = omega (arith, few) in
    marks-end c.args.self.now c.args.answered.now c.args.place c.args.above.now c.loop-round.marks.items
    c.requires.seats c.requires.within
    (c.loop-round.invariant.marks_are
    ∙ ap (λ n. within_marks c.args.self.now (take c.args.place c.args.answered.now) n c.args.above.now) last)
