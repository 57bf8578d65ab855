use Rattle.std.proofs.Common.{◌≡◌, suc, ◌≤◌, length, arith}
use Rattle.hls_derive.proofs.Spaces.{past_other, past_space, past_all}
use Rattle.hls_derive.proofs.words.space.Goals as goal
use Rattle.hls_derive.proofs.words.space.Goals.{then-byte-eq32+else-left-eq0, else-byte-eq32}

pub loop-at-preserved : goal.loop-at-preserved
loop-at-preserved c = elim c.if-byte-eq32.branch [
  | then-byte-eq32+else-left-eq0 w ↦
      let left : c.loop-at.left ≡ suc c.if-byte-eq32.left = omega arith in
      past_space c.args.before c.args.text.now c.loop-at.at c.loop-at.left c.if-byte-eq32.left
      c.loop-at-test.true w.if-byte-eq32.true left c.loop-at.invariant
  | else-byte-eq32 w ↦
      past_other c.args.before c.args.text.now c.loop-at.at c.loop-at.left c.if-byte-eq32.left
      c.loop-at-test.true w.if-byte-eq32.false w.left-is c.loop-at.invariant
]

pub returns : goal.returns
returns c =
    let within : c.loop-at.at ≤ length c.args.text.now = omega arith in
    past_all c.args.before c.args.text.now c.loop-at.at c.loop-at.left c.loop-at-test.false within
    c.loop-at.invariant
