use Rattle.std.proofs.Common.{arith, sym, ◌∙◌}
use Rattle.hls_view_table.proofs.Trims.{trimmed-shorter, trimmed-same}
use Rattle.hls_view_table.proofs.writing.trimmed_len.Goals as goal

pub loop-len-preserved : goal.loop-len-preserved
loop-len-preserved c =
    let within = c.loop-len.invariant.within in
    record {
      within = omega (arith, within);
      same = trimmed-shorter c.args.text.now c.loop-len.len c.loop-len-test.true within c.if-text-len-eq32.true
          ∙ c.loop-len.invariant.same;
    }

pub returns-else-text-len-eq32-clause-is : goal.returns-else-text-len-eq32-clause-is
returns-else-text-len-eq32-clause-is c =
    sym (trimmed-same c.args.text.now c.loop-len.len c.loop-len-test.true c.loop-len.invariant.within
    c.if-text-len-eq32.false) ∙ c.loop-len.invariant.same
