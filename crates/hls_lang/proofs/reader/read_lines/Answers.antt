use Rattle.std.proofs.Common.{arith}
use Rattle.hls_lang.specs.ReadingLines.{state_of}
use Rattle.hls_lang.proofs.LoopLaws.{on, stops, ends}
use Rattle.hls_lang.proofs.reader.read_lines.Goals as goal

pub returns-in-Err : goal.returns-in-Err
returns-in-Err c = rw c.fault_at.ensures (stops c.in-Err.error c.loop-line.number
    (state_of c.loop-line.reader) (state_of c.line.new.self) _ _ c.in-Some.line.now _ c.in-Some.ensures.cases
    c.in-Err.ensures c.loop-line.invariant.so_far)

pub loop-line-preserved : goal.loop-line-preserved
loop-line-preserved c = record {
  so_far = on c.loop-line.number (state_of c.loop-line.reader) (state_of c.line.new.self) _ _
      c.in-Some.line.now _ c.in-Some.ensures.cases c.in-Ok.ensures c.loop-line.invariant.so_far;
  counted = let short = c.in-Some.ensures.shorter in omega (arith, short);
}

pub returns : goal.returns
returns c = ends c.finish.result c.loop-line.number (state_of c.loop-line.reader) _ _
    c.in_default.ensures.cases c.finish.ensures c.loop-line.invariant.so_far
