use Rattle.std.proofs.Common.{◌≡◌, ◌++◌, replicate}
use Rattle.hls_view_table.proofs.writing.put_blanks.Given as goal

abbrev pub invariant-loop : goal.invariant-loop
invariant-loop l = l.out.items ≡ l.fn.out.items ++ replicate l.counter 32
