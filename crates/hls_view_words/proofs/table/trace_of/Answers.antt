use Rattle.std.proofs.Common.{map, string_bytes}
use Rattle.hls_view_words.proofs.OneView.{no_time}
use Rattle.hls_view_words.proofs.table.trace_of.Goals as goal

pub returns-then-tick-eq0-clause-none : goal.returns-then-tick-eq0-clause-none
returns-then-tick-eq0-clause-none c = λ none view is.
    no_time (map string_bytes c.args.words.now) c.in_ok-tick.tick c.if-tick-eq0.true c.in_ok-tick.ensures.found.1 view
    is
