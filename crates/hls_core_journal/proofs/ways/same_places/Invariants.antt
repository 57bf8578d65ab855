use Rattle.std.proofs.Common.{◌≡◌, ℕ, ◌<◌, length, get_or, []}
use Rattle.hls_core_journal.proofs.ways.same_places.Given as goal

abbrev pub invariant-loop-i : goal.invariant-loop-i
invariant-loop-i l = (length l.one ≡ length l.other) × ((k : ℕ) → k < l.i
    → get_or l.names.keys (get_or l.one k 0) [] ≡ get_or l.names.keys (get_or l.other k 0) [])
