use Rattle.std.proofs.Common.{◌≡◌, ℕ, ◌<◌, get_or, false}
use Rattle.hls_text.specs.Tokens.{is_blank}
use Rattle.hls_text.proofs.tokens.token_len.Given as goal

abbrev pub invariant-loop-i : goal.invariant-loop-i
invariant-loop-i l = (k : ℕ) → k < l.i → is_blank (get_or l.rest k 0) ≡ false
