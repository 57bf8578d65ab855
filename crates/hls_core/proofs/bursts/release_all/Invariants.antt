use Rattle.std.proofs.Common.{◌≡◌, ◌<◌, ◌≤◌, ℕ, None, get_or, take}
use Rattle.hls_core.specs.Begun.{first_of, released}
use Rattle.hls_core.proofs.bursts.release_all.Given as goal

abbrev pub invariant-loop-it : goal.invariant-loop-it
invariant-loop-it l = record {
  done : (k : ℕ) → k < l.it-index → get_or l.begun k None ≡ released l.now (get_or l.fn.begun k None);
  first : l.first ≡ first_of (take l.it-index l.begun);
  rest : (k : ℕ) → l.it-index ≤ k → get_or l.begun k None ≡ get_or l.fn.begun k None;
}
