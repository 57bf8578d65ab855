use Rattle.std.proofs.Common.{◌≡◌, ◌<◌, ℕ, take}
use Rattle.hls_guarantee.specs.Limits.{IsValid}
use Rattle.hls_derive.specs.Derivation.{end_of}
use Rattle.hls_check.specs.Checking.{ConvertsAt}
use Rattle.hls_check.proofs.checking.first_wrong.Given as goal

abbrev pub invariant-loop-at : goal.invariant-loop-at
invariant-loop-at l = record {
  reached : l.reached ≡ end_of l.from (take l.at l.steps);
  valid : IsValid l.reached;
  held : (i : ℕ) → i < l.at → ConvertsAt l.from l.steps i;
}
