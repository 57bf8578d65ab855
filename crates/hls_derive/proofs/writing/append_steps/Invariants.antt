use Rattle.std.proofs.Common.{◌≡◌, ◌++◌, take}
use Rattle.hls_derive.specs.DerivationText.{steps_text}
use Rattle.hls_derive.proofs.writing.append_steps.Given as goal

abbrev pub invariant-loop-step : goal.invariant-loop-step
invariant-loop-step l = l.out.items ≡ l.fn.out.items ++ steps_text (take l.step-index l.steps)
