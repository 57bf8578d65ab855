use Rattle.std.proofs.Common.{ap, sym, ◌∙◌}
use Rattle.hls_machine.specs.Legal.{root_asks}
use Rattle.hls_machine.proofs.laws.idle_ticks_find_no_asking_root.Goals as goal

pub returns : goal.returns
returns c = λ h asking masks can root is.
    sym (can.0.nodes root) ∙ sym (ap (λ r. root_asks r asking) is) ∙ can.1
