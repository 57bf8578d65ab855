use Rattle.hls_check.proofs.Carrying.{processor-carries}
use Rattle.hls_check.proofs.laws.processor_carries_supply.Goals as goal

pub returns : goal.returns
returns c = λ haves d ticks asks lo hi.
    processor-carries c.args.place haves c.args.have c.args.want d ticks asks lo hi c.requires
