use Rattle.std.proofs.Common.{subst}
use Rattle.hls_scenario.specs.Grammar.{IsCommand}
use Rattle.hls_scenario.proofs.CanonicalPrinting.{load_narrow}
use Rattle.hls_scenario.proofs.printing.put_command.Goals as goal

pub put_perches-requires : goal.put_perches-requires
put_perches-requires c =
    let is = subst (IsCommand c.args.version) c.in-Load.is c.requires in
    rw c.items.ensures (load_narrow _ _ _ is.1)
