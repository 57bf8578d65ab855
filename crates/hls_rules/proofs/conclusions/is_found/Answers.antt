use Rattle.std.proofs.Common.{◌∙◌, sym}
use Rattle.hls_rules.proofs.Equal.{found-same, found-self}
use Rattle.hls_rules.proofs.conclusions.is_found.Goals as goal

pub returns : goal.returns
returns c =
    let same = c.eq.ensures in (
      λ yes. found-same c.args.found c.args.h (sym same ∙ yes),
      λ e. same ∙ found-self c.args.found c.args.h e,
    )
