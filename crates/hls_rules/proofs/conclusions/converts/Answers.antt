use Rattle.hls_rules.proofs.BestOnes.{single_of, found-converts, converts-found}
use Rattle.hls_rules.proofs.conclusions.converts.Goals as goal

pub returns-in-R2 : goal.returns-in-R2
returns-in-R2 c =
    let a = c.args in
    let found = c.strongest.result in
    let said = c.strongest.ensures in (
      λ yes. found-converts a.rule a.g.now a.h.now found said.found (c.is_found.ensures.0 yes),
      λ leads. c.is_found.ensures.1 (converts-found a.rule a.g.now a.h.now found (single_of c.in-R2.is)
          said.found
          said.lacks leads),
    )
