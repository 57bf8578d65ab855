use Rattle.std.proofs.Common.{◌∙◌, sym}
use Rattle.hls_rules.proofs.Equal.{found-same, found-self}
use Rattle.hls_check.proofs.Lendings.{found-lends, lends-found}
use Rattle.hls_check.proofs.lending.is_lent.Goals as goal

pub returns : goal.returns
returns c =
    let a = c.args in
    let same = c.eq.ensures in
    let said = c.lent.ensures in
    let found = c.lent.result in (
      λ yes. found-lends a.place.now.config a.place.now.terms a.g.now a.h.now found said.some
          (found-same found a.h.now (sym same ∙ yes)),
      λ lends. same ∙ found-self found a.h.now (lends-found a.place.now.config a.place.now.terms a.g.now
          a.h.now found c.requires.config said.some said.none lends),
    )
