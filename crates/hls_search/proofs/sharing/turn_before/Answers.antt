use Rattle.std.proofs.Common.{◌*◌}
use Rattle.hls_chron.specs.declared.plain.Config.TheVariants.{Rr}
use Rattle.hls_chron.specs.declared.plain.Terms.TheVariants.{Turn}
use Rattle.hls_guarantee.specs.declared.Guarantee.TheVariants.{Psbe}
use Rattle.hls_search.proofs.Taking.{turn-lends, part-found}
use Rattle.hls_search.proofs.sharing.turn_before.Goals as goal

pub returns-clause-some : goal.returns-clause-some
returns-clause-some c =
    let a = c.args in
    part-found (Rr a.quantum) Turn 1 32 (31 * a.quantum) c.share_before.result (Psbe a.rate.now a.error.now)
    (turn-lends a.quantum c.requires.config) c.share_before.ensures.some

pub returns-clause-none : goal.returns-clause-none
returns-clause-none c = λ none given valid lends.
    let a = c.args in
    let by = turn-lends a.quantum c.requires.config in
    c.share_before.ensures.none none given valid (by.part given (Psbe a.rate.now a.error.now) lends)
