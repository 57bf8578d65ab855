use Rattle.std.proofs.Common.{arith}
use Rattle.hls_search.proofs.Shares.{part-at_most, part-back, back-valid}
use Rattle.hls_search.proofs.sharing.share_before.Goals as goal
use Rattle.hls_search.proofs.sharing.share_before.Goals.{then-num-den-via-then-num-den}
use Rattle.hls_search.proofs.sharing.share_before.Goals.{then-num-den-via-else-num-den+then-lost-owed}

pub returns-then-num-den-clause-none : goal.returns-then-num-den-clause-none
returns-then-num-den-clause-none c = λ none given valid part.
    let a = c.args in
    let back = part-at_most a.weight a.total a.others given a.rate.now a.error.now valid part in
    elim c.then-num-den.branch [
      | then-num-den-via-then-num-den w ↦ absurd (omega (arith, back.0))
      | then-num-den-via-else-num-den+then-lost-owed w ↦ absurd (omega (arith, back.1))
    ]

pub returns-clause-some : goal.returns-clause-some
returns-clause-some c =
    let a = c.args in
    part-back a.weight a.total a.others c.quotient.result c.quotient-2.result a.rate.now a.error.now (omega arith)
    c.quotient.ensures c.quotient-2.ensures

pub returns-clause-of_all : goal.returns-clause-of_all
returns-clause-of_all c =
    let a = c.args in
    record {
      from = tt;
      to = back-valid a.weight a.total a.others c.quotient.result c.quotient-2.result a.rate.now a.error.now
          c.requires.size c.requires.narrow (omega arith) c.quotient.ensures c.quotient-2.ensures;
      leads = tt;
    }
