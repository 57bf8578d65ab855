use Rattle.std.proofs.Common.{◌≡◌, inl, inr, arith, subst}
use Rattle.std.proofs.lemmas.Bool.{cases_lt}
use Rattle.hls_core.specs.Inside.Elapses.{IsRest}
use Rattle.hls_core.proofs.ticks.standing.Goals as goal

pub stands_within-requires-clause-some : goal.stands_within-requires-clause-some
stands_within-requires-clause-some g c =
    let most = c.requires.some in
    elim (cases_lt c.rest_of-rest.result c.args.most) [
      | inl early ↦
          let rest = c.rest_of-rest.ensures.attained early in
          let some = c.requires.lasting rest.node c.rest_of-rest.result rest.served rest.rest in omega (arith, some)
      | inr whole ↦ omega (arith, whole, most)
    ]

pub stands_within-requires-clause-within : goal.stands_within-requires-clause-within
stands_within-requires-clause-within g c =
    let most = c.rest_of-rest.ensures.most in
    let few = c.requires.within in omega (arith, most, few)

pub returns-clause-attained : goal.returns-clause-attained
returns-clause-attained g c = λ less. elim (cases_lt c.stands_within.result c.rest_of-rest.result) [
  | inl early ↦ inl (c.stands_within.ensures.attained early)
  | inr whole ↦
      let within = c.stands_within.ensures.most in
      let same : c.rest_of-rest.result ≡ c.stands_within.result = omega (arith, whole, within) in
      inr (subst (IsRest _ _) same (c.rest_of-rest.ensures.attained (omega (arith, same, less))))
]

pub returns-clause-burst : goal.returns-clause-burst
returns-clause-burst g c = λ k rest served left.
    let least = c.stands_within.ensures.most in
    let within = c.rest_of-rest.ensures.burst k rest served left in omega (arith, least, within)
