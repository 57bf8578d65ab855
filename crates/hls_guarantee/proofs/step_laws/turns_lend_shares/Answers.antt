use Rattle.std.proofs.Common.{inl, inr}
use Rattle.hls_guarantee.proofs.Lendings.{turn-shares}
use Rattle.hls_guarantee.proofs.step_laws.turns_lend_shares.Goals as goal

pub returns : goal.returns
returns c = λ port through. elim through.lends [
  | inl lends ↦ turn-shares c.args.quantum c.args.terms c.args.g c.args.h lends
  | inr nothing ↦ absurd (c.requires nothing)
]
