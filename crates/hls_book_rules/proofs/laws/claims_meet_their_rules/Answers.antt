use Rattle.hls_book_rules.proofs.Budgets.{claim_rules}
use Rattle.hls_book_rules.proofs.laws.claims_meet_their_rules.Goals as goal

pub returns : goal.returns
returns c = λ b mask slot. claim_rules b mask slot c.args.reservation
