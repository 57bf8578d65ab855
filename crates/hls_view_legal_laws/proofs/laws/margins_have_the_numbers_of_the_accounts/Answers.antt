use Rattle.hls_view_legal_laws.proofs.Judged.{numbers-told}
use Rattle.hls_view_legal_laws.proofs.laws.margins_have_the_numbers_of_the_accounts.Goals as goal

pub returns : goal.returns
returns c = λ s given boxes content margins is are. numbers-told content margins is.accounts are
