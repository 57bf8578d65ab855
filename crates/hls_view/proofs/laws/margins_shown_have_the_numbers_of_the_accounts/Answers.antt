use Rattle.hls_view.proofs.Kept.{writes_accounts}
use Rattle.hls_view.proofs.laws.margins_shown_have_the_numbers_of_the_accounts.Goals as goal

pub returns : goal.returns
returns c = writes_accounts
