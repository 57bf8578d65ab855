use Rattle.std.proofs.Common.{◌∙◌, arith}
use Rattle.hls_core_stays.proofs.Told.{accounts_told}
use Rattle.hls_core_stays.proofs.stays.Stays.accounts.Goals as goal

pub returns : goal.returns
returns c = λ h are same.
    accounts_told c.args.self h c.args.now _ are same (omega (arith, c.ranges.now))
    (c.reverse.ensures.items ∙ c.in_ok-accounts.ensures)
