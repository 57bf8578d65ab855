use Rattle.std.proofs.Common.{arith}
use Rattle.hls_core_stays.proofs.Worded.{stays_valid, accounts_worded}
use Rattle.hls_core_stays.proofs.stays.Stays.put_accounts.Goals as goal

pub put_lines-requires : goal.put_lines-requires
put_lines-requires c = stays_valid c.args.self c.args.now c.requires (omega (arith, c.ranges.now))

pub returns : goal.returns
returns c =
    accounts_worded c.args.self c.args.now c.args.out.now.items c.put_lines.new.out.items c.put_lines.result
    (omega (arith, c.ranges.now)) c.put_lines.ensures
