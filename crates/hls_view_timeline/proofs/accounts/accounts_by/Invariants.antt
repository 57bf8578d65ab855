use Rattle.std.proofs.Common.{◌≡◌, take, map}
use Rattle.hls_view_timeline.specs.Inside.Accounts.{account_by}
use Rattle.hls_view_timeline.proofs.accounts.accounts_by.Given as goal

abbrev pub invariant-loop-margin : goal.invariant-loop-margin
invariant-loop-margin l = l.accounts.items ≡ map account_by (take l.margin-index l.margins)
