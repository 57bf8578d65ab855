-- The account of a tally.
use Rattle.std.specs.Prelude.{ℕ, ◌-◌, ◌+◌, ◌^◌, List, map, filter, min, nat_lt}
use Rattle.hls_report_text.specs.declared.report.Account.{Account}
use Rattle.hls_machine.specs.Supplied.{end_of}
use Rattle.hls_core_stays.specs.Tallies.{waited}
use Rattle.hls_core_stays.specs.declared.tally.Tally.{Tally}

abbrev pub account_by : (now : ℕ) → Tally → Account
account_by now tally = record {
  name = tally.name;
  from = tally.since;
  to = end_of now tally.until - 1;
  kept = tally.kept;
  ready = min (tally.ready + waited (end_of now tally.until) tally.ready_since) (2 ^ 32 - 1);
  served = tally.served;
}

-- the accounts of those that had a tick
abbrev pub accounts_by : (now : ℕ) → List Tally → List Account
accounts_by now tallies = map (account_by now) (filter (λ (t : Tally). nat_lt t.since (end_of now t.until)) tallies)
