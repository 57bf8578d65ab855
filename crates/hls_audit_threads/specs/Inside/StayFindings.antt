-- What is found of stays, one by one.
use Rattle.std.specs.Prelude.{◌≡◌, ℕ, List, ◌++◌, Option, Some, None, Bool, nat_lt}
use Rattle.std.specs.Prelude.{if◌then◌else◌}
use Rattle.hls_report_text.specs.declared.report.Account.{Account}
use Rattle.hls_report_text.specs.Content.{Content}
use Rattle.hls_legal.specs.declared.stay.Stay.{Stay}
use Rattle.hls_legal.specs.Accounts.{end_of, account_of}
use Rattle.hls_audit_threads.specs.declared.stay_findings.StayFindings.{StayFindings}
use Rattle.hls_audit_watch.specs.First.{FirstAt}
use Rattle.hls_audit_threads.specs.Inside.Least.{sooner_of}
use Rattle.hls_audit_threads.specs.Inside.Meeting.{listed, AreMet}
use Rattle.hls_audit_threads.specs.Inside.Sites.{Starves, Exceeds}

abbrev pub has_tick : Content → Stay → Bool
has_tick c stay = nat_lt stay.since (end_of c stay)

-- the account of a stay that has a tick
abbrev pub account_if : Content → Stay → Option Account
account_if c stay = if has_tick c stay then Some (account_of c stay) else None

-- what is found of one stay more
pub record Adds (c : Content) (stay : Stay) (old new : StayFindings) : Type 0 where
  pub lack : Option ℕ
  pub lacks : FirstAt (λ t. Starves c t stay) lack
  pub starved : new.starved ≡ sooner_of old.starved lack
  pub excess : Option ℕ
  pub exceeds : FirstAt (λ t. Exceeds c t stay) excess
  pub over_cap : new.over_cap ≡ sooner_of old.over_cap excess
  pub accounts : (before : List Account) → AreMet c.accounts before old.met
      → AreMet c.accounts (before ++ listed (account_if c stay)) new.met
