-- The accounts that come of a report's commands and runs have texts.
use Rattle.std.proofs.Common.{◌≡◌, ℕ, ◌-◌, ◌^◌, ◌<◌, ◌≤◌, Bool, true}
use Rattle.std.proofs.Common.{get_or, arith, filter}
use Rattle.std.specs.Prelude.{All, nat_lt}
use Rattle.std.specs.List.{AllByRecursion}
use Rattle.std.proofs.lemmas.Bool.{ltb-true}
use Rattle.std.proofs.lemmas.List.Elements.{All-filter, All-map}
use Rattle.std.proofs.lemmas.List.Elements.{filter_passes, recursion_from_All}
use Rattle.hls_chron.specs.Ticks.{count}
use Rattle.hls_chron.proofs.CountLaws.{count-le}
use Rattle.hls_report_text.specs.Content.{Content}
use Rattle.hls_report_text.specs.WellFormed.{AreAnswered, IsAccount}
use Rattle.hls_legal.specs.declared.stay.Stay.{Stay}
use Rattle.hls_legal.specs.Stays.{stays}
use Rattle.hls_legal.specs.Accounts.{end_of, account_of, accounts_of}
use Rattle.hls_legal.proofs.GoodStays.{IsGoodStay, stays_good, end_within}

account_formed : (c : Content) (stay : Stay) → c.horizon ≤ 1000000 → IsGoodStay c.horizon stay
    → nat_lt stay.since (end_of c stay) ≡ true → IsAccount c.horizon (account_of c stay)
account_formed c stay few good starts =
    let lt : stay.since < end_of c stay = ltb-true stay.since (end_of c stay) starts in
    let le : end_of c stay ≤ c.horizon = end_within c.horizon stay.until good.ends in
    record {
      named = good.named;
      forward = omega (arith, lt);
      within = omega (arith, lt, le);
      kept = good.kept;
      ready = fits (Rattle.hls_legal.specs.Ready.is_ready c stay.name) lt le;
      served = fits (Rattle.hls_legal.specs.Schedule.is_served c.stretches stay.name) lt le;
    }
  where
    fits : (test : ℕ → Bool) → stay.since < end_of c stay → end_of c stay ≤ c.horizon
        → count test stay.since (end_of c stay - stay.since) < 2 ^ 32
    fits test lt le =
        let most = count-le test stay.since (end_of c stay - stay.since) in omega (arith, most, few, lt, le)

pub accounts_formed : (c : Content) → c.horizon ≤ 1000000 → AreAnswered c.version c.horizon 0 c.answered
    → AllByRecursion (IsAccount c.horizon) (accounts_of c)
accounts_formed c few are =
    let starts = λ (s : Stay). nat_lt s.since (end_of c s) in
    let all : All (IsGoodStay c.horizon) (stays c.answered) =
    stays_good c.version c.horizon c.answered are in
    let good = All-filter starts (IsGoodStay c.horizon) (stays c.answered) all in
    let begun = filter_passes starts (stays c.answered) in
    recursion_from_All (IsAccount c.horizon) (accounts_of c)
    (All-map (IsAccount c.horizon) (account_of c) (filter starts (stays c.answered))
    (λ k d lt. account_formed c (get_or (filter starts (stays c.answered)) k d) few (good k d lt) (begun k d lt)))
