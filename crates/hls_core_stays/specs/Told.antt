-- The accounts of stays that are told as text.
use Rattle.std.specs.Prelude.{◌≡◌, ℕ, List, flat_map}
use Rattle.std.specs.List.{AllByRecursion}
use Rattle.hls_text.specs.Lines.{Text}
use Rattle.hls_guarantee.specs.Limits.{IsValid}
use Rattle.hls_report_text.specs.ReportText.{account_text, with_end}
use Rattle.hls_report_text.specs.declared.report.Account.{Account}
use Rattle.hls_machine.specs.Hierarchy.{Hierarchy}
use Rattle.hls_legal.specs.Agrees.{accounts_in}
use Rattle.hls_core_stays.specs.Tallies.{AreStays}
use Rattle.hls_core_stays.specs.declared.stays.Stays.{Stays}

abbrev pub lines_of : List Account → Text
lines_of accounts = flat_map (λ (a : Account). with_end (account_text a)) accounts

-- the guarantees kept are valid
abbrev pub AreValid : List Account → Type 0
AreValid accounts = AllByRecursion (λ (a : Account). IsValid a.kept) accounts

-- at this tick the stays are those of a hierarchy, and what was kept in them can be told
pub record MayTell (s : Stays) (now : ℕ) : Type 0 where
  pub h : Hierarchy
  pub stays : AreStays s h
  pub at_now : h.now ≡ now
  pub valid : AreValid (accounts_in h)
