-- The accounts are read line by line.
use Rattle.std.proofs.Common.{◌≡◌, ℕ, ◌^◌, ◌<◌, List, [], ◌∷◌, ◌++◌, sym, ap, ◌∙◌, subst}
use Rattle.std.proofs.Common.{inl, inr}
use Rattle.std.specs.Prelude.{codes, decimal, map, Some}
use Rattle.std.specs.List.{AllByRecursion}
use Rattle.std.proofs.lemmas.List.{map-append}
use Rattle.hls_text.specs.Lines.{Text}
use Rattle.hls_text.specs.Cuts.{after_words}
use Rattle.hls_scenario.proofs.CanonicalLines.{all_append}
use Rattle.hls_report.specs.declared.lines.Lines.{Lines}
use Rattle.hls_report_text.specs.declared.report.Account.{Account}
use Rattle.hls_report_text.specs.ReportText.{account_text}
use Rattle.hls_report_text.specs.WellFormed.{IsAccount}
use Rattle.hls_report_text.specs.Inside.Reading.{count_at}
use Rattle.hls_report.specs.Inside.Rests.{AccountRest, Passes}
use Rattle.hls_report.proofs.Heads.{some_text}
use Rattle.hls_report_text.proofs.RefusalTexts.{count_again}
use Rattle.hls_report.proofs.RestLaws.{account_next}
use Rattle.hls_report.proofs.Stuck.{none_passed, pass_on}

pub idle_read : (line rest : Text) (n : ℕ) → n < 2 ^ 32 → line ≡ codes "idle " ++ decimal n
    → after_words (codes "idle ") line ≡ Some rest → count_at rest ≡ Some n
idle_read line rest n lt e read =
    let same = some_text rest (decimal n) (sym read ∙ ap (after_words (codes "idle ")) e) in
    ap count_at same ∙ count_again n lt

-- no other line may come
pub no_account : (h : ℕ) (line : Text) (lines : List Text)
    → ((a : Account) → IsAccount h a → line ≡ account_text a → ⊥)
    → ((n : ℕ) → n < 2 ^ 32 → line ≡ codes "idle " ++ decimal n → ⊥) → AccountRest h (line ∷ lines) → ⊥
no_account h line lines none none_too r = elim (account_next h line lines r) [
  | inl n ↦ none_too n.idle n.small n.text
  | inr n ↦ none n.account n.is n.text
]

-- these accounts were read
pub record AccountsRead (h : ℕ) (accounts : List Account) (old new : Lines) : Type 0 where
  pub are : AllByRecursion (IsAccount h) accounts
  pub read : Passes (AccountRest h) (AccountRest h) (map account_text accounts) old new

pub no_accounts : (h : ℕ) (at : Lines) → AccountsRead h [] at at
no_accounts h at = record { are = tt; read = none_passed (AccountRest h) at }

pub one_more : (h : ℕ) (accounts : List Account) (a : Account) (start old new : Lines)
    → AccountsRead h accounts start old → IsAccount h a
    → Passes (AccountRest h) (AccountRest h) (account_text a ∷ []) old new
    → AccountsRead h (accounts ++ a ∷ []) start new
one_more h accounts a start old new r is p = record {
  are = all_append (IsAccount h) accounts (a ∷ []) r.are (is, tt);
  read = subst (λ ls. Passes (AccountRest h) (AccountRest h) ls start new)
      (sym (map-append account_text accounts (a ∷ [])))
      (pass_on (AccountRest h) (AccountRest h) (AccountRest h) (map account_text accounts)
      (account_text a ∷ []) start old new r.read p);
}
