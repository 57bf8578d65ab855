-- The accounts of a list, met one after another.
use Rattle.std.specs.Prelude.{◌≡◌, ◌≤◌, ℕ, List, [], ◌∷◌, ◌++◌, Option, Some, None, length, drop}
use Rattle.hls_report_text.specs.declared.report.Account.{Account}

abbrev pub listed : Option Account → List Account
listed None = []
listed (Some account) = account ∷ []

-- those that were found are the first so many of the list
pub record AreFirst (all found : List Account) (count : ℕ) : Type 0 where
  pub within : count ≤ length all
  pub ahead : all ≡ found ++ drop count all

-- how many were met, or none where the list does not begin with those that were found
abbrev pub AreMet : List Account → List Account → Option ℕ → Type 0
AreMet all found None = (rest : List Account) → ¬ (all ≡ found ++ rest)
AreMet all found (Some count) = AreFirst all found count
