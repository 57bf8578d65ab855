-- What the audit and the margins of a kept report come to.
use Rattle.std.proofs.Common.{◌≡◌, ℕ, List, [], ◌∷◌, refl, sym, ap, ◌∙◌, map}
use Rattle.hls_text.specs.Lines.{Text}
use Rattle.hls_guarantee.specs.declared.Guarantee.{Guarantee}
use Rattle.hls_report_text.specs.declared.report.Account.{Account}
use Rattle.hls_report_text.specs.Content.{Content}
use Rattle.hls_legal.specs.declared.stay.Stay.{Stay}
use Rattle.hls_legal.specs.Accounts.{account_of, accounts_of}
use Rattle.hls_audit_clauses.specs.Kept.{IsKept}
use Rattle.hls_audit.specs.declared.auditing.Outcome.{Outcome}
use Rattle.hls_audit.specs.declared.auditing.Outcome.TheVariants.{Kept, Broken}
use Rattle.hls_audit.specs.Audits.{IsAudit, IsTale}
use Rattle.hls_view_margins.specs.declared.margin.Margin.{Margin}
use Rattle.hls_view_margins.specs.Margins.{IsMargin, AreMargins, lasting}
use Rattle.hls_view_legal_laws.specs.Told.{account_told}

pub tale-kept : (c : Content) → IsKept c → IsTale c Kept
tale-kept c kept = λ clause t few. kept clause t

pub audit-kept : (c : Content) (audit : Outcome) → IsKept c → IsAudit c audit → audit ≡ Kept
audit-kept c Kept kept is = refl
audit-kept c (Broken clause tick) kept is = absurd (kept is.clause tick is.fails)

same-account : (n n' : Text) (f f' t t' : ℕ) (k k' : Guarantee) (r r' s s' : ℕ) → n ≡ n' → f ≡ f' → t ≡ t' → k ≡ k'
    → r ≡ r' → s ≡ s'
    → (let a : Account = record { name = n; from = f; to = t; kept = k; ready = r; served = s } in a)
    ≡ (let a : Account = record { name = n'; from = f'; to = t'; kept = k'; ready = r'; served = s' } in a)
same-account n n' f f' t t' k k' r r' s s' en ef et ek er es =
    let make : Text → ℕ → ℕ → Guarantee → ℕ → ℕ → Account =
    (λ a b c d e g. record { name = a; from = b; to = c; kept = d; ready = e; served = g }) in
    ap (λ a. make a f t k r s) en ∙ ap (λ a. make n' a t k r s) ef ∙ ap (λ a. make n' f' a k r s) et
    ∙ ap (λ a. make n' f' t' a r s) ek ∙ ap (λ a. make n' f' t' k' a s) er ∙ ap (λ a. make n' f' t' k' r' a) es

told-account : (c : Content) (stay : Stay) (m : Margin) → IsMargin c stay m → account_told m ≡ account_of c stay
told-account c stay m is =
    same-account _ _ _ _ _ _ _ _ _ _ _ _ is.name is.from is.to is.kept is.ready is.served

told-accounts : (c : Content) (all : List Stay) (margins : List Margin) → AreMargins c all margins
    → map account_told margins ≡ map (account_of c) all
told-accounts c [] [] are = refl
told-accounts c [] (m ∷ margins) are = absurd are
told-accounts c (stay ∷ all) [] are = absurd are
told-accounts c (stay ∷ all) (m ∷ margins) are =
    ap (λ a. a ∷ map account_told margins) (told-account c stay m are.0)
    ∙ ap (λ l. account_of c stay ∷ l) (told-accounts c all margins are.1)

pub numbers-told : (c : Content) (margins : List Margin) → c.accounts ≡ accounts_of c
    → AreMargins c (lasting c) margins → map account_told margins ≡ c.accounts
numbers-told c margins accounts are = told-accounts c (lasting c) margins are ∙ sym accounts
