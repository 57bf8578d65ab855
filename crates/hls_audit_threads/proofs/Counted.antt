-- The ticks of a stay by spans of them.
use Rattle.std.proofs.Common.{◌≡◌, ℕ, ◌+◌, ◌-◌, ◌≤◌, List}
use Rattle.std.proofs.Common.{ap, ◌∙◌, arith}
use Rattle.std.specs.Prelude.{Bool}
use Rattle.hls_chron.specs.Ticks.{count}
use Rattle.hls_audit_spans.specs.declared.span.Span.{Span}
use Rattle.hls_audit_spans.specs.Spans.{Tell}
use Rattle.hls_text.specs.Lines.{Text}
use Rattle.hls_guarantee.specs.declared.Guarantee.{Guarantee}
use Rattle.hls_report_text.specs.declared.report.Account.{Account}
use Rattle.hls_report_text.specs.Content.{Content}
use Rattle.hls_legal.specs.declared.stay.Stay.{Stay}
use Rattle.hls_legal.specs.Accounts.{end_of, ticks_in}

-- ---- the ticks of a stay

pub counted_in : (c : Content) (stay : Stay) (test : ℕ → Bool) (spans : List Span) (got end n : ℕ)
    → Tell test spans c.horizon → end ≡ end_of c stay → n ≡ end - stay.since → stay.since ≤ end → end ≤ c.horizon
    → ((f : ℕ → Bool) (last : ℕ) → Tell f spans last → stay.since + n ≤ last → got ≡ count f stay.since n)
    → got ≡ ticks_in c stay test
counted_in c stay test spans got end n tell is many order within counts =
    counts test c.horizon tell (omega (arith, many, order, within))
    ∙ ap (count test stay.since) (many ∙ ap (λ (m : ℕ). m - stay.since) is)

-- ---- one account

pub account_by : (name other : Text) (f g t u : ℕ) (k l : Guarantee) (r s v w : ℕ) → name ≡ other → f ≡ g → t ≡ u
    → k ≡ l → r ≡ s → v ≡ w
    → ◌≡◌ {A = Account} (record { name = name; from = f; to = t; kept = k; ready = r; served = v })
    (record { name = other; from = g; to = u; kept = l; ready = s; served = w })
account_by name other f g t u k l r s v w a b d e h i = cc
