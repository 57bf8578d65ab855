-- What a margin is of has a guarantee that can be spelled.
use Rattle.std.proofs.Common.{zero, suc, List, [], ◌∷◌, refl, sym, subst, arith}
use Rattle.std.specs.Prelude.{All, nat_lt}
use Rattle.std.proofs.lemmas.List.Elements.{All-filter, All-head, All-tail, All-nil}
use Rattle.hls_guarantee.specs.Limits.{IsValid}
use Rattle.hls_report_text.specs.declared.report.Report.{Report}
use Rattle.hls_report_text.specs.Content.{Content, content_of}
use Rattle.hls_report_text.specs.WellFormed.{IsWellFormed}
use Rattle.hls_legal.specs.declared.stay.Stay.{Stay}
use Rattle.hls_legal.specs.Stays.{stays}
use Rattle.hls_legal.specs.Accounts.{end_of}
use Rattle.hls_audit_threads.proofs.Formed.{stays_valid}
use Rattle.hls_view_margins.specs.declared.margin.Margin.{Margin}
use Rattle.hls_view_margins.specs.Margins.{AreMargins, lasting}

abbrev CanBeTold : Margin → Type 0
CanBeTold margin = IsValid margin.kept

all_on : (margin : Margin) (margins : List Margin) → CanBeTold margin → All CanBeTold margins
    → All CanBeTold (margin ∷ margins)
all_on margin margins one all zero d lt = one
all_on margin margins one all (suc k) d lt = all k d (omega (arith, lt))

each_told : (c : Content) (some : List Stay) (margins : List Margin) → AreMargins c some margins
    → All (λ (stay : Stay). IsValid stay.kept) some → All CanBeTold margins
each_told c [] [] are valid = All-nil CanBeTold
each_told c [] (margin ∷ margins) are valid = absurd are
each_told c (stay ∷ some) [] are valid = absurd are
each_told c (stay ∷ some) (margin ∷ margins) are valid =
    all_on margin margins
    (subst IsValid (sym are.0.kept) (All-head (λ (s : Stay). IsValid s.kept) stay some valid))
    (each_told c some margins are.1 (All-tail (λ (s : Stay). IsValid s.kept) stay some valid))

pub can_be_told : (report : Report) (margins : List Margin) → IsWellFormed report
    → AreMargins (content_of report) (lasting (content_of report)) margins → All CanBeTold margins
can_be_told report margins formed are =
    let c : Content = content_of report in
    each_told c (lasting c) margins are
    (All-filter (λ (s : Stay). nat_lt s.since (end_of c s)) (λ (s : Stay). IsValid s.kept) (stays c.answered)
    (stays_valid c (stays c.answered) formed.content refl))
