-- The accounts of stays, and what they keep.
use Rattle.std.proofs.Common.{◌≡◌, ◌∙◌, ℕ, suc, ◌≤◌, ◌<◌, List, [], ◌∷◌, ap, sym, refl, subst, arith, map}
use Rattle.std.specs.Prelude.{Bool, true, false, cond, filter, nat_lt, Some, slice_get}
use Rattle.std.specs.List.{AllByRecursion}
use Rattle.std.proofs.lemmas.Bool.{ltb-true}
use Rattle.std.proofs.lemmas.Option.{slice_get_within, get_or_from_slice_get}
use Rattle.hls_guarantee.specs.Limits.{IsValid}
use Rattle.hls_report_text.specs.declared.report.Account.{Account}
use Rattle.hls_report_text.specs.declared.report.Report.{Report}
use Rattle.hls_report_text.specs.Content.{Content, content_of}
use Rattle.hls_report_text.specs.WellFormed.{IsWellFormed}
use Rattle.hls_legal.specs.declared.stay.Stay.{Stay}
use Rattle.hls_legal.specs.Stays.{stays}
use Rattle.hls_legal.specs.Accounts.{end_of, account_of, accounts_of}
use Rattle.hls_audit_threads.proofs.Formed.{stays_valid, stay_ends}
use Rattle.hls_view_margins.specs.declared.margin.Margin.{Margin}
use Rattle.hls_view_margins.specs.Margins.{IsMargin, AreMargins}
use Rattle.hls_view_timeline.specs.Inside.Accounts.{account_by, IsWithin}

same_account : (c : Content) (stay : Stay) (m : Margin) → IsMargin c stay m → account_by m ≡ account_of c stay
same_account c stay m is =
    let a = is.name in
    let b = is.from in
    let d = is.to in
    let e = is.kept in
    let f = is.ready in
    let g = is.served in
    cc

pub accounts_are : (c : Content) (some : List Stay) (margins : List Margin) → AreMargins c some margins
    → map account_by margins ≡ map (account_of c) some
accounts_are c [] [] are = refl
accounts_are c [] (m ∷ margins) are = absurd are
accounts_are c (stay ∷ some) [] are = absurd are
accounts_are c (stay ∷ some) (m ∷ margins) are =
    ap (λ (a : Account). a ∷ map account_by margins) (same_account c stay m are.0)
    ∙ ap (λ (l : List Account). account_of c stay ∷ l) (accounts_are c some margins are.1)

-- ---- what accounts keep

abbrev IsSound : Content → Stay → Type 0
IsSound c stay = IsValid stay.kept × (end_of c stay ≤ c.horizon)

with_one : (c : Content) (stay : Stay) (rest : List Stay) (on : Bool) → IsSound c stay
    → nat_lt stay.since (end_of c stay) ≡ on → AllByRecursion (IsWithin c) (map (account_of c) rest)
    → AllByRecursion (IsWithin c) (map (account_of c) (cond on (stay ∷ rest) rest))
with_one c stay rest true sound is all =
    let some : stay.since < end_of c stay = ltb-true stay.since (end_of c stay) is in
    let ends = sound.1 in (
      record {
        order = omega (arith, some);
        early = omega (arith, some, ends);
        valid = sound.0;
      },
      all,
    )
with_one c stay rest false sound is all = all

all_within : (c : Content) (all : List Stay) → ((n : ℕ) (stay : Stay) → slice_get all n ≡ Some stay → IsSound c stay)
    → AllByRecursion (IsWithin c) (map (account_of c) (filter (λ (s : Stay). nat_lt s.since (end_of c s)) all))
all_within c [] each = tt
all_within c (stay ∷ all) each =
    with_one c stay (filter (λ (s : Stay). nat_lt s.since (end_of c s)) all) (nat_lt stay.since (end_of c stay))
    (each 0 stay refl) refl (all_within c all (λ n. each (suc n)))

pub accounts_within : (r : Report) (accounts : List Account) → IsWellFormed r → accounts ≡ accounts_of (content_of r)
    → AllByRecursion (IsWithin (content_of r)) accounts
accounts_within r accounts formed are =
    let c : Content = content_of r in
    subst (AllByRecursion (IsWithin c)) (sym are)
    (all_within c (stays c.answered) (λ n stay there. (
      subst (λ (s : Stay). IsValid s.kept) (get_or_from_slice_get (stays c.answered) n stay stay there)
          (stays_valid c (stays c.answered) formed.content refl n stay
          (slice_get_within (stays c.answered) n stay there)),
      stay_ends c stay n formed.content there,
    )))
