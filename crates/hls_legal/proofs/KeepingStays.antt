-- A legal report keeps its accounts.
use Rattle.std.proofs.Common.{◌≡◌, ℕ, ◌+◌, ◌-◌, ◌<◌, List, [], ◌∷◌, Bool, true, false, refl, sym, subst}
use Rattle.std.proofs.Common.{arith, map, cond}
use Rattle.std.specs.Prelude.{filter, nat_lt, All}
use Rattle.std.specs.List.{AllByRecursion}
use Rattle.std.proofs.lemmas.List.Elements.{All-from_recursion, recursion_from_All}
use Rattle.hls_report_text.specs.Content.{Content}
use Rattle.hls_guarantee.specs.Cap.{KeepsCap}
use Rattle.hls_legal.specs.declared.stay.Stay.{Stay}
use Rattle.hls_legal.specs.Schedule.{is_served}
use Rattle.hls_legal.specs.Stays.{stays}
use Rattle.hls_legal.specs.Accounts.{end_of, account_of, accounts_of}
use Rattle.hls_legal.specs.Agrees.{IsKeptBy}
use Rattle.hls_legal.specs.Kept.{KeepsAccount}

account_kept : (c : Content) (stay : Stay) → stay.since < end_of c stay → IsKeptBy c stay
    → KeepsAccount c (account_of c stay)
account_kept c stay lt kept =
    let end : end_of c stay - 1 + 1 ≡ end_of c stay = omega (arith, lt) in
    record {
      windows = λ from until lo hi ready. kept.windows from until
          (record { begins = lo; ends = omega (arith, hi, end); ready = ready });
      cap = subst (λ n. KeepsCap stay.kept (is_served c.stretches stay.name) stay.since n) (sym end) kept.cap;
    }

lt_of : (a b : ℕ) → nat_lt a b ≡ true → a < b
lt_of a b e = grind (arith, e)

pub accounts_kept : (c : Content) (all : List Stay) → AllByRecursion (IsKeptBy c) all
    → AllByRecursion (KeepsAccount c) (map (account_of c) (filter (λ (s : Stay). nat_lt s.since (end_of c s)) all))
accounts_kept c [] kept = tt
accounts_kept c (stay ∷ all) kept =
    by (nat_lt stay.since (end_of c stay)) refl (accounts_kept c all kept.1)
  where
    by : (b : Bool) → nat_lt stay.since (end_of c stay) ≡ b
        → AllByRecursion (KeepsAccount c)
        (map (account_of c) (filter (λ (s : Stay). nat_lt s.since (end_of c s)) all))
        → AllByRecursion (KeepsAccount c) (map (account_of c) (cond (nat_lt stay.since (end_of c stay))
        (stay ∷ filter (λ (s : Stay). nat_lt s.since (end_of c s)) all)
        (filter (λ (s : Stay). nat_lt s.since (end_of c s)) all)))
    by true e rest =
        subst (λ b. AllByRecursion (KeepsAccount c) (map (account_of c) (cond b
        (stay ∷ filter (λ (s : Stay). nat_lt s.since (end_of c s)) all)
        (filter (λ (s : Stay). nat_lt s.since (end_of c s)) all)))) (sym e)
        (account_kept c stay (lt_of stay.since (end_of c stay) e) kept.0, rest)
    by false e rest =
        subst (λ b. AllByRecursion (KeepsAccount c) (map (account_of c) (cond b
        (stay ∷ filter (λ (s : Stay). nat_lt s.since (end_of c s)) all)
        (filter (λ (s : Stay). nat_lt s.since (end_of c s)) all)))) (sym e) rest

pub report_kept : (c : Content) → c.accounts ≡ accounts_of c → All (IsKeptBy c) (stays c.answered)
    → All (KeepsAccount c) c.accounts
report_kept c accounts kept =
    subst (All (KeepsAccount c)) (sym accounts)
    (All-from_recursion (KeepsAccount c) (accounts_of c)
    (accounts_kept c (stays c.answered) (recursion_from_All (IsKeptBy c) (stays c.answered) kept)))
