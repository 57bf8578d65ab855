-- Whether a seat has a priority, by why a seat with it cannot be taken.
use Rattle.std.proofs.lemmas.Bool.{cases_lt}
use Rattle.std.proofs.Common.{◌≡◌, ◌<◌, ◌≤◌, ◌+◌, ◌⊎◌, ℕ, Option, Some, None, true, false, refl, sym, subst}
use Rattle.std.proofs.Common.{arith, inl, inr}
use Rattle.hls_chron.specs.declared.plain.Config.{Config}
use Rattle.hls_chron.specs.declared.plain.Config.TheVariants as configs
use Rattle.hls_chron.specs.declared.plain.Terms.TheVariants.{Prio}
use Rattle.hls_chron.specs.Ledger.{Ledger}
use Rattle.hls_chron.specs.Seats.{HasPriority}
use Rattle.hls_kinds.specs.declared.fault.SeatFault.{SeatFault}
use Rattle.hls_kinds.specs.declared.fault.SeatFault.TheVariants.{Unfit, PriorityTaken, Full, NoRoom}
use Rattle.hls_kinds.specs.Faults.{IsFirstFaultIfAny}
use Rattle.hls_offer.specs.Inside.Faults.{is_of_priority}

pub priority_taken : (config : Config) (b : Ledger) (p : ℕ) (answer : Option SeatFault)
    → IsFirstFaultIfAny config b (Prio p) answer → is_of_priority answer ≡ true → HasPriority b p
priority_taken config b p None is e = absurd (cc)
priority_taken config b p (Some Unfit) is e = absurd (cc)
priority_taken config b p (Some (PriorityTaken other)) is e =
    let same : p ≡ other = (let e = is.applies.0 in cc) in
    subst (λ (n : ℕ). HasPriority b n) (sym same) is.applies.1
priority_taken config b p (Some (Full seats)) is e = absurd (cc)
priority_taken config b p (Some (NoRoom free asked)) is e = absurd (cc)

fixed_fits : (b : Ledger) (p : ℕ) → IsFirstFaultIfAny configs.Fp b (Prio p) (Some Unfit) → ⊥
fixed_fits b p is = by is.applies
  where
    by : Rattle.hls_kinds.specs.Faults.Applies configs.Fp b (Prio p) Unfit → ⊥
    by (inl ne) = ne refl
    by (inr exceeds) = exceeds

free_at : (b : Ledger) (p : ℕ) (answer : Option SeatFault) → IsFirstFaultIfAny configs.Fp b (Prio p) answer
    → is_of_priority answer ≡ false → ¬ HasPriority b p
free_at b p None is e has = is (PriorityTaken p) (refl, has)
free_at b p (Some Unfit) is e has = fixed_fits b p is
free_at b p (Some (PriorityTaken other)) is e has = absurd (cc)
free_at b p (Some (Full seats)) is e has =
    let le = is.first (PriorityTaken p) (refl, has) in omega (arith, le)
free_at b p (Some (NoRoom free asked)) is e has =
    let le = is.first (PriorityTaken p) (refl, has) in omega (arith, le)

pub priority_free : (config : Config) (b : Ledger) (p : ℕ) (answer : Option SeatFault) → config ≡ configs.Fp
    → IsFirstFaultIfAny config b (Prio p) answer → is_of_priority answer ≡ false → ¬ HasPriority b p
priority_free config b p answer fixed is =
    free_at b p answer (subst (λ (c : Config). IsFirstFaultIfAny c b (Prio p) answer) fixed is)

-- what holds below a priority, and of it, holds below the next
pub below_more : (P : ℕ → Type 0) (from end : ℕ) → ((p : ℕ) → from ≤ p → p < end → P p) → P end
    → (p : ℕ) → from ≤ p → p < end + 1 → P p
below_more P from end all here p low high = by (cases_lt p end)
  where
    by : (p < end) ⊎ (end ≤ p) → P p
    by (inl lt) = all p low lt
    by (inr le) = let same : end ≡ p = omega (arith, le, high) in subst P same here
