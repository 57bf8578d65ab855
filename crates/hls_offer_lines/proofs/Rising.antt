-- The periods of what is lent, one after the other, and the lines of periods.
use Rattle.std.proofs.Common.{◌≡◌, ℕ, ◌+◌, ◌≤◌, ◌<◌, ◌⊎◌, inl, inr, List, [], ◌∷◌}
use Rattle.std.proofs.Common.{◌++◌, length, refl, ap, sym, ◌∙◌, subst}
use Rattle.std.proofs.Common.{append_assoc, below_more, arith}
use Rattle.std.specs.Prelude.{Option, Some, None, Contains, slice_get, IfSome, ◌↔◌, AllPairs, All as Each}
use Rattle.std.proofs.lemmas.List.{append-nil}
use Rattle.std.proofs.lemmas.Bool.{cases_lt}
use Rattle.hls_guarantee.specs.declared.Guarantee.{Guarantee}
use Rattle.hls_guarantee.specs.declared.Guarantee.TheVariants.{All, Null, Resb, Resc, Psbe}
use Rattle.hls_guarantee.specs.Limits.{IsValid}
use Rattle.hls_offer_laws.specs.Candidates.{HasPeriod, IsLeast}
use Rattle.hls_offer_best.specs.declared.seat.Seat.{Seat}
use Rattle.hls_offer_best.specs.Best.{IsLeastIfAny}
use Rattle.hls_offer_best.specs.Inside.Trying.{IsFrom}
use Rattle.hls_offer_lines.specs.Lines.{AreOfPeriod, AreOfPeriods, AreOwnPeriods}
use Rattle.hls_offer_lines.specs.Inside.Listing.{AreLent, IsPeriodAbove}
use Rattle.hls_offer_lines.proofs.Pushes.{pushed-cases, pushed-kept, pushed-there}
use Rattle.hls_offer_lines.proofs.Pushes.{pushed-pairs, place-of, of-each, each-of}

-- ---- the next period

abbrev pub PeriodsBelow : (lent : List Guarantee) → (last : ℕ) → Option ℕ → (n : ℕ) → Type 0
PeriodsBelow lent last next n = (k : ℕ) → k < n → (one : Guarantee) → slice_get lent k ≡ Some one → (y : ℕ)
    → HasPeriod one y → last < y → IsFrom next y

pub periods-more : (lent : List Guarantee) (last : ℕ) (next less : Option ℕ) (n : ℕ) (one : Guarantee)
    → (found : Option ℕ) → slice_get lent n ≡ Some one → ((y : ℕ) → (found ≡ Some y) ↔ HasPeriod one y)
    → ((y : ℕ) → IsFrom next y → IsFrom less y) → ((y : ℕ) → found ≡ Some y → last < y → IsFrom less y)
    → PeriodsBelow lent last next n → PeriodsBelow lent last less (n + 1)
periods-more lent last next less n one found there exact kept tried before =
    below_more (λ k. (other : Guarantee) → slice_get lent k ≡ Some other → (y : ℕ) → HasPeriod other y → last < y
    → IsFrom less y) n
    (λ k under other at y has above. kept y (before k under other at y has above))
    (λ other at y has above.
    let same : other ≡ one = cc in
    tried y ((exact y).1 (subst (λ v. HasPeriod v y) same has)) above)

above-one : (lent : List Guarantee) (last : ℕ) (one : Guarantee) (found : Option ℕ) → Contains lent one
    → ((y : ℕ) → (found ≡ Some y) ↔ HasPeriod one y) → IfSome found (λ y. last < y)
    → IfSome found (λ y. IsPeriodAbove lent last y)
above-one lent last one None has exact above = tt
above-one lent last one (Some y) has exact above =
    record { lent = one; is_lent = has; period = (exact y).0 refl; above = above }

pub next-is : (lent : List Guarantee) (last : ℕ) (next less : Option ℕ) (one : Guarantee) (found : Option ℕ)
    → Contains lent one → ((y : ℕ) → (found ≡ Some y) ↔ HasPeriod one y)
    → (less ≡ next) ⊎ ((less ≡ found) × IfSome found (λ y. last < y))
    → IfSome next (λ y. IsPeriodAbove lent last y) → IfSome less (λ y. IsPeriodAbove lent last y)
next-is lent last next less one found has exact (inl same) is =
    subst (λ v. IfSome v (λ y. IsPeriodAbove lent last y)) (sym same) is
next-is lent last next less one found has exact (inr new) is =
    subst (λ v. IfSome v (λ y. IsPeriodAbove lent last y)) (sym new.0)
    (above-one lent last one found has exact new.1)

from-below : (lent : List Guarantee) (last : ℕ) (next : Option ℕ) (n : ℕ) → length lent ≤ n
    → PeriodsBelow lent last next n → (y : ℕ) → IsPeriodAbove lent last y → IsFrom next y
from-below lent last next n ended tried y is =
    let at = place-of lent is.lent is.is_lent in
    tried at.0 (let less = at.1 in omega arith) is.lent at.2 y is.period is.above

pub least-period : (lent : List Guarantee) (last : ℕ) (next : Option ℕ) (n : ℕ) → length lent ≤ n
    → PeriodsBelow lent last next n → IfSome next (λ y. IsPeriodAbove lent last y)
    → IsLeastIfAny (λ y. IsPeriodAbove lent last y) next
least-period lent last None n ended tried is = λ y other. from-below lent last None n ended tried y other
least-period lent last (Some least) n ended tried is = record {
  meets = is;
  least = λ y other. from-below lent last (Some least) n ended tried y other;
}

-- ---- all of them

size-of : (one : Guarantee) (y : ℕ) → IsValid one → HasPeriod one y → (1 ≤ y) × (y ≤ 20000)
size-of All y valid has = absurd has
size-of Null y valid has = absurd has
size-of (Resb hard ticks period) y valid has =
    (omega (arith, has, valid.some, valid.fits), omega (arith, has, valid.size))
size-of (Resc hard ticks period) y valid has =
    (omega (arith, has, valid.some, valid.fits), omega (arith, has, valid.size))
size-of (Psbe s d) y valid has = absurd has

pub period-few : (seat : Seat) (lent : List Guarantee) (last y : ℕ) → AreLent seat lent
    → IsPeriodAbove lent last y → y ≤ 20000
period-few seat lent last y are is =
    (size-of is.lent y (of-each IsValid lent are.valid is.lent is.is_lent) is.period).1

pub record OwnUpTo (lent : List Guarantee) (periods : List ℕ) (last : ℕ) : Type 0 where
  pub rising : AllPairs (λ y later. y < later) periods
  pub each : (y : ℕ) → Contains periods y → IsPeriodAbove lent 0 y
  pub upto : (y : ℕ) → Contains periods y → y ≤ last
  pub every : (y : ℕ) → IsPeriodAbove lent 0 y → y ≤ last → Contains periods y

pub own-more : (lent : List Guarantee) (periods more : List ℕ) (last y : ℕ)
    → IsLeast (λ z. IsPeriodAbove lent last z) y → more ≡ periods ++ (y ∷ []) → OwnUpTo lent periods last
    → OwnUpTo lent more y
own-more lent periods more last y least is before =
    let above = least.meets.above in
    record {
      rising = pushed-pairs (λ z later. z < later) periods more y is before.rising
          (λ z has. (let le = before.upto z has in omega arith));
      each = λ z has. elim (pushed-cases periods more y z is has) [
        | inl old ↦ before.each z old
        | inr same ↦ record {
          lent = least.meets.lent;
          is_lent = least.meets.is_lent;
          period = subst (λ v. HasPeriod least.meets.lent v) (sym same) least.meets.period;
          above = omega arith;
        }
      ];
      upto = λ z has. elim (pushed-cases periods more y z is has) [
        | inl old ↦ (let le = before.upto z old in omega arith)
        | inr same ↦ omega arith
      ];
      every = λ z own le. elim (cases_lt last z) [
        | inl more_than ↦
            (let low = least.least z (record {
              lent = own.lent;
              is_lent = own.is_lent;
              period = own.period;
              above = more_than;
            }) in pushed-there periods more y z is (omega arith))
        | inr small ↦ pushed-kept periods more y z is (before.every z own small)
      ];
    }

pub own-all : (seat : Seat) (lent : List Guarantee) (periods : List ℕ) (last : ℕ) → AreLent seat lent
    → ((y : ℕ) → IsPeriodAbove lent last y → ⊥) → OwnUpTo lent periods last → AreOwnPeriods seat periods
own-all seat lent periods last are none upto = record {
  rising = upto.rising;
  each = λ y has. (let is = upto.each y has in (is.lent, are.each is.lent is.is_lent, is.period));
  every = λ y own.
      let has = are.every own.0 own.1 in
      let size = size-of own.0 y (of-each IsValid lent are.valid own.0 has) own.2 in
      elim (cases_lt last y) [
        | inl above ↦ absurd (none y (record { lent = own.0; is_lent = has; period = own.2; above = above }))
        | inr small ↦ upto.every y (record {
          lent = own.0;
          is_lent = has;
          period = own.2;
          above = (let some = size.0 in omega arith);
        }) small
      ];
}

pub own-few : (seat : Seat) (lent : List Guarantee) (periods : List ℕ) (last : ℕ) → AreLent seat lent
    → OwnUpTo lent periods last → Each (λ (y : ℕ). y ≤ 20000) periods
own-few seat lent periods last are upto =
    each-of (λ (y : ℕ). y ≤ 20000) periods (λ y has. period-few seat lent 0 y are (upto.each y has))

-- ---- the lines of one period more

pub periods-snoc : (seat : Seat) (wait : Option ℕ) (periods : List ℕ) (y : ℕ) (lines more : List Guarantee)
    → AreOfPeriods seat wait periods lines → AreOfPeriod seat wait y more
    → AreOfPeriods seat wait (periods ++ (y ∷ [])) (lines ++ more)
periods-snoc seat wait [] y lines more are is =
    (more, [], is, refl, ap (λ v. v ++ more) are ∙ sym (append-nil more))
periods-snoc seat wait (z ∷ periods) y lines more (first, others, of, rest, form) is = (
  first,
  others ++ more,
  of,
  periods-snoc seat wait periods y others more rest is,
  ap (λ v. v ++ more) form ∙ append_assoc first others more,
)
