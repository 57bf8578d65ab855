-- Spans of priorities that no seat has, as they come.
use Rattle.std.proofs.lemmas.Bool.{cases_lt}
use Rattle.std.proofs.Common.{◌≡◌, ℕ, ◌⊎◌, inl, inr, ◌+◌, ◌<◌, ◌≤◌, List, [], ◌∷◌, ◌++◌, arith}
use Rattle.hls_chron.specs.Ledger.{Ledger}
use Rattle.hls_chron.specs.Seats.{HasPriority}
use Rattle.hls_offer_text.specs.declared.left.Span.{Span}
use Rattle.hls_offer.specs.Left.{IsFreeSpan, AreFreeSpans}

-- a taken priority stands between the last span and the next that is free
abbrev pub AreApart : List Span → (first : ℕ) → Type 0
AreApart [] first = Unit {0}
AreApart (span ∷ []) first = first < 32 → span.last + 1 < first
AreApart (span ∷ next ∷ spans) first = AreApart (next ∷ spans) first

pub apart_more : (spans : List Span) (span : Span) (next : ℕ) → (next < 32 → span.last + 1 < next)
    → AreApart (spans ++ span ∷ []) next
apart_more [] span next gap = gap
apart_more (one ∷ []) span next gap = gap
apart_more (one ∷ other ∷ spans) span next gap = apart_more (other ∷ spans) span next gap

module _ (b : Ledger) (first next : ℕ) (span : Span) (begins : span.first ≡ first) (some : first ≤ span.last)
    (within : span.last < next) (small : first < 32)
    (free : (p : ℕ) → first ≤ p → p ≤ span.last → ¬ HasPriority b p)
    (after : (p : ℕ) → span.last < p → p < next → HasPriority b p) where
  later : (from : ℕ) (one : Span) → IsFreeSpan b from first one → IsFreeSpan b from next one
  later from one is = record {
    behind = is.behind;
    order = is.order;
    within = (let lt = is.within in omega (arith, lt, some, within));
    taken = is.taken;
    free = is.free;
  }

  -- one span more
  pub spans_more : (from : ℕ) (spans : List Span) → from ≤ first → AreFreeSpans b from first spans
      → AreApart spans first → AreFreeSpans b from next (spans ++ span ∷ [])
  spans_more from [] le are apart = (
    record {
      behind = omega (arith, le, begins);
      order = omega (arith, some, begins);
      within = within;
      taken = λ p low high. are p low (omega (arith, high, begins));
      free = λ p low high. free p (omega (arith, low, begins)) high;
    },
    after,
  )
  spans_more from (one ∷ []) le are apart =
      let lt = are.0.within in (
        later from one are.0,
        (let gap = apart small in omega (arith, gap, begins)),
        spans_more (one.last + 1) [] (omega (arith, lt))
            (λ p low high. are.1 p (omega (arith, low)) high) tt,
      )
  spans_more from (one ∷ other ∷ spans) le are apart =
      let lt = are.0.within in (
        later from one are.0,
        are.1,
        spans_more (one.last + 1) (other ∷ spans) (omega (arith, lt)) are.2 apart,
      )

-- one that is not less and not the same is greater
pub gap_behind : (low high : ℕ) → low ≤ high → (high ≡ low → ⊥) → low < high
gap_behind low high le ne = by (cases_lt low high)
  where
    by : (low < high) ⊎ (high ≤ low) → low < high
    by (inl lt) = lt
    by (inr over) = absurd (ne (omega (arith, le, over)))
