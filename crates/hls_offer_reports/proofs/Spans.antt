-- A priority that no seat has lies in a span.
use Rattle.std.proofs.Common.{ℕ, ◌+◌, ◌≤◌, ◌<◌, inl, inr, List, [], ◌∷◌, sym, subst, arith}
use Rattle.std.specs.Prelude.{Contains}
use Rattle.std.proofs.lemmas.Bool.{cases_lt}
use Rattle.hls_chron.specs.Ledger.{Ledger}
use Rattle.hls_chron.specs.Seats.{HasPriority}
use Rattle.hls_offer_text.specs.declared.left.Span.{Span}
use Rattle.hls_offer.specs.Left.{IsFreeSpan, AreFreeSpans}
use Rattle.hls_offer_reports.proofs.Found.{first_or, none_in, behind_first}

pub record IsInSpan (spans : List Span) (priority : ℕ) : Type 0 where
  pub span : Span
  pub has : Contains spans span
  pub from : span.first ≤ priority
  pub to : priority ≤ span.last

module _ (b : Ledger) (end : ℕ) where
  first_span : (from : ℕ) (span : Span) (spans : List Span) → AreFreeSpans b from end (span ∷ spans)
      → IsFreeSpan b from end span
  first_span from span [] are = are.0
  first_span from span (next ∷ spans) are = are.0

  rest_spans : (from : ℕ) (span : Span) (spans : List Span) → AreFreeSpans b from end (span ∷ spans)
      → AreFreeSpans b (span.last + 1) end spans
  rest_spans from span [] are = λ p low high. are.1 p (omega (arith, low)) high
  rest_spans from span (next ∷ spans) are = are.2

  pub free_in_span : (from : ℕ) (spans : List Span) (priority : ℕ) → AreFreeSpans b from end spans
      → IsInSpan spans priority → ¬ HasPriority b priority
  free_in_span from [] priority are is = absurd (none_in is.span is.has)
  free_in_span from (span ∷ spans) priority are is =
      elim (first_or span spans is.span is.has) [
        | inl same ↦
            (first_span from span spans are).free priority
            (subst (λ (x : Span). x.first ≤ priority) (sym same) is.from)
            (subst (λ (x : Span). priority ≤ x.last) (sym same) is.to)
        | inr more ↦ free_in_span (span.last + 1) spans priority (rest_spans from span spans are)
            (record { span = is.span; has = more; from = is.from; to = is.to })
      ]

  pub span_of_free : (from : ℕ) (spans : List Span) (priority : ℕ) → AreFreeSpans b from end spans → from ≤ priority
      → priority < end → ¬ HasPriority b priority → IsInSpan spans priority
  span_of_free from [] priority are low high free = absurd (free (are priority low high))
  span_of_free from (span ∷ spans) priority are low high free =
      let first = first_span from span spans are in
      elim (cases_lt priority span.first) [
        | inl before ↦ absurd (free (first.taken priority low before))
        | inr behind ↦ elim (cases_lt span.last priority) [
          | inl past ↦ (let rest = span_of_free (span.last + 1) spans priority (rest_spans from span spans are)
              (omega (arith, past)) high free in
              record {
                span = rest.span;
                has = behind_first span spans rest.span rest.has;
                from = rest.from;
                to = rest.to;
              })
          | inr within ↦ record { span = span; has = (0, omega arith, λ i. span); from = behind; to = within }
        ]
      ]
