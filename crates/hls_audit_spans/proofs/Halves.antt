-- A place among spans, found by halves.
use Rattle.std.proofs.Common.{◌≡◌, ℕ, ◌+◌, ◌-◌, ◌<◌, ◌≤◌, List, length, get_or, ◌∙◌, subst, arith}
use Rattle.std.specs.Prelude.{Some, slice_get}
use Rattle.std.proofs.lemmas.Option.{slice_get_within, get_or_from_slice_get}
use Rattle.hls_audit_spans.specs.declared.span.Span.{Span}
use Rattle.hls_audit_spans.specs.Inside.Places.{IsBegun, IsPassed}

-- of a number of each span
pub record IsBetween (key : Span → ℕ) (spans : List Span) (most low high : ℕ) : Type 0 where
  pub order : low ≤ high
  pub within : high ≤ length spans
  pub last : (k : ℕ) (s : Span) → k + 1 ≡ low → slice_get spans k ≡ Some s → key s ≤ most
  pub next : (s : Span) → slice_get spans high ≡ Some s → most < key s

pub between_all : (key : Span → ℕ) (spans : List Span) (most high : ℕ) → high ≡ length spans
    → IsBetween key spans most 0 high
between_all key spans most high is = record {
  order = omega arith;
  within = omega (arith, is);
  last = λ k s e. absurd (omega (arith, e));
  next = λ s there. let lt = slice_get_within spans high s there in absurd (omega (arith, lt, is));
}

read : (spans : List Span) (at k : ℕ) (here s : Span) → k ≡ at → here ≡ get_or spans at here
    → slice_get spans k ≡ Some s → here ≡ s
read spans at k here s same is there =
    is ∙ get_or_from_slice_get spans at s here (subst (λ n. slice_get spans n ≡ Some s) same there)

pub between_low : (key : Span → ℕ) (spans : List Span) (most low high middle : ℕ) (here : Span)
    → here ≡ get_or spans middle here → middle < high → key here ≤ most
    → IsBetween key spans most low high → IsBetween key spans most (middle + 1) high
between_low key spans most low high middle here is lt le between = record {
  order = omega (arith, lt);
  within = between.within;
  last = λ k s e there.
      let same : k ≡ middle = omega (arith, e) in
      subst (λ (x : Span). key x ≤ most) (read spans middle k here s same is there) le;
  next = between.next;
}

pub between_high : (key : Span → ℕ) (spans : List Span) (most low high middle : ℕ) (here : Span)
    → here ≡ get_or spans middle here → low ≤ middle → middle < high → most < key here
    → IsBetween key spans most low high → IsBetween key spans most low middle
between_high key spans most low high middle here is behind lt less between = record {
  order = behind;
  within = let within = between.within in omega (arith, within, lt);
  last = between.last;
  next = λ s there.
      let same : middle ≡ middle = omega arith in
      subst (λ (x : Span). most < key x) (read spans middle middle here s same is there) less;
}

at_end : (key : Span → ℕ) (spans : List Span) (most low high : ℕ) → high ≤ low
    → IsBetween key spans most low high → (s : Span) → slice_get spans low ≡ Some s → most < key s
at_end key spans most low high end between s there =
    let order = between.order in
    let same : low ≡ high = omega (arith, end, order) in
    between.next s (subst (λ n. slice_get spans n ≡ Some s) same there)

pub begun_end : (spans : List Span) (tick low high : ℕ) → high ≤ low
    → IsBetween (λ s. s.from) spans tick low high → IsBegun spans tick low
begun_end spans tick low high end between = record {
  within = let order = between.order in let within = between.within in omega (arith, order, within);
  last = between.last;
  next = at_end (λ s. s.from) spans tick low high end between;
}

pub passed_end : (spans : List Span) (ticks low high : ℕ) → high ≤ low
    → IsBetween (λ s. s.from - s.idle) spans ticks low high → IsPassed spans ticks low
passed_end spans ticks low high end between = record {
  within = let order = between.order in let within = between.within in omega (arith, order, within);
  last = between.last;
  next = at_end (λ s. s.from - s.idle) spans ticks low high end between;
}
