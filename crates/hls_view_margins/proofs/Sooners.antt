-- The first part of two groups, of which the second ends later.
use Rattle.std.proofs.Common.{ℕ, ◌<◌, ◌≤◌, arith, subst, sym, inl, inr}
use Rattle.std.specs.Prelude.{Option, Some, None, ◌⊎◌}
use Rattle.hls_view_margins.specs.declared.margin.Part.{Part}
use Rattle.hls_view_margins.specs.declared.scale.Scale.{Scale}
use Rattle.hls_view_margins.specs.First.{end_of, IsLess, IsNoMore, Precedes, IsFirst, IsFirstOf}
use Rattle.hls_view_margins.specs.Inside.Sooner.{IsSoonerOf}

-- those of the first group end by a tick, and those of the second after it; together they are a third
pub record Joins (first later both : Part → Type 0) (tick : ℕ) : Type 0 where
  pub by : (p : Part) → first p → end_of p ≤ tick
  pub after : (p : Part) → later p → tick < end_of p
  pub left : (p : Part) → first p → both p
  pub right : (p : Part) → later p → both p
  pub either : (p : Part) → both p → first p ⊎ later p

-- what precedes one part precedes those with more surplus
pub less_before : (scale : Scale) (a b c : Part) → IsLess scale a b → Precedes scale b c → Precedes scale a c
less_before scale a b c less precedes =
    let more = precedes.no_more in
    record {
      no_more = omega (arith, less, more);
      ends = λ back. absurd (omega (arith, less, more, back));
      begins = λ back _. absurd (omega (arith, less, more, back));
    }

pub sooner_before : (scale : Scale) (a b c : Part) → IsNoMore scale a b → Precedes scale b c → end_of a < end_of c
    → Precedes scale a c
sooner_before scale a b c most precedes sooner =
    let more = precedes.no_more in
    record {
      no_more = omega (arith, most, more);
      ends = λ _. omega (arith, sooner);
      begins = λ _ same. absurd (omega (arith, sooner, same));
    }

pub less_of : (scale : Scale) (a b : Part) → IsLess scale a b → Precedes scale a b
less_of scale a b less = record {
  no_more = omega (arith, less);
  ends = λ back. absurd (omega (arith, less, back));
  begins = λ back _. absurd (omega (arith, less, back));
}

with_first : (scale : Scale) (first later both : Part → Type 0) (tick : ℕ) (a : Part) (b : Part)
    → Joins first later both tick → IsFirst scale first a → IsFirst scale later b → IsNoMore scale a b
    → IsFirst scale both a
with_first scale first later both tick a b joins one two most = record {
  is = joins.left a one.is;
  first = λ p is. elim (joins.either p is) [
    | inl old ↦ one.first p old
    | inr new ↦
        let by = joins.by a one.is in
        let after = joins.after p new in
        sooner_before scale a b p most (two.first p new) (omega (arith, by, after))
  ];
}

with_later : (scale : Scale) (first later both : Part → Type 0) (tick : ℕ) (a : Part) (b : Part)
    → Joins first later both tick → IsFirst scale first a → IsFirst scale later b → IsLess scale b a
    → IsFirst scale both b
with_later scale first later both tick a b joins one two less = record {
  is = joins.right b two.is;
  first = λ p is. elim (joins.either p is) [
    | inl old ↦ less_before scale b a p less (one.first p old)
    | inr new ↦ two.first p new
  ];
}

pub sooner_first : (scale : Scale) (first later both : Part → Type 0) (tick : ℕ) (one two taken : Option Part)
    → Joins first later both tick → IsSoonerOf scale one two taken → IsFirstOf scale first one
    → IsFirstOf scale later two → IsFirstOf scale both taken
sooner_first scale first later both tick None None taken joins is one two =
    subst (IsFirstOf scale both) (sym is)
    (λ p in_both. elim (joins.either p in_both) [ inl old ↦ one p old | inr new ↦ two p new ])
sooner_first scale first later both tick None (Some b) taken joins is one two =
    subst (IsFirstOf scale both) (sym is)
    (record {
      is = joins.right b two.is;
      first = λ p in_both. elim (joins.either p in_both) [
        | inl old ↦ absurd (one p old)
        | inr new ↦ two.first p new
      ];
    })
sooner_first scale first later both tick (Some a) None taken joins is one two =
    subst (IsFirstOf scale both) (sym is)
    (record {
      is = joins.left a one.is;
      first = λ p in_both. elim (joins.either p in_both) [
        | inl old ↦ one.first p old
        | inr new ↦ absurd (two p new)
      ];
    })
sooner_first scale first later both tick (Some a) (Some b) taken joins is one two = elim is [
  | inl less ↦
      subst (IsFirstOf scale both) (sym less.1) (with_later scale first later both tick a b joins one two less.0)
  | inr most ↦
      subst (IsFirstOf scale both) (sym most.1) (with_first scale first later both tick a b joins one two most.0)
]
