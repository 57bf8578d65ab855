-- Clap takes the words of pictures.
use Rattle.std.proofs.Common.{codes, true, List, [], ◌∷◌, ◌≡◌, ℕ, ◌≤◌, ◌+◌, arith}
use Rattle.std.proofs.Common.{inl, inr, refl}
use Rattle.std.specs.Prelude.{decimal, Option, Some, None}
use Rattle.clap.specs.Words.{Text, takes}
use Rattle.clap.proofs.OnLiterals.{clap_on_literals}
use Rattle.hls_view_words.specs.Table.{Heads, FromFirst, ToFirst, StatesNone, MaySpan}
use Rattle.hls_view_words.specs.Inside.Commands.{hlsview}
use Rattle.hls_view_words.proofs.Digits.{number_is_digits}
use Rattle.hls_view_words.proofs.TwoApart.{ten, with_value, from_to, to_from}

takes_svg : takes hlsview (codes "svg" ∷ []) ≡ true
unfolding clap_on_literals
takes_svg = refl

svg_from : (v : Text) → takes hlsview (codes "svg" ∷ with_value (codes "--from") v ∷ []) ≡ true
unfolding clap_on_literals
svg_from v = refl

svg_to : (v : Text) → takes hlsview (codes "svg" ∷ with_value (codes "--to") v ∷ []) ≡ true
unfolding clap_on_literals
svg_to v = refl

from_apart : (k : ℕ) (v : Text) → k ≤ 9
    → takes hlsview (codes "svg" ∷ codes "--from" ∷ ((48 + k) ∷ v) ∷ []) ≡ true
unfolding clap_on_literals
from_apart k v le =
    ten (λ b. takes hlsview (codes "svg" ∷ codes "--from" ∷ (b ∷ v) ∷ []) ≡ true)
    refl refl refl refl refl refl refl refl refl refl k le

to_apart : (k : ℕ) (v : Text) → k ≤ 9
    → takes hlsview (codes "svg" ∷ codes "--to" ∷ ((48 + k) ∷ v) ∷ []) ≡ true
unfolding clap_on_literals
to_apart k v le =
    ten (λ b. takes hlsview (codes "svg" ∷ codes "--to" ∷ (b ∷ v) ∷ []) ≡ true)
    refl refl refl refl refl refl refl refl refl refl k le

from_to_joined : (v w : Text)
    → takes hlsview (codes "svg" ∷ with_value (codes "--from") v ∷ with_value (codes "--to") w ∷ []) ≡ true
unfolding clap_on_literals
from_to_joined v w = refl

from_apart_to_joined : (k : ℕ) (v w : Text) → k ≤ 9
    → takes hlsview (codes "svg" ∷ codes "--from" ∷ ((48 + k) ∷ v) ∷ with_value (codes "--to") w ∷ []) ≡ true
unfolding clap_on_literals
from_apart_to_joined k v w le =
    ten (λ b. takes hlsview (codes "svg" ∷ codes "--from" ∷ (b ∷ v) ∷ with_value (codes "--to") w ∷ []) ≡ true)
    refl refl refl refl refl refl refl refl refl refl k le

from_joined_to_apart : (v : Text) (k : ℕ) (w : Text) → k ≤ 9
    → takes hlsview (codes "svg" ∷ with_value (codes "--from") v ∷ codes "--to" ∷ ((48 + k) ∷ w) ∷ []) ≡ true
unfolding clap_on_literals
from_joined_to_apart v k w le =
    ten (λ b. takes hlsview (codes "svg" ∷ with_value (codes "--from") v ∷ codes "--to" ∷ (b ∷ w) ∷ []) ≡ true)
    refl refl refl refl refl refl refl refl refl refl k le

from_then_to : (words rest : List Text) (m n : ℕ) → m ≤ 1000000 → n ≤ 1000000 → Heads (codes "--from") words m rest
    → Heads (codes "--to") rest n [] → takes hlsview (codes "svg" ∷ words) ≡ true
from_then_to words rest m n few small (inl a) (inl b) =
    let d = number_is_digits m few in
    let e = number_is_digits n small in
    rw (a, b, d.is, e.is) (from_to d.first e.first d.rest e.rest d.small e.small)
from_then_to words rest m n few small (inl a) (inr b) =
    let d = number_is_digits m few in
    rw (a, b, d.is) (from_apart_to_joined d.first d.rest (decimal n) d.small)
from_then_to words rest m n few small (inr a) (inl b) =
    let e = number_is_digits n small in
    rw (a, b, e.is) (from_joined_to_apart (decimal m) e.first e.rest e.small)
from_then_to words rest m n few small (inr a) (inr b) = rw (a, b) (from_to_joined (decimal m) (decimal n))

to_from_joined : (v w : Text)
    → takes hlsview (codes "svg" ∷ with_value (codes "--to") v ∷ with_value (codes "--from") w ∷ []) ≡ true
unfolding clap_on_literals
to_from_joined v w = refl

to_apart_from_joined : (k : ℕ) (v w : Text) → k ≤ 9
    → takes hlsview (codes "svg" ∷ codes "--to" ∷ ((48 + k) ∷ v) ∷ with_value (codes "--from") w ∷ []) ≡ true
unfolding clap_on_literals
to_apart_from_joined k v w le =
    ten (λ b. takes hlsview (codes "svg" ∷ codes "--to" ∷ (b ∷ v) ∷ with_value (codes "--from") w ∷ []) ≡ true)
    refl refl refl refl refl refl refl refl refl refl k le

to_joined_from_apart : (v : Text) (k : ℕ) (w : Text) → k ≤ 9
    → takes hlsview (codes "svg" ∷ with_value (codes "--to") v ∷ codes "--from" ∷ ((48 + k) ∷ w) ∷ []) ≡ true
unfolding clap_on_literals
to_joined_from_apart v k w le =
    ten (λ b. takes hlsview (codes "svg" ∷ with_value (codes "--to") v ∷ codes "--from" ∷ (b ∷ w) ∷ []) ≡ true)
    refl refl refl refl refl refl refl refl refl refl k le

to_then_from : (words rest : List Text) (m n : ℕ) → m ≤ 1000000 → n ≤ 1000000 → Heads (codes "--to") words m rest
    → Heads (codes "--from") rest n [] → takes hlsview (codes "svg" ∷ words) ≡ true
to_then_from words rest m n few small (inl a) (inl b) =
    let d = number_is_digits m few in
    let e = number_is_digits n small in
    rw (a, b, d.is, e.is) (to_from d.first e.first d.rest e.rest d.small e.small)
to_then_from words rest m n few small (inl a) (inr b) =
    let d = number_is_digits m few in
    rw (a, b, d.is) (to_apart_from_joined d.first d.rest (decimal n) d.small)
to_then_from words rest m n few small (inr a) (inl b) =
    let e = number_is_digits n small in
    rw (a, b, e.is) (to_joined_from_apart (decimal m) e.first e.rest e.small)
to_then_from words rest m n few small (inr a) (inr b) = rw (a, b) (to_from_joined (decimal m) (decimal n))

from_only : (words : List Text) (n : ℕ) → n ≤ 1000000 → Heads (codes "--from") words n []
    → takes hlsview (codes "svg" ∷ words) ≡ true
from_only words n small (inl a) =
    let d = number_is_digits n small in rw (a, d.is) (from_apart d.first d.rest d.small)
from_only words n small (inr a) = rw a (svg_from (decimal n))

to_only : (words : List Text) (n : ℕ) → n ≤ 1000000 → Heads (codes "--to") words n []
    → takes hlsview (codes "svg" ∷ words) ≡ true
to_only words n small (inl a) =
    let d = number_is_digits n small in rw (a, d.is) (to_apart d.first d.rest d.small)
to_only words n small (inr a) = rw a (svg_to (decimal n))

from_first : (words : List Text) (from to : Option ℕ) → FromFirst words from to
    → takes hlsview (codes "svg" ∷ words) ≡ true
from_first words None to is = absurd is
from_first words (Some from) None (small, is) = from_only words from (omega (arith, small)) is
from_first words (Some from) (Some to) (order, small, rest, is, more) =
    from_then_to words rest from to (omega (arith, order, small)) (omega (arith, small)) is more

to_first : (words : List Text) (from to : Option ℕ) → ToFirst words from to
    → takes hlsview (codes "svg" ∷ words) ≡ true
to_first words from None is = absurd is
to_first words None (Some to) (small, is) = to_only words to (omega (arith, small)) is
to_first words (Some from) (Some to) (order, small, rest, is, more) =
    to_then_from words rest to from (omega (arith, small)) (omega (arith, order, small)) is more

states_none : (words : List Text) (from to : Option ℕ) → StatesNone words from to
    → takes hlsview (codes "svg" ∷ words) ≡ true
states_none words None None is = rw is takes_svg
states_none words None (Some to) is = absurd is
states_none words (Some from) None is = absurd is
states_none words (Some from) (Some to) is = absurd is

pub takes_span : (words : List Text) (from to : Option ℕ) → MaySpan words from to
    → takes hlsview (codes "svg" ∷ words) ≡ true
takes_span words from to (inl is) = states_none words from to is
takes_span words from to (inr (inl is)) = from_first words from to is
takes_span words from to (inr (inr is)) = to_first words from to is
