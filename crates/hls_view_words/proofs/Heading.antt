-- Options that state numbers at the head of words: which ones, and how the words go on.
use Rattle.std.proofs.Common.{◌≡◌, ℕ, ◌<◌, ◌≤◌, ◌^◌, List, [], ◌∷◌, ◌++◌, codes, ap, sym, subst, ◌∙◌, refl}
use Rattle.std.proofs.Common.{inl, inr, get_or, arith}
use Rattle.std.specs.Prelude.{decimal, Option, Some, None}
use Rattle.std.proofs.lemmas.Fmt.{decimal_injective}
use Rattle.hls_text.specs.Lines.{Text}
use Rattle.hls_view_words.specs.Table.{Heads, FromFirst, ToFirst, StatesNone, MaySpan}

empty_not : (word : Text) (words : List Text) → [] ≡ word ∷ words → ⊥
empty_not word words e = absurd cc

first_of : (a b : Text) (r s : List Text) → a ∷ r ≡ b ∷ s → a ≡ b
first_of a b r s e = cc

rest_of : (a b : Text) (r s : List Text) → a ∷ r ≡ b ∷ s → r ≡ s
rest_of a b r s e = cc

tail_of : (a b : ℕ) (x y : Text) → a ∷ x ≡ b ∷ y → x ≡ y
tail_of a b x y e = cc

longer : (option : Text) (b : ℕ) (x : Text) → option ≡ option ++ (b ∷ x) → ⊥
longer [] b x e = absurd cc
longer (c ∷ option) b x e = longer option b x (tail_of c c option (option ++ (b ∷ x)) e)

cancel : (option x y : Text) → option ++ x ≡ option ++ y → x ≡ y
cancel [] x y e = e
cancel (c ∷ option) x y e = cancel option x y (tail_of c c (option ++ x) (option ++ y) e)

pub no_head : (option : Text) (n : ℕ) (rest : List Text) → Heads option [] n rest → ⊥
no_head option n rest (inl e) = empty_not _ _ e
no_head option n rest (inr e) = empty_not _ _ e

same_text : (option : Text) (words : List Text) (m n : ℕ) (r s : List Text) → Heads option words m r
    → Heads option words n s → (decimal m ≡ decimal n) × (r ≡ s)
same_text option words m n r s (inl a) (inl b) =
    let more = rest_of option option (decimal m ∷ r) (decimal n ∷ s) (sym a ∙ b) in
    (first_of (decimal m) (decimal n) r s more, rest_of (decimal m) (decimal n) r s more)
same_text option words m n r s (inl a) (inr b) =
    absurd (longer option 61 (decimal n)
    (first_of option (option ++ (codes "=" ++ decimal n)) (decimal m ∷ r) s (sym a ∙ b)))
same_text option words m n r s (inr a) (inl b) =
    absurd (longer option 61 (decimal m)
    (first_of option (option ++ (codes "=" ++ decimal m)) (decimal n ∷ s) r (sym b ∙ a)))
same_text option words m n r s (inr a) (inr b) =
    let one = option ++ (codes "=" ++ decimal m) in
    let two = option ++ (codes "=" ++ decimal n) in (
      tail_of 61 61 (decimal m) (decimal n)
          (cancel option (codes "=" ++ decimal m) (codes "=" ++ decimal n) (first_of one two r s (sym a ∙ b))),
      rest_of one two r s (sym a ∙ b),
    )

pub same_head : (option : Text) (words : List Text) (m n : ℕ) (r s : List Text) → m < 2 ^ 32 → n < 2 ^ 32
    → Heads option words m r → Heads option words n s → (m ≡ n) × (r ≡ s)
same_head option words m n r s few small a b =
    let same = same_text option words m n r s a b in
    (decimal_injective m n (omega (arith, few)) (omega (arith, small)) same.0, same.1)

-- ---- the first and the last tick

third : List Text → ℕ
third [] = 0
third (word ∷ words) = get_or word 2 0

from_third : (words : List Text) (n : ℕ) (rest : List Text) → Heads (codes "--from") words n rest → third words ≡ 102
unfolding third
from_third words n rest (inl e) = ap third e
from_third words n rest (inr e) = ap third e

to_third : (words : List Text) (n : ℕ) (rest : List Text) → Heads (codes "--to") words n rest → third words ≡ 116
unfolding third
to_third words n rest (inl e) = ap third e
to_third words n rest (inr e) = ap third e

pub not_both : (words : List Text) (m n : ℕ) (r s : List Text) → Heads (codes "--from") words m r
    → Heads (codes "--to") words n s → ⊥
not_both words m n r s a b =
    let same : 102 ≡ 116 = sym (from_third words m r a) ∙ to_third words n s b in
    absurd (omega (arith, same))

record Begun (option : Text) (words : List Text) : Type 0 where
  pub number : ℕ
  pub rest : List Text
  pub heads : Heads option words number rest

from_begins : (words : List Text) (from to : Option ℕ) → FromFirst words from to → Begun (codes "--from") words
from_begins words None to is = absurd is
from_begins words (Some from) None (small, is) = record { number = from; rest = []; heads = is }
from_begins words (Some from) (Some to) (order, small, rest, is, more) =
    record { number = from; rest = rest; heads = is }

to_begins : (words : List Text) (from to : Option ℕ) → ToFirst words from to → Begun (codes "--to") words
to_begins words from None is = absurd is
to_begins words None (Some to) (small, is) = record { number = to; rest = []; heads = is }
to_begins words (Some from) (Some to) (order, small, rest, is, more) =
    record { number = to; rest = rest; heads = is }

begun_empty : (option : Text) (words : List Text) → words ≡ [] → Begun option words → ⊥
begun_empty option words e begun =
    no_head option begun.number begun.rest
    (subst (λ (w : List Text). Heads option w begun.number begun.rest) e begun.heads)

begun_both : (words : List Text) → Begun (codes "--from") words → Begun (codes "--to") words → ⊥
begun_both words a b = not_both words a.number b.number a.rest b.rest a.heads b.heads

-- nothing stands behind the one, and something behind the other
one_or_both : (option other : Text) (words rest : List Text) (m n k : ℕ) → m < 2 ^ 32 → n < 2 ^ 32
    → Heads option words m [] → Heads option words n rest → Heads other rest k [] → ⊥
one_or_both option other words rest m n k few small a b more =
    let same = same_head option words m n [] rest few small a b in
    no_head other k [] (subst (λ (w : List Text). Heads other w k []) (sym same.1) more)

two_same : (option other : Text) (words r s : List Text) (m n j k : ℕ) → m < 2 ^ 32 → n < 2 ^ 32 → j < 2 ^ 32
    → k < 2 ^ 32 → Heads option words m r → Heads option words n s → Heads other r j [] → Heads other s k []
    → (m ≡ n) × (j ≡ k)
two_same option other words r s m n j k few small less little a b more also =
    let same = same_head option words m n r s few small a b in (
      same.0,
      (same_head other s j k [] [] less little
          (subst (λ (w : List Text). Heads other w j []) same.1 more) also).0,
    )

some : (m n : ℕ) → m ≡ n → Some m ≡ Some n
some m n e = ap (λ (k : ℕ). Some k) e

from_same : (words : List Text) (from to first last : Option ℕ) → FromFirst words from to → FromFirst words first last
    → (from ≡ first) × (to ≡ last)
from_same words None to first last a b = absurd a
from_same words (Some m) to None last a b = absurd b
from_same words (Some m) None (Some n) None (few, a) (small, b) =
    (some m n (same_head _ words m n [] [] (omega (arith, few)) (omega (arith, small)) a b).0, refl)
from_same words (Some m) None (Some n) (Some k) (few, a) (order, small, rest, b, more) =
    absurd (one_or_both _ _ words rest m n k (omega (arith, few)) (omega (arith, order, small)) a b more)
from_same words (Some m) (Some j) (Some n) None (order, few, rest, a, more) (small, b) =
    absurd (one_or_both _ _ words rest n m j (omega (arith, small)) (omega (arith, order, few)) b a more)
from_same words (Some m) (Some j) (Some n) (Some k) (order, few, r, a, more) (less, small, s, b, also) =
    let same = two_same _ _ words r s m n j k (omega (arith, order, few)) (omega (arith, less, small))
    (omega (arith, few)) (omega (arith, small)) a b more also in
    (some m n same.0, some j k same.1)

to_same : (words : List Text) (from to first last : Option ℕ) → ToFirst words from to → ToFirst words first last
    → (from ≡ first) × (to ≡ last)
to_same words from None first last a b = absurd a
to_same words from (Some j) first None a b = absurd b
to_same words None (Some j) None (Some k) (few, a) (small, b) =
    (refl, some j k (same_head _ words j k [] [] (omega (arith, few)) (omega (arith, small)) a b).0)
to_same words None (Some j) (Some n) (Some k) (few, a) (order, small, rest, b, more) =
    absurd (one_or_both _ _ words rest j k n (omega (arith, few)) (omega (arith, small)) a b more)
to_same words (Some m) (Some j) None (Some k) (order, few, rest, a, more) (small, b) =
    absurd (one_or_both _ _ words rest k j m (omega (arith, small)) (omega (arith, few)) b a more)
to_same words (Some m) (Some j) (Some n) (Some k) (order, few, r, a, more) (less, small, s, b, also) =
    let same = two_same _ _ words r s j k m n (omega (arith, few)) (omega (arith, small))
    (omega (arith, order, few)) (omega (arith, less, small)) a b more also in
    (some m n same.1, some j k same.0)

-- ---- what is not stated

pub no_from : (words : List Text) → ((n : ℕ) (rest : List Text) → n ≤ 99999 → Heads (codes "--from") words n rest → ⊥)
    → (from to : Option ℕ) → FromFirst words from to → ⊥
no_from words none None to is = absurd is
no_from words none (Some from) None (small, is) = none from [] small is
no_from words none (Some from) (Some to) (order, small, rest, is, more) =
    none from rest (omega (arith, order, small)) is

pub no_to : (words : List Text) → ((n : ℕ) (rest : List Text) → n ≤ 99999 → Heads (codes "--to") words n rest → ⊥)
    → (from to : Option ℕ) → ToFirst words from to → ⊥
no_to words none from None is = absurd is
no_to words none None (Some to) (small, is) = none to [] small is
no_to words none (Some from) (Some to) (order, small, rest, is, more) = none to rest small is

pub no_to_behind : (words rest : List Text) (m : ℕ) → m < 2 ^ 32 → Heads (codes "--from") words m rest
    → (rest ≡ [] → ⊥) → ((n : ℕ) → n ≤ 99999 → Heads (codes "--to") rest n [] → ⊥)
    → (from to : Option ℕ) → FromFirst words from to → ⊥
no_to_behind words rest m few here more none None to is = absurd is
no_to_behind words rest m few here more none (Some from) None (small, is) =
    more (same_head _ words m from rest [] few (omega (arith, small)) here is).1
no_to_behind words rest m few here more none (Some from) (Some to) (order, small, r, is, behind) =
    let same = same_head _ words m from rest r few (omega (arith, order, small)) here is in
    none to small (subst (λ (w : List Text). Heads (codes "--to") w to []) (sym same.1) behind)

pub no_from_behind : (words rest : List Text) (m : ℕ) → m < 2 ^ 32 → Heads (codes "--to") words m rest
    → (rest ≡ [] → ⊥) → ((n : ℕ) → n ≤ 99999 → Heads (codes "--from") rest n [] → ⊥)
    → (from to : Option ℕ) → ToFirst words from to → ⊥
no_from_behind words rest m few here more none from None is = absurd is
no_from_behind words rest m few here more none None (Some to) (small, is) =
    more (same_head _ words m to rest [] few (omega (arith, small)) here is).1
no_from_behind words rest m few here more none (Some from) (Some to) (order, small, r, is, behind) =
    let same = same_head _ words m to rest r few (omega (arith, small)) here is in
    none from (omega (arith, order, small))
    (subst (λ (w : List Text). Heads (codes "--from") w from []) (sym same.1) behind)

pub from_wrong : (words rest : List Text) (m j : ℕ) → m < 2 ^ 32 → j < m → Heads (codes "--from") words m rest
    → Heads (codes "--to") rest j [] → (from to : Option ℕ) → FromFirst words from to → ⊥
from_wrong words rest m j few wrong here more None to is = absurd is
from_wrong words rest m j few wrong here more (Some from) None (small, is) =
    one_or_both _ _ words rest from m j (omega (arith, small)) few is here more
from_wrong words rest m j few wrong here more (Some from) (Some to) (order, small, r, is, behind) =
    let same = two_same _ _ words rest r m from j to few (omega (arith, order, small)) (omega (arith, few, wrong))
    (omega (arith, small)) here is more behind in
    absurd (omega (arith, order, wrong, same.0, same.1))

pub to_wrong : (words rest : List Text) (m j : ℕ) → j < 2 ^ 32 → m < j → Heads (codes "--to") words m rest
    → Heads (codes "--from") rest j [] → (from to : Option ℕ) → ToFirst words from to → ⊥
to_wrong words rest m j few wrong here more from None is = absurd is
to_wrong words rest m j few wrong here more None (Some to) (small, is) =
    one_or_both _ _ words rest to m j (omega (arith, small)) (omega (arith, few, wrong)) is here more
to_wrong words rest m j few wrong here more (Some from) (Some to) (order, small, r, is, behind) =
    let same = two_same _ _ words rest r m to j from (omega (arith, few, wrong)) (omega (arith, small)) few
    (omega (arith, order, small)) here is more behind in
    absurd (omega (arith, order, wrong, same.0, same.1))

none_empty : (words : List Text) (from to : Option ℕ) → StatesNone words from to
    → (words ≡ []) × (from ≡ None) × (to ≡ None)
none_empty words None None e = (e, refl, refl)
none_empty words None (Some to) e = absurd e
none_empty words (Some from) None e = absurd e
none_empty words (Some from) (Some to) e = absurd e

pub same_span : (words : List Text) (from to first last : Option ℕ) → MaySpan words from to → MaySpan words first last
    → (from ≡ first) × (to ≡ last)
same_span words from to first last (inl a) (inl b) =
    let one = none_empty words from to a in
    let two = none_empty words first last b in
    (one.1 ∙ sym two.1, one.2 ∙ sym two.2)
same_span words from to first last (inl a) (inr (inl b)) =
    absurd (begun_empty _ words (none_empty words from to a).0 (from_begins words first last b))
same_span words from to first last (inl a) (inr (inr b)) =
    absurd (begun_empty _ words (none_empty words from to a).0 (to_begins words first last b))
same_span words from to first last (inr (inl a)) (inl b) =
    absurd (begun_empty _ words (none_empty words first last b).0 (from_begins words from to a))
same_span words from to first last (inr (inr a)) (inl b) =
    absurd (begun_empty _ words (none_empty words first last b).0 (to_begins words from to a))
same_span words from to first last (inr (inl a)) (inr (inl b)) = from_same words from to first last a b
same_span words from to first last (inr (inr a)) (inr (inr b)) = to_same words from to first last a b
same_span words from to first last (inr (inl a)) (inr (inr b)) =
    absurd (begun_both words (from_begins words from to a) (to_begins words first last b))
same_span words from to first last (inr (inr a)) (inr (inl b)) =
    absurd (begun_both words (from_begins words first last b) (to_begins words from to a))
