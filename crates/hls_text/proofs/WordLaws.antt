-- Words that are read stand in the text, and those that stand there are read.
use Rattle.std.proofs.Common.{◌≡◌, ℕ, suc, zero, ◌^◌, ◌<◌, ◌≤◌, Bool, true, false, cond, [], ◌∷◌}
use Rattle.std.proofs.Common.{◌++◌, length, get_or, take, refl, sym, ap, ◌∙◌, subst, arith, inl, inr, ◌⊎◌}
use Rattle.std.specs.Prelude.{◌==◌, nat_lt, decimal, position, Option, Some, None, MatchOption, IfSome}
use Rattle.std.specs.Str.{bytes_eq}
use Rattle.std.proofs.lemmas.Bool.{ltb-true}
use Rattle.std.proofs.lemmas.Bool.Decides.{eqb_tells}
use Rattle.std.proofs.lemmas.List.Quantifiers.{position-Some}
use Rattle.std.proofs.lemmas.Slice.Eq.{bytes_eq-Decides}
use Rattle.hls_text.specs.Lines.{Text}
use Rattle.hls_text.specs.Decimals.{value, is_number_below, number_below}
use Rattle.hls_text.proofs.FirstMarks.{position_first}
use Rattle.hls_text.proofs.Marks.{Lacks, both, number_same, number_again}

-- ---- marks

lacks_before : (m : ℕ) (text : Text) (at : ℕ) → at ≤ length text
    → ((k : ℕ) → k < at → (get_or text k 0 == m) ≡ false) → Lacks m (take at text)
lacks_before m text zero le h = refl
lacks_before m [] (suc at) le h = refl
lacks_before m (b ∷ bs) (suc at) le h =
    let more = lacks_before m bs at (omega arith) (λ k lt. h (suc k) (omega arith)) in
    let first = h 0 (omega arith) in rw (first) more

pub lacks_front : (m : ℕ) (text : Text) (at : ℕ) → Some at ≡ position (λ b. b == m) text → Lacks m
    (take at text)
lacks_front m text at found =
    let p = position-Some (λ b. b == m) text at 0 (sym found) in
    let lt : at < length text = p.0 in lacks_before m text at (omega arith) p.2

pub record Split (m : ℕ) (text : Text) : Type 0 where
  pub front : Text
  pub rest : Text
  pub is : text ≡ front ++ m ∷ rest
  pub lacks : Lacks m front

split_or_lacks : (m : ℕ) (text : Text) → Lacks m text ⊎ Split m text
split_or_lacks m [] = inl refl
split_or_lacks m (b ∷ bs) = elim (eqb_tells b m) [
  | inl same ↦
      inr (record { front = []; rest = bs; is = ap (λ (x : ℕ). x ∷ bs) same.1; lacks = refl })
  | inr other ↦ elim (split_or_lacks m bs) [
    | inl lacks ↦ inl (rw other.0 lacks)
    | inr s ↦
        inr (record {
          front = b ∷ s.front;
          rest = s.rest;
          is = ap (λ (t : Text). b ∷ t) s.is;
          lacks = rw other.0 s.lacks;
        })
  ]
]

pub lacks_all : (m : ℕ) (text : Text) → None ≡ position (λ b. b == m) text → Lacks m text
lacks_all m text none = elim (split_or_lacks m text) [
  | inl lacks ↦ lacks
  | inr s ↦ absurd (let same = none ∙ position_first m text s.front s.rest s.is s.lacks in cc)
]

-- ---- numbers

pub record IsBelow (limit n : ℕ) (text : Text) : Type 0 where
  pub below : n < limit
  pub spelled : text ≡ decimal n

some_same : (m n : ℕ) → Some m ≡ Some n → m ≡ n
some_same m n e = cc

pub below_is : (limit n : ℕ) (text : Text) → number_below limit text ≡ Some n → IsBelow limit n text
unfolding number_below
below_is limit n text e = by_test (is_number_below limit text) refl e
  where
    by_test : (b : Bool) → is_number_below limit text ≡ b → cond b (Some (value text)) None ≡ Some n
        → IsBelow limit n text
    by_test false t f = absurd cc
    by_test true t f =
        let h = both (nat_lt (value text) limit) (bytes_eq (decimal (value text)) text) t in
        let same = (bytes_eq-Decides (decimal (value text)) text).0 h.1 in
        let v = some_same (value text) n f in
        record {
          below = subst (λ m. m < limit) v (ltb-true (value text) limit h.0);
          spelled = sym same ∙ ap decimal v;
        }

pub none_below : (limit : ℕ) (text : Text) → ((n : ℕ) → n < limit → text ≡ decimal n → ⊥)
    → number_below limit text ≡ None
unfolding number_below
none_below limit text none = by_test (is_number_below limit text) refl
  where
    by_test : (b : Bool) → is_number_below limit text ≡ b → cond b (Some (value text)) None ≡ None
    by_test false t = refl
    by_test true t =
        let h = both (nat_lt (value text) limit) (bytes_eq (decimal (value text)) text) t in
        absurd (none (value text) (ltb-true (value text) limit h.0)
        (sym ((bytes_eq-Decides (decimal (value text)) text).0 h.1)))

pub below_again : (limit n : ℕ) (text : Text) → limit ≤ 10 ^ 64 → n < limit → text ≡ decimal n
    → Some n ≡ number_below limit text
below_again limit n text fits lt is =
    sym (ap (number_below limit) is ∙ number_again limit n lt (omega arith))

-- a number at or above the limit is none below it
pub above_limit : (limit n : ℕ) (text : Text) → limit ≤ 10 ^ 64 → n < 10 ^ 64 → limit ≤ n → text ≡ decimal n
    → None ≡ number_below limit text
above_limit limit n text fits small high is =
    sym (none_below limit text (λ m lt e.
    let same = number_same n m small (omega arith) (sym is ∙ e) in omega arith))

-- what is no number below a limit is none below a lesser one
pub no_lesser : (limit less : ℕ) (text : Text) → limit ≤ 10 ^ 64 → less ≤ limit
    → None ≡ number_below limit text → None ≡ number_below less text
no_lesser limit less text fits le none =
    sym (none_below less text (λ m lt e.
    let same = none ∙ sym (below_again limit m text fits (omega arith) e) in cc))

pub if_some : {A : Type 0} (P : Type 0) (Q : A → Type 0) (r : Option A) → MatchOption r P Q → IfSome r Q
if_some P Q None h = tt
if_some P Q (Some x) h = h
