-- Numbers in a row, and tests of them.
use Rattle.std.proofs.Common.{◌≡◌, ℕ, zero, suc, ◌+◌, ◌<◌, ◌≤◌, List, [], ◌∷◌, ◌++◌, true, false, refl, ap, sym}
use Rattle.std.proofs.Common.{◌∙◌, ◌⊎◌, Bool, cond, inl, inr, filter, arith}
use Rattle.std.specs.List.{list_any, range_with_len}
use Rattle.std.proofs.lemmas.List.Elements.{filter-append}
use Rattle.hls_view_signs.proofs.Tests.{either, or_left, or_right}

-- ---- one number more

range_last : (a n : ℕ) → range_with_len a (suc n) ≡ range_with_len a n ++ (a + n) ∷ []
range_last a zero = let here : a ≡ a + 0 = omega arith in ap (λ t. t ∷ []) here
range_last a (suc n) =
    let here : a + 1 + n ≡ a + suc n = omega arith in
    ap (λ ts. a ∷ ts) (range_last (a + 1) n ∙ ap (λ t. range_with_len (a + 1) n ++ t ∷ []) here)

filter_last : (p : ℕ → Bool) (n : ℕ)
    → filter p (range_with_len 0 (n + 1)) ≡ filter p (range_with_len 0 n) ++ cond (p n) (n ∷ []) []
filter_last p n =
    let one : n + 1 ≡ suc n = omega arith in
    let here : 0 + n ≡ n = omega arith in
    ap (λ k. filter p (range_with_len 0 k)) one ∙ ap (filter p) (range_last 0 n)
    ∙ filter-append p (range_with_len 0 n) ((0 + n) ∷ [])
    ∙ ap (λ k. filter p (range_with_len 0 n) ++ filter p (k ∷ [])) here

pub kept-next : (p : ℕ → Bool) (n : ℕ) (old new : List ℕ) → p n ≡ true → new ≡ old ++ n ∷ []
    → old ≡ filter p (range_with_len 0 n) → new ≡ filter p (range_with_len 0 (n + 1))
kept-next p n old new on put was =
    put ∙ ap (λ ks. ks ++ n ∷ []) was ∙ ap (λ b. filter p (range_with_len 0 n) ++ cond b (n ∷ []) []) (sym on)
    ∙ sym (filter_last p n)

append_none : (ks : List ℕ) → ks ++ [] ≡ ks
append_none [] = refl
append_none (k ∷ ks) = ap (λ l. k ∷ l) (append_none ks)

pub left-next : (p : ℕ → Bool) (n : ℕ) (old new : List ℕ) → p n ≡ false → new ≡ old
    → old ≡ filter p (range_with_len 0 n) → new ≡ filter p (range_with_len 0 (n + 1))
left-next p n old new off put was =
    put ∙ was ∙ sym (append_none (filter p (range_with_len 0 n)))
    ∙ ap (λ b. filter p (range_with_len 0 n) ++ cond b (n ∷ []) []) (sym off) ∙ sym (filter_last p n)

-- ---- tests that agree

pub filter-same : (p q : ℕ → Bool) (a n : ℕ) → ((k : ℕ) → a ≤ k → k < a + n → p k ≡ q k)
    → filter p (range_with_len a n) ≡ filter q (range_with_len a n)
filter-same p q a zero same = refl
filter-same p q a (suc n) same =
    ap (λ b. cond b (a ∷ filter p (range_with_len (a + 1) n)) (filter p (range_with_len (a + 1) n)))
    (same a (omega arith) (omega arith))
    ∙ ap (λ ks. cond (q a) (a ∷ ks) ks)
    (filter-same p q (a + 1) n (λ k from until. same k (omega (arith, from)) (omega (arith, until))))

-- ---- one of them passes

pub record Passes (p : ℕ → Bool) (a n : ℕ) : Type 0 where
  pub t : ℕ
  pub from : a ≤ t
  pub until : t < a + n
  pub on : p t ≡ true

passes_more : (p : ℕ → Bool) (a n : ℕ) → Passes p (a + 1) n → Passes p a (suc n)
passes_more p a n is =
    let from = is.from in
    let until = is.until in
    record { t = is.t; from = omega (arith, from); until = omega (arith, until); on = is.on }

pub some-passes : (p : ℕ → Bool) (a n : ℕ) → list_any p (range_with_len a n) ≡ true → Passes p a n
some-passes p a zero some = absurd (let no : false ≡ true = some in cc)
some-passes p a (suc n) some = elim (either (p a) (list_any p (range_with_len (a + 1) n)) some) [
  | inl here ↦ record { t = a; from = omega arith; until = omega arith; on = here }
  | inr there ↦ passes_more p a n (some-passes p (a + 1) n there)
]

at_or_behind : (a t : ℕ) → a ≤ t → (a ≡ t) ⊎ (a + 1 ≤ t)
at_or_behind zero zero le = inl refl
at_or_behind zero (suc t) le = inr (omega arith)
at_or_behind (suc a) zero le = absurd (omega (arith, le))
at_or_behind (suc a) (suc t) le = elim (at_or_behind a t (omega (arith, le))) [
  | inl same ↦ inl (ap suc same)
  | inr more ↦ inr (omega (arith, more))
]

pub any-passes : (p : ℕ → Bool) (a n t : ℕ) → a ≤ t → t < a + n → p t ≡ true
    → list_any p (range_with_len a n) ≡ true
any-passes p a zero t from until on = absurd (omega (arith, from, until))
any-passes p a (suc n) t from until on = elim (at_or_behind a t from) [
  | inl same ↦ or_left (p a) (list_any p (range_with_len (a + 1) n)) (ap p same ∙ on)
  | inr more ↦
      or_right (p a) (list_any p (range_with_len (a + 1) n))
      (any-passes p (a + 1) n t more (omega (arith, until)) on)
]
