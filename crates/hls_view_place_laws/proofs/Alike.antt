-- Ways that read alike, label by label.
use Rattle.std.proofs.Common.{◌≡◌, ℕ, suc, ◌+◌, ◌-◌, ◌<◌, List, [], ◌∷◌, ◌++◌, Bool, true, false}
use Rattle.std.proofs.Common.{refl, sym, ap, ◌∙◌, ◌||◌, cond, length, take, not, inl, inr, arith}
use Rattle.std.specs.Prelude.{Some, None, slice_get, position}
use Rattle.std.specs.List.{list_any, position_or_len}
use Rattle.std.proofs.lemmas.Bool.{cases_Bool, lt-ltb}
use Rattle.std.proofs.lemmas.List.{length-append, take_at}
use Rattle.hls_view_tale.specs.declared.label.Label.{Label}
use Rattle.hls_audit_stays.proofs.Lists.{get_last}
use Rattle.hls_view_lanes.specs.Likeness.{is_like, begins, is_same}
use Rattle.hls_view_lanes.specs.Rows.{above_of}
use Rattle.hls_view_lanes.proofs.Selves.{first-of, second-of, like-turned, like-through}
use Rattle.hls_view_drawing.specs.Rows.{last_label}

abbrev pub AreAlike : List Label → List Label → Type 0
AreAlike [] [] = Unit {0}
AreAlike [] (m ∷ way) = ⊥
AreAlike (l ∷ row) [] = ⊥
AreAlike (l ∷ row) (m ∷ way) = (is_like l m ≡ true) × AreAlike row way

pub same-alike : (row way : List Label) → begins row way ≡ true → begins way row ≡ true → AreAlike row way
same-alike [] [] e f = tt
same-alike [] (m ∷ way) e f = absurd (let wrong : false ≡ true = f in cc)
same-alike (l ∷ row) [] e f = absurd (let wrong : false ≡ true = e in cc)
same-alike (l ∷ row) (m ∷ way) e f = (
  first-of (is_like l m) (begins row way) e,
  same-alike row way (second-of (is_like l m) (begins row way) e) (second-of (is_like m l) (begins way row) f),
)

pub is-alike : (row way : List Label) → is_same row way ≡ true → AreAlike row way
is-alike row way e =
    same-alike row way (first-of (begins row way) (begins way row) e) (second-of (begins row way) (begins way row) e)

pub alike-turned : (row way : List Label) → AreAlike row way → AreAlike way row
alike-turned [] [] are = tt
alike-turned [] (m ∷ way) are = absurd are
alike-turned (l ∷ row) [] are = absurd are
alike-turned (l ∷ row) (m ∷ way) are = (like-turned l m are.0, alike-turned row way are.1)

pub alike-through : (row way other : List Label) → AreAlike row way → AreAlike way other → AreAlike row other
alike-through [] [] [] e f = tt
alike-through [] [] (n ∷ other) e f = absurd f
alike-through [] (m ∷ way) other e f = absurd e
alike-through (l ∷ row) [] other e f = absurd e
alike-through (l ∷ row) (m ∷ way) [] e f = absurd f
alike-through (l ∷ row) (m ∷ way) (n ∷ other) e f =
    (like-through l m n e.0 f.0, alike-through row way other e.1 f.1)

pub alike-long : (row way : List Label) → AreAlike row way → length row ≡ length way
alike-long [] [] are = refl
alike-long [] (m ∷ way) are = absurd are
alike-long (l ∷ row) [] are = absurd are
alike-long (l ∷ row) (m ∷ way) are = let rest = alike-long row way are.1 in omega (arith, rest)

-- ---- ways by their last label

pub record EndsIn (way : List Label) : Type 0 where
  pub front : List Label
  pub last : Label
  pub is : way ≡ front ++ last ∷ []

pub ends-in : (first : Label) (rest : List Label) → EndsIn (first ∷ rest)
ends-in first [] = record { front = []; last = first; is = refl }
ends-in first (next ∷ rest) =
    let e = ends-in next rest in
    record { front = first ∷ e.front; last = e.last; is = ap (λ (l : List Label). first ∷ l) e.is }

pub front-long : (front : List Label) (last : Label) → length (front ++ last ∷ []) ≡ length front + 1
front-long front last = length-append front (last ∷ [])

pub above-front : (front : List Label) (last : Label) → above_of (front ++ last ∷ []) ≡ front
above-front front last =
    let long = front-long front last in
    let n : length (front ++ last ∷ []) - 1 ≡ length front = omega (arith, long) in
    ap (λ k. take k (front ++ last ∷ [])) n ∙ take_at front (last ∷ []) (length front) refl

pub last-front : (front : List Label) (last : Label) → last_label (front ++ last ∷ []) ≡ Some last
last-front front last =
    let long = front-long front last in
    let n : length (front ++ last ∷ []) - 1 ≡ length front = omega (arith, long) in
    ap (λ k. slice_get (front ++ last ∷ []) k) n ∙ get_last front last

-- a way that reads as one with this last label
pub record EndsAlike (row front : List Label) (last : Label) : Type 0 where
  pub above : List Label
  pub end : Label
  pub is : row ≡ above ++ end ∷ []
  pub fronts : AreAlike above front
  pub ends : is_like end last ≡ true

pub ends-alike : (row front : List Label) (last : Label) → AreAlike row (front ++ last ∷ []) → EndsAlike row front last
ends-alike [] [] last are = absurd are
ends-alike [] (m ∷ front) last are = absurd are
ends-alike (l ∷ []) [] last are = record { above = []; end = l; is = refl; fronts = tt; ends = are.0 }
ends-alike (l ∷ next ∷ row) [] last are = absurd are.1
ends-alike (l ∷ row) (m ∷ front) last are =
    let e = ends-alike row front last are.1 in
    record {
      above = l ∷ e.above;
      end = e.end;
      is = ap (λ (w : List Label). l ∷ w) e.is;
      fronts = (are.0, e.fronts);
      ends = e.ends;
    }

-- ---- the first place of something

pub record IsPlaced {X : Type 0} (test : X → Bool) (xs : List X) : Type 0 where
  pub number : ℕ
  pub one : X
  pub is : position test xs ≡ Some number
  pub there : slice_get xs number ≡ Some one
  pub passes : test one ≡ true

record IsFirstAt {X : Type 0} (test : X → Bool) (xs : List X) : Type 0 where
  one : X
  within : position_or_len test xs < length xs
  there : slice_get xs (position_or_len test xs) ≡ Some one
  passes : test one ≡ true

first-at : {X : Type 0} (test : X → Bool) (xs : List X) → list_any test xs ≡ true → IsFirstAt test xs
first-at test [] e = absurd (let wrong : false ≡ true = e in cc)
first-at {X = X} test (x ∷ xs) e = elim (cases_Bool (test x)) [
  | inl on ↦
      (let zero_is : position_or_len test (x ∷ xs) ≡ 0 = ap (λ b. cond (not b) (1 + position_or_len test xs) 0) on in
      record {
        one = x;
        within = omega (arith, zero_is);
        there = ap (λ n. slice_get (x ∷ xs) n) zero_is;
        passes = on;
      })
  | inr off ↦
      (let f = first-at test xs (sym (ap (λ b. b || list_any test xs) off) ∙ e) in
      let more : position_or_len test (x ∷ xs) ≡ suc (position_or_len test xs) =
      ap (λ b. cond (not b) (1 + position_or_len test xs) 0) off
      ∙ (let up : 1 + position_or_len test xs ≡ suc (position_or_len test xs) = omega arith in up) in
      let within = f.within in
      record {
        one = f.one;
        within = omega (arith, more, within);
        there = ap (λ n. slice_get (x ∷ xs) n) more ∙ f.there;
        passes = f.passes;
      })
]

pub placed-first : {X : Type 0} (test : X → Bool) (xs : List X) → list_any test xs ≡ true → IsPlaced test xs
placed-first test xs e =
    let f = first-at test xs e in
    let n = position_or_len test xs in
    record {
      number = n;
      one = f.one;
      is = ap (λ b. cond b (Some n) None) (lt-ltb n (length xs) f.within);
      there = f.there;
      passes = f.passes;
    }
