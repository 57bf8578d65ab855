-- One tick more at the end of a list.
use Rattle.std.proofs.Common.{◌≡◌, ℕ, zero, suc, ◌+◌, ◌<◌, ◌≤◌, Bool, false, List, [], ◌∷◌, ◌++◌, length}
use Rattle.std.proofs.Common.{◌∙◌, sym, ap, subst, arith, inl, inr, get_or, length-append}
use Rattle.std.proofs.lemmas.Bool.{cases_lt}
use Rattle.std.proofs.lemmas.List.{get_or_append_left, get_or-append-add}
use Rattle.hls_chron.specs.Ticks.{one_if, count}
use Rattle.hls_guarantee.specs.Service.{EveryPartOf, schedule_of}
use Rattle.hls_chron.proofs.CountLaws.{count-push, count-none, count-agree}

pub length-more : (l : List Bool) (b : Bool) → length (l ++ b ∷ []) ≡ length l + 1
length-more l b = length-append l (b ∷ [])

pub old-at : (l : List Bool) (b : Bool) (t : ℕ) → t < length l →
    schedule_of (l ++ b ∷ []) t ≡ schedule_of l t
old-at l b t lt = get_or_append_left l (b ∷ []) false t lt

pub new-at : (l : List Bool) (b : Bool) → schedule_of (l ++ b ∷ []) (length l) ≡ b
new-at l b =
    let e : length l ≡ length l + 0 = omega arith in
    ap (λ n. get_or (l ++ b ∷ []) n false) e ∙ get_or-append-add l (b ∷ []) 0 false

pub count-old : (l : List Bool) (b : Bool) (i n : ℕ) → i + n ≤ length l →
    count (schedule_of (l ++ b ∷ [])) i n ≡ count (schedule_of l) i n
count-old l b i n within =
    count-agree (schedule_of (l ++ b ∷ [])) (schedule_of l) i n (λ t lo hi. old-at l b t (omega arith))

pub count-new : (l : List Bool) (b : Bool) (i n : ℕ) → i + n ≡ length l →
    count (schedule_of (l ++ b ∷ [])) i (suc n) ≡ count (schedule_of l) i n + one_if b
count-new l b i n end =
    let push = count-push (schedule_of (l ++ b ∷ [])) i n in
    let at : one_if (schedule_of (l ++ b ∷ []) (i + n)) ≡ one_if b =
    ap (λ (t : ℕ). one_if (schedule_of (l ++ b ∷ []) t)) end ∙ ap one_if (new-at l b) in
    omega (arith, count-old l b i n (omega arith))

-- what holds of every part holds of the parts before
pub every-before : (P : ℕ → ℕ → ℕ → Type 0) (l : List Bool) (b : Bool) → EveryPartOf P (l ++ b ∷ []) →
    EveryPartOf P l
every-before P l b each = λ i n lo hi.
    subst (P i n) (count-old l b i n hi) (each i n lo (let more = length-more l b in omega arith))

-- and what holds of them, of no tick and of each part with the new tick, holds of every part
pub every-more : (P : ℕ → ℕ → ℕ → Type 0) (l : List Bool) (b : Bool) → EveryPartOf P l →
    ((i : ℕ) → P i 0 0) →
    ((i n : ℕ) → i + n ≡ length l → P i (suc n) (count (schedule_of (l ++ b ∷ [])) i (suc n))) →
    EveryPartOf P (l ++ b ∷ [])
every-more P l b each none new i zero lo hi =
    subst (P i 0) (sym (count-none (schedule_of (l ++ b ∷ [])) i)) (none i)
every-more P l b each none new i (suc n) lo hi = elim (cases_lt (length l) (i + suc n)) [
  | inl late ↦
      let more = length-more l b in
      new i n (omega arith)
  | inr early ↦ subst (P i (suc n)) (sym (count-old l b i (suc n) early)) (each i (suc n) lo early)
]
