-- Where the spaces of a text stand.
use Rattle.std.proofs.Common.{◌≡◌, ◌≢◌, ℕ, zero, suc, ◌+◌, ◌<◌, ◌≤◌, Bool, true, false, cond, List, []}
use Rattle.std.proofs.Common.{◌∷◌, ◌++◌}
use Rattle.std.proofs.Common.{length, get_or, take, drop, refl, sym, ap, ◌∙◌, arith, subst, inl, inr}
use Rattle.std.proofs.Common.{eqb}
use Rattle.std.specs.Prelude.{◌==◌, ◌||◌, if◌then◌else◌}
use Rattle.std.specs.List.{list_any}
use Rattle.std.proofs.Math.Seq.{drop-cons, take-append_seam, drop-append_seam}
use Rattle.std.proofs.lemmas.Bool.{eq-eqb, eqb-true}
use Rattle.std.proofs.lemmas.Bool.Decides.{eqb_tells}
use Rattle.std.proofs.lemmas.List.{drop_all}
use Rattle.hls_derive.specs.Inside.Reading.{IsEnd, place_of_space}

-- ---- going over a text from the left

is_no : (a b : ℕ) → a ≢ b → eqb a b ≡ false
is_no a b ne = elim (eqb_tells a b) [ inl same ↦ absurd (ne same.1) | inr other ↦ other.0 ]

other_byte : (n : ℕ) (text : List ℕ) (i : ℕ) → i < length text → (get_or text i 0 == 32) ≡ false
    → place_of_space n (drop i text) ≡ suc (place_of_space n (drop (suc i) text))
other_byte zero text i lt e = rw (drop-cons text i 0 lt, e) refl
other_byte (suc n) text i lt e = rw (drop-cons text i 0 lt, e) refl

space_passed : (n : ℕ) (text : List ℕ) (i : ℕ) → i < length text → (get_or text i 0 == 32) ≡ true
    → place_of_space (suc n) (drop i text) ≡ suc (place_of_space n (drop (suc i) text))
space_passed n text i lt e = rw (drop-cons text i 0 lt, e) refl

none_left : (n : ℕ) → place_of_space n [] ≡ 0
none_left zero = refl
none_left (suc n) = refl

-- the place is as far as the places before at, and what is left of it
abbrev IsLeft : (before : ℕ) (text : List ℕ) (at left : ℕ) → Type 0
IsLeft before text at left = place_of_space before text ≡ at + place_of_space left (drop at text)

pub past_other : (before : ℕ) (text : List ℕ) (at left after : ℕ) → at < length text
    → get_or text at 0 ≢ 32 → after ≡ left → IsLeft before text at left → IsLeft before text (at + 1) after
past_other before text at left after lt ne same so_far =
    let next : at + 1 ≡ suc at = omega arith in
    let more = other_byte left text at lt (is_no (get_or text at 0) 32 ne) in
    rw (same, next) (omega (arith, more, so_far))

pub past_space : (before : ℕ) (text : List ℕ) (at left after : ℕ) → at < length text
    → get_or text at 0 ≡ 32 → left ≡ suc after → IsLeft before text at left
    → IsLeft before text (at + 1) after
past_space before text at left after lt is one so_far =
    let next : at + 1 ≡ suc at = omega arith in
    let here : place_of_space before text ≡ at + place_of_space (suc after) (drop at text) =
    subst (λ k. IsLeft before text at k) one so_far in
    let more = space_passed after text at lt (eq-eqb (get_or text at 0) 32 is) in
    rw next (omega (arith, more, here))

pub past_all : (before : ℕ) (text : List ℕ) (at left : ℕ) → length text ≤ at
    → at ≤ length text → IsLeft before text at left → length text ≡ place_of_space before text
past_all before text at left all within so_far =
    let gone : drop at text ≡ [] = drop_all at text all in
    let nothing : place_of_space left (drop at text) ≡ 0 =
    ap (place_of_space left) gone ∙ none_left left in omega (arith, nothing, so_far, all)

-- ---- how many spaces there are

abbrev pub spaces : List ℕ → ℕ
spaces [] = 0
spaces (b ∷ bs) = if b == 32 then suc (spaces bs) else spaces bs

one_more : (b : Bool) (m n k : ℕ) → m ≡ n + k → cond b (suc m) m ≡ cond b (suc n) n + k
one_more true m n k e = omega (arith, e)
one_more false m n k e = e

pub spaces-append : (xs ys : List ℕ) → spaces (xs ++ ys) ≡ spaces xs + spaces ys
spaces-append [] ys = omega arith
spaces-append (x ∷ xs) ys =
    one_more (x == 32) (spaces (xs ++ ys)) (spaces xs) (spaces ys) (spaces-append xs ys)

either_false : (a b : Bool) → (a || b) ≡ false → (a ≡ false) × (b ≡ false)
either_false true b h = absurd (let e : true ≡ false = h in cc)
either_false false b h = (refl, h)

pub no_spaces : (text : List ℕ) → list_any (λ b. b == 32) text ≡ false → spaces text ≡ 0
no_spaces [] lacks = refl
no_spaces (x ∷ xs) lacks =
    let h = either_false (x == 32) (list_any (λ b. b == 32) xs) lacks in rw h.0 (no_spaces xs h.1)

-- what stands before a space or the end is as long as the place of that space says
place_at_end : (rest : List ℕ) → IsEnd rest → place_of_space 0 rest ≡ 0
place_at_end [] ends = refl
place_at_end (b ∷ bs) ends = rw (eq-eqb b 32 ends) refl

behind_other : (n x : ℕ) (text : List ℕ) → (x == 32) ≡ false
    → place_of_space n (x ∷ text) ≡ suc (place_of_space n text)
behind_other zero x text e = rw e refl
behind_other (suc n) x text e = rw e refl

behind_byte : (b : Bool) (n x len : ℕ) (text : List ℕ) → (x == 32) ≡ b → place_of_space n text ≡ len
    → place_of_space (cond b (suc n) n) (x ∷ text) ≡ suc len
behind_byte true n x len text e more = rw e (ap suc more)
behind_byte false n x len text e more = behind_other n x text e ∙ ap suc more

pub place_behind : (front rest : List ℕ) → IsEnd rest
    → place_of_space (spaces front) (front ++ rest) ≡ length front
place_behind [] rest ends = place_at_end rest ends
place_behind (x ∷ xs) rest ends =
    behind_byte (x == 32) (spaces xs) x (length xs) (xs ++ rest) refl (place_behind xs rest ends)

-- a text is cut in one way before a space or the end, where so many spaces stand before
pub cut_same : (front rest other behind : List ℕ) → front ++ rest ≡ other ++ behind → IsEnd rest
    → IsEnd behind → spaces front ≡ spaces other → (front ≡ other) × (rest ≡ behind)
cut_same front rest other behind same ends ends_too as_many =
    let len : length front ≡ length other =
    sym (place_behind front rest ends) ∙ ap (λ n. place_of_space n (front ++ rest)) as_many
    ∙ ap (place_of_space (spaces other)) same ∙ place_behind other behind ends_too in (
      sym (take-append_seam front rest) ∙ ap (λ n. take n (front ++ rest)) len ∙ ap (take (length other)) same
          ∙ take-append_seam other behind,
      sym (drop-append_seam front rest) ∙ ap (λ n. drop n (front ++ rest)) len ∙ ap (drop (length other)) same
          ∙ drop-append_seam other behind,
    )

-- the place is within the text, and nothing or a space stands there
either_within : (b : Bool) (m n len : ℕ) → m ≤ len → n ≤ len → cond b m n ≤ len
either_within true m n len first second = first
either_within false m n len first second = second

pub place_within : (n : ℕ) (text : List ℕ) → place_of_space n text ≤ length text
place_within zero [] = omega arith
place_within (suc n) [] = omega arith
place_within zero (b ∷ bs) =
    let more = place_within zero bs in
    either_within (b == 32) 0 (suc (place_of_space zero bs)) (suc (length bs)) (omega arith)
    (omega (arith, more))
place_within (suc n) (b ∷ bs) =
    let more = place_within n bs in
    let more' = place_within (suc n) bs in
    either_within (b == 32) (suc (place_of_space n bs)) (suc (place_of_space (suc n) bs)) (suc (length bs))
    (omega (arith, more)) (omega (arith, more'))

abbrev EndsAt : List ℕ → ℕ → Type 0
EndsAt text n = IsEnd (drop n text)

either_ends : (b : Bool) (text : List ℕ) (m n : ℕ) → (b ≡ true → EndsAt text m) → EndsAt text n
    → EndsAt text (cond b m n)
either_ends true text m n first second = first refl
either_ends false text m n first second = second

pub place_ends : (n : ℕ) (text : List ℕ) → IsEnd (drop (place_of_space n text) text)
place_ends zero [] = tt
place_ends (suc n) [] = tt
place_ends zero (b ∷ bs) =
    either_ends (b == 32) (b ∷ bs) 0 (suc (place_of_space zero bs)) (eqb-true b 32) (place_ends zero bs)
place_ends (suc n) (b ∷ bs) =
    either_ends (b == 32) (b ∷ bs) (suc (place_of_space n bs)) (suc (place_of_space (suc n) bs))
    (λ e. place_ends n bs) (place_ends (suc n) bs)
