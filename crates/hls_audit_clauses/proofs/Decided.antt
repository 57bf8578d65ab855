-- Whether a schedule has what is guaranteed is decided. So it has it where it cannot lack it.
use Rattle.std.proofs.Common.{◌≡◌, ◌⊎◌, ℕ, zero, suc, inl, inr, ◌+◌, ◌*◌, ◌<◌, ◌≤◌, Bool, true, false, refl, sym, ap}
use Rattle.std.proofs.Common.{◌∙◌, subst, arith, mul-le-mul_right}
use Rattle.std.proofs.lemmas.Bool.{cases_Bool, cases_eq, cases_lt}
use Rattle.hls_chron.specs.Parts.{all_parts, parts}
use Rattle.hls_chron.specs.Ticks.{count, one_if}
use Rattle.hls_chron.proofs.CountLaws.{count-none, count-push}
use Rattle.hls_guarantee.specs.declared.Guarantee.{Guarantee}
use Rattle.hls_guarantee.specs.declared.Guarantee.TheVariants.{All, Null, Resb, Resc, Psbe}
use Rattle.hls_guarantee.specs.Limits.{IsNarrow}
use Rattle.hls_guarantee.specs.Service.{EveryPart}
use Rattle.hls_guarantee.specs.Cap.{KeepsCap}
use Rattle.hls_guarantee.specs.Satisfaction.{IsReserved, InPiece, HasShare, Satisfies}
use Rattle.hls_guarantee.proofs.Slides.{reserved-none}

abbrev pub Decided : Type 0 → Type 0
Decided P = P ⊎ ¬ P

pub settle : {P : Type 0} → Decided P → ¬ ¬ P → P
settle (inl sure) nn = sure
settle (inr denied) nn = absurd (nn denied)

dec_le : (a b : ℕ) → Decided (a ≤ b)
dec_le a b = elim (cases_lt b a) [ inl lt ↦ inr (λ le. omega (arith, lt, le)) | inr le ↦ inl le ]

dec_then : {P Q : Type 0} → Decided P → Decided Q → Decided (P → Q)
dec_then (inl p) (inl q) = inl (λ is. q)
dec_then (inl p) (inr denied) = inr (λ f. denied (f p))
dec_then (inr denied) d = inl (λ is. absurd (denied is))

-- all numbers below a bound, and one of them
dec_all : (P : ℕ → Type 0) → ((n : ℕ) → Decided (P n)) → (k : ℕ)
    → ((n : ℕ) → n < k → P n) ⊎ ((n : ℕ) × (n < k) × (¬ P n))
dec_all P d zero = inl (λ n lt. absurd (omega arith))
dec_all P d (suc k) = elim (dec_all P d k) [
  | inl all ↦ elim (d k) [
    | inl sure ↦ inl (λ n lt. elim (cases_eq n k) [
      | inl e ↦ subst P (sym e) sure
      | inr ne ↦ all n (omega arith)
    ])
    | inr denied ↦ inr (k, omega arith, denied)
  ]
  | inr w ↦ inr (w.0, (let lt = w.1 in omega (arith, lt)), w.2)
]

dec_some : (P : ℕ → Type 0) → ((n : ℕ) → Decided (P n)) → (k : ℕ) → Decided ((n : ℕ) × (n < k) × P n)
dec_some P d zero = inr (λ w. let lt = w.1 in omega (arith, lt))
dec_some P d (suc k) = elim (d k) [
  | inl sure ↦ inl (k, omega arith, sure)
  | inr denied ↦ elim (dec_some P d k) [
    | inl w ↦ inl (w.0, (let lt = w.1 in omega (arith, lt)), w.2)
    | inr none ↦ inr (λ w. elim (cases_eq w.0 k) [
      | inl e ↦ denied (subst P e w.2)
      | inr ne ↦ none (w.0, (let lt = w.1 in omega (arith, lt, ne)), w.2)
    ])
  ]
]

-- every part of some ticks
dec_parts : (Q : ℕ → ℕ → Type 0) → ((i n : ℕ) → Decided (Q i n)) → (lo hi : ℕ)
    → Decided ((i n : ℕ) → lo ≤ i → i + n ≤ hi → Q i n)
dec_parts Q d lo hi =
    let these : (i : ℕ) → Decided ((n : ℕ) → n < suc hi → lo ≤ i → i + n ≤ hi → Q i n) =
    λ i. elim (dec_all (λ n. lo ≤ i → i + n ≤ hi → Q i n)
    (λ n. dec_then (dec_le lo i) (dec_then (dec_le (i + n) hi) (d i n))) (suc hi)) [
      | inl all ↦ inl all
      | inr w ↦ inr (λ f. w.2 (f w.0 w.1))
    ] in
    elim (dec_all (λ i. (n : ℕ) → n < suc hi → lo ≤ i → i + n ≤ hi → Q i n) these (suc hi)) [
      | inl all ↦ inl (λ i n from to. all i (omega arith) n (omega arith) from to)
      | inr w ↦ inr (λ f. w.2 (λ n lt from to. f w.0 n from to))
    ]

-- ---- what is guaranteed

dec_capped : (hard : Bool) (x got : ℕ) → Decided (hard ≡ true → got ≤ x)
dec_capped true x got = elim (dec_le got x) [ inl le ↦ inl (λ e. le) | inr denied ↦ inr (λ f. denied (f refl)) ]
dec_capped false x got = inl (λ e. absurd (cc))

dec_reserved : (hard : Bool) (x y n got : ℕ) → Decided (IsReserved hard x y n got)
dec_reserved hard x y n got = elim (dec_le (x + n) (y + got)) [
  | inl enough ↦ elim (dec_capped hard x got) [
    | inl capped ↦ inl (record { enough = enough; capped = capped })
    | inr denied ↦ inr (λ r. denied r.capped)
  ]
  | inr denied ↦ inr (λ r. denied r.enough)
]

dec_both : {P Q : Type 0} → Decided P → Decided Q → Decided (P × Q)
dec_both (inl p) (inl q) = inl (p, q)
dec_both (inl p) (inr denied) = inr (λ w. denied w.1)
dec_both (inr denied) d = inr (λ w. denied w.0)

-- a piece that has ticks from i on is not cut later than i + y times
cut_few : (e y i cut : ℕ) → 1 ≤ y → e + cut * y ≤ i + y → cut < suc (i + y)
cut_few e y i cut some starts =
    let less = mul-le-mul_right {m = 1} {n = y} cut some in
    omega (arith, less, starts)

dec_piece : (e y i n : ℕ) → 1 ≤ y → Decided (InPiece e y i n)
dec_piece e y i n some =
    elim (dec_some (λ cut. (e + cut * y ≤ i + y) × (i + n ≤ e + cut * y))
    (λ cut. dec_both (dec_le (e + cut * y) (i + y)) (dec_le (i + n) (e + cut * y))) (suc (i + y))) [
      | inl w ↦ inl (record { cut = w.0; starts = w.2.0; ends = w.2.1 })
      | inr none ↦ inr (λ p. none (p.cut, cut_few e y i p.cut some p.starts, (p.starts, p.ends)))
    ]

dec_blocks : (hard : Bool) (x y : ℕ) (f : ℕ → Bool) (lo hi : ℕ) → 1 ≤ y → Decided (Satisfies (Resb hard x y) f lo hi)
dec_blocks hard x y f lo hi some =
    dec_some (λ e. EveryPart (λ i n got. InPiece e y i n → IsReserved hard x y n got) f lo hi)
    (λ e. dec_parts (λ i n. InPiece e y i n → IsReserved hard x y n (count f i n))
    (λ i n. dec_then (dec_piece e y i n some) (dec_reserved hard x y n (count f i n))) lo hi) y

pub satisfies_stable : (g : Guarantee) (f : ℕ → Bool) (lo hi : ℕ) → IsNarrow g → ¬ ¬ Satisfies g f lo hi
    → Satisfies g f lo hi
satisfies_stable All f lo hi narrow nn = λ t a b. elim (cases_Bool (f t)) [
  | inl on ↦ on
  | inr off ↦ absurd (nn (λ s. let wrong : true ≡ false = sym (s t a b) ∙ off in cc))
]
satisfies_stable Null f lo hi narrow nn = tt
satisfies_stable (Resc hard x y) f lo hi narrow nn = λ i n a b few.
    settle (dec_reserved hard x y n (count f i n)) (λ denied. nn (λ s. denied (s i n a b few)))
satisfies_stable (Resb hard x y) f lo hi narrow nn =
    let some = narrow.some in
    let fits = narrow.fits in
    settle (dec_blocks hard x y f lo hi (omega (arith, some, fits))) nn
satisfies_stable (Psbe s d) f lo hi narrow nn = λ i n a b.
    settle (dec_le (s.num * n * d.den) ((count f i n * d.den + d.num) * s.den))
    (λ denied. nn (λ share. denied (share i n a b)))

-- ---- no ticks

no_ticks : (f : ℕ → Bool) (P : (i n got : ℕ) → Type 0) (lo hi : ℕ) → hi ≤ lo → ((i : ℕ) → P i 0 (count f i 0))
    → EveryPart P f lo hi
no_ticks f P lo hi le none i n a b =
    let e : 0 ≡ n = omega arith in
    subst (λ (k : ℕ). P i k (count f i k)) e (none i)

pub satisfies_none : (g : Guarantee) (f : ℕ → Bool) (lo hi : ℕ) → IsNarrow g → hi ≤ lo → Satisfies g f lo hi
satisfies_none All f lo hi narrow le = λ t a b. absurd (omega arith)
satisfies_none Null f lo hi narrow le = tt
satisfies_none (Resc hard x y) f lo hi narrow le =
    no_ticks f (λ i n got. n ≤ y → IsReserved hard x y n got) lo hi le
    (λ i few. reserved-none hard x y f i narrow.fits)
satisfies_none (Resb hard x y) f lo hi narrow le =
    let some = narrow.some in
    let fits = narrow.fits in (
      0,
      omega (arith, some, fits),
      no_ticks f (λ i n got. InPiece 0 y i n → IsReserved hard x y n got) lo hi le
          (λ i p. reserved-none hard x y f i narrow.fits),
    )
satisfies_none (Psbe s d) f lo hi narrow le =
    no_ticks f (λ i n got. HasShare s d n got) lo hi le
    (λ i. let z : s.num * 0 * d.den ≡ 0 = omega arith in omega (arith, z))

-- ---- caps, by the last tick that is served

pub record IsLastServed (f : ℕ → Bool) (i n : ℕ) : Type 0 where
  pub m : ℕ
  pub within : m < n
  pub served : f (i + m) ≡ true
  pub same : count f i n ≡ count f i (suc m)

push_off : (f : ℕ → Bool) (i n : ℕ) → f (i + n) ≡ false → count f i (suc n) ≡ count f i n
push_off f i n off =
    let same : count f i n + 0 ≡ count f i n = omega arith in
    count-push f i n ∙ ap (λ (b : Bool). count f i n + one_if b) off ∙ same

pub last_served : (f : ℕ → Bool) (i n : ℕ) → (count f i n ≡ 0) ⊎ IsLastServed f i n
last_served f i zero = inl (count-none f i)
last_served f i (suc n) = elim (cases_Bool (f (i + n))) [
  | inl on ↦ inr (record { m = n; within = omega arith; served = on; same = refl })
  | inr off ↦ elim (last_served f i n) [
    | inl none ↦ inl (push_off f i n off ∙ none)
    | inr l ↦
        let lt = l.within in
        inr (record { m = l.m; within = omega (arith, lt); served = l.served; same = push_off f i n off ∙ l.same })
  ]
]

-- the cap is kept where it is not exceeded at any tick that is served
abbrev pub IsCappedAt : Guarantee → (ℕ → Bool) → (since end : ℕ) → Type 0
IsCappedAt g f since end =
    (t : ℕ) → since ≤ t → t < end → f t ≡ true → ¬ ¬ KeepsCap g f since (t + 1)

capped_part : (P : (i n got : ℕ) → Type 0) (f : ℕ → Bool) (since end i n : ℕ)
    → ((t : ℕ) → since ≤ t → t < end → f t ≡ true → ¬ ¬ EveryPart P f since (t + 1))
    → since ≤ i → i + n ≤ end → (l : IsLastServed f i n) → ¬ ¬ P i (suc l.m) (count f i (suc l.m))
capped_part P f since end i n each a b l nn =
    let lt = l.within in
    each (i + l.m) (omega (arith, a)) (omega (arith, b, lt)) l.served
    (λ every. nn (every i (suc l.m) a (omega arith)))

cap_windows : (x y : ℕ) (f : ℕ → Bool) (since end : ℕ) → IsCappedAt (Resc true x y) f since end
    → KeepsCap (Resc true x y) f since end
cap_windows x y f since end each i n a b few = elim (last_served f i n) [
  | inl none ↦ omega (arith, none)
  | inr l ↦
      let lt = l.within in
      let most = settle (dec_le (count f i (suc l.m)) x)
      (λ denied. capped_part (λ i n got. n ≤ y → got ≤ x) f since end i n each a b l
      (λ le. denied (le (omega (arith, lt, few))))) in
      let same = l.same in
      omega (arith, most, same)
]

block_more : (share more few n got U : ℕ) → few ≤ n → got * U ≤ share * few + more → got * U ≤ share * n + more
block_more share more few n got U le most =
    let longer : few * share ≤ n * share = mul-le-mul_right share le in
    omega (arith, longer, most)

cap_blocks : (x y : ℕ) (f : ℕ → Bool) (since end : ℕ) → IsCappedAt (Resb true x y) f since end
    → KeepsCap (Resb true x y) f since end
cap_blocks x y f since end each i n a b = elim (last_served f i n) [
  | inl none ↦
      subst (λ (k : ℕ). k * all_parts ≤ parts x y * n + 2 * x * all_parts) (sym none) (omega arith)
  | inr l ↦
      let lt = l.within in
      let most = settle (dec_le (count f i (suc l.m) * all_parts) (parts x y * suc l.m + 2 * x * all_parts))
      (capped_part (λ i n got. got * all_parts ≤ parts x y * n + 2 * x * all_parts) f since end i n each a b l) in
      subst (λ (k : ℕ). k * all_parts ≤ parts x y * n + 2 * x * all_parts) (sym l.same)
      (block_more (parts x y) (2 * x * all_parts) (suc l.m) n (count f i (suc l.m)) all_parts (omega (arith, lt))
      most)
]

pub cap_by_ticks : (g : Guarantee) (f : ℕ → Bool) (since end : ℕ) → IsCappedAt g f since end
    → KeepsCap g f since end
cap_by_ticks All f since end each = tt
cap_by_ticks Null f since end each = tt
cap_by_ticks (Resb true x y) f since end each = cap_blocks x y f since end each
cap_by_ticks (Resb false x y) f since end each = tt
cap_by_ticks (Resc true x y) f since end each = cap_windows x y f since end each
cap_by_ticks (Resc false x y) f since end each = tt
cap_by_ticks (Psbe s d) f since end each = tt
