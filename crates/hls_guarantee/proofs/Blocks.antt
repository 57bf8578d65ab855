-- The pieces of a list by the ticks before which they end, and the offsets of those that are not reserved.
use Rattle.std.proofs.Common.{◌≡◌, ℕ, zero, suc, ◌+◌, ◌-◌, ◌*◌, ◌/◌, ◌%◌, ◌<◌, ◌≤◌, Bool, true, false, List}
use Rattle.std.proofs.Common.{length}
use Rattle.std.proofs.Common.{refl, sym, ap, ◌∙◌, subst, arith, inl, inr, get_or, set, div-add-mod'}
use Rattle.std.proofs.Common.{replicate, ◌⊎◌}
use Rattle.std.proofs.Common.{get_or-set_same, get_or-set_other, length-set}
use Rattle.std.specs.Prelude.{min, if◌then◌else◌}
use Rattle.std.proofs.lemmas.Bool.{cases_lt, cases_Bool}
use Rattle.std.proofs.lemmas.List.{get_or-replicate, get_or_past, length-replicate}
use Rattle.std.proofs.Math.Nat.{mod-eq_of_lt, add-mul-mod_self_right}
use Rattle.hls_chron.specs.Ticks.{one_if, count}
use Rattle.hls_guarantee.specs.Service.{service_before, EveryPart}
use Rattle.hls_guarantee.specs.Satisfaction.{IsReserved, InPiece}
use Rattle.hls_chron.proofs.CountLaws.{count-none, count-push, count-add}
use Rattle.hls_guarantee.proofs.Slides.{reserved-part, reserved-none, reserved-same}

-- the ticks of the list in the piece that ends before tick m
abbrev pub ticks_of : (y len m : ℕ) → ℕ
ticks_of y len m = min m len - (m - y)

pub record Reserved (hard : Bool) (x y : ℕ) (f : ℕ → Bool) (len m : ℕ) : Type 0 where
  pub is : IsReserved hard x y (ticks_of y len m) (count f (m - y) (ticks_of y len m))

-- past the end none is served
count-past : (f : ℕ → Bool) (len i n : ℕ) → ((t : ℕ) → len ≤ t → f t ≡ false) → len ≤ i → count f i n ≡ 0
count-past f len i zero past le = count-none f i
count-past f len i (suc n) past le =
    let rest = count-past f len i n past le in
    let here : one_if (f (i + n)) ≡ 0 = ap one_if (past (i + n) (omega arith)) in
    count-push f i n ∙ omega arith

-- so the service before m is that of the list's ticks
pub count-ticks : (f : ℕ → Bool) (y len m : ℕ) → ((t : ℕ) → len ≤ t → f t ≡ false) → m < len + y →
    service_before f y m ≡ count f (m - y) (ticks_of y len m)
count-ticks f y len m past near =
    let a : ℕ = m - y in
    let n : ℕ = ticks_of y len m in
    let r : ℕ = min y m - n in
    let all : n + r ≡ min y m = omega arith in
    let split : count f a (n + r) ≡ count f a n + count f (a + n) r = count-add f a n r in
    let whole : count f a (n + r) ≡ count f a (min y m) = ap (λ (t : ℕ). count f a t) all in
    let none : count f (a + n) r ≡ 0 = elim (cases_lt len m) [
      | inl over ↦ count-past f len (a + n) r past (omega arith)
      | inr in_list ↦
          let z : r ≡ 0 = omega arith in
          ap (λ (t : ℕ). count f (a + n) t) z ∙ count-none f (a + n)
    ] in
    omega arith

-- some piece of an offset is not reserved
pub record IsBroken (hard : Bool) (x y : ℕ) (f : ℕ → Bool) (len r : ℕ) : Type 0 where
  pub end : ℕ
  pub near : end < len + y
  pub phase : end % y ≡ r
  pub fails : Reserved hard x y f len end → ⊥

pub record Marked (hard : Bool) (x y : ℕ) (f : ℕ → Bool) (len k got : ℕ) (broken : List Bool) : Type 0 where
  pub counted : got ≡ service_before f y k
  pub wide : y ≤ length broken
  pub kept : (m : ℕ) → 0 < m → m ≤ k → get_or broken (m % y) false ≡ false → Reserved hard x y f len m
  pub failed : (r : ℕ) → get_or broken r false ≡ true → IsBroken hard x y f len r

pub marked_none : (hard : Bool) (x y : ℕ) (f : ℕ → Bool) (len : ℕ) (broken : List Bool) → y ≤ length broken →
    ((r : ℕ) → get_or broken r false ≡ false) → Marked hard x y f len 0 0 broken
marked_none hard x y f len broken wide blank = record {
  counted =
      let none = count-none f 0 in
      let start : 0 - y ≡ 0 = omega arith in
      let n : min y 0 ≡ 0 = omega arith in
      rw (start, n) (omega arith);
  wide = wide;
  kept = λ m some le is. absurd (omega arith);
  failed = λ r is. absurd (let e : false ≡ true = sym (blank r) ∙ is in cc);
}

-- one more end
marked_kept : (hard : Bool) (x y : ℕ) (f : ℕ → Bool) (len k got before : ℕ) (broken : List Bool) →
    got ≡ service_before f y (k + 1) → Reserved hard x y f len (k + 1) →
    Marked hard x y f len k before broken →
    Marked hard x y f len (k + 1) got broken
marked_kept hard x y f len k got before broken is r marked = record {
  counted = is;
  wide = marked.wide;
  kept = λ m some le free. elim (cases_lt k m) [
    | inl new ↦ (let e : k + 1 ≡ m = omega arith in subst (λ t. Reserved hard x y f len t) e r)
    | inr old ↦ marked.kept m some old free
  ];
  failed = marked.failed;
}

-- a mark is found at its offset alone
found_at : (xs : List Bool) (at i : ℕ) → at < length xs → i ≡ at → get_or (set xs at true) i false ≡ true
found_at xs at i within e = rw e (rw get_or-set_same refl)

not_elsewhere : (xs : List Bool) (at i : ℕ) → (i ≡ at → ⊥) →
    get_or (set xs at true) i false ≡ get_or xs i false
not_elsewhere xs at i ne = rw get_or-set_other refl

cases_eq : (m n : ℕ) → (m ≡ n) ⊎ (m ≡ n → ⊥)
cases_eq m n = elim (cases_lt m n) [
  | inl lt ↦ inr (λ e. absurd (omega arith))
  | inr ge ↦ elim (cases_lt n m) [ inl gt ↦ inr (λ e. absurd (omega arith)) | inr le ↦ inl (omega arith) ]
]

marked_lost : (hard : Bool) (x y : ℕ) (f : ℕ → Bool) (len k got before at : ℕ) (broken : List Bool) →
    at ≡ (k + 1) % y → at < y → k + 1 < len + y → got ≡ service_before f y (k + 1) →
    (Reserved hard x y f len (k + 1) → ⊥) → Marked hard x y f len k before broken →
    Marked hard x y f len (k + 1) got (set broken at true)
marked_lost hard x y f len k got before at broken phase small near is lost marked =
    let within : at < length broken = omega (arith, marked.wide) in
    record {
      counted = is;
      wide = (let e = length-set broken at true in omega (arith, marked.wide));
      kept = λ m some le free. elim (cases_lt k m) [
        | inl new ↦
            let e : m ≡ k + 1 = omega arith in
            let here : m % y ≡ at = ap (λ (t : ℕ). t % y) e ∙ sym phase in
            absurd (let no : false ≡ true = sym free ∙ found_at broken at (m % y) within here in cc)
        | inr old ↦ elim (cases_eq (m % y) at) [
          | inl here ↦
              let found = found_at broken at (m % y) within here in
              absurd (let no : false ≡ true = sym free ∙ found in cc)
          | inr ne ↦ marked.kept m some old (sym (not_elsewhere broken at (m % y) ne) ∙ free)
        ]
      ];
      failed = λ r bad. elim (cases_eq r at) [
        | inl here ↦ record { end = k + 1; near = near; phase = sym phase ∙ sym here; fails = lost }
        | inr ne ↦ marked.failed r (sym (not_elsewhere broken at r ne) ∙ bad)
      ];
    }

pub marked_next : (hard : Bool) (x y : ℕ) (f : ℕ → Bool) (len k got before at : ℕ) (broken new : List Bool)
    (kept : Bool) → at ≡ (k + 1) % y → at < y → k + 1 < len + y → got ≡ service_before f y (k + 1) →
    (kept ≡ true → Reserved hard x y f len (k + 1)) → (Reserved hard x y f len (k + 1) → kept ≡ true) →
    new ≡ (if kept then broken else set broken at true) → Marked hard x y f len k before broken →
    Marked hard x y f len (k + 1) got new
marked_next hard x y f len k got before at broken new true phase small near is does only now marked =
    subst (λ l. Marked hard x y f len (k + 1) got l) (sym now)
    (marked_kept hard x y f len k got before broken is (does refl) marked)
marked_next hard x y f len k got before at broken new false phase small near is does only now marked =
    subst (λ l. Marked hard x y f len (k + 1) got l) (sym now)
    (marked_lost hard x y f len k got before at broken phase small near is
    (λ r. let e : false ≡ true = only r in cc) marked)

-- what is tested of a piece
pub reserved-is : (hard : Bool) (x y : ℕ) (f : ℕ → Bool) (len m n got : ℕ) →
    ((t : ℕ) → len ≤ t → f t ≡ false) → m < len + y → n ≡ ticks_of y len m → got ≡ service_before f y m →
    IsReserved hard x y n got → Reserved hard x y f len m
reserved-is hard x y f len m n got past near ticks is r = record {
  is = reserved-same hard x y n _ got _ ticks (is ∙ count-ticks f y len m past near) r;
}

pub is-reserved : (hard : Bool) (x y : ℕ) (f : ℕ → Bool) (len m n got : ℕ) →
    ((t : ℕ) → len ≤ t → f t ≡ false) → m < len + y → n ≡ ticks_of y len m → got ≡ service_before f y m →
    Reserved hard x y f len m → IsReserved hard x y n got
is-reserved hard x y f len m n got past near ticks is r =
    reserved-same hard x y _ n _ got (sym ticks) (sym (is ∙ count-ticks f y len m past near)) r.is

-- at an offset without a mark every piece is reserved
piece-part : (hard : Bool) (x y : ℕ) (f : ℕ → Bool) (len m i n : ℕ) → m < len + y → m ≤ i + y → i + n ≤ m →
    i + n ≤ len → Reserved hard x y f len m → IsReserved hard x y n (count f i n)
piece-part hard x y f len m i n near starts ends within r =
    reserved-part hard x y f (m - y) (ticks_of y len m) i n (omega arith) (omega arith) r.is

pub unmarked_kept : (hard : Bool) (x y e k got : ℕ) (f : ℕ → Bool) (len : ℕ) (broken : List Bool) → x ≤ y →
    e < y →
    len + y ≤ k + 1 → Marked hard x y f len k got broken → get_or broken e false ≡ false →
    EveryPart (λ i n got. InPiece e y i n → IsReserved hard x y n got) f 0 len
unmarked_kept hard x y e k got f len broken fits small all marked free i zero lo hi piece =
    reserved-none hard x y f i fits
unmarked_kept hard x y e k got f len broken fits small all marked free i (suc n) lo hi piece =
    let m : ℕ = e + piece.cut * y in
    let starts : m ≤ i + y = piece.starts in
    let ends : i + suc n ≤ m = piece.ends in
    let phase : m % y ≡ e = add-mul-mod_self_right e piece.cut y ∙ mod-eq_of_lt small in
    let at : get_or broken (m % y) false ≡ false = ap (λ (t : ℕ). get_or broken t false) phase ∙ free in
    let kept = marked.kept m (omega arith) (omega arith) at in
    piece-part hard x y f len m i (suc n) (omega arith) starts ends hi kept

-- and where every piece is reserved there is no mark
pub kept_unmarked : (hard : Bool) (x y e k got : ℕ) (f : ℕ → Bool) (len : ℕ) (broken : List Bool) → e < y →
    Marked hard x y f len k got broken →
    EveryPart (λ i n got. InPiece e y i n → IsReserved hard x y n got) f 0 len →
    get_or broken e false ≡ false
kept_unmarked hard x y e k got f len broken small marked each = elim (cases_Bool (get_or broken e false)) [
  | inr not ↦ not
  | inl is ↦
      let b = marked.failed e is in
      let m : ℕ = b.end in
      let near = b.near in
      let phase = b.phase in
      let cut : e + m / y * y ≡ m = (let whole = div-add-mod' m y in omega arith) in
      let n : ℕ = ticks_of y len m in
      let piece : InPiece e y (m - y) n = record { cut = m / y; starts = omega arith; ends = omega arith } in
      absurd (b.fails (record { is = each (m - y) n (omega arith) (omega arith) piece }))
]

-- no marks
pub blank_at : (n r : ℕ) → get_or (replicate n false) r false ≡ false
blank_at n r = elim (cases_lt r n) [
  | inl inside ↦ get_or-replicate n r false false inside
  | inr past ↦ get_or_past (replicate n false) r false (rw (length-replicate n false) past)
]
