-- What one tick more makes of the pieces of a list.
use Rattle.std.proofs.Common.{◌≡◌, ℕ, zero, suc, ◌+◌, ◌-◌, ◌*◌, ◌/◌, ◌%◌, ◌<◌, ◌≤◌, Bool, true, false, List}
use Rattle.std.proofs.Common.{[], ◌∷◌, ◌++◌, length, refl, sym, ap, ◌∙◌, subst, arith, inl, inr, get_or, set, ◌⊎◌}
use Rattle.std.proofs.Common.{get_or-set_same, get_or-set_other, div-add-mod'}
use Rattle.std.specs.Prelude.{min}
use Rattle.std.proofs.lemmas.Bool.{cases_lt}
use Rattle.std.proofs.Math.Nat.{mod-eq_of_lt, add-mul-mod_self_right}
use Rattle.hls_chron.specs.Ticks.{one_if, count}
use Rattle.hls_guarantee.specs.Service.{schedule_of}
use Rattle.hls_guarantee.specs.Satisfaction.{IsReserved, InPiece}
use Rattle.hls_guarantee.proofs.Slides.{reserved-part, reserved-none, reserved-same}
use Rattle.hls_audit_watch.specs.Inside.Cuts.{IsReservedSince, IsKeptAt, AreCuts, AreCutting}
use Rattle.hls_audit_watch.proofs.Endings.{length-more, count-old, count-new, every-before, every-more}

-- a part of ticks that are reserved is reserved
pub since-part : (hard : Bool) (x y : ℕ) (l : List Bool) (t i n : ℕ) → t ≤ i → i + n ≤ length l →
    IsReservedSince hard x y l t → IsReserved hard x y n (count (schedule_of l) i n)
since-part hard x y l t i n lo hi r =
    reserved-part hard x y (schedule_of l) t (length l - t) i n lo (omega arith) r.is

since-later : (hard : Bool) (x y : ℕ) (l : List Bool) (t u : ℕ) → t ≤ u → u ≤ length l →
    IsReservedSince hard x y l t → IsReservedSince hard x y l u
since-later hard x y l t u le within r =
    record { is = since-part hard x y l t u (length l - u) le (omega arith) r }

since-before : (hard : Bool) (x y : ℕ) (l : List Bool) (b : Bool) (t : ℕ) → t ≤ length l →
    IsReservedSince hard x y (l ++ b ∷ []) t → IsReservedSince hard x y l t
since-before hard x y l b t le r =
    let long = length-more l b in
    record {
      is = subst (IsReserved hard x y (length l - t)) (count-old l b t (length l - t) (omega arith))
          (since-part hard x y (l ++ b ∷ []) t t (length l - t) (omega arith) (omega arith) r);
    }

kept-before : (hard : Bool) (x y w : ℕ) (l : List Bool) (b : Bool) (e : ℕ) →
    IsKeptAt hard x y w (l ++ b ∷ []) e → IsKeptAt hard x y w l e
kept-before hard x y w l b e k =
    record { each = every-before (λ i n got. InPiece e w i n → IsReserved hard x y n got) l b k.each }

-- where the whole list is reserved, each part is
whole-part : (hard : Bool) (x y : ℕ) (l : List Bool) (i n : ℕ) → x ≤ y → i + n ≤ length l →
    (0 < length l → IsReservedSince hard x y l 0) → IsReserved hard x y n (count (schedule_of l) i n)
whole-part hard x y l i zero fits hi whole = reserved-none hard x y (schedule_of l) i fits
whole-part hard x y l i (suc n) fits hi whole =
    since-part hard x y l 0 i (suc n) (omega arith) hi (whole (omega arith))

pub whole-kept : (hard : Bool) (x y w : ℕ) (l : List Bool) (e : ℕ) → x ≤ y →
    (0 < length l → IsReservedSince hard x y l 0) → IsKeptAt hard x y w l e
whole-kept hard x y w l e fits whole =
    record { each = λ i n lo hi piece. whole-part hard x y l i n fits hi whole }

-- and the first piece of an offset past the end is the whole list
pub kept-whole : (hard : Bool) (x y w : ℕ) (l : List Bool) (e : ℕ) → e < w → length l ≤ e →
    IsKeptAt hard x y w l e → IsReservedSince hard x y l 0
kept-whole hard x y w l e small past k =
    let all : length l - 0 ≡ length l = omega arith in
    let piece : InPiece e w 0 (length l - 0) =
    record { cut = 0; starts = omega arith; ends = omega arith } in
    record { is = k.each 0 (length l - 0) (omega arith) (omega arith) piece }

-- a mark is found at its place alone
found : (xs : List Bool) (at i : ℕ) (v : Bool) → at < length xs → i ≡ at → get_or (set xs at v) i false ≡ v
found xs at i v within e = rw e (rw get_or-set_same refl)

elsewhere : (xs : List Bool) (at i : ℕ) (v : Bool) → (i ≡ at → ⊥) →
    get_or (set xs at v) i false ≡ get_or xs i false
elsewhere xs at i v ne = rw get_or-set_other refl

cases_eq : (m n : ℕ) → (m ≡ n) ⊎ (m ≡ n → ⊥)
cases_eq m n = elim (cases_lt m n) [
  | inl lt ↦ inr (λ e. absurd (omega arith))
  | inr ge ↦ elim (cases_lt n m) [ inl gt ↦ inr (λ e. absurd (omega arith)) | inr le ↦ inl (omega arith) ]
]

-- no tick
pub cuts_none : (hard : Bool) (x y w : ℕ) (broken : List Bool) → AreCuts hard x y w 0 broken 0 []
cuts_none hard x y w broken = record {
  within = omega arith;
  near = omega arith;
  since = λ t lo hi. absurd (omega arith);
  marked = λ t lt near. absurd (omega arith);
  whole = λ le lt. absurd (omega arith);
  kept = λ e lt is. absurd (omega arith);
  failed = λ e lt is k. absurd (omega arith);
  passed = λ e lt. absurd (omega arith);
  free_within = omega arith;
}

-- a tick begins at which some offset is cut for the first time
pub begin_early : (hard : Bool) (x y w from : ℕ) (broken : List Bool) (free : ℕ) (l : List Bool) (b lost : Bool) →
    x ≤ y → length broken ≡ w → length l < w → (lost ≡ true → 0 < from) → (lost ≡ false → from ≡ 0) →
    AreCuts hard x y w from broken free l →
    AreCutting hard x y w from (set broken (length l) lost) free l b
begin_early hard x y w from broken free l b lost fits room early told untold c =
    let within = c.within in
    let free_within = c.free_within in
    let inside : length l < length broken = omega arith in
    record {
      within = omega arith;
      near = omega arith;
      marked = λ t lt near.
          let small : t % w ≡ t = mod-eq_of_lt (let s : t < w = omega arith in s) in
          let ne : t % w ≡ length l → ⊥ = λ e. absurd (omega arith) in
          elsewhere broken (length l) (t % w) lost ne ∙ c.marked t lt (omega arith);
      whole = λ le some r. c.whole (omega arith) some (since-before hard x y l b 0 (omega arith) r);
      before = λ e lt is. elim (cases_eq e (length l)) [
        | inl here ↦
            let not : lost ≡ false = sym (found broken (length l) e lost inside here) ∙ is in
            let none = untold not in
            whole-kept hard x y w l e fits (λ some. c.since 0 (omega arith) some)
        | inr ne ↦ c.kept e (omega arith) (sym (elsewhere broken (length l) e lost ne) ∙ is)
      ];
      failed = λ e lt is k. elim (cases_eq e (length l)) [
        | inl here ↦
            let bad : lost ≡ true = sym (found broken (length l) e lost inside here) ∙ is in
            let some = told bad in
            let old = kept-before hard x y w l b e k in
            c.whole (omega arith) some (kept-whole hard x y w l e (omega arith) (omega arith) old)
        | inr ne ↦
            c.failed e (omega arith) (sym (elsewhere broken (length l) e lost ne) ∙ is)
            (kept-before hard x y w l b e k)
      ];
      passed = λ e lt.
          let ne : e ≡ length l → ⊥ = λ s. absurd (omega arith) in
          elsewhere broken (length l) e lost ne ∙ c.passed e lt;
      free_within = free_within;
    }

-- a tick begins at which the piece from a period before on is left
pub begin_late : (hard : Bool) (x y w from next : ℕ) (broken : List Bool) (free : ℕ) (l : List Bool) (b : Bool) →
    w ≤ length l → (from + w ≤ length l → next ≡ from + 1) → (length l < from + w → next ≡ from) →
    AreCuts hard x y w from broken free l → AreCutting hard x y w next broken free l b
begin_late hard x y w from next broken free l b late left stays c =
    let within = c.within in
    let near_old = c.near in
    let free_within = c.free_within in
    elim (cases_lt (length l) (from + w)) [
      | inl on ↦
          let same = stays on in record {
            within = omega arith;
            near = omega arith;
            marked = λ t lt near. c.marked t (omega arith) (omega arith);
            whole = λ le some r. absurd (omega arith);
            before = λ e lt is. c.kept e (omega arith) is;
            failed = λ e lt is k. c.failed e (omega arith) is (kept-before hard x y w l b e k);
            passed = c.passed;
            free_within = free_within;
          }
      | inr off ↦
          let more = left off in record {
            within = omega arith;
            near = omega arith;
            marked = λ t lt near. c.marked t (omega arith) (omega arith);
            whole = λ le some r. absurd (omega arith);
            before = λ e lt is. c.kept e (omega arith) is;
            failed = λ e lt is k. c.failed e (omega arith) is (kept-before hard x y w l b e k);
            passed = c.passed;
            free_within = free_within;
          }
    ]

-- the piece from a tick on to the end is one of the offset of the tick
lost-at : (hard : Bool) (x y w from : ℕ) (l : List Bool) (e : ℕ) → length l ≤ from + w → from ≤ length l →
    e ≡ from % w → IsKeptAt hard x y w l e → IsReservedSince hard x y l from
lost-at hard x y w from l e near within is k =
    let whole = div-add-mod' from w in
    let next : suc (from / w) * w ≡ from / w * w + w = omega arith in
    let piece : InPiece e w from (length l - from) =
    record { cut = suc (from / w); starts = omega arith; ends = omega arith } in
    record { is = k.each from (length l - from) (omega arith) (omega arith) piece }

-- the piece from a tick on is lost
pub mark_one : (hard : Bool) (x y w from : ℕ) (broken : List Bool) (free : ℕ) (l : List Bool) (b : Bool) →
    1 ≤ w → length broken ≡ w → from ≤ length l → (IsReservedSince hard x y (l ++ b ∷ []) from → ⊥) →
    AreCutting hard x y w from broken free l b →
    AreCutting hard x y w (from + 1) (set broken (from % w) true) free l b
mark_one hard x y w from broken free l b some room on lost c =
    let at : ℕ = from % w in
    let inside : at < length broken = omega arith in
    let long = length-more l b in
    let near_old = c.near in
    let keeps : (e : ℕ) → get_or broken e false ≡ true → get_or (set broken at true) e false ≡ true =
    λ e is. elim (cases_eq e at) [
      | inl here ↦ found broken at e true inside here
      | inr ne ↦ elsewhere broken at e true ne ∙ is
    ] in
    record {
      within = omega arith;
      near = omega arith;
      marked = λ t lt near. elim (cases_lt t from) [
        | inl old ↦ keeps (t % w) (c.marked t old near)
        | inr new ↦
            let here : t ≡ from = omega arith in
            found broken at (t % w) true inside (ap (λ (n : ℕ). n % w) here)
      ];
      whole = λ le pos r. elim (cases_lt 0 from) [
        | inl old ↦ c.whole le old r
        | inr new ↦
            let z : 0 ≡ from = omega arith in
            lost (subst (λ t. IsReservedSince hard x y (l ++ b ∷ []) t) z r)
      ];
      before = λ e lt is. elim (cases_eq e at) [
        | inl here ↦ absurd (let no : false ≡ true = sym is ∙ found broken at e true inside here in cc)
        | inr ne ↦ c.before e lt (sym (elsewhere broken at e true ne) ∙ is)
      ];
      failed = λ e lt is k. elim (cases_eq e at) [
        | inl here ↦ lost (lost-at hard x y w from (l ++ b ∷ []) e (omega arith) (omega arith) here k)
        | inr ne ↦ c.failed e lt (sym (elsewhere broken at e true ne) ∙ is) k
      ];
      passed = λ e lt. keeps e (c.passed e lt);
      free_within = c.free_within;
    }

-- the tick that is a period before the end of a piece
start-of : (e w cut : ℕ) → e < w → w ≤ e + cut * w →
    (t : ℕ) × (t + w ≡ e + cut * w) × (t % w ≡ e)
start-of e w zero small far = absurd (let z : 0 * w ≡ 0 = omega arith in omega arith)
start-of e w (suc cut) small far =
    let next : suc cut * w ≡ cut * w + w = omega arith in
    (e + cut * w, omega arith, add-mul-mod_self_right e cut w ∙ mod-eq_of_lt small)

reaches : (e w cut n : ℕ) → e < n → n ≤ e + cut * w → w ≤ e + cut * w
reaches e w zero n lt le = absurd (let z : 0 * w ≡ 0 = omega arith in omega arith)
reaches e w (suc cut) n lt le = let next : suc cut * w ≡ cut * w + w = omega arith in omega arith

-- the tick is taken in
kept-now : (hard : Bool) (x y w from : ℕ) (broken : List Bool) (free : ℕ) (l : List Bool) (b : Bool) → x ≤ y →
    (from ≤ length l → IsReservedSince hard x y (l ++ b ∷ []) from) →
    AreCutting hard x y w from broken free l b →
    (e : ℕ) → e < min (length l + 1) w → get_or broken e false ≡ false → IsKeptAt hard x y w (l ++ b ∷ []) e
kept-now hard x y w from broken free l b fits since c e small is =
    let old = c.before e small is in
    let long = length-more l b in
    record {
      each = every-more (λ i n got. InPiece e w i n → IsReserved hard x y n got) l b old.each
          (λ i piece. record { enough = omega arith; capped = λ h. omega arith })
          (λ i n end piece.
          let starts = piece.starts in
          let ends = piece.ends in
          let far = reaches e w piece.cut (length l + 1) (omega arith) (omega arith) in
          let at = start-of e w piece.cut (omega arith) far in
          let t : ℕ = at.0 in
          let back : t + w ≡ e + piece.cut * w = at.1 in
          elim (cases_lt t from) [
            | inl before ↦
                let bad = c.marked t before (omega arith) in
                let same = ap (λ (k : ℕ). get_or broken k false) at.2 in
                absurd (let no : false ≡ true = sym is ∙ sym same ∙ bad in cc)
            | inr after ↦
                since-part hard x y (l ++ b ∷ []) from i (suc n) (omega arith) (omega arith)
                (since (omega arith))
          ]);
    }

pub cuts_more : (hard : Bool) (x y w from : ℕ) (broken : List Bool) (free next : ℕ) (l : List Bool) (b : Bool) →
    x ≤ y → (from ≤ length l → IsReservedSince hard x y (l ++ b ∷ []) from) →
    ((e : ℕ) → e < next → get_or broken e false ≡ true) → next ≤ min (length l + 1) w →
    AreCutting hard x y w from broken free l b → AreCuts hard x y w from broken next (l ++ b ∷ [])
cuts_more hard x y w from broken free next l b fits since passed within c =
    let long = length-more l b in
    let in_old = c.within in
    let near_old = c.near in
    record {
      within = omega arith;
      near = omega arith;
      since = λ t lo hi. since-later hard x y (l ++ b ∷ []) from t lo (omega arith) (since (omega arith));
      marked = λ t lt near. c.marked t lt (omega arith);
      whole = λ le some. c.whole (omega arith) some;
      kept = λ e small is. kept-now hard x y w from broken free l b fits since c e (omega arith) is;
      failed = λ e small is. c.failed e (omega arith) is;
      passed = passed;
      free_within = omega arith;
    }

-- the first offset that is not broken
pub free_kept : (hard : Bool) (x y w from : ℕ) (broken : List Bool) (free : ℕ) (l : List Bool) →
    AreCuts hard x y w from broken free l → free < min (length l) w → get_or broken free false ≡ false →
    (e : ℕ) × (e < w) × IsKeptAt hard x y w l e
free_kept hard x y w from broken free l c lt is = (free, omega arith, c.kept free lt is)

-- and where there is none, no offset is kept
free_first : (hard : Bool) (x y w from : ℕ) (broken : List Bool) (free : ℕ) (l : List Bool) (e : ℕ) →
    AreCuts hard x y w from broken free l → e < min (length l) w → IsKeptAt hard x y w l e → free ≤ e
free_first hard x y w from broken free l e c lt k = elim (cases_lt e free) [
  | inr le ↦ le
  | inl before ↦ absurd (c.failed e lt (c.passed e before) k)
]

pub kept_free : (hard : Bool) (x y w from : ℕ) (broken : List Bool) (free : ℕ) (l : List Bool) (e : ℕ) →
    x ≤ y → 1 ≤ w → 0 < length l → AreCuts hard x y w from broken free l → e < w → IsKeptAt hard x y w l e →
    free < min (length l) w
kept_free hard x y w from broken free l e fits some long c small k = elim (cases_lt e (length l)) [
  | inl cut ↦ let first = free_first hard x y w from broken free l e c (omega arith) k in omega arith
  | inr past ↦
      let whole = kept-whole hard x y w l e small past k in
      let all = whole-kept hard x y w l 0 fits (λ pos. whole) in
      let first = free_first hard x y w from broken free l 0 c (omega arith) all in
      omega arith
]

-- what is tested of the piece from a tick on
piece-got : (l : List Bool) (b : Bool) (from : ℕ) → from ≤ length l →
    count (schedule_of (l ++ b ∷ [])) from (length (l ++ b ∷ []) - from) ≡
    count (schedule_of l) from (length l - from) + one_if b
piece-got l b from le =
    let long = length-more l b in
    let n : length (l ++ b ∷ []) - from ≡ suc (length l - from) = omega arith in
    ap (λ (k : ℕ). count (schedule_of (l ++ b ∷ [])) from k) n ∙ count-new l b from (length l - from) (omega arith)

pub met_since : (hard : Bool) (x y : ℕ) (l : List Bool) (b : Bool) (from n got : ℕ) → from ≤ length l →
    n ≡ length l + 1 - from → got ≡ count (schedule_of l) from (length l - from) + one_if b →
    IsReserved hard x y n got → IsReservedSince hard x y (l ++ b ∷ []) from
met_since hard x y l b from n got le len is r =
    let long = length-more l b in
    record { is = reserved-same hard x y n _ got _ (omega arith) (is ∙ sym (piece-got l b from le)) r }

pub since_met : (hard : Bool) (x y : ℕ) (l : List Bool) (b : Bool) (from n got : ℕ) → from ≤ length l →
    n ≡ length l + 1 - from → got ≡ count (schedule_of l) from (length l - from) + one_if b →
    IsReservedSince hard x y (l ++ b ∷ []) from → IsReserved hard x y n got
since_met hard x y l b from n got le len is r =
    let long = length-more l b in
    reserved-same hard x y _ n _ got (omega arith) (piece-got l b from le ∙ sym is) r.is

-- and of the offsets, once the broken ones at the front are passed
pub cuts_taken : (hard : Bool) (x y w from : ℕ) (broken : List Bool) (free later : ℕ) (left : List Bool)
    (next most : ℕ) (l : List Bool) (b : Bool) → x ≤ y → later ≡ from → left ≡ broken →
    most ≡ min (length l + 1) w → (from ≤ length l → IsReservedSince hard x y (l ++ b ∷ []) from) →
    ((e : ℕ) → e < next → get_or left e false ≡ true) → next ≤ most →
    AreCutting hard x y w from broken free l b → AreCuts hard x y w later left next (l ++ b ∷ [])
cuts_taken hard x y w from broken free later left next most l b fits same_from same_broken is since passed within c =
    rw (same_from, same_broken)
    (cuts_more hard x y w from broken free next l b fits since
    (λ e lt. sym (ap (λ (k : List Bool). get_or k e false) same_broken) ∙ passed e lt) (omega arith) c)
