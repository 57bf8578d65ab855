-- The same promise of the same ticks, counted from another tick on; lists of ticks.
use Rattle.std.proofs.Common.{◌≡◌, ℕ, ◌+◌, ◌-◌, ◌*◌, ◌<◌, ◌≤◌, Bool, true, false, List, ◌++◌, length}
use Rattle.std.proofs.Common.{ap, ◌∙◌, sym, subst, arith, get_or, length-append}
use Rattle.std.proofs.lemmas.List.{get_or_append_left, get_or-append-add}
use Rattle.hls_guarantee.specs.declared.Guarantee.{Guarantee}
use Rattle.hls_guarantee.specs.declared.Guarantee.TheVariants.{All, Null, Resb, Resc, Psbe}
use Rattle.hls_chron.specs.Ticks.{count}
use Rattle.hls_guarantee.specs.Service.{EveryPart, schedule_of, ServesMore}
use Rattle.hls_guarantee.specs.Satisfaction.{IsReserved, InPiece, HasShare, Satisfies, ListSatisfies, IsSoft}
use Rattle.hls_guarantee.specs.Cap.{KeepsCap, ListKeepsCap}
use Rattle.hls_chron.specs.Parts.{all_parts, parts}
use Rattle.hls_chron.proofs.CountLaws.{count-shift}
use Rattle.hls_guarantee.proofs.Offsets.{later_offset, earlier_offset, piece_later, piece_earlier}
use Rattle.hls_guarantee.proofs.Promises.{satisfies-agree, satisfies-part, satisfies-more}
use Rattle.hls_guarantee.proofs.Promises.{keeps_cap-agree, keeps_cap-part}

-- the ticks from lo + k on, counted from lo on
pub every-earlier : (P : ℕ → ℕ → Type 0) (f : ℕ → Bool) (k lo hi : ℕ) →
    EveryPart (λ i n got. P n got) f (lo + k) (hi + k) → EveryPart (λ i n got. P n got) (λ t. f (t + k)) lo hi
every-earlier P f k lo hi each = λ i n a b.
    subst (P n) (sym (count-shift f k i n)) (each (i + k) n (omega arith) (omega arith))

pub satisfies-earlier : (g : Guarantee) (f : ℕ → Bool) (k lo hi : ℕ) → Satisfies g f (lo + k) (hi + k) →
    Satisfies g (λ t. f (t + k)) lo hi
satisfies-earlier All f k lo hi s = λ t a b. s (t + k) (omega arith) (omega arith)
satisfies-earlier Null f k lo hi s = tt
satisfies-earlier (Resc hard x y) f k lo hi s =
    every-earlier (λ n got. n ≤ y → IsReserved hard x y n got) f k lo hi s
satisfies-earlier (Resb hard x y) f k lo hi s =
    let offset = earlier_offset s.0 y k s.1 in (
      offset.0,
      offset.1.small_f,
      λ i n a b piece.
          let there = piece_later s.0 offset.0 y k i n offset.1 piece in
          let reserved = s.2 (i + k) n (omega arith) (omega arith) there in
          subst (IsReserved hard x y n) (sym (count-shift f k i n)) reserved,
    )
satisfies-earlier (Psbe s d) f k lo hi share = every-earlier (λ n got. HasShare s d n got) f k lo hi share

-- and back
back : (f : ℕ → Bool) (k i n : ℕ) → k ≤ i → count (λ t. f (t + k)) (i - k) n ≡ count f i n
back f k i n le =
    let e : i - k + k ≡ i = omega arith in
    count-shift f k (i - k) n ∙ ap (λ (t : ℕ). count f t n) e

pub every-later : (P : ℕ → ℕ → Type 0) (f : ℕ → Bool) (k lo hi : ℕ) →
    EveryPart (λ i n got. P n got) (λ t. f (t + k)) lo hi → EveryPart (λ i n got. P n got) f (lo + k) (hi + k)
every-later P f k lo hi each = λ i n a b.
    subst (P n) (back f k i n (omega arith)) (each (i - k) n (omega arith) (omega arith))

pub satisfies-later : (g : Guarantee) (f : ℕ → Bool) (k lo hi : ℕ) → Satisfies g (λ t. f (t + k)) lo hi →
    Satisfies g f (lo + k) (hi + k)
satisfies-later All f k lo hi s = λ t a b.
    let e : t - k + k ≡ t = omega arith in
    sym (ap f e) ∙ s (t - k) (omega arith) (omega arith)
satisfies-later Null f k lo hi s = tt
satisfies-later (Resc hard x y) f k lo hi s =
    every-later (λ n got. n ≤ y → IsReserved hard x y n got) f k lo hi s
satisfies-later (Resb hard x y) f k lo hi s =
    let offset = later_offset s.0 y k s.1 in (
      offset.0,
      offset.1.small_e,
      λ i n a b piece.
          let e : i ≡ i - k + k = omega arith in
          let moved = subst (λ t. InPiece offset.0 y t n) e piece in
          let there = piece_earlier offset.0 s.0 y k (i - k) n offset.1 moved in
          let reserved = s.2 (i - k) n (omega arith) (omega arith) there in
          subst (IsReserved hard x y n) (back f k i n (omega arith)) reserved,
    )
satisfies-later (Psbe s d) f k lo hi share = every-later (λ n got. HasShare s d n got) f k lo hi share

-- the like for caps
pub keeps_cap-earlier : (g : Guarantee) (f : ℕ → Bool) (k lo hi : ℕ) → KeepsCap g f (lo + k) (hi + k) →
    KeepsCap g (λ t. f (t + k)) lo hi
keeps_cap-earlier All f k lo hi c = tt
keeps_cap-earlier Null f k lo hi c = tt
keeps_cap-earlier (Resc true x y) f k lo hi c = every-earlier (λ n got. n ≤ y → got ≤ x) f k lo hi c
keeps_cap-earlier (Resc false x y) f k lo hi c = tt
keeps_cap-earlier (Resb true x y) f k lo hi c =
    every-earlier (λ n got. got * all_parts ≤ parts x y * n + 2 * x * all_parts) f k lo hi c
keeps_cap-earlier (Resb false x y) f k lo hi c = tt
keeps_cap-earlier (Psbe s d) f k lo hi c = tt

pub keeps_cap-later : (g : Guarantee) (f : ℕ → Bool) (k lo hi : ℕ) → KeepsCap g (λ t. f (t + k)) lo hi →
    KeepsCap g f (lo + k) (hi + k)
keeps_cap-later All f k lo hi c = tt
keeps_cap-later Null f k lo hi c = tt
keeps_cap-later (Resc true x y) f k lo hi c = every-later (λ n got. n ≤ y → got ≤ x) f k lo hi c
keeps_cap-later (Resc false x y) f k lo hi c = tt
keeps_cap-later (Resb true x y) f k lo hi c =
    every-later (λ n got. got * all_parts ≤ parts x y * n + 2 * x * all_parts) f k lo hi c
keeps_cap-later (Resb false x y) f k lo hi c = tt
keeps_cap-later (Psbe s d) f k lo hi c = tt

-- the list has the ticks of the schedule from lo on
pub record IsWindow (list : List Bool) (f : ℕ → Bool) (lo : ℕ) : Type 0 where
  pub same : (t : ℕ) → t < length list → schedule_of list t ≡ f (t + lo)

-- a range that begins at lo, from 0 on
from_zero : (P : ℕ → ℕ → Type 0) (lo n : ℕ) → P lo (lo + n) ≡ P (0 + lo) (n + lo)
from_zero P lo n =
    let start : lo ≡ 0 + lo = omega arith in
    let end : lo + n ≡ n + lo = omega arith in
    ap (λ (t : ℕ). P t (lo + n)) start ∙ ap (λ (t : ℕ). P (0 + lo) t) end

pub window-satisfies : (g : Guarantee) (list : List Bool) (f : ℕ → Bool) (lo : ℕ) → IsWindow list f lo →
    Satisfies g f lo (lo + length list) → ListSatisfies g list
window-satisfies g list f lo w s =
    let moved : Satisfies g f (0 + lo) (length list + lo) =
    subst (λ T. T) (from_zero (Satisfies g f) lo (length list)) s in
    satisfies-agree g (λ t. f (t + lo)) (schedule_of list) 0 (length list) (λ t a b. sym (w.same t b))
    (satisfies-earlier g f lo 0 (length list) moved)

pub satisfies-window : (g : Guarantee) (list : List Bool) (f : ℕ → Bool) (lo : ℕ) → IsWindow list f lo →
    ListSatisfies g list → Satisfies g f lo (lo + length list)
satisfies-window g list f lo w s =
    let there = satisfies-later g f lo 0 (length list)
    (satisfies-agree g (schedule_of list) (λ t. f (t + lo)) 0 (length list) (λ t a b. w.same t b) s) in
    subst (λ T. T) (sym (from_zero (Satisfies g f) lo (length list))) there

pub window-keeps_cap : (g : Guarantee) (list : List Bool) (f : ℕ → Bool) (lo : ℕ) → IsWindow list f lo →
    KeepsCap g f lo (lo + length list) → ListKeepsCap g list
window-keeps_cap g list f lo w c =
    let moved : KeepsCap g f (0 + lo) (length list + lo) =
    subst (λ T. T) (from_zero (KeepsCap g f) lo (length list)) c in
    keeps_cap-agree g (λ t. f (t + lo)) (schedule_of list) 0 (length list) (λ t a b. sym (w.same t b))
    (keeps_cap-earlier g f lo 0 (length list) moved)

pub keeps_cap-window : (g : Guarantee) (list : List Bool) (f : ℕ → Bool) (lo : ℕ) → IsWindow list f lo →
    ListKeepsCap g list → KeepsCap g f lo (lo + length list)
keeps_cap-window g list f lo w c =
    let there = keeps_cap-later g f lo 0 (length list)
    (keeps_cap-agree g (schedule_of list) (λ t. f (t + lo)) 0 (length list) (λ t a b. w.same t b) c) in
    subst (λ T. T) (sym (from_zero (KeepsCap g f) lo (length list))) there

-- a part of a list
part-window : (before part after : List Bool) →
    IsWindow part (schedule_of (before ++ (part ++ after))) (length before)
part-window before part after = record {
  same = λ t lt.
      let there : get_or (before ++ (part ++ after)) (length before + t) false ≡
      get_or (part ++ after) t false =
      get_or-append-add before (part ++ after) t false in
      let here : get_or (part ++ after) t false ≡ get_or part t false =
      get_or_append_left part after false t lt in
      let e : length before + t ≡ t + length before = omega arith in
      sym here ∙ sym there ∙ ap (λ n. get_or (before ++ (part ++ after)) n false) e;
}

pub list-part : (g : Guarantee) (before part after : List Bool) →
    ListSatisfies g (before ++ (part ++ after)) →
    ListSatisfies g part
list-part g before part after s =
    let whole : List Bool = before ++ (part ++ after) in
    let long = length-append before (part ++ after) in
    let inner = length-append part after in
    let n : ℕ = length before in
    let fits : n + length part ≤ length whole = omega arith in
    window-satisfies g part (schedule_of whole) n (part-window before part after)
    (satisfies-part g (schedule_of whole) 0 (length whole) n (n + length part) (omega arith) fits s)

pub list-cap : (g : Guarantee) (before part after : List Bool) → ListKeepsCap g (before ++ (part ++ after)) →
    ListKeepsCap g part
list-cap g before part after c =
    let whole : List Bool = before ++ (part ++ after) in
    let long = length-append before (part ++ after) in
    let inner = length-append part after in
    let n : ℕ = length before in
    let fits : n + length part ≤ length whole = omega arith in
    window-keeps_cap g part (schedule_of whole) n (part-window before part after)
    (keeps_cap-part g (schedule_of whole) 0 (length whole) n (n + length part) (omega arith) fits c)

pub list-more : (g : Guarantee) (less more : List Bool) → IsSoft g → ServesMore less more →
    ListSatisfies g less →
    ListSatisfies g more
list-more g less more soft serves s =
    subst (λ n. Satisfies g (schedule_of more) 0 n) serves.same_length
    (satisfies-more g (schedule_of less) (schedule_of more) 0 (length less) soft serves.served s)
