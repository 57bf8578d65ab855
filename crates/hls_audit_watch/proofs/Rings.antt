-- Counts of service in a ring.
use Rattle.std.proofs.Common.{◌≡◌, ℕ, suc, ◌+◌, ◌-◌, ◌*◌, ◌/◌, ◌%◌, ◌<◌, ◌≤◌, Bool, List, [], ◌∷◌, ◌++◌}
use Rattle.std.proofs.Common.{length, ◌∙◌, sym, ap, arith, inl, inr, get_or, set, div-add-mod', refl}
use Rattle.std.proofs.Common.{get_or-set_same, get_or-set_other, length-set}
use Rattle.std.proofs.Math.Nat.{mul-le-mul_left, mod-eq_of_lt, mod_self, suc-mod, add-mul-mod_self_right}
use Rattle.std.proofs.lemmas.Bool.{cases_lt}
use Rattle.hls_chron.specs.Ticks.{one_if, count}
use Rattle.hls_guarantee.specs.Service.{schedule_of}
use Rattle.hls_chron.proofs.CountLaws.{count-none, count-add}
use Rattle.hls_guarantee.proofs.Offsets.{fewer}
use Rattle.hls_audit_watch.specs.Inside.Counts.{AreCounts}
use Rattle.hls_audit_watch.proofs.Endings.{length-more, count-old, count-new}

-- two ticks less than a period apart have places of their own
pub apart : (w i j : ℕ) → i < j → j < i + w → i % w ≡ j % w → ⊥
apart w i j after near same =
    let first = div-add-mod' i w in
    let second = div-add-mod' j w in
    elim (cases_lt (i / w) (j / w)) [
      | inl lt ↦ let far = fewer w (i / w) (j / w) lt in omega arith
      | inr le ↦
          let less : w * (j / w) ≤ w * (i / w) = mul-le-mul_left w le in
          let a : w * (j / w) ≡ j / w * w = omega arith in
          let b : w * (i / w) ≡ i / w * w = omega arith in
          omega arith
    ]

-- the place behind one
pub next_inside : (w place tick : ℕ) → place + 1 < w → place ≡ tick % w → place + 1 ≡ (tick + 1) % w
next_inside w place tick lt is =
    let up : tick + 1 ≡ suc tick = omega arith in
    let here : suc (tick % w) ≡ place + 1 = omega arith in
    sym (ap (λ (n : ℕ). n % w) up ∙ (suc-mod tick w ∙ (ap (λ (n : ℕ). n % w) here ∙ mod-eq_of_lt lt)))

pub next_around : (w place tick : ℕ) → place + 1 ≡ w → place ≡ tick % w → 0 ≡ (tick + 1) % w
next_around w place tick end is =
    let up : tick + 1 ≡ suc tick = omega arith in
    let here : suc (tick % w) ≡ w = omega arith in
    sym (ap (λ (n : ℕ). n % w) up ∙ (suc-mod tick w ∙ (ap (λ (n : ℕ). n % w) here ∙ mod_self w)))

-- a period earlier
pub place_earlier : (w start end : ℕ) → start + w ≡ end → end % w ≡ start % w
place_earlier w start end is =
    let more : end ≡ start + 1 * w = omega arith in
    ap (λ (n : ℕ). n % w) more ∙ add-mul-mod_self_right start 1 w

-- no tick
pub counts_none : (w : ℕ) (before : List ℕ) → 1 ≤ w → length before ≡ w → get_or before 0 0 ≡ 0 →
    AreCounts w 0 0 0 before []
counts_none w before some room blank = record {
  some = some;
  room = room;
  few = omega arith;
  pushed_is = refl;
  place_is = sym (mod-eq_of_lt (let s : 0 < w = omega arith in s));
  total_is = sym (count-none (schedule_of []) 0);
  before_is = λ t le near.
      let e : t ≡ 0 = omega arith in
      let z : t % w ≡ 0 = omega arith in
      rw z (rw e (blank ∙ sym (count-none (schedule_of []) 0)));
}

-- the service from a tick on
pub counts_since : (w k p total : ℕ) (before : List ℕ) (l : List Bool) (t : ℕ) → AreCounts w k p total before l →
    t ≤ length l → length l < t + w →
    get_or before (t % w) 0 + count (schedule_of l) t (length l - t) ≡ total
counts_since w k p total before l t c le near =
    let split = count-add (schedule_of l) 0 t (length l - t) in
    let all : t + (length l - t) ≡ length l = omega arith in
    let whole : count (schedule_of l) 0 (t + (length l - t)) ≡ count (schedule_of l) 0 (length l) =
    ap (λ (n : ℕ). count (schedule_of l) 0 n) all in
    let from : count (schedule_of l) (0 + t) (length l - t) ≡ count (schedule_of l) t (length l - t) =
    ap (λ (n : ℕ). count (schedule_of l) n (length l - t)) (let s : 0 + t ≡ t = omega arith in s) in
    let total_is = c.total_is in
    let before_is = c.before_is t le near in
    omega arith

-- one tick more
pub counts_more : (w k p next total : ℕ) (before : List ℕ) (l : List Bool) (b : Bool) →
    AreCounts w k p total before l → length l < 1000000 → next ≡ (length l + 1) % w →
    AreCounts w (k + 1) next (total + one_if b) (set before next (total + one_if b)) (l ++ b ∷ [])
counts_more w k p next total before l b c few placed =
    let long = length-more l b in
    let some = c.some in
    let room = c.room in
    let pushed : k ≡ length l = c.pushed_is in
    let at : ℕ = next in
    let inside : at < length before = omega arith in
    let now : count (schedule_of (l ++ b ∷ [])) 0 (suc (length l)) ≡ count (schedule_of l) 0 (length l) + one_if b =
    count-new l b 0 (length l) (omega arith) in
    let e : suc (length l) ≡ length (l ++ b ∷ []) = omega arith in
    let all : count (schedule_of (l ++ b ∷ [])) 0 (length (l ++ b ∷ [])) ≡ total + one_if b =
    ap (λ (n : ℕ). count (schedule_of (l ++ b ∷ [])) 0 n) (sym e) ∙
    (now ∙ ap (λ (n : ℕ). n + one_if b) (sym c.total_is)) in
    record {
      some = some;
      room = length-set before at (total + one_if b) ∙ room;
      few = omega arith;
      pushed_is = omega arith;
      place_is = placed ∙ ap (λ (n : ℕ). n % w) (sym long);
      total_is = sym all;
      before_is = λ t le near. elim (cases_lt (length l) t) [
        | inl last ↦
            let same : t ≡ length l + 1 = omega arith in
            let here : t % w ≡ at = ap (λ (n : ℕ). n % w) same ∙ sym placed in
            let end : t ≡ length (l ++ b ∷ []) = omega arith in
            rw here (rw get_or-set_same (sym all ∙ ap (λ (n : ℕ). count (schedule_of (l ++ b ∷ [])) 0 n) (sym end)))
        | inr old ↦
            let ne : t % w ≡ at → ⊥ = λ same. apart w t (length l + 1) (omega arith) (omega arith) (same ∙ placed) in
            rw get_or-set_other (c.before_is t old (omega arith) ∙ sym (count-old l b 0 t (omega arith)))
      ];
    }
