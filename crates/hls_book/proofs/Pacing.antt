-- How each server keeps its pace, and that the deadline of a seat that asks lies ahead.
use Rattle.std.proofs.Common.{◌≡◌, ◌≢◌, ℕ, ◌+◌, ◌-◌, ◌<◌, ◌≤◌, zero, suc, refl, sym, arith, inl, inr, ap, ◌∙◌}
use Rattle.std.proofs.Common.{Bool, true, false, subst}
use Rattle.std.specs.Prelude.{if◌then◌else◌}
use Rattle.std.proofs.lemmas.Bool.{cases_Bool}
use Rattle.hls_chron.specs.Ticks.{one_if}
use Rattle.hls_kinds.specs.declared.reservations.Reservation.{Reservation}
use Rattle.hls_chron.specs.Parts.{all_parts}
use Rattle.hls_book.specs.declared.server.Server.{Server}
use Rattle.hls_book.specs.Servers.{marked, charged, replenished, is_due}
use Rattle.hls_book.specs.Recomputed.{server_before, server_within}
use Rattle.hls_book.specs.Stays.{IsPaced}
use Rattle.hls_book.proofs.Claimed.{due-off-not, due-on-not}
use Rattle.hls_book.proofs.Replenishing.{replenished-off, replenished-set, replenished-kept}
use Rattle.hls_book.proofs.Deadlines.{last-zero, within_is, before_is}

-- each event keeps the pace
pub paced-marked : (c : Server) (now : ℕ) (on : Bool) → IsPaced c now → IsPaced (marked c on) now
paced-marked c now on p = record { narrow = p.narrow; near = p.near; small = p.small; paced = p.paced }

pub paced-replenished : (whole : ℕ) (c : Server) (asks : Bool) (now : ℕ) → IsPaced c now
    → IsPaced (replenished whole c asks now) now
paced-replenished whole c false now p = rw (replenished-off whole c now) (paced-marked c now false p)
paced-replenished whole c true now p = elim (cases_Bool (is_due whole c now)) [
  | inl is ↦
      rw (replenished-set whole c now is)
      (record { narrow = p.narrow; near = omega arith; small = omega arith; paced = omega arith })
  | inr not ↦ rw (replenished-kept whole c now not) (paced-marked c now true p)
]

pub paced-tick : (c : Server) (now : ℕ) → IsPaced c now → IsPaced c (now + 1)
paced-tick c now p = record {
  narrow = p.narrow;
  near = omega (arith, p.near);
  small = p.small;
  paced = omega (arith, p.paced);
}

pub paced-charged : (c : Server) (now : ℕ) → IsPaced c now → IsPaced (charged c) (now + 1)
paced-charged c now p = record {
  narrow = p.narrow;
  near = omega (arith, p.near);
  small = omega (arith, p.small);
  paced = omega (arith, p.paced, p.narrow);
}

-- each server keeps its pace
paced_start : (s : Reservation) (asks serves : ℕ → Bool) → s.x ≤ s.y
    → IsPaced (server_before s asks serves 0) (s.since + 0)
paced_start s asks serves le = rw (last-zero s asks serves)
    (record { narrow = le; near = omega arith; small = omega arith; paced = omega arith })

pub paced_within : (s : Reservation) (asks serves : ℕ → Bool) (n : ℕ)
    → IsPaced (server_before s asks serves n) (s.since + n) → IsPaced (server_within s asks serves n)
    (s.since + n)
paced_within s asks serves n p = subst (λ (c : Server). IsPaced c (s.since + n)) (within_is s asks serves n)
    (paced-replenished all_parts (server_before s asks serves n) (asks (s.since + n)) (s.since + n) p)

paced_after : (c : Server) (g : Bool) (t : ℕ) → IsPaced c t → IsPaced (if g then charged c else c) (t + 1)
paced_after c true t p = paced-charged c t p
paced_after c false t p = paced-tick c t p

pub paced_before : (s : Reservation) (asks serves : ℕ → Bool) (n : ℕ) → s.x ≤ s.y
    → ((m : ℕ) → m < n → serves (s.since + m) ≡ true → asks (s.since + m) ≡ true)
    → IsPaced (server_before s asks serves n) (s.since + n)
paced_before s asks serves zero le sure = paced_start s asks serves le
paced_before s asks serves (suc n) le sure =
    let p = paced_within s asks serves n (paced_before s asks serves n le (λ m lt. sure m (omega arith))) in
    let a = paced_after (server_within s asks serves n) (serves (s.since + n)) (s.since + n) p in
    let step : s.since + n + 1 ≡ s.since + suc n = omega arith in
    subst (λ (c : Server). IsPaced c (s.since + suc n))
    (sym (before_is s asks serves n (sure n (omega arith)))) (rw step at a)

-- one tick of a run
pub after_q : (c : Server) (g : Bool) → (if g then charged c else c).budget ≡ c.budget - one_if g
after_q c true = refl
after_q c false = omega arith

-- the deadline of a seat that asks is ahead, by the recomputed deadline alone
replenished_later : (whole : ℕ) (c : Server) (now : ℕ) → 0 < c.y → (c.asked ≡ true → now ≤ c.deadline)
    → now + 1 ≤ (replenished whole c true now).deadline
replenished_later whole c now wide ahead = elim (cases_Bool (is_due whole c now)) [
  | inl is ↦ rw (replenished-set whole c now is) (omega arith)
  | inr not ↦ rw (replenished-kept whole c now not) (elim (cases_Bool c.asked) [
    | inl on ↦
        let ne : c.deadline ≢ now = due-on-not whole c.x c.y c.parts c.budget c.deadline now (rw on at not) in
        let le = ahead on in
        omega arith
    | inr off ↦ let h = due-off-not whole c.x c.y c.parts c.budget c.deadline now (rw off at not) in
        omega (arith, h.0)
  ])
]

pub before_ahead : (s : Reservation) (asks serves : ℕ → Bool) (m : ℕ) → 0 < s.y
    → (server_before s asks serves m).asked ≡ true → s.since + m ≤ (server_before s asks serves m).deadline
before_ahead s asks serves zero wide asked = absurd (cc)
before_ahead s asks serves (suc m) wide on =
    let w : replenished all_parts (server_before s asks serves m) true (s.since + m) ≡ server_within s asks
    serves m = ap (λ v. replenished all_parts (server_before s asks serves m) v (s.since + m)) (sym on)
    ∙ within_is s asks serves m in
    let later = replenished_later all_parts (server_before s asks serves m) (s.since + m) wide
    (before_ahead s asks serves m wide) in
    let same = ap (λ (c : Server). c.deadline) w in
    omega (arith, later, same)

pub within_ahead : (s : Reservation) (asks serves : ℕ → Bool) (m : ℕ) → 0 < s.y → asks (s.since + m) ≡ true
    → s.since + m + 1 ≤ (server_within s asks serves m).deadline
within_ahead s asks serves m wide on =
    let w : replenished all_parts (server_before s asks serves m) true (s.since + m) ≡ server_within s asks
    serves m = ap (λ v. replenished all_parts (server_before s asks serves m) v (s.since + m)) (sym on)
    ∙ within_is s asks serves m in
    let later = replenished_later all_parts (server_before s asks serves m) (s.since + m) wide
    (before_ahead s asks serves m wide) in
    let same = ap (λ (c : Server). c.deadline) w in
    omega (arith, later, same)
