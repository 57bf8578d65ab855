-- The cap of a hard seat, whatever the scheduler is given.
use Rattle.std.proofs.Common.{◌≡◌, ℕ, ◌+◌, ◌*◌, ◌-◌, ◌<◌, ◌≤◌, zero, suc, refl, arith, inl, inr, ap, ◌∙◌}
use Rattle.std.proofs.Common.{Bool, true, false, subst}
use Rattle.std.specs.Prelude.{◌⊎◌}
use Rattle.std.proofs.Math.Nat.{mul-le-mul_left}
use Rattle.std.proofs.lemmas.Bool.{cases_lt, cases_Bool}
use Rattle.hls_chron.specs.Ticks.{one_if, count}
use Rattle.hls_kinds.specs.declared.reservations.Reservation.{Reservation}
use Rattle.hls_chron.specs.Parts.{all_parts, parts}
use Rattle.hls_book.specs.declared.server.Server.{Server}
use Rattle.hls_book.specs.Servers.{replenished, is_due}
use Rattle.hls_book.specs.Recomputed.{server_before, server_within}
use Rattle.hls_book.specs.Stays.{EachHard}
use Rattle.hls_book.proofs.Owed.{reset-past, reset-test, first-charged, last-charged}
use Rattle.hls_book.proofs.Claimed.{due-off, due-on}
use Rattle.hls_book.proofs.Replenishing.{replenished-off, replenished-set, replenished-kept}
use Rattle.hls_book.proofs.Deadlines.{within_is, before_is, count_past, count_more}
use Rattle.hls_book.proofs.Pacing.{after_q, paced_within, paced_before, within_ahead}

-- how many of the ticks from one on and before another served it
abbrev pub served_in : (serves : ℕ → Bool) → (from to : ℕ) → ℕ
served_in serves from to = count serves from (to - from)

-- a replenishment never raises the budget against the deadline
set_down : (whole x y rate budget deadline now : ℕ) (on : Bool) → x * whole ≤ rate * y
    → is_due whole (record { x = x; y = y; parts = rate; budget = budget; deadline = deadline; asked = on })
    now ≡ true → x * whole + rate * deadline ≤ budget * whole + rate * (now + y)
set_down whole x y rate budget deadline now true covers is = reset-past whole x y rate budget deadline now
    covers (let e = due-on whole x y rate budget deadline now is in omega arith)
set_down whole x y rate budget deadline now false covers is =
    elim (due-off whole x y rate budget deadline now is) [
      | inl past ↦ reset-past whole x y rate budget deadline now covers past
      | inr test ↦ elim (cases_lt now deadline) [
        | inl ahead ↦ reset-test whole x y rate budget deadline now covers (omega arith) test
        | inr past ↦ reset-past whole x y rate budget deadline now covers past
      ]
    ]

replenished_down : (whole : ℕ) (c : Server) (asks : Bool) (now : ℕ) → c.x * whole ≤ c.parts * c.y
    → (replenished whole c asks now).budget * whole + c.parts * c.deadline
    ≤ c.budget * whole + c.parts * (replenished whole c asks now).deadline
replenished_down whole c false now rate = rw (replenished-off whole c now) (omega arith)
replenished_down whole c true now rate = elim (cases_Bool (is_due whole c now)) [
  | inl is ↦
      rw (replenished-set whole c now is) (set_down whole c.x c.y c.parts c.budget c.deadline now c.asked
      rate is)
  | inr not ↦ rw (replenished-kept whole c now not) (omega arith)
]

-- one tick: N served from the tick i on; budget and deadline before its replenishment, p and e after it
cap_carry : (whole x rate i t N budget deadline p e : ℕ) (g : Bool) → i ≤ t
    → (N ≡ 0) ⊎ (N * whole + budget * whole + rate * i ≤ x * whole + rate * deadline)
    → p * whole + rate * deadline ≤ budget * whole + rate * e → (g ≡ true → (0 < p) × (p ≤ x) × (t + 1 ≤ e))
    → (N + one_if g ≡ 0) ⊎ ((N + one_if g) * whole + (p - one_if g) * whole + rate * i ≤ x * whole + rate * e)
cap_carry whole x rate i t N budget deadline p e false le (inl none) down own = inl (omega arith)
cap_carry whole x rate i t N budget deadline p e false le (inr some) down own =
    let same : (p - 0) * whole ≡ p * whole = ap (λ v. v * whole) (let z : p - 0 ≡ p = omega arith in z) in
    inr (omega (arith, same))
cap_carry whole x rate i t N budget deadline p e true le (inl none) down own =
    let h = own refl in
    let c3 = first-charged whole x rate p e t h.1 h.2 in
    let rest : p ≡ p - 1 + 1 = omega (arith, h.0) in
    let split : p * whole ≡ (p - 1) * whole + whole = ap (λ v. v * whole) rest ∙ omega arith in
    let zeros : N * whole ≡ 0 = rw none (omega arith) in
    inr (omega (arith, c3, split, zeros, mul-le-mul_left rate le))
cap_carry whole x rate i t N budget deadline p e true le (inr some) down own =
    let h = own refl in
    let rest : p ≡ p - 1 + 1 = omega (arith, h.0) in
    let split : p * whole ≡ (p - 1) * whole + whole = ap (λ v. v * whole) rest ∙ omega arith in
    inr (omega (arith, split))

-- the bound after a tick
cap_bound : (whole x y rate i t N budget e : ℕ) (g : Bool) → i ≤ t → N * whole + rate * i
    ≤ rate * t + 2 * (x * whole) → (g ≡ true → (rate * y + 1 ≤ x * whole + y) × (y ≤ rate) × (e ≤ t + y))
    → (N + one_if g ≡ 0) ⊎ ((N + one_if g) * whole + budget * whole + rate * i ≤ x * whole + rate * e)
    → (N + one_if g) * whole + rate * i ≤ rate * (t + 1) + 2 * (x * whole)
cap_bound whole x y rate i t N budget e false le bound near after = omega (arith, bound)
cap_bound whole x y rate i t N budget e true le bound near (inl none) = absurd (omega arith)
cap_bound whole x y rate i t N budget e true le bound near (inr some) =
    let h = near refl in
    omega (arith, some, last-charged whole x y rate budget e (t + 1) h.0 h.1 (omega (arith, h.2)))

-- the two facts, over a window that grows
pub record IsCapped (s : Reservation) (asks serves : ℕ → Bool) (a m : ℕ) : Type 0 where
  pub carry : (served_in serves (s.since + a) (s.since + m) ≡ 0)
      ⊎ (served_in serves (s.since + a) (s.since + m) * all_parts + (server_before s asks serves m).budget *
      all_parts + parts s.x s.y * (s.since + a) ≤ s.x * all_parts + parts s.x
      s.y * (server_before s asks serves m).deadline)
  pub bound : served_in serves (s.since + a) (s.since + m) * all_parts + parts s.x s.y * (s.since + a)
      ≤ parts s.x s.y * (s.since + m) + 2 * (s.x * all_parts)

carry_same : (whole x rate i N N' budget budget' deadline : ℕ) → N' ≡ N → budget' ≡ budget
    → (N ≡ 0) ⊎ (N * whole + budget * whole + rate * i ≤ x * whole + rate * deadline)
    → (N' ≡ 0) ⊎ (N' * whole + budget' * whole + rate * i ≤ x * whole + rate * deadline)
carry_same whole x rate i N N' budget budget' deadline e f h = rw (e, f) h

bound_same : (rate i t t' N N' whole r : ℕ) → N' ≡ N → t' ≡ t → N * whole + rate * i ≤ rate * t + r
    → N' * whole + rate * i ≤ rate * t' + r
bound_same rate i t t' N N' whole r e f h = rw (e, f) h

pub capped : (s : Reservation) (asks serves : ℕ → Bool) (now a len : ℕ) → s.x * all_parts
    ≤ parts s.x s.y * s.y → parts s.x s.y * s.y + 1 ≤ s.x * all_parts + s.y → s.y ≤ parts s.x s.y → s.x ≤ s.y
    → 0 < s.y → s.since + (a + len) ≤ now
    → ((k : ℕ) → s.since ≤ k → k < now → serves k ≡ true → asks k ≡ true) → EachHard s asks serves now
    → IsCapped s asks serves a (a + len)
capped s asks serves now a zero rate near big narrow wide le sure own =
    let e : a + 0 ≡ a = omega arith in
    rw e (record {
      carry = inl (count_past serves (s.since + a));
      bound = rw (count_past serves (s.since + a))
          (omega arith);
    })
capped s asks serves now a (suc len) rate near big narrow wide le sure own =
    let e : a + suc len ≡ suc (a + len) = omega arith in
    let ih = capped s asks serves now a len rate near big narrow wide (omega arith) sure own in
    let sure_here : serves (s.since + (a + len)) ≡ true → asks (s.since + (a + len)) ≡ true =
    sure (s.since + (a + len)) (omega arith) (omega arith) in
    let pace = paced_within s asks serves (a + len)
    (paced_before s asks serves (a + len) narrow (λ k lt. sure (s.since + k) (omega arith) (omega arith)))
    in
    let up : s.since + suc (a + len) ≡ s.since + (a + len) + 1 = omega arith in
    let n : served_in serves (s.since + a) (s.since + suc (a + len)) ≡ served_in serves (s.since + a)
    (s.since + (a + len)) + one_if (serves (s.since + (a + len))) = ap (served_in serves (s.since + a)) up
    ∙ count_more serves (s.since + a) (s.since + (a + len)) (omega arith) in
    let q : (server_before s asks serves (suc (a + len))).budget
    ≡ (server_within s asks serves (a + len)).budget - one_if (serves (s.since + (a + len))) =
    ap (λ (c : Server). c.budget) (before_is s asks serves (a + len) sure_here)
    ∙ after_q (server_within s asks serves (a + len)) (serves (s.since + (a + len))) in
    let down : (server_within s asks serves (a + len)).budget * all_parts + parts s.x
    s.y * (server_before s asks serves (a + len)).deadline
    ≤ (server_before s asks serves (a + len)).budget * all_parts + parts s.x
    s.y * (server_within s asks serves (a + len)).deadline =
    subst (λ (c : Server). c.budget * all_parts + parts s.x
    s.y * (server_before s asks serves (a + len)).deadline
    ≤ (server_before s asks serves (a + len)).budget * all_parts + parts s.x s.y * c.deadline)
    (within_is s asks serves (a + len))
    (replenished_down all_parts (server_before s asks serves (a + len)) (asks (s.since + (a + len)))
    (s.since + (a + len)) rate) in
    let after = cap_carry all_parts s.x (parts s.x s.y) (s.since + a) (s.since + (a + len))
    (served_in serves (s.since + a) (s.since + (a + len))) (server_before s asks serves (a + len)).budget
    (server_before s asks serves (a + len)).deadline (server_within s asks serves (a + len)).budget
    (server_within s asks serves (a + len)).deadline (serves (s.since + (a + len))) (omega arith)
    ih.carry down
    (λ g. (
      own.budget (a + len) (omega arith) g,
      pace.small,
      within_ahead s asks serves (a + len) wide
          (sure_here g),
    )) in
    rw e (record {
      carry = carry_same all_parts s.x (parts s.x s.y) (s.since + a) _ _ _ _
          (server_within s asks serves (a + len)).deadline n q after;
      bound = bound_same (parts s.x s.y) (s.since + a) _ _ _ _ all_parts (2 * (s.x * all_parts)) n up
          (cap_bound all_parts s.x s.y (parts s.x s.y) (s.since + a) (s.since + (a + len))
          (served_in serves (s.since + a) (s.since + (a + len)))
          ((server_within s asks serves (a + len)).budget - one_if (serves (s.since + (a + len))))
          (server_within s asks serves (a + len)).deadline (serves (s.since + (a + len))) (omega arith)
          ih.bound (λ g. (near, big, pace.near)) after);
    })

-- the cap: its share of the ticks, and 2 * x
pub cap : (s : Reservation) (asks serves : ℕ → Bool) (now a len : ℕ) → s.x * all_parts ≤ parts s.x s.y * s.y
    → parts s.x s.y * s.y + 1 ≤ s.x * all_parts + s.y → s.y ≤ parts s.x s.y → s.x ≤ s.y → 0 < s.y
    → s.since + (a + len) ≤ now → ((k : ℕ) → s.since ≤ k → k < now → serves k ≡ true → asks k ≡ true)
    → EachHard s asks serves now → served_in serves (s.since + a) (s.since + (a + len)) * all_parts
    ≤ parts s.x s.y * len + 2 * s.x * all_parts
cap s asks serves now a len rate near big narrow wide le sure own =
    let h = (capped s asks serves now a len rate near big narrow wide le sure own).bound in
    omega (arith, h)
