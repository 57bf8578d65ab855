-- The replenishments of a tick keep the demand within the room.
use Rattle.std.proofs.Common.{◌≡◌, ℕ, ◌+◌, ◌*◌, ◌-◌, ◌<◌, ◌≤◌, refl, arith, inl, inr, Bool, true, false}
use Rattle.std.specs.Prelude.{if◌then◌else◌}
use Rattle.std.proofs.lemmas.Bool.{cases_Bool}
use Rattle.hls_book.specs.Demand.{claimed}
use Rattle.hls_book.specs.declared.server.Server.{Server}
use Rattle.hls_book.specs.Servers.{IsServer, AreSound, HaveRoom, renewed, marked, replenished, is_due}
use Rattle.hls_book.specs.Servers.{claimed_by, parts_in, claimed_in}
use Rattle.hls_book.proofs.Owed.{renewed-rate, kept-rate, renewed-due}
use Rattle.hls_kinds.proofs.Sums.{sum-le, sum-eq}
use Rattle.hls_book.proofs.Claimed.{due-marked, due-off, due-off-not, due-on}

pub replenished-off : (whole : ℕ) (c : Server) (now : ℕ) → replenished whole c false now ≡ marked c false
unfolding replenished
replenished-off whole c now = refl

pub replenished-set : (whole : ℕ) (c : Server) (now : ℕ) → is_due whole c now ≡ true
    → replenished whole c true now ≡ renewed c now
unfolding replenished
replenished-set whole c now is = rw is

pub replenished-kept : (whole : ℕ) (c : Server) (now : ℕ) → is_due whole c now ≡ false
    → replenished whole c true now ≡ marked c true
unfolding replenished
replenished-kept whole c now is = rw is

-- a replenishment raises no claim
renewed-le : (whole x y rate budget deadline : ℕ) (on : Bool) (now bound : ℕ) → now ≤ bound → budget ≤ x
    → x * whole ≤ rate * y
    → is_due whole (record { x = x; y = y; parts = rate; budget = budget; deadline = deadline; asked = on })
    now ≡ true → claimed true whole x (now + y) rate now bound ≤ claimed on whole budget deadline rate now
    bound
unfolding claimed
renewed-le whole x y rate budget deadline true now bound le small covers is =
    let e : deadline ≡ now = due-on whole x y rate budget deadline now is in
    rw e (renewed-due whole x y rate budget now bound le covers)
renewed-le whole x y rate budget deadline false now bound le small covers is =
    renewed-rate whole budget deadline rate x y now bound le small covers
    (due-off whole x y rate budget deadline now is)

-- nor does a wake that keeps the budget
kept-le : (whole x y rate budget deadline : ℕ) (on : Bool) (now bound : ℕ) → now ≤ bound
    → is_due whole (record { x = x; y = y; parts = rate; budget = budget; deadline = deadline; asked = on })
    now ≡ false → claimed true whole budget deadline rate now bound ≤ claimed on whole budget deadline rate
    now bound
unfolding claimed
kept-le whole x y rate budget deadline true now bound le is = omega arith
kept-le whole x y rate budget deadline false now bound le is =
    let h : (now < deadline) × (budget * whole ≤ rate * (deadline - now)) = due-off-not whole x y rate budget
    deadline now is in
    omega (arith, kept-rate whole budget deadline rate now bound le h.0 h.1)

pub replenished-le : (whole : ℕ) (c : Server) (asks : Bool) (now bound : ℕ) → now ≤ bound → IsServer whole c
    → claimed_by whole (replenished whole c asks now) now bound ≤ claimed_by whole c now bound
replenished-le whole c false now bound le server = rw (replenished-off whole c now)
    (due-marked whole c now bound)
replenished-le whole c true now bound le server = elim (cases_Bool (is_due whole c now)) [
  | inl is ↦
      rw (replenished-set whole c now is) (renewed-le whole c.x c.y c.parts c.budget c.deadline c.asked now
      bound le server.small server.rate is)
  | inr is ↦
      rw (replenished-kept whole c now is) (kept-le whole c.x c.y c.parts c.budget c.deadline c.asked now
      bound le is)
]

pub replenished-rate : (whole : ℕ) (c : Server) (asks : Bool) (now : ℕ)
    → (replenished whole c asks now).parts ≡ c.parts
unfolding replenished
replenished-rate whole c false now = refl
replenished-rate whole c true now =
    elim (is_due whole c now) as (λ v. (if v then renewed c now else marked c true).parts ≡ c.parts)
    [ true ↦ refl | false ↦ refl ]

pub replenished-on : (whole : ℕ) (c : Server) (asks : Bool) (now : ℕ) → (replenished whole c asks now).asked
    ≡ asks
replenished-on whole c false now = rw (replenished-off whole c now)
replenished-on whole c true now = elim (cases_Bool (is_due whole c now)) [
  | inl is ↦ rw (replenished-set whole c now is)
  | inr is ↦ rw (replenished-kept whole c now is)
]

pub replenished-sound : (whole : ℕ) (c : Server) (asks : Bool) (now : ℕ) → IsServer whole c
    → (asks ≡ true → 0 < c.parts) → IsServer whole (replenished whole c asks now)
replenished-sound whole c false now server live = rw (replenished-off whole c now)
    (record { small = server.small; rate = server.rate; live = λ e. absurd (cc) })
replenished-sound whole c true now server live = elim (cases_Bool (is_due whole c now)) [
  | inl is ↦
      rw (replenished-set whole c now is)
      (record { small = omega arith; rate = server.rate; live = λ e. live refl })
  | inr is ↦
      rw (replenished-kept whole c now is)
      (record { small = server.small; rate = server.rate; live = λ e. live refl })
]

replenished_parts : (whole n : ℕ) (servers : ℕ → Server) (asks : ℕ → Bool) (now : ℕ)
    → parts_in (λ k. replenished whole (servers k) (asks k) now) n ≡ parts_in servers n
replenished_parts whole n servers asks now =
    sum-eq (λ k. (replenished whole (servers k) (asks k) now).parts) (λ k. (servers k).parts) n
    (λ k lt. replenished-rate whole (servers k) (asks k) now)

-- all of them
pub replenishing-sound : (whole n : ℕ) (servers : ℕ → Server) (asks : ℕ → Bool) (now : ℕ)
    → AreSound whole n servers → ((k : ℕ) → k < n → asks k ≡ true → 0 < (servers k).parts)
    → AreSound whole n (λ k. replenished whole (servers k) (asks k) now)
replenishing-sound whole n servers asks now kept live = record {
  fits = omega (arith, replenished_parts whole n servers asks now, kept.fits);
  sound = λ k lt. replenished-sound whole (servers k) (asks k) now (kept.sound k lt) (live k lt);
}

pub replenishing-room : (whole n : ℕ) (servers : ℕ → Server) (asks : ℕ → Bool) (now : ℕ)
    → AreSound whole n servers → HaveRoom whole n servers now
    → HaveRoom whole n (λ k. replenished whole (servers k) (asks k) now) now
replenishing-room whole n servers asks now kept room = record {
  room = λ bound le. rw (replenished_parts whole n servers asks now) (
      let below : claimed_in whole (λ k. replenished whole (servers k) (asks k) now) n now bound
      ≤ claimed_in whole servers n now bound =
      sum-le (λ k. claimed_by whole (replenished whole (servers k) (asks k) now) now bound)
      (λ k. claimed_by whole (servers k) now bound) n
      (λ k lt. replenished-le whole (servers k) (asks k) now bound le (kept.sound k lt)) in
      omega (arith, below, room.room bound le));
}
