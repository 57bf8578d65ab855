-- A tick keeps the demand within the room.
use Rattle.std.proofs.Common.{◌≡◌, ◌≢◌, ℕ, ◌+◌, ◌*◌, ◌-◌, ◌<◌, ◌≤◌, suc, refl, arith, inl, inr, ap, Bool}
use Rattle.std.proofs.Common.{true, false, Option, Some, None}
use Rattle.std.specs.Prelude.{◌⊎◌}
use Rattle.std.proofs.Math.Nat.{mul-le-mul_right, mul-suc}
use Rattle.std.proofs.lemmas.Bool.{cases_lt, cases_Bool, cases_eq}
use Rattle.hls_book.specs.Demand.{owed, claimed}
use Rattle.hls_book.specs.declared.server.Server.{Server}
use Rattle.hls_book.specs.Servers.{IsServer, AreSound, HaveRoom, claimed_by, parts_in, claimed_in}
use Rattle.hls_book.specs.Choosing.{IsHit, IsChosen, IsTick}
use Rattle.hls_book.proofs.Owed.{owed-due, owed-later, idle-tick, owed-charged, owed-empty, owed-beyond}
use Rattle.hls_kinds.proofs.Sums.{sum-le, sum-eq, sum-one, sum-mul}

pub owed-less : (whole budget deadline rate bound : ℕ) → owed whole (budget - 1) deadline rate bound
    ≤ owed whole budget deadline rate bound
owed-less whole budget deadline rate bound = elim (cases_lt bound deadline) [
  | inl later ↦ omega (arith, owed-later whole (budget - 1) deadline rate bound later)
  | inr due ↦
      omega (
        arith,
        owed-due whole (budget - 1) deadline rate bound due,
        owed-due whole budget deadline rate
            bound due,
        mul-le-mul_right whole (let f : budget - 1 ≤ budget = omega arith in f),
      )
]

-- a tick raises no claim
tick-same : (whole budget deadline rate now bound : ℕ) (on : Bool) → now + 1 ≤ bound
    → claimed on whole budget deadline rate (now + 1) bound ≤ claimed on whole budget deadline rate now bound
unfolding claimed
tick-same whole budget deadline rate now bound true le = omega arith
tick-same whole budget deadline rate now bound false le = idle-tick whole budget deadline rate now bound le

tick-less : (whole budget deadline rate now bound : ℕ) (on : Bool) → now + 1 ≤ bound
    → claimed on whole (budget - 1) deadline rate (now + 1) bound ≤ claimed on whole budget deadline rate now
    bound
unfolding claimed
tick-less whole budget deadline rate now bound true le = owed-less whole budget deadline rate bound
tick-less whole budget deadline rate now bound false le =
    omega (
      arith,
      idle-tick whole budget deadline rate now bound le,
      owed-less whole budget deadline rate
          bound,
    )

-- a service from the budget takes the whole
tick-drop : (whole budget deadline rate now bound : ℕ) → 0 < budget → deadline ≤ bound
    → claimed true whole (budget - 1) deadline rate (now + 1) bound + whole ≤ claimed true whole budget
    deadline rate now bound
unfolding claimed
tick-drop whole budget deadline rate now bound left due =
    let e : budget ≡ budget - 1 + 1 = omega arith in
    let f : owed whole (budget - 1 + 1) deadline rate bound ≡ owed whole (budget - 1) deadline rate
    bound + whole = owed-charged whole (budget - 1) deadline rate bound due in
    let g : owed whole budget deadline rate bound ≡ owed whole (budget - 1 + 1) deadline rate bound =
    ap (λ v. owed whole v deadline rate bound) e in
    omega arith

-- the rate, of a seat that is not due or has no budget
tick-rate : (whole budget deadline rate now bound : ℕ) (on : Bool) → now + 1 ≤ bound
    → (on ≡ true → now + 1 ≤ deadline) → (on ≡ true → (budget ≡ 0) ⊎ (bound < deadline))
    → claimed on whole budget deadline rate (now + 1) bound ≤ rate * (bound - (now + 1))
unfolding claimed
tick-rate whole budget deadline rate now bound false le ahead idle = omega arith
tick-rate whole budget deadline rate now bound true le ahead idle = elim (idle refl) [
  | inl e ↦ rw e (owed-empty whole deadline rate now bound (ahead refl) le)
  | inr later ↦ owed-beyond whole budget deadline rate now bound later
]

-- whether the tick serves a seat with budget that is due
abbrev pub HitBy : (n : ℕ) → (ℕ → Server) → Option ℕ → ℕ → Type 0
HitBy n servers to bound = (k : ℕ) × IsHit n servers to k × ((servers k).deadline ≤ bound)

hit_or_not : (n : ℕ) (servers : ℕ → Server) (to : Option ℕ) (bound : ℕ) → HitBy n servers to bound
    ⊎ (HitBy n servers to bound → ⊥)
hit_or_not n servers None bound = inr (λ h. let e : None ≡ Some h.0 = h.1.to_it in absurd (cc))
hit_or_not n servers (Some k) bound = elim (cases_lt k n) [
  | inr far ↦ inr (λ h. let e : k ≡ h.0 = (let f : Some k ≡ Some h.0 = h.1.to_it in cc) in let l : h.0 < n =
      h.1.within in absurd (omega arith))
  | inl near ↦ elim (cases_Bool (servers k).asked) [
    | inr off ↦ inr (λ h. let e : k ≡ h.0 = (let f : Some k ≡ Some h.0 = h.1.to_it in cc) in
        let a : (servers k).asked ≡ true = rw e h.1.asks in absurd (cc))
    | inl on ↦ elim (cases_lt 0 (servers k).budget) [
      | inr none ↦ inr (λ h. let e : k ≡ h.0 = (let f : Some k ≡ Some h.0 = h.1.to_it in cc) in
          let a : 0 < (servers k).budget = rw e h.1.left in absurd (omega arith))
      | inl some ↦ elim (cases_lt bound (servers k).deadline) [
        | inl later ↦ inr (λ h. let e : k ≡ h.0 = (let f : Some k ≡ Some h.0 = h.1.to_it in cc) in
            let a : (servers k).deadline ≤ bound = rw e h.2 in absurd (omega arith))
        | inr due ↦ inl (k, record { to_it = refl; within = near; asks = on; left = some }, due)
      ]
    ]
  ]
]

-- the option `to` names a slot or not
to_or_not : (to : Option ℕ) (k : ℕ) → (to ≡ Some k) ⊎ (to ≢ Some k)
to_or_not None k = inr (λ e. absurd (cc))
to_or_not (Some j) k = elim (cases_eq j k) [
  | inl e ↦ inl (ap Some e)
  | inr ne ↦ inr (λ e. ne (cc))
]

tick_u : (mid new : ℕ → Server) (to : Option ℕ) → IsTick mid to new → (k : ℕ) → (new k).parts ≡ (mid k).parts
tick_u mid new to tick k = elim (to_or_not to k) [
  | inl e ↦ rw (tick.one k e) refl
  | inr ne ↦ rw (tick.other k ne) refl
]

tick_le : (whole : ℕ) (mid new : ℕ → Server) (to : Option ℕ) (now bound : ℕ) → now + 1 ≤ bound
    → IsTick mid to new → (k : ℕ) → claimed_by whole (new k) (now + 1) bound ≤ claimed_by whole (mid k) now
    bound
tick_le whole mid new to now bound le tick k = elim (to_or_not to k) [
  | inl e ↦
      rw (tick.one k e) (tick-less whole (mid k).budget (mid k).deadline (mid k).parts now bound
      (mid k).asked le)
  | inr ne ↦
      rw (tick.other k ne) (tick-same whole (mid k).budget (mid k).deadline (mid k).parts now bound
      (mid k).asked le)
]

-- up to a bound by which a seat with budget is served
room_hit : (whole n : ℕ) (mid new : ℕ → Server) (to : Option ℕ) (now bound : ℕ) → now + 1 ≤ bound
    → HaveRoom whole n mid now → IsTick mid to new → HitBy n mid to bound
    → claimed_in whole new n (now + 1) bound + whole ≤ parts_in mid n * (bound - now)
room_hit whole n mid new to now bound le kept tick (k, hit, due) =
    let dropped : claimed_by whole (new k) (now + 1) bound + whole ≤ claimed_by whole (mid k) now bound =
    rw (tick.one k hit.to_it, hit.asks) (tick-drop whole (mid k).budget (mid k).deadline (mid k).parts now
    bound hit.left due) in
    let sums : claimed_in whole new n (now + 1) bound + whole ≤ claimed_in whole mid n now bound + 0 =
    sum-one (λ j. claimed_by whole (new j) (now + 1) bound) (λ j. claimed_by whole (mid j) now bound) n k
    whole 0 hit.within (omega arith) (λ j lt ne. tick_le whole mid new to now bound le tick j) in
    omega (arith, sums, kept.room bound (let f : now ≤ bound = omega arith in f))

-- and up to one by which none is
room_idle : (whole n : ℕ) (mid new : ℕ → Server) (to : Option ℕ) (now bound : ℕ) → now + 1 ≤ bound
    → ((k : ℕ) → k < n → (mid k).asked ≡ true → now + 1 ≤ (mid k).deadline) → IsChosen n mid to
    → IsTick mid to new → (HitBy n mid to bound → ⊥) → (k : ℕ) → k < n
    → claimed_by whole (new k) (now + 1) bound ≤ (new k).parts * (bound - (now + 1))
room_idle whole n mid new to now bound le ahead chosen tick none k lt =
    let idle : (mid k).asked ≡ true → ((mid k).budget ≡ 0) ⊎ (bound < (mid k).deadline) =
    λ on. elim (cases_lt 0 (mid k).budget) [
      | inr empty ↦ inl (omega arith)
      | inl left ↦ elim (cases_lt bound (mid k).deadline) [
        | inl later ↦ inr later
        | inr due ↦ absurd (let h = chosen.first k lt on left in none (h.0, h.1, omega (arith, h.2)))
      ]
    ] in
    elim (to_or_not to k) [
      | inl e ↦
          rw (tick.one k e) (tick-rate whole ((mid k).budget - 1) (mid k).deadline (mid k).parts now bound
          (mid k).asked le (ahead k lt)
          (λ on. elim (idle on) [ inl z ↦ inl (omega arith) | inr later ↦ inr later ]))
      | inr ne ↦
          rw (tick.other k ne) (tick-rate whole (mid k).budget (mid k).deadline (mid k).parts now bound
          (mid k).asked le (ahead k lt) idle)
    ]

tick_sound : (whole : ℕ) (mid new : ℕ → Server) (to : Option ℕ) → IsTick mid to new → (k : ℕ)
    → IsServer whole (mid k) → IsServer whole (new k)
tick_sound whole mid new to tick k server = elim (to_or_not to k) [
  | inl e ↦
      rw (tick.one k e)
      (record { small = omega (arith, server.small); rate = server.rate; live = server.live })
  | inr ne ↦ rw (tick.other k ne) server
]

tick_parts : (n : ℕ) (mid new : ℕ → Server) (to : Option ℕ) → IsTick mid to new → parts_in new n
    ≡ parts_in mid n
tick_parts n mid new to tick = sum-eq (λ k. (new k).parts) (λ k. (mid k).parts) n
    (λ k lt. tick_u mid new to tick k)

-- the tick keeps the room
pub ticking-sound : (whole n : ℕ) (mid new : ℕ → Server) (to : Option ℕ) → AreSound whole n mid
    → IsTick mid to new → AreSound whole n new
ticking-sound whole n mid new to kept tick = record {
  fits = omega (arith, tick_parts n mid new to tick, kept.fits);
  sound = λ k lt. tick_sound whole mid new to tick k (kept.sound k lt);
}

pub ticking-room : (whole n : ℕ) (mid new : ℕ → Server) (to : Option ℕ) (now : ℕ) → AreSound whole n mid
    → HaveRoom whole n mid now → ((k : ℕ) → k < n → (mid k).asked ≡ true → now + 1 ≤ (mid k).deadline)
    → IsChosen n mid to → IsTick mid to new → HaveRoom whole n new (now + 1)
ticking-room whole n mid new to now kept room ahead chosen tick =
    let same = tick_parts n mid new to tick in
    record {
      room = λ bound le. elim (hit_or_not n mid to bound) [
        | inl hit ↦ rw same (
            let h = room_hit whole n mid new to now bound le room tick hit in
            let step : bound - now ≡ suc (bound - (now + 1)) = omega arith in
            let more : parts_in mid n * (bound - now) ≡ parts_in mid n * (bound - (now + 1)) + parts_in mid
            n = rw (step, mul-suc) in
            omega (arith, h, more, kept.fits))
        | inr none ↦
            rw (← (sum-mul (λ k. (new k).parts) (bound - (now + 1)) n))
            (sum-le (λ k. claimed_by whole (new k) (now + 1) bound)
            (λ k. (new k).parts * (bound - (now + 1))) n
            (room_idle whole n mid new to now bound le ahead chosen tick none))
      ];
    }
