-- What a mark leaves of the servers, and of the room.
use Rattle.std.proofs.Common.{◌≡◌, ◌≢◌, ℕ, ◌+◌, ◌*◌, ◌-◌, ◌<◌, ◌≤◌, refl, arith, inl, inr, ap, false}
use Rattle.std.specs.Prelude.{◌⊎◌}
use Rattle.std.proofs.lemmas.Bool.{cases_eq}
use Rattle.hls_kinds.specs.Slots.{sum_below}
use Rattle.hls_book.specs.declared.server.Server.{Server}
use Rattle.hls_book.specs.Servers.{IsServer, AreSound, HaveRoom, vacant, fresh, marked, claimed_by}
use Rattle.hls_book.specs.Servers.{parts_in, claimed_in}
use Rattle.hls_kinds.proofs.Sums.{sum-le, sum-one, sum-mul, sum-add}
use Rattle.hls_book.proofs.Claimed.{due-marked, due-vacant, due-fresh, due-gone}

vacant-sound : (whole : ℕ) → IsServer whole vacant
vacant-sound whole = record { small = omega arith; rate = omega arith; live = λ e. absurd (cc) }

-- soundness where one slot changes
one-sound : (whole n i : ℕ) (old new : ℕ → Server) → ((k : ℕ) → k < n → IsServer whole (old k))
    → IsServer whole (new i) → ((k : ℕ) → k ≢ i → new k ≡ old k) → (k : ℕ) → k < n → IsServer whole (new k)
one-sound whole n i old new sound here others k lt = elim (cases_eq k i) [
  | inl e ↦ rw e here
  | inr ne ↦ rw (others k ne) (sound k lt)
]

u_same : (n i : ℕ) (old new : ℕ → Server) → ((k : ℕ) → k ≢ i → new k ≡ old k) → (k : ℕ) → k ≢ i
    → (new k).parts ≡ (old k).parts
u_same n i old new others k ne = ap (λ (c : Server). c.parts) (others k ne)

due_same : (whole i now bound : ℕ) (old new : ℕ → Server) → ((k : ℕ) → k ≢ i → new k ≡ old k) → (k : ℕ)
    → k ≢ i → claimed_by whole (new k) now bound ≡ claimed_by whole (old k) now bound
due_same whole i now bound old new others k ne = ap (λ (c : Server). claimed_by whole c now bound)
    (others k ne)

-- the parts where one slot changes
pub parts_one : (n i : ℕ) (old new : ℕ → Server) → i < n → ((k : ℕ) → k ≢ i → new k ≡ old k)
    → parts_in new n + (old i).parts ≡ parts_in old n + (new i).parts
parts_one n i old new lt others =
    let up : parts_in new n + (old i).parts ≤ parts_in old n + (new i).parts = sum-one (λ k. (new k).parts)
    (λ k. (old k).parts) n i (old i).parts (new i).parts lt (omega arith)
    (λ k kn ne. let e = u_same n i old new others k ne in omega arith) in
    let down : parts_in old n + (new i).parts ≤ parts_in new n + (old i).parts = sum-one (λ k. (old k).parts)
    (λ k. (new k).parts) n i (new i).parts (old i).parts lt (omega arith)
    (λ k kn ne. let e = u_same n i old new others k ne in omega arith) in
    omega arith

-- the sum where one claim changes by no more than a to b
due_one : (whole n i now bound a b : ℕ) (old new : ℕ → Server) → i < n → ((k : ℕ) → k ≢ i → new k ≡ old k)
    → claimed_by whole (new i) now bound + a ≤ claimed_by whole (old i) now bound + b
    → claimed_in whole new n now bound + a ≤ claimed_in whole old n now bound + b
due_one whole n i now bound a b old new lt others here = sum-one (λ k. claimed_by whole (new k) now bound)
    (λ k. claimed_by whole (old k) now bound) n i a b lt here
    (λ k kn ne. let e = due_same whole i now bound old new others k ne in omega arith)

-- a seating, in a free slot
pub seating-sound : (whole n i now : ℕ) (c : Server) (old new : ℕ → Server) → AreSound whole n old → i < n
    → old i ≡ vacant → new i ≡ fresh c now → ((k : ℕ) → k ≢ i → new k ≡ old k) → c.x * whole ≤ c.parts * c.y
    → parts_in old n + c.parts ≤ whole → AreSound whole n new
seating-sound whole n i now c old new kept lt free here others rate fits =
    let was : (old i).parts ≡ 0 = rw free refl in
    let is : (new i).parts ≡ c.parts = rw here refl in
    record {
      fits = omega (arith, parts_one n i old new lt others);
      sound = one-sound whole n i old new kept.sound
          (rw here (record { small = omega arith; rate = rate; live = λ e. absurd (cc) })) others;
    }

pub seating-room : (whole n i now : ℕ) (c : Server) (old new : ℕ → Server) → HaveRoom whole n old now
    → i < n → old i ≡ vacant → new i ≡ fresh c now → ((k : ℕ) → k ≢ i → new k ≡ old k)
    → HaveRoom whole n new now
seating-room whole n i now c old new kept lt free here others =
    let was : (old i).parts ≡ 0 = rw free refl in
    let is : (new i).parts ≡ c.parts = rw here refl in
    let same : parts_in new n ≡ parts_in old n + c.parts = omega (arith, parts_one n i old new lt others) in
    record {
      room = λ bound le.
          let due : claimed_by whole (new i) now bound ≡ c.parts * (bound - now) =
          rw here (due-fresh whole c now bound le) in
          rw same (omega (
            arith,
            due_one whole n i now bound 0 (c.parts * (bound - now)) old new lt others
                (omega arith),
            kept.room bound le,
          ));
    }

-- a seat that leaves and holds its parts
pub leaving-sound : (whole n i : ℕ) (old new : ℕ → Server) → AreSound whole n old → i < n
    → new i ≡ marked (old i) false → ((k : ℕ) → k ≢ i → new k ≡ old k) → AreSound whole n new
leaving-sound whole n i old new kept lt here others =
    let is : (new i).parts ≡ (old i).parts = rw here refl in
    record {
      fits = omega (arith, parts_one n i old new lt others, kept.fits);
      sound = one-sound whole n i old new kept.sound
          (rw here (let s : IsServer whole (old i) = kept.sound i lt in
          record { small = s.small; rate = s.rate; live = λ e. absurd (cc) })) others;
    }

pub leaving-room : (whole n i now : ℕ) (old new : ℕ → Server) → HaveRoom whole n old now → i < n
    → new i ≡ marked (old i) false → ((k : ℕ) → k ≢ i → new k ≡ old k) → HaveRoom whole n new now
leaving-room whole n i now old new kept lt here others =
    let is : (new i).parts ≡ (old i).parts = rw here refl in
    let same : parts_in new n ≡ parts_in old n = omega (arith, parts_one n i old new lt others) in
    record {
      room = λ bound le.
          let less : claimed_by whole (new i) now bound ≤ claimed_by whole (old i) now bound =
          rw here (due-marked whole (old i) now bound) in
          rw same (omega (
            arith,
            due_one whole n i now bound 0 0 old new lt others (omega arith),
            kept.room bound le,
          ));
    }

-- a slot becomes free whose deadline is not ahead: a leaving, or the end of a held slot
pub freeing-sound : (whole n i : ℕ) (old new : ℕ → Server) → AreSound whole n old → i < n → new i ≡ vacant
    → ((k : ℕ) → k ≢ i → new k ≡ old k) → AreSound whole n new
freeing-sound whole n i old new kept lt here others =
    let is : (new i).parts ≡ 0 = rw here refl in
    record {
      fits = omega (arith, parts_one n i old new lt others, kept.fits);
      sound = one-sound whole n i old new kept.sound (rw here (vacant-sound whole)) others;
    }

pub freeing-room : (whole n i now : ℕ) (old new : ℕ → Server) → HaveRoom whole n old now → i < n
    → (old i).deadline ≤ now → new i ≡ vacant → ((k : ℕ) → k ≢ i → new k ≡ old k) → HaveRoom whole n new now
freeing-room whole n i now old new kept lt past here others =
    let is : (new i).parts ≡ 0 = rw here refl in
    let same : parts_in old n ≡ parts_in new n + (old i).parts =
    omega (arith, parts_one n i old new lt others) in
    record {
      room = λ bound le.
          let gone : claimed_by whole (new i) now bound ≡ 0 = rw here (due-vacant whole now bound) in
          let sums = due_one whole n i now bound ((old i).parts * (bound - now)) 0 old new lt others
          (omega (arith, due-gone whole (old i) now bound le past)) in
          let room : claimed_in whole old n now bound ≤ (parts_in new n + (old i).parts) * (bound - now) =
          rw (← same) (kept.room bound le) in
          omega (arith, sums, room);
    }

-- a settling: each slot is free or fresh
pub settling-sound : (whole n now : ℕ) (old new : ℕ → Server) → AreSound whole n old
    → ((k : ℕ) → k < n → (new k ≡ vacant) ⊎ (new k ≡ fresh (old k) now)) → AreSound whole n new
settling-sound whole n now old new kept each =
    let less : parts_in new n ≤ parts_in old n = sum-le (λ k. (new k).parts) (λ k. (old k).parts) n
    (λ k lt. elim (each k lt) [ inl e ↦ rw e (omega arith) | inr e ↦ rw e (omega arith) ]) in
    record {
      fits = omega (arith, kept.fits);
      sound = λ k lt. elim (each k lt) [
        | inl e ↦ rw e (vacant-sound whole)
        | inr e ↦
            rw e (record { small = omega arith; rate = (kept.sound k lt).rate; live = λ e. absurd (cc) })
      ];
    }

pub settling-room : (whole n now : ℕ) (old new : ℕ → Server)
    → ((k : ℕ) → k < n → (new k ≡ vacant) ⊎ (new k ≡ fresh (old k) now)) → HaveRoom whole n new now
settling-room whole n now old new each = record {
  room = λ bound le.
      let sums : claimed_in whole new n now bound ≤ sum_below (λ k. (new k).parts * (bound - now)) n =
      sum-le (λ k. claimed_by whole (new k) now bound) (λ k. (new k).parts * (bound - now)) n
      (λ k lt. elim (each k lt) [
        | inl e ↦ rw e (omega (arith, due-vacant whole now bound))
        | inr e ↦ rw e (omega (arith, due-fresh whole (old k) now bound le))
      ]) in
      rw (← (sum-mul (λ k. (new k).parts) (bound - now) n)) sums;
}

-- where each claim grows by no more than its parts bring
pub easing-room : (whole n now : ℕ) (old new : ℕ → Server) → HaveRoom whole n old now
    → ((bound k : ℕ) → now ≤ bound → k < n
    → claimed_by whole (new k) now bound + (old k).parts * (bound - now) ≤ claimed_by whole (old k) now
    bound + (new k).parts * (bound - now)) → HaveRoom whole n new now
easing-room whole n now old new kept each = record {
  room = λ bound le.
      let sums = sum-le (λ k. claimed_by whole (new k) now bound + (old k).parts * (bound - now))
      (λ k. claimed_by whole (old k) now bound + (new k).parts * (bound - now)) n
      (λ k lt. each bound k le lt) in
      omega (
        arith,
        sums,
        sum-add (λ k. claimed_by whole (new k) now bound) (λ k. (old k).parts * (bound - now)) n,
        sum-add (λ k. claimed_by whole (old k) now bound) (λ k. (new k).parts * (bound - now)) n,
        sum-mul (λ k. (old k).parts) (bound - now) n,
        sum-mul (λ k. (new k).parts) (bound - now) n,
        kept.room bound le,
      );
}

-- the end of held slots
pub ending-sound : (whole n now : ℕ) (old new : ℕ → Server) → AreSound whole n old
    → ((k : ℕ) → k < n → (new k ≡ old k) ⊎ (((old k).deadline ≤ now) × (new k ≡ vacant)))
    → AreSound whole n new
ending-sound whole n now old new kept each =
    let less : parts_in new n ≤ parts_in old n = sum-le (λ k. (new k).parts) (λ k. (old k).parts) n
    (λ k lt. elim (each k lt) [ inl e ↦ rw e (omega arith) | inr e ↦ rw e.1 (omega arith) ]) in
    record {
      fits = omega (arith, kept.fits);
      sound = λ k lt. elim (each k lt) [
        | inl e ↦ rw e (kept.sound k lt)
        | inr e ↦
            rw e.1 (vacant-sound whole)
      ];
    }

pub ending-room : (whole n now : ℕ) (old new : ℕ → Server) → HaveRoom whole n old now
    → ((k : ℕ) → k < n → (new k ≡ old k) ⊎ (((old k).deadline ≤ now) × (new k ≡ vacant)))
    → HaveRoom whole n new now
ending-room whole n now old new kept each = easing-room whole n now old new kept
    (λ bound k le lt. elim (each k lt) [
      | inl e ↦ rw e (omega arith)
      | inr e ↦ rw e.1 (omega (arith, due-vacant whole now bound, due-gone whole (old k) now bound le e.0))
    ])
