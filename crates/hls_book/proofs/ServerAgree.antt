-- The recomputed server goes by the ticks before alone.
use Rattle.std.proofs.Common.{◌≡◌, ℕ, ◌+◌, ◌-◌, ◌<◌, ◌≤◌, zero, suc, refl, arith, Bool, Option, Some, None}
use Rattle.hls_chron.specs.Ticks.{count}
use Rattle.hls_chron.proofs.CountLaws.{count-agree}
use Rattle.hls_kinds.specs.declared.reservations.Reservation.{Reservation}
use Rattle.hls_kinds.specs.Reservations.{budget_after, is_replenished, last_replenished}
use Rattle.hls_kinds.specs.Reservations.{asked_before}
use Rattle.hls_book.specs.Recomputed.{server_before, server_within}
use Rattle.hls_book.proofs.Deadlines.{last_since, last_before}

-- f and g agree from the tick m on and before the tick t
abbrev pub Agree : (f g : ℕ → Bool) → ℕ → ℕ → Type 0
Agree f g m t = (k : ℕ) → m ≤ k → k < t → f k ≡ g k

count_agree : (f g : ℕ → Bool) (m t : ℕ) → Agree f g m t → count f m (t - m) ≡ count g m (t - m)
count_agree f g m t same = count-agree f g m (t - m) (λ k ge lt. same k ge (omega arith))

budget_agree : (s : Reservation) (f g : ℕ → Bool) (last : Option ℕ) (t : ℕ)
    → ((m : ℕ) → last ≡ Some m → s.since ≤ m) → Agree f g s.since t → budget_after s f last t
    ≡ budget_after s g last t
budget_agree s f g None t from same = refl
budget_agree s f g (Some m) t from same = let le = from m refl in
    rw (count_agree f g m t (λ k ge lt. same k (omega arith) lt))

asked_agree : (s : Reservation) (f g : ℕ → Bool) (n : ℕ) → Agree f g s.since (s.since + n)
    → asked_before s f n ≡ asked_before s g n
asked_agree s f g zero same = refl
asked_agree s f g (suc n) same = same (s.since + n) (omega arith) (omega arith)

-- a last replenishment before the nth tick since
abbrev pub IsPast : Reservation → ℕ → Option ℕ → Type 0
IsPast s n last = (m : ℕ) → last ≡ Some m → (s.since ≤ m) × (m < s.since + n)

replenished_agree : (s : Reservation) (a a' v v' : ℕ → Bool) (n : ℕ) (last : Option ℕ) → IsPast s n last
    → Agree a a' s.since (s.since + n + 1) → Agree v v' s.since (s.since + n) → is_replenished s a v n last
    ≡ is_replenished s a' v' n last
replenished_agree s a a' v v' n None past same_a same_v =
    rw (same_a (s.since + n) (omega arith) (omega arith)) refl
replenished_agree s a a' v v' n (Some m) past same_a same_v =
    let h = past m refl in
    rw (
      same_a (s.since + n) (omega arith) (omega arith),
      same_a (s.since + n - 1) (omega (arith, h.0, h.1))
          (omega arith),
      count_agree v v' m (s.since + n) (λ k ge lt. same_v k (omega (arith, h.0)) lt),
    ) refl

last_past : (s : Reservation) (asks serves : ℕ → Bool) (n : ℕ) → IsPast s n (last_replenished s asks serves n)
last_past s asks serves n m e = (last_since s asks serves n m e, last_before s asks serves n m e)

pub last_agree : (s : Reservation) (a a' v v' : ℕ → Bool) (n : ℕ) → Agree a a' s.since (s.since + n)
    → Agree v v' s.since (s.since + n) → last_replenished s a v n ≡ last_replenished s a' v' n
unfolding last_replenished
last_agree s a a' v v' zero same_a same_v = refl
last_agree s a a' v v' (suc n) same_a same_v =
    let before : last_replenished s a v n ≡ last_replenished s a' v' n =
    last_agree s a a' v v' n (λ k ge lt. same_a k ge (omega arith)) (λ k ge lt. same_v k ge (omega arith))
    in
    rw (
      before,
      replenished_agree s a a' v v' n (last_replenished s a' v' n) (last_past s a' v' n)
          (λ k ge lt. same_a k ge (omega arith)) (λ k ge lt. same_v k ge (omega arith)),
    )

pub server_agree : (s : Reservation) (a a' v v' : ℕ → Bool) (n : ℕ) → Agree a a' s.since (s.since + n)
    → Agree v v' s.since (s.since + n) → server_before s a v n ≡ server_before s a' v' n
server_agree s a a' v v' n same_a same_v =
    rw (
      last_agree s a a' v v' n same_a same_v,
      asked_agree s a a' n same_a,
      budget_agree s v v' (last_replenished s a' v' n) (s.since + n) (last_since s a' v' n) same_v,
    )

pub within_agree : (s : Reservation) (a a' v v' : ℕ → Bool) (n : ℕ) → Agree a a' s.since (s.since + suc n)
    → Agree v v' s.since (s.since + suc n) → server_within s a v n ≡ server_within s a' v' n
within_agree s a a' v v' n same_a same_v =
    rw (
      last_agree s a a' v v' (suc n) same_a same_v,
      same_a (s.since + n) (omega arith) (omega arith),
      budget_agree s v v' (last_replenished s a' v' (suc n)) (s.since + n) (last_since s a' v' (suc n))
          (λ k ge lt. same_v k ge (omega arith)),
    )
