-- Seats that are newly taken.
use Rattle.std.proofs.Common.{◌≡◌, ℕ, zero, suc, ◌+◌, ◌<◌, ◌≢◌, max, List, [], ◌∷◌, slice_get, Option, None}
use Rattle.std.proofs.Common.{Some, true, false, refl, sym, ap, ◌∙◌, subst, arith, cond}
use Rattle.hls_chron.specs.declared.plain.Terms.{Terms}
use Rattle.hls_chron.specs.Ledger.{now_of}
use Rattle.hls_kinds.specs.declared.tenant.Tenant.TheVariants.{Sits}
use Rattle.hls_kinds.specs.Tenants.{tenant_at}
use Rattle.hls_machine.specs.Ledgers.{with_marks}
use Rattle.hls_machine.specs.Hierarchy.{Hierarchy, Place, Processor, At, Seat, book_of}
use Rattle.hls_machine.specs.Steps.{leavings, root_with, root_without, is_processor}
use Rattle.hls_machine.specs.Legal.{MaySit, MayBeRoot, MayTakeAt}
use Rattle.hls_machine.specs.Linked.{book_at}
use Rattle.hls_machine.proofs.Marks.{tenant_at-marks}
use Rattle.hls_machine.proofs.Seatings.{Elsewhere, leavings_off}
use Rattle.hls_kinds.proofs.Occupants.{occupied}

-- a rank above those of these seats' places
abbrev above_place : (ℕ → ℕ) → Place → ℕ
above_place rank Processor = 0
above_place rank (At p slot) = rank p + 1

abbrev pub above : (ℕ → ℕ) → List Seat → ℕ
above rank [] = 0
above rank (seat ∷ seats) = max (above_place rank seat.place) (above rank seats)

pub above_each : (rank : ℕ → ℕ) (seats : List Seat) (port : ℕ) (seat : Seat) (p slot : ℕ)
    → slice_get seats port ≡ Some seat → seat.place ≡ At p slot → rank p < above rank seats
above_each rank [] port seat p slot g e = cc
above_each rank (s ∷ seats) zero seat p slot g e =
    let same : s ≡ seat = cc in
    let here : above_place rank s.place ≡ rank p + 1 = ap (λ (x : Seat). above_place rank x.place) same
    ∙ ap (above_place rank) e in
    omega (arith, here)
above_each rank (s ∷ seats) (suc port) seat p slot g e = let rest =
    above_each rank seats port seat p slot g e in omega (arith, rest)

-- the root
pub root_takes : (k : ℕ) (seats : List Seat) (root : Option ℕ) (port : ℕ) (seat : Seat)
    → slice_get seats port ≡ Some seat → seat.place ≡ Processor → root_with k seats root ≡ Some k
root_takes k [] root port seat g e = cc
root_takes k (s ∷ seats) root zero seat g e =
    let same : s ≡ seat = cc in
    let here : is_processor s.place ≡ true = ap (λ (x : Seat). is_processor x.place) same
    ∙ ap is_processor e in
    rw here refl
root_takes k (s ∷ seats) root (suc port) seat g e =
    elim (is_processor s.place) as (λ b. cond b (Some k) (root_with k seats root) ≡ Some k)
    [ true ↦ refl | false ↦ root_takes k seats root port seat g e ]

pub root_keeps : (k : ℕ) (seats : List Seat) (root : Option ℕ)
    → ((port : ℕ) (seat : Seat) → slice_get seats port ≡ Some seat → seat.place ≢ Processor)
    → root_with k seats root ≡ root
root_keeps k [] root off = refl
root_keeps k (seat ∷ seats) root off =
    elim seat.place as (λ place. (place ≢ Processor)
    → cond (is_processor place) (Some k) (root_with k seats root) ≡ root) [
      | Processor ↦ λ ne. absurd (ne refl)
      | At p slot ↦ λ ne. root_keeps k seats root (λ port other e. off (suc port) other e)
    ] (off 0 seat refl)

pub root_stays : (seats : List Seat) (root : Option ℕ)
    → ((port : ℕ) (seat : Seat) → slice_get seats port ≡ Some seat → seat.place ≢ Processor)
    → root_without seats root ≡ root
root_stays [] root off = refl
root_stays (seat ∷ seats) root off =
    elim seat.place as (λ place. (place ≢ Processor)
    → cond (is_processor place) None (root_without seats root) ≡ root) [
      | Processor ↦ λ ne. absurd (ne refl)
      | At p slot ↦ λ ne. root_stays seats root (λ port other e. off (suc port) other e)
    ] (off 0 seat refl)

-- and it is not free for another, unless it is left
pub taken_not_free : (h : Hierarchy) (left : List Seat) (seat : Seat) (p slot since : ℕ) (terms : Terms)
    → tenant_at (book_at h p) slot ≡ Sits terms since → Elsewhere left p slot → MaySit h left seat p slot → ⊥
taken_not_free h left seat p slot since terms taken away m =
    let b = m.scheduler.book in
    let there : tenant_at b slot ≡ Sits terms since = sym (ap (λ n. tenant_at (book_of n) slot) m.there)
    ∙ taken in
    let stays : tenant_at (with_marks b (leavings left p)) slot ≡ tenant_at b slot =
    tenant_at-marks b slot (leavings left p)
    ∙ leavings_off left p slot (now_of b) (tenant_at b slot) away in
    occupied m.scheduler.config (with_marks b (leavings left p)) slot since terms (stays ∙ there) m.free.free

pub may_sit : (h : Hierarchy) (left : List Seat) (seat : Seat) (place : Place) (p slot : ℕ)
    → place ≡ At p slot → MayTakeAt h left seat place → MaySit h left seat p slot
may_sit h left seat place p slot e m = subst (MayTakeAt h left seat) e m

pub may_root : (h : Hierarchy) (left : List Seat) (seat : Seat) (place : Place) → place ≡ Processor
    → MayTakeAt h left seat place → MayBeRoot h seat
may_root h left seat place e m = subst (MayTakeAt h left seat) e m
