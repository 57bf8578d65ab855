-- What a made book keeps, by its kind, and that it keeps its discipline and its promise.
use Rattle.std.proofs.Common.{◌≡◌, ℕ, Some, refl}
use Rattle.std.proofs.Math.Logic.{∥∥₁_elim}
use Rattle.std.proofs.Props.{props}
use Rattle.hls_chron.specs.declared.book.TickRow.{TickRow}
use Rattle.hls_chron.specs.declared.book.Event.{Event}
use Rattle.hls_chron.specs.declared.book.Event.TheVariants.{Seat, Leave, Settle}
use Rattle.hls_chron.specs.declared.plain.Config.{Config}
use Rattle.hls_chron.specs.declared.plain.Config.TheVariants.{Cpu, Fp, Edf, Rr, Wheel, Join}
use Rattle.hls_chron.specs.declared.plain.Sharing.{Sharing}
use Rattle.hls_chron.specs.Kinds.{by_shares}
use Rattle.hls_chron.specs.Ledger.{Ledger, now_of, with_row, with_mark, before, IsDated}
use Rattle.hls_chron.proofs.ConfigLaws.{by_kind}
use Rattle.hls_kinds.specs.Shares.{KeepsShares}
use Rattle.hls_kinds.specs.Discipline.{KeepsDiscipline}
use Rattle.hls_kinds.specs.Made.{IsAllowed, IsRow, Making, Begun, Marked, Ticked, IsMade}
use Rattle.hls_kinds.proofs.DisciplineLaws.{ServesInTick, discipline-mark, discipline-row, discipline-unwritten}
use Rattle.hls_kinds.proofs.Props.{ranges_prop, serves_prop, discipline_prop}
use Rattle.hls_kinds.proofs.Rooms.{roomless, serves-room, before-last}
use Rattle.hls_kinds.proofs.ServingLaws.{serves-asks}
use Rattle.hls_book.specs.Promise.{KeepsPromise}
pub use Rattle.hls_book.proofs.Made.{kind_made, range_made, admission_made}
use Rattle.hls_book.proofs.PromiseLaws.{fixed_priority_keeps, join_keeps}
use Rattle.hls_book.specs.Books.{KeepsReservations}
use Rattle.hls_book.specs.Props.{tenant_prop}
use Rattle.hls_book.proofs.ServerKeeping.{keeps-row, keeps-settle}
use Rattle.hls_book.proofs.ServerPromises.{keeps-new, promise-kept}
use Rattle.hls_book.proofs.Admitting.{keeps-seating, keeps-leaving}
use Rattle.hls_book.specs.ShareBook.{KeepsShareBook}
use Rattle.hls_book.proofs.ShareKeeping.{MayMarkInRange, share_book-row, share_book-mark, share_book-unwritten}
use Rattle.hls_book.proofs.Bounds.{keeps-discipline}
use Rattle.hls_book.proofs.SharePromises.{fair_keeps}
use Rattle.hls_book.specs.Places.{KeepsPlaces}
use Rattle.hls_book.proofs.PlaceLaws.{places-unwritten, places-seat, places-leave, places-settle, places-row}
use Rattle.hls_book.proofs.WheelLaws.{wheel_keeps}
use Rattle.hls_book.proofs.TurnPromises.{turns_keep}

-- reservations
reserved : (b : Ledger) (event : Event) → IsAllowed Edf b event → KeepsReservations b
    → KeepsReservations (with_mark b event)
reserved b (Seat slot terms) may keeps = keeps-seating b slot terms keeps may.0 may.1 may.2
reserved b (Leave slot) may keeps = keeps-leaving b slot keeps may
reserved b Settle may keeps = keeps-settle b keeps

reservations_making : (b : Ledger) → Making Edf b → KeepsReservations b
reservations_making b (Begun _ kind range unwritten unmarked) = keeps-new b unwritten unmarked
reservations_making _ (Marked b event making may) = reserved b event may (reservations_making b making)
reservations_making _ (Ticked b row making is) = keeps-row b row (reservations_making b making) is

pub reservations_made : (b : Ledger) → IsMade Edf b → KeepsReservations b
reservations_made b made = ∥∥₁_elim made (hlevel (props, tenant_prop)) (reservations_making b)

-- fair queueing
in_range : (sharing : Sharing) (b : Ledger) (event : Event) → IsAllowed (by_shares sharing) b event
    → MayMarkInRange sharing b event
in_range sharing b (Seat slot terms) may = ((may.2.within, may.1), may.0, may.2.free)
in_range sharing b (Leave slot) may = tt
in_range sharing b Settle may = tt

shares_making : (sharing : Sharing) (b : Ledger) → Making (by_shares sharing) b → KeepsShareBook sharing b
shares_making sharing b (Begun _ kind range unwritten unmarked) =
    share_book-unwritten sharing b range unwritten unmarked
shares_making sharing _ (Marked b event making may) =
    share_book-mark sharing b event (in_range sharing b event may) (shares_making sharing b making)
shares_making sharing _ (Ticked b row making is) =
    share_book-row sharing b row is.seats is.serves (shares_making sharing b making)

pub shares_made : (sharing : Sharing) (b : Ledger) → IsMade (by_shares sharing) b → KeepsShareBook sharing b
shares_made sharing b made = ∥∥₁_elim made (hlevel (props, ranges_prop, serves_prop)) (shares_making sharing b)

-- frames
placed : (frame : ℕ) (b : Ledger) (event : Event) → IsAllowed (Wheel frame) b event → KeepsPlaces frame b
    → KeepsPlaces frame (with_mark b event)
placed frame b (Seat slot terms) may kept = places-seat frame b slot terms kept may.2.free may.1
placed frame b (Leave slot) may kept = places-leave frame b slot kept
placed frame b Settle may kept = places-settle frame b kept

places_making : (frame : ℕ) (b : Ledger) → Making (Wheel frame) b → KeepsPlaces frame b
places_making frame b (Begun _ kind range unwritten unmarked) = places-unwritten frame b unmarked
places_making frame _ (Marked b event making may) = placed frame b event may (places_making frame b making)
places_making frame _ (Ticked b row making is) =
    places-row frame b row (admission_made (Wheel frame) b ∣ making ∣₁).dated (places_making frame b making)

pub places_made : (frame : ℕ) (b : Ledger) → IsMade (Wheel frame) b → KeepsPlaces frame b
places_made frame b made = ∥∥₁_elim made (hlevel props) (places_making frame b)

-- disciplines: what each tick served was the slot to serve, and only fair queueing keeps more
row_serves : (config : Config) (b : Ledger) (row : TickRow) → IsDated b → IsRow config b row → (slot : ℕ)
    → row.to ≡ Some slot → ServesInTick config (before (now_of b) (with_row b row)) row.mask slot
row_serves config b row dated is slot to = rw (before-last b row dated) (
    let serves = serves-room config b row.mask slot (is.serves slot to) in
    record { asked = serves-asks config (roomless b) row.mask slot serves; served = serves }
    )

-- where its shares are kept in every book
module _ (config : Config) (shares : (b : Ledger) → KeepsShares config b) where
  discipline_making : (b : Ledger) → Making config b → KeepsDiscipline config b
  discipline_making b (Begun _ kind range unwritten unmarked) = discipline-unwritten config b unwritten
  discipline_making _ (Marked b event making may) =
      discipline-mark config b event (discipline_making b making)
  discipline_making _ (Ticked b row making is) =
      discipline-row config b row (discipline_making b making)
      (row_serves config b row (admission_made config b ∣ making ∣₁).dated is) (shares (with_row b row))

  discipline_kept : (b : Ledger) → IsMade config b → KeepsDiscipline config b
  discipline_kept b made = ∥∥₁_elim made (discipline_prop config b) (discipline_making b)

pub discipline_made : (config : Config) (b : Ledger) → IsMade config b → KeepsDiscipline config b
discipline_made = by_kind (λ config. (b : Ledger) → IsMade config b → KeepsDiscipline config b)
    (discipline_kept Cpu (λ b. tt)) (discipline_kept Fp (λ b. tt)) (discipline_kept Edf (λ b. tt))
    (λ sharing b made. keeps-discipline sharing b (shares_made sharing b made))
    (λ quantum. discipline_kept (Rr quantum) (λ b. tt)) (λ frame. discipline_kept (Wheel frame) (λ b. tt))
    (λ ports. discipline_kept (Join ports) (λ b. tt))

-- promises
pub promise_made : (config : Config) (b : Ledger) → IsMade config b → KeepsPromise config b
promise_made = by_kind (λ config. (b : Ledger) → IsMade config b → KeepsPromise config b)
    (λ b made. absurd (kind_made Cpu b made refl))
    (λ b made. fixed_priority_keeps b (admission_made Fp b made) (discipline_made Fp b made))
    (λ b made. promise-kept b (reservations_made b made))
    (λ sharing b made. fair_keeps sharing b (shares_made sharing b made)) turns_keep
    (λ frame b made. wheel_keeps frame b (admission_made (Wheel frame) b made)
    (discipline_made (Wheel frame) b made) (places_made frame b made))
    (λ ports b made. join_keeps ports b (admission_made (Join ports) b made)
    (discipline_made (Join ports) b made))
