-- What a scheduler asks and serves does not go by the room that its book has for more; and the book before its
-- last row is the one that the row came to, with no room.
use Rattle.std.proofs.Common.{◌≡◌, ℕ, zero, suc, ◌+◌, ◌-◌, [], ◌∷◌, length, refl, sym, ap, subst, arith}
use Rattle.std.proofs.Math.Seq.{take-append_seam}
use Rattle.hls_chron.specs.declared.book.TickRow.{TickRow}
use Rattle.hls_chron.specs.declared.plain.Config.{Config}
use Rattle.hls_chron.specs.Ledger.{Ledger, now_of, with_row, row_at, before, IsDated}
use Rattle.hls_chron.specs.Seats.{terms_at, asked, served}
use Rattle.hls_chron.proofs.BookLaws.{before-now}
use Rattle.hls_chron.proofs.ConfigLaws.{by_kind}
use Rattle.hls_kinds.specs.Tenants.{tenant_at, settled_at, left_at}
use Rattle.hls_kinds.specs.Reservations.{claim_at}
use Rattle.hls_kinds.specs.Tags.{start_by, start_tags, start_tag}
use Rattle.hls_kinds.specs.Frames.{owner_at}
use Rattle.hls_kinds.specs.Turns.{turn_slot, turns_after}
use Rattle.hls_kinds.specs.Asks.{asks}
use Rattle.hls_kinds.specs.Discipline.{HasLeastPriority, TakesTurn, Serves}

-- the book with no room for more
abbrev pub roomless : Ledger → Ledger
roomless b = record b { spare_ticks = 0; spare_marks = 0 }

pub asks-room : (config : Config) (b : Ledger) (mask : ℕ) → asks config (roomless b) mask ≡ asks config b mask
unfolding asked served row_at claim_at tenant_at owner_at
asks-room config b mask =
    by_kind (λ config. asks config (roomless b) mask ≡ asks config b mask) refl refl refl (λ sharing. refl)
    (λ quantum. refl) (λ frame. refl) (λ ports. refl) config

tags-room : (quantum : ℕ) (b : Ledger) (n : ℕ) → start_tags quantum (roomless b) n ≡ start_tags quantum b n
unfolding start_tags asked served row_at tenant_at before settled_at left_at
tags-room quantum b zero = refl
tags-room quantum b (suc n) = λ i t slot. start_by quantum b (tags-room quantum b n i) t slot

pub tag-room : (quantum : ℕ) (b : Ledger) (t : ℕ) → start_tag quantum (roomless b) t ≡ start_tag quantum b t
tag-room quantum b t = λ i slot. tags-room quantum b (t + 1) i t slot

least-room : (b : Ledger) (mask slot : ℕ) → HasLeastPriority b mask slot
    → HasLeastPriority (roomless b) mask slot
unfolding terms_at
least-room b mask slot least = record { asks = least.asks; seated = least.seated; least = least.least }

turn-room : (quantum : ℕ) (b : Ledger) (key : ℕ → ℕ) (mask slot : ℕ) → TakesTurn quantum b key mask slot
    → TakesTurn quantum (roomless b) key mask slot
unfolding asked served row_at settled_at left_at
turn-room quantum b key mask slot turn = record { goes_on = turn.goes_on; passes = turn.passes }

pub slot-room : (b : Ledger) → turn_slot (roomless b) ≡ turn_slot b
unfolding row_at settled_at
slot-room b = refl

share-room : (quantum : ℕ) (b : Ledger) (mask slot : ℕ)
    → TakesTurn quantum b (start_tag quantum b (now_of b)) mask slot
    → TakesTurn quantum (roomless b) (start_tag quantum (roomless b) (now_of b)) mask slot
share-room quantum b mask slot serves =
    turn-room quantum b (start_tag quantum (roomless b) (now_of b)) mask slot
    (subst (λ (key : ℕ → ℕ). TakesTurn quantum b key mask slot) (sym (tag-room quantum b (now_of b))) serves)

round-room : (quantum : ℕ) (b : Ledger) (mask slot : ℕ)
    → TakesTurn quantum b (turns_after (turn_slot b)) mask slot
    → TakesTurn quantum (roomless b) (turns_after (turn_slot (roomless b))) mask slot
round-room quantum b mask slot serves =
    turn-room quantum b (turns_after (turn_slot (roomless b))) mask slot
    (subst (λ (n : ℕ). TakesTurn quantum b (turns_after n) mask slot) (sym (slot-room b)) serves)

pub serves-room : (config : Config) (b : Ledger) (mask slot : ℕ) → Serves config b mask slot
    → Serves config (roomless b) mask slot
unfolding asked served row_at claim_at tenant_at owner_at
serves-room config b mask slot =
    by_kind (λ config. Serves config b mask slot → Serves config (roomless b) mask slot) (λ serves. serves)
    (least-room b mask slot) (λ serves. serves) (λ sharing. share-room sharing.quantum b mask slot)
    (λ quantum. round-room quantum b mask slot) (λ frame serves. serves) (λ ports serves. serves) config

pub before-last : (b : Ledger) (row : TickRow) → IsDated b → before (now_of b) (with_row b row) ≡ roomless b
unfolding before
before-last b row dated =
    let all : now_of b - b.start ≡ length b.rows = omega arith in
    let marks = before-now b row dated in
    rw (all, take-append_seam b.rows (row ∷ []))
    (ap (λ marks. record
    { start = b.start; rows = b.rows; marks = marks; spare_ticks = 0; spare_marks = 0 }) marks)
