-- What several marks and a row change of what a book says.
use Rattle.std.proofs.Common.{◌≡◌, ℕ, ◌<◌, ◌≤◌, List, [], ◌∷◌, refl, ap, ◌∙◌, arith, fold}
use Rattle.std.proofs.Common.{is_some, ◌==◌, ◌&&◌}
use Rattle.std.specs.Prelude.{◌⊎◌}
use Rattle.std.proofs.Common.{inl, inr, true}
use Rattle.std.proofs.lemmas.Bool.{cases_lt, cases_eq}
use Rattle.hls_chron.specs.declared.book.TickRow.{TickRow}
use Rattle.hls_chron.specs.declared.book.Event.{Event}
use Rattle.hls_chron.specs.declared.book.Event.TheVariants.{Seat, Leave, Settle}
use Rattle.hls_chron.specs.declared.plain.Config.{Config}
use Rattle.hls_chron.specs.Ledger.{Ledger, now_of, with_row, with_mark, row_at, before, IsDated}
use Rattle.hls_chron.specs.Seats.{terms_after, terms_at, asked, served, is_slot}
use Rattle.hls_chron.proofs.BookLaws.{terms_at-mark, now_of-row, row_at-mark, row_at-past, row_at-now}
use Rattle.hls_chron.proofs.BookLaws.{before-mark, before-row, dated-mark, row_at-unwritten}
use Rattle.hls_kinds.specs.Tenants.{tenant_after, tenant_at, settled_after, settled_at}
use Rattle.hls_kinds.proofs.MarkLaws.{tenant_at-mark, settled_at-mark}
use Rattle.hls_book.proofs.PromiseLaws.{row_at-later}
use Rattle.hls_kinds.specs.Asks.{asks, slot_asks}
use Rattle.hls_chron.specs.Kinds.{IsPort}
use Rattle.hls_book.specs.Promise.{given, asked_by, HasPorts}
use Rattle.hls_machine.specs.Ledgers.{empty_book, with_marks}
use Rattle.hls_kinds.proofs.Rooms.{asks-room, before-last}

-- marks leave the rows
pub row_at-marks : (b : Ledger) (events : List Event) (t : ℕ) → row_at (with_marks b events) t ≡ row_at b t
row_at-marks b [] t = refl
row_at-marks b (e ∷ es) t = row_at-marks (with_mark b e) es t ∙ row_at-mark b e t

pub now_of-marks : (b : Ledger) (events : List Event) → now_of (with_marks b events) ≡ now_of b
now_of-marks b [] = refl
now_of-marks b (e ∷ es) = now_of-marks (with_mark b e) es

pub before-marks : (b : Ledger) (events : List Event) (t : ℕ) → t < now_of b
    → before t (with_marks b events) ≡ before t b
before-marks b [] t lt = refl
before-marks b (e ∷ es) t lt = before-marks (with_mark b e) es t lt ∙ before-mark b e t lt

pub dated-marks : (b : Ledger) (events : List Event) → IsDated b → IsDated (with_marks b events)
dated-marks b [] dated = dated
dated-marks b (e ∷ es) dated = dated-marks (with_mark b e) es (dated-mark b e dated)

-- and go one after another over terms, tenants and settlings
pub terms_at-marks : (b : Ledger) (slot : ℕ) (events : List Event)
    → terms_at (with_marks b events) slot ≡ fold (terms_after slot) (terms_at b slot) events
terms_at-marks b slot [] = refl
terms_at-marks b slot (e ∷ es) = terms_at-marks (with_mark b e) slot es
    ∙ ap (λ x. fold (terms_after slot) x es) (terms_at-mark b e slot)

pub tenant_at-marks : (b : Ledger) (slot : ℕ) (events : List Event)
    → tenant_at (with_marks b events) slot ≡ fold (tenant_after slot (now_of b)) (tenant_at b slot) events
tenant_at-marks b slot [] = refl
tenant_at-marks b slot (e ∷ es) = tenant_at-marks (with_mark b e) slot es
    ∙ ap (λ x. fold (tenant_after slot (now_of b)) x es) (tenant_at-mark b e slot)

pub settled_at-marks : (b : Ledger) (events : List Event)
    → settled_at (with_marks b events) ≡ fold (settled_after (now_of b)) (settled_at b) events
settled_at-marks b [] = refl
settled_at-marks b (e ∷ es) = settled_at-marks (with_mark b e) es
    ∙ ap (λ x. fold (settled_after (now_of b)) x es) (settled_at-mark b e)

-- whether it asked in a tick
pub asked_by-marks : (config : Config) (b : Ledger) (events : List Event) (t : ℕ) → t < now_of b
    → asked_by config (with_marks b events) t ≡ asked_by config b t
unfolding asked_by
asked_by-marks config b events t lt = rw (before-marks b events t lt, row_at-marks b events t) refl

pub asked_by-row : (config : Config) (b : Ledger) (row : TickRow) (t : ℕ) → t < now_of b
    → asked_by config (with_row b row) t ≡ asked_by config b t
unfolding asked_by
asked_by-row config b row t lt = rw (before-row b row t lt, row_at-past b row t lt) refl

pub asked_by-now : (config : Config) (b : Ledger) (row : TickRow) → IsDated b
    → asked_by config (with_row b row) (now_of b) ≡ asks config b row.mask
unfolding asked_by
asked_by-now config b row dated = rw (before-last b row dated, row_at-now b row) (asks-room config b row.mask)

-- what rows say, after marks
pub asked-marks : (b : Ledger) (events : List Event) (slot t : ℕ)
    → asked (with_marks b events) slot t ≡ asked b slot t
unfolding asked
asked-marks b events slot t = rw (row_at-marks b events t) refl

pub served-marks : (b : Ledger) (events : List Event) (slot t : ℕ)
    → served (with_marks b events) slot t ≡ served b slot t
unfolding served
served-marks b events slot t = rw (row_at-marks b events t) refl

pub given-marks : (b : Ledger) (events : List Event) (port t : ℕ)
    → given (with_marks b events) port t ≡ given b port t
unfolding given
given-marks b events port t = rw (row_at-marks b events t) refl

-- and after a row
pub asked-row : (b : Ledger) (row : TickRow) (slot t : ℕ) → t < now_of b
    → asked (with_row b row) slot t ≡ asked b slot t
unfolding asked
asked-row b row slot t lt = rw (row_at-past b row t lt) refl

pub served-row : (b : Ledger) (row : TickRow) (slot t : ℕ) → t < now_of b
    → served (with_row b row) slot t ≡ served b slot t
unfolding served
served-row b row slot t lt = rw (row_at-past b row t lt) refl

pub given-row : (b : Ledger) (row : TickRow) (port t : ℕ) → t < now_of b
    → given (with_row b row) port t ≡ given b port t
unfolding given
given-row b row port t lt = rw (row_at-past b row t lt) refl

pub asked-now : (b : Ledger) (row : TickRow) (slot : ℕ)
    → asked (with_row b row) slot (now_of b) ≡ slot_asks row.mask slot
unfolding asked
asked-now b row slot = rw (row_at-now b row) refl

pub served-now : (b : Ledger) (row : TickRow) (slot : ℕ)
    → served (with_row b row) slot (now_of b) ≡ is_slot row.to slot
unfolding served
served-now b row slot = rw (row_at-now b row) refl

pub given-now : (b : Ledger) (row : TickRow) (port : ℕ)
    → given (with_row b row) port (now_of b) ≡ (is_some row.to && row.port == port)
unfolding given
given-now b row port = rw (row_at-now b row) refl

-- settlings move up to now, and no further
pub record Grows (now from to : ℕ) : Type 0 where
  pub more : from ≤ to
  pub within : to ≤ now

pub settled_grows : (now from : ℕ) (events : List Event) → from ≤ now
    → Grows now from (fold (settled_after now) from events)
settled_grows now from [] le = record { more = omega arith; within = le }
settled_grows now from (Seat at terms ∷ es) le = settled_grows now from es le
settled_grows now from (Leave at ∷ es) le = settled_grows now from es le
settled_grows now from (Settle ∷ es) le = let rest = settled_grows now now es (omega arith) in let more =
    rest.more in record { more = omega arith; within = rest.within }

-- ports
pub ports-marks : (config : Config) (b : Ledger) (events : List Event) → HasPorts config b
    → HasPorts config (with_marks b events)
ports-marks config b events has t = rw (row_at-marks b events t) (has t)

ports_at : (config : Config) (b : Ledger) (row : TickRow) → HasPorts config b
    → (is_some row.to ≡ true → IsPort config row.port) → (t : ℕ) → (t < now_of b) ⊎ (now_of b ≤ t)
    → is_some (row_at (with_row b row) t).to ≡ true → IsPort config (row_at (with_row b row) t).port
ports_at config b row has good t (inl past) = rw (row_at-past b row t past) (has t)
ports_at config b row has good t (inr late) = elim (cases_eq t (now_of b)) [
  | inl now ↦ rw (now, row_at-now b row) good
  | inr ne ↦ rw (row_at-later (with_row b row) t (omega (arith, now_of-row b row))) (λ is. absurd (cc))
]

pub ports-row : (config : Config) (b : Ledger) (row : TickRow) → HasPorts config b
    → (is_some row.to ≡ true → IsPort config row.port) → HasPorts config (with_row b row)
ports-row config b row has good t = ports_at config b row has good t (cases_lt t (now_of b))

pub ports-empty : (config : Config) (now spare_ticks spare_marks : ℕ)
    → HasPorts config (empty_book now spare_ticks spare_marks)
ports-empty config now spare_ticks spare_marks t =
    rw (row_at-unwritten (empty_book now spare_ticks spare_marks) t refl) (λ is. absurd (cc))
