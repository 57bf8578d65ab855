-- What a book says goes by its start, its rows and its marks alone; and these are all that it was before the
-- choice of its last row.
use Rattle.std.proofs.Common.{◌≡◌, ℕ, ◌-◌, refl, arith, ap, ◌∙◌, List, [], ◌∷◌, ◌++◌, length, take}
use Rattle.std.proofs.Math.Seq.{take-append_seam}
use Rattle.hls_chron.specs.declared.book.TickRow.{TickRow}
use Rattle.hls_chron.specs.declared.book.Mark.{Mark}
use Rattle.hls_chron.specs.declared.plain.Config.TheVariants.{Edf}
use Rattle.hls_chron.specs.Ledger as ledgers
use Rattle.hls_chron.specs.Ledger.{Ledger, now_of, with_row, before, IsDated}
use Rattle.hls_chron.specs.Seats as seats
use Rattle.hls_chron.proofs.BookLaws.{before-now}
use Rattle.hls_kinds.specs.Tenants as tenants
use Rattle.hls_kinds.specs.Reservations as reservations
use Rattle.hls_kinds.specs.Asks.{asks}
use Rattle.hls_kinds.specs.Discipline.{Serves}

-- with no room
abbrev pub bare : Ledger → Ledger
bare b = record b { spare_ticks = 0; spare_marks = 0 }

pub asks-bare : (b : Ledger) (mask : ℕ) → asks Edf (bare b) mask ≡ asks Edf b mask
unfolding reservations.claim_at tenants.tenant_at seats.asked seats.served ledgers.row_at
asks-bare b mask = refl

pub serves-bare : (b : Ledger) (mask slot : ℕ) → Serves Edf (bare b) mask slot ≡ Serves Edf b mask slot
unfolding reservations.claim_at tenants.tenant_at seats.asked seats.served ledgers.row_at
serves-bare b mask slot = refl

ledger_same : (start : ℕ) (rows rows' : List TickRow) (marks marks' : List Mark) → rows ≡ rows'
    → marks ≡ marks'
    → (let b : Ledger = record { start = start; rows = rows; marks = marks; spare_ticks = 0; spare_marks = 0 }
    in b)
    ≡ (let b : Ledger = record {
      start = start;
      rows = rows';
      marks = marks';
      spare_ticks = 0;
      spare_marks =
          0;
    } in b)
ledger_same start rows rows' marks marks' e f = cc

pub before-last : (b : Ledger) (row : TickRow) → IsDated b → before (now_of b) (with_row b row) ≡ bare b
unfolding before
before-last b row dated =
    let at : now_of b - b.start ≡ length b.rows = omega arith in
    ledger_same b.start _ _ _ _
    (ap (λ n. take n (b.rows ++ row ∷ [])) at ∙ take-append_seam b.rows (row ∷ [])) (before-now b row dated)
