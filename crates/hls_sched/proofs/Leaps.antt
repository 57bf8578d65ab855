-- Many ticks at once, one after the other.
use Rattle.std.proofs.Common.{◌≡◌, ℕ, zero, suc, ◌-◌, ◌<◌, [], ◌∷◌, ◌++◌, refl, sym, ap, ◌∙◌, arith}
use Rattle.std.proofs.Common.{append-nil, append_assoc}
use Rattle.std.specs.Prelude.{Option, replicate}
use Rattle.hls_chron.specs.declared.book.TickRow.{TickRow}
use Rattle.hls_chron.specs.Ledger.{Ledger, with_row, with_rows}
use Rattle.hls_sched.specs.Seen.{Seen, turned, leapt, tick_row}

one_row_more : (n : ℕ) (row : TickRow) → replicate (suc n) row ≡ replicate n row ++ row ∷ []
one_row_more zero row = refl
one_row_more (suc n) row = ap (λ rows. row ∷ rows) (one_row_more n row)

-- no tick, and one tick more
pub rows-none : (b : Ledger) (row : TickRow) → with_rows b row 0 ≡ b
rows-none b row =
    let spare : b.spare_ticks - 0 ≡ b.spare_ticks = omega arith in
    rw (append-nil b.rows, spare) refl

pub rows-more : (b : Ledger) (row : TickRow) (n : ℕ) → with_rows b row (suc n) ≡ with_row (with_rows b row n) row
rows-more b row n =
    let rows : b.rows ++ replicate (suc n) row ≡ (b.rows ++ replicate n row) ++ row ∷ [] =
    ap (λ xs. b.rows ++ xs) (one_row_more n row) ∙ sym (append_assoc b.rows (replicate n row) (row ∷ [])) in
    let spare : b.spare_ticks - suc n ≡ (b.spare_ticks - n) - 1 = omega arith in
    ap (λ rows. record b { rows = rows; spare_ticks = b.spare_ticks - suc n }) rows
    ∙ ap (λ n_spare. record b { rows = (b.rows ++ replicate n row) ++ row ∷ []; spare_ticks = n_spare }) spare

pub leapt-none : (choice : Option ℕ) (s : Seen) → leapt 0 choice s ≡ s
leapt-none choice s = ap (λ book. record s { book = book }) (rows-none s.book (tick_row s.mask s.grant choice))

pub leapt-more : (choice : Option ℕ) (s : Seen) (n : ℕ) → leapt (suc n) choice s ≡ turned choice (leapt n choice s)
leapt-more choice s n =
    ap (λ book. record s { book = book }) (rows-more s.book (tick_row s.mask s.grant choice) n)

-- a fact that each tick keeps
pub leapt-keeps : (P : Seen → Type 0) (choice : Option ℕ) (s : Seen) (n : ℕ) → P s
    → ((k : ℕ) → k < n → P (leapt k choice s) → P (turned choice (leapt k choice s))) → P (leapt n choice s)
leapt-keeps P choice s zero now step = rw (leapt-none choice s) now
leapt-keeps P choice s (suc n) now step =
    let before = leapt-keeps P choice s n now (λ k lt is. step k (omega (arith, lt)) is) in
    let after = step n (omega arith) before in
    rw (leapt-more choice s n) after
