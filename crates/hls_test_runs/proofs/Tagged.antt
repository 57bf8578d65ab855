-- The books of the run of shares, and their start tags.
use Rattle.std.proofs.Common.{◌≡◌, ℕ, [], ◌∷◌, Some, refl}
use Rattle.hls_chron.specs.declared.book.TickRow.{TickRow}
use Rattle.hls_chron.specs.declared.book.Event.TheVariants.{Seat, Leave}
use Rattle.hls_chron.specs.declared.plain.Terms.TheVariants.{Weight}
use Rattle.hls_chron.specs.Ledger.{Ledger, with_row, with_mark, row_at, before}
use Rattle.hls_chron.specs.Seats.{asked, served}
use Rattle.hls_chron.specs.Ticks.{count}
use Rattle.hls_kinds.specs.Ticks.{last_of}
use Rattle.hls_kinds.specs.Tenants.{tenant_at, settled_at, left_at}
use Rattle.hls_kinds.specs.Tags.{start_tags, start_tag}
use Rattle.hls_machine.specs.Ledgers.{empty_book, with_marks}

abbrev pub row_to : ℕ → TickRow
row_to slot = record { mask = 3; to = Some slot; port = 0 }

abbrev pub lone : Ledger
lone = with_mark (empty_book 0 4 8) (Seat 0 (Weight 1))

abbrev pub pair : Ledger
pair = with_mark lone (Seat 1 (Weight 2))

abbrev pub first : Ledger
first = with_row pair (row_to 1)

abbrev pub again : Ledger
again = with_marks first (Leave 0 ∷ Seat 0 (Weight 1) ∷ [])

abbrev pub second : Ledger
second = with_row again (row_to 1)

abbrev pub third : Ledger
third = with_row second (row_to 0)

pub tags_pair : (start_tag 1 pair 0 0 ≡ 232792560) × (start_tag 1 pair 0 1 ≡ 116396280)
unfolding start_tags last_of count asked served row_at tenant_at settled_at left_at before
tags_pair = (refl, refl)

pub tags_again : (start_tag 1 again 1 0 ≡ 349188840) × (start_tag 1 again 1 1 ≡ 232792560)
unfolding start_tags last_of count asked served row_at tenant_at settled_at left_at before
tags_again = (refl, refl)

pub tags_second : (start_tag 1 second 2 0 ≡ 349188840) × (start_tag 1 second 2 1 ≡ 349188840)
unfolding start_tags last_of count asked served row_at tenant_at settled_at left_at before
tags_second = (refl, refl)

pub tags_third : (start_tag 1 third 3 0 ≡ 581981400) × (start_tag 1 third 3 1 ≡ 349188840)
unfolding start_tags last_of count asked served row_at tenant_at settled_at left_at before
tags_third = (refl, refl)
