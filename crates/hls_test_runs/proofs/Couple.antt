-- The books of the run of two shares that come apart, and their start tags.
use Rattle.std.proofs.Common.{◌≡◌, ℕ, Some, refl}
use Rattle.hls_chron.specs.declared.book.TickRow.{TickRow}
use Rattle.hls_chron.specs.declared.book.Event.TheVariants.{Seat}
use Rattle.hls_chron.specs.declared.plain.Terms.TheVariants.{Weight}
use Rattle.hls_chron.specs.Ledger.{Ledger, with_row, with_mark, row_at, before}
use Rattle.hls_chron.specs.Seats.{asked, served}
use Rattle.hls_chron.specs.Ticks.{count}
use Rattle.hls_kinds.specs.Tags.{start_tags, start_tag}
use Rattle.hls_kinds.specs.Tenants.{tenant_at, settled_at, left_at}
use Rattle.hls_kinds.specs.Ticks.{last_of}
use Rattle.hls_machine.specs.Ledgers.{empty_book}

abbrev pub row_of : (mask slot : ℕ) → TickRow
row_of mask slot = record { mask = mask; to = Some slot; port = 0 }

abbrev pub single : Ledger
single = with_mark (empty_book 0 4 8) (Seat 0 (Weight 1))

abbrev pub double : Ledger
double = with_mark single (Seat 1 (Weight 1))

abbrev pub once : Ledger
once = with_row double (row_of 2 1)

abbrev pub twice : Ledger
twice = with_row once (row_of 3 0)

abbrev pub thrice : Ledger
thrice = with_row twice (row_of 3 0)

-- by slot
pub record HasTags (b : Ledger) (t lower upper : ℕ) : Type 0 where
  pub first : start_tag 1 b t 0 ≡ lower
  pub second : start_tag 1 b t 1 ≡ upper

pub tags_once : HasTags once 1 232792560 465585120
unfolding start_tags last_of count asked served row_at tenant_at settled_at left_at before
tags_once = record { first = refl; second = refl }

pub tags_twice : HasTags twice 2 465585120 465585120
unfolding start_tags last_of count asked served row_at tenant_at settled_at left_at before
tags_twice = record { first = refl; second = refl }

pub tags_thrice : HasTags thrice 3 698377680 465585120
unfolding start_tags last_of count asked served row_at tenant_at settled_at left_at before
tags_thrice = record { first = refl; second = refl }
