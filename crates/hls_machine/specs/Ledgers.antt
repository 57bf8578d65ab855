-- Books at their beginning, and with several marks more.
use Rattle.std.specs.Prelude.{ℕ, List, [], ◌∷◌}
use Rattle.hls_chron.specs.declared.book.Event.{Event}
use Rattle.hls_chron.specs.Ledger.{Ledger, with_mark}

-- the book of a scheduler that is loaded at a tick, with room for so many ticks and marks
abbrev pub empty_book : (start spare_ticks spare_marks : ℕ) → Ledger
empty_book start spare_ticks spare_marks = record {
  start = start;
  rows = [];
  marks = [];
  spare_ticks = spare_ticks;
  spare_marks = spare_marks;
}

-- a mark of the present tick for each event, in their order
abbrev pub with_marks : Ledger → List Event → Ledger
with_marks b [] = b
with_marks b (event ∷ events) = with_marks (with_mark b event) events
