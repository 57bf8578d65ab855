-- Rows as they are kept: in little room where they can be.
use Rattle.std.specs.Prelude.{◌≡◌, ℕ, ◌+◌, ◌-◌, ◌/◌, ◌%◌, ◌^◌, ◌==◌, nat_le, if◌then◌else◌}
use Rattle.std.specs.Prelude.{List, [], ◌∷◌, ◌++◌, Option, None, Some, length, min, option_to_list}
use Rattle.std.specs.Global.{Vec}
use Rattle.std.specs.Vec.{vec_capacity}
use Rattle.hls_core_journal.specs.declared.kept_rows.Held.{Held}
use Rattle.hls_core_journal.specs.declared.kept_rows.Held.TheVariants.{Long, One, Two}
use Rattle.hls_core_journal.specs.declared.kept_rows.Row.{Row}
use Rattle.hls_core_journal.specs.declared.kept_rows.Short.{Short}

-- the rows in their order, and how many there may be without memory
pub record RowStore : Type 0 where
  pub items : List Row
  pub capacity : ℕ

-- a row begins one tick behind the one before it, and has so many ticks
abbrev pub row_behind : (before way ticks : ℕ) → Row
row_behind before way ticks = record {
  from = (before + 1) % 2 ^ 32;
  to = (before + ticks) % 2 ^ 32;
  way = way;
}

-- a byte of a pair
abbrev pub row_of_byte : (before byte : ℕ) → Row
row_of_byte before byte = row_behind before (byte / 16) (byte % 16)

-- what a short one holds behind a tick
unfoldable pub held : (before : ℕ) → Short → Held
held before short =
    if nat_le 128 short.second then One (row_behind before short.first (short.second - 128))
    else if short.second == 0 then Long
    else Two (row_of_byte before short.first) (row_of_byte (row_of_byte before short.first).to short.second)

-- the next of the long rows
abbrev pub long_next : (longs : List Row) → Row
long_next [] = record { from = 0; to = 0; way = 0 }
long_next (long ∷ longs) = long

abbrev pub longs_rest : (longs : List Row) → List Row
longs_rest [] = []
longs_rest (long ∷ longs) = longs

-- the rows that are held, with the long ones from here on
abbrev pub rows_held : Held → (longs : List Row) → List Row
rows_held Long longs = long_next longs ∷ []
rows_held (One row) longs = row ∷ []
rows_held (Two row next) longs = row ∷ next ∷ []

-- the tick that the last of them ends with
abbrev pub end_held : Held → (longs : List Row) → ℕ
end_held Long longs = (long_next longs).to
end_held (One row) longs = row.to
end_held (Two row next) longs = next.to

-- the long rows behind them
abbrev pub longs_behind : Held → (longs : List Row) → List Row
longs_behind Long longs = longs_rest longs
longs_behind (One row) longs = longs
longs_behind (Two row next) longs = longs

-- how many of the long rows it is
abbrev pub long_count : Held → ℕ
long_count Long = 1
long_count (One row) = 0
long_count (Two row next) = 0

-- the rows that short ones stand for behind a tick
abbrev pub rows_by : (before : ℕ) → List Short → (longs : List Row) → List Row
rows_by before [] longs = []
rows_by before (short ∷ shorts) longs =
    rows_held (held before short) longs
    ++ rows_by (end_held (held before short) longs) shorts (longs_behind (held before short) longs)

-- the tick that the last of them ends with
abbrev pub end_by : (before : ℕ) → List Short → (longs : List Row) → ℕ
end_by before [] longs = before
end_by before (short ∷ shorts) longs =
    end_by (end_held (held before short) longs) shorts (longs_behind (held before short) longs)

-- how many long rows they stand for
abbrev pub longs_by : (before : ℕ) → List Short → (longs : List Row) → ℕ
longs_by before [] longs = 0
longs_by before (short ∷ shorts) longs =
    long_count (held before short)
    + longs_by (end_held (held before short) longs) shorts (longs_behind (held before short) longs)

-- one that waits comes behind them
abbrev pub rows_closed : (before : ℕ) → List Short → (longs : List Row) → (waiting : Option Row) → List Row
rows_closed before shorts longs waiting = rows_by before shorts longs ++ option_to_list waiting

-- each long row has its place, and the last of the short ones ends here
pub record AreClosed (shorts : List Short) (longs : List Row) (before : ℕ) : Type 0 where
  pub counted : longs_by (2 ^ 32 - 1) shorts longs ≡ length longs
  pub behind : before ≡ end_by (2 ^ 32 - 1) shorts longs

abbrev pub closed_store : Vec Short → Vec Row → (waiting : Option Row) → RowStore
closed_store shorts longs waiting = record {
  items = rows_closed (2 ^ 32 - 1) shorts.items longs.items waiting;
  capacity = min (vec_capacity shorts) (vec_capacity longs);
}

-- a last row comes behind the closed ones
abbrev pub row_store : (closed : RowStore) → (last : Option Row) → RowStore
row_store closed last = record closed { items = closed.items ++ option_to_list last }

-- there are none without a last one
abbrev pub IsEnded : (last : Option Row) → (closed : RowStore) → Type 0
IsEnded None closed = closed.items ≡ []
IsEnded (Some row) closed = Unit {0}

-- a short one that stands for these rows was put behind others
pub record IsPut (before : ℕ) (rows : List Row) (end : ℕ) (shorts : List Short) (longs : List Row)
    (shorts_new : List Short) (longs_new : List Row) : Type 0 where
  pub short : Short
  pub more : List Row
  pub shorts_are : shorts_new ≡ shorts ++ short ∷ []
  pub longs_are : longs_new ≡ longs ++ more
  pub count : length more ≡ long_count (held before short)
  pub stand : rows_held (held before short) more ≡ rows
  pub ends : end_held (held before short) more ≡ end
