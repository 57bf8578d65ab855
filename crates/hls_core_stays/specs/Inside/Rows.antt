-- Tallies as they are kept: in rows, beside what the stays of a seating have in common.
use Rattle.std.specs.Prelude.{ℕ, ◌<◌, ◌-◌, List, [], All, map, length, get_or, min}
use Rattle.std.specs.Global.{Vec}
use Rattle.std.specs.Vec.{vec_capacity}
use Rattle.hls_guarantee.specs.declared.Guarantee.TheVariants.{Null}
use Rattle.hls_core_stays.specs.Store.{Store}
use Rattle.hls_core_stays.specs.declared.tally.Tally.{Tally}
use Rattle.hls_core_stays.specs.declared.row.Row.{Row}
use Rattle.hls_core_stays.specs.declared.row.Seating.{Seating}

-- the seating at a place
abbrev pub seating_at : List Seating → (at : ℕ) → Seating
seating_at seatings at = get_or seatings at (record { name = []; kept = Null })

-- the tally of a row: the rest is with its seating
abbrev pub tally_by : List Seating → Row → Tally
tally_by seatings row = record {
  thread = row.thread;
  name = (seating_at seatings row.seating).name;
  kept = (seating_at seatings row.seating).kept;
  since = row.since;
  until = row.until;
  ready = row.ready;
  ready_since = row.ready_since;
  served = row.served;
}

abbrev pub tallies_by : List Seating → List Row → List Tally
tallies_by seatings rows = map (tally_by seatings) rows

abbrev pub seating_of : Tally → Seating
seating_of tally = record { name = tally.name; kept = tally.kept }

-- each row has its seating
abbrev pub AreSeated : List Seating → List Row → Type 0
AreSeated seatings rows = All (λ (row : Row). row.seating < length seatings) rows

abbrev pub spare_of : {X : Type 0} → Vec X → ℕ
spare_of items = vec_capacity items - length items.items

abbrev pub store_of : Vec Row → Vec Seating → Store
store_of rows seatings = record {
  items = tallies_by seatings.items rows.items;
  spare = min (spare_of rows) (spare_of seatings);
}
