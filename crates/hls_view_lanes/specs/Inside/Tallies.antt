-- At how many ticks each fact holds.
use Rattle.std.specs.Prelude.{ℕ, ◌+◌, min, List, [], ◌∷◌, ◌++◌, Bool, true, false, map, get_or}
use Rattle.std.specs.List.{range_with_len, count_by}
use Rattle.hls_view_tale.specs.declared.label.Label.{Label}
use Rattle.hls_view_lanes.specs.declared.tick_facts.Facts.{Facts}
use Rattle.hls_view_lanes.specs.declared.tallies.Tally.{Tally}
use Rattle.hls_view_lanes.specs.declared.counts.Counts.{Counts}

-- as far as 32 bits go
abbrev pub with_one : (count : ℕ) → Bool → ℕ
with_one count true = min (count + 1) 4294967295
with_one count false = count

abbrev pub with_facts : Tally → Facts → Tally
with_facts tally facts = record {
  here = with_one tally.here facts.here;
  ready = with_one tally.ready facts.ready;
  served = with_one tally.served facts.served;
}

-- each with its own facts
abbrev pub all_with : List Tally → List Facts → List Tally
all_with [] facts = []
all_with (tally ∷ tallies) [] = tally ∷ tallies
all_with (tally ∷ tallies) (f ∷ facts) = with_facts tally f ∷ all_with tallies facts

abbrev pub no_tally : Tally
no_tally = record { here = 0; ready = 0; served = 0 }

abbrev pub no_tallies : (rows : List (List Label)) → List Tally
no_tallies rows = map (λ row. no_tally) rows ++ no_tally ∷ []

abbrev pub tally_at : List Tally → (place : ℕ) → Tally
tally_at tallies place = get_or tallies place no_tally

-- of so many ticks from one on
abbrev pub tally : (facts : ℕ → Facts) → (from ticks : ℕ) → Tally
tally facts from ticks = record {
  here = count_by (λ t. (facts t).here) (range_with_len from ticks);
  ready = count_by (λ t. (facts t).ready) (range_with_len from ticks);
  served = count_by (λ t. (facts t).served) (range_with_len from ticks);
}

-- those at one place of each column
abbrev pub counts_at : (columns : List (List Tally)) → (place : ℕ) → Counts
counts_at columns place = record {
  here = map (λ column. (tally_at column place).here) columns;
  ready = map (λ column. (tally_at column place).ready) columns;
  served = map (λ column. (tally_at column place).served) columns;
}
