-- What contracts see of tallies that are kept together.
use Rattle.std.specs.Prelude.{ℕ, List}
use Rattle.hls_core_stays.specs.declared.tally.Tally.{Tally}

-- the tallies in their order, and how many more can be pushed without memory
pub record Store : Type 0 where
  pub items : List Tally
  pub spare : ℕ
