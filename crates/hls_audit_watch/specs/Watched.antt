-- What a watch was told.
use Rattle.std.specs.Prelude.{ℕ, Bool, List}
use Rattle.hls_guarantee.specs.declared.Guarantee.{Guarantee}

-- the guarantee, the most ticks that may be pushed, and whether each tick so far was served
pub record Watched : Type 0 where
  pub guarantee : Guarantee
  pub ticks : ℕ
  pub list : List Bool
