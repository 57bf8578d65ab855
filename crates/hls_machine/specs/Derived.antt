-- What a derivation comes to: a guarantee follows from those of the ports of a scheduler.
use Rattle.std.specs.Prelude.{◌≡◌, ℕ, Bool, List, Some, slice_get}
use Rattle.hls_chron.specs.declared.plain.Config.{Config}
use Rattle.hls_chron.specs.declared.plain.Terms.{Terms}
use Rattle.hls_guarantee.specs.declared.Guarantee.{Guarantee}
use Rattle.hls_guarantee.specs.Supply.{Supplies}
use Rattle.hls_guarantee.specs.Steps.{LendsThrough}

-- what supplies g supplies h too, whichever ticks are served and asked for
abbrev pub Yields : (g h : Guarantee) → Type 0
Yields g h = (served asks : ℕ → Bool) (lo hi : ℕ) → Supplies g served asks lo hi
    → Supplies h served asks lo hi

-- What the guarantee of one port yields is lent to a seat on these terms, and what is lent yields the
-- guarantee that is wanted for the seat.
pub record Follows (config : Config) (terms : Terms) (haves : List Guarantee) (want : Guarantee) : Type 0
  where
    pub port : ℕ
    pub have : Guarantee
    pub is_have : slice_get haves port ≡ Some have
    pub offered : Guarantee
    pub lent : Guarantee
    pub first : Yields have offered
    pub through : LendsThrough config terms port offered lent
    pub last : Yields lent want
