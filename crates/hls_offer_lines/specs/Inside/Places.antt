-- Terms in the order of cost, each at its place.
use Rattle.std.specs.Prelude.{ℕ, ◌-◌, ◌<◌, min, Option, Some, None}
use Rattle.hls_chron.specs.declared.plain.Config.{Config}
use Rattle.hls_chron.specs.declared.plain.Config.TheVariants as configs
use Rattle.hls_chron.specs.declared.plain.Sharing.{Sharing}
use Rattle.hls_chron.specs.declared.plain.Terms.{Terms}
use Rattle.hls_chron.specs.declared.plain.Terms.TheVariants.{Prio, Weight, Slots}
use Rattle.hls_chron.specs.Kinds.{sharing_of}
use Rattle.hls_chron.specs.Ranges.{most_slots}
use Rattle.hls_offer_lines.specs.declared.terms.TermsAsked.{TermsAsked}
use Rattle.hls_offer_lines.specs.Cost.{IsFit, IsHadOn}

-- the place of terms that are no reservation
abbrev pub place_of : Terms → ℕ
place_of (Prio priority) = 31 - priority
place_of (Weight weight) = weight - 1
place_of (Slots places) = places - 1
place_of _ = 0

-- how many places there are: a weight is 20 at most
abbrev pub weight_count : Option Sharing → ℕ
weight_count (Some sharing) = min sharing.total 20
weight_count None = 1

abbrev pub place_count : Config → ℕ
place_count configs.Fp = most_slots
place_count (configs.Wheel frame) = frame
place_count config = weight_count (sharing_of config)

-- on no terms of the first places it can be had
abbrev pub NoneBelow : TermsAsked → (count : ℕ) → Type 0
NoneBelow asked count =
    (its : Terms) → IsFit asked.config None its → place_of its < count → IsHadOn asked its → ⊥
