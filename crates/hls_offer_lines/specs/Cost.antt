-- The first terms, in the order of what they cost others, with which a guarantee can be had at a scheduler.
use Rattle.std.specs.Prelude.{◌≡◌, ◌⊎◌, ℕ, ◌≤◌, ◌<◌, Bool, true, false, List, length, All as Each, Contains}
use Rattle.std.specs.Prelude.{Option, Some, None}
use Rattle.hls_chron.specs.declared.plain.Config.{Config}
use Rattle.hls_chron.specs.declared.plain.Terms.{Terms}
use Rattle.hls_chron.specs.declared.plain.Terms.TheVariants.{Prio, Res, Weight, Slots}
use Rattle.hls_chron.specs.Kinds.{kind_of, port_count, terms_kind}
use Rattle.hls_chron.specs.Parts.{parts}
use Rattle.hls_chron.specs.Ranges.{ConfigInRange, TermsInRange}
use Rattle.hls_kinds.specs.Fits.{Exceeds}
use Rattle.hls_guarantee.specs.Limits.{IsNarrow}
use Rattle.hls_offer_laws.specs.Offered.{IsOffered}
use Rattle.hls_offer_lines.specs.declared.terms.TermsAsked.{TermsAsked}

-- a guarantee for each port, and one that is wanted, all within the limits of a scenario
pub record CanAskTerms (asked : TermsAsked) : Type 0 where
  pub config : ConfigInRange asked.config
  pub ports : length asked.haves.now ≡ port_count asked.config
  pub each_have : Each IsNarrow asked.haves.now
  pub wanted : IsNarrow asked.wanted

-- the periods of a list are those of reservations
abbrev pub ArePeriods : Option (List ℕ) → Type 0
ArePeriods None = Unit {0}
ArePeriods (Some periods) = Each (λ y. (1 ≤ y) × (y ≤ 10000)) periods

-- on these terms the guarantee that is wanted can be had
abbrev pub IsHadOn : TermsAsked → Terms → Type 0
IsHadOn asked its =
    IsOffered (record { config = asked.config; terms = its }) asked.haves.now asked.depth asked.wanted

-- ---- which terms

-- one of the periods that are asked about, which are all where no list is given
abbrev pub IsPeriodOf : Option (List ℕ) → ℕ → Type 0
IsPeriodOf None y = Unit {0}
IsPeriodOf (Some periods) y = Contains periods y

abbrev pub HasPeriodOf : Option (List ℕ) → Terms → Type 0
HasPeriodOf periods (Res hard x y) = IsPeriodOf periods y
HasPeriodOf periods _ = Unit {0}

-- terms that seats of this configuration have, reservations in one of these periods
pub record IsFit (config : Config) (periods : Option (List ℕ)) (its : Terms) : Type 0 where
  pub range : TermsInRange its
  pub of_kind : terms_kind its ≡ kind_of config
  pub within : ¬ Exceeds config its
  pub period : HasPeriodOf periods its

-- ---- the order of cost

-- a longer period comes first, and in the same one what is soft
abbrev pub IsGentler : (hard : Bool) (y : ℕ) (hard' : Bool) (y' : ℕ) → Type 0
IsGentler hard y hard' y' = (y' < y) ⊎ ((y ≡ y') × (hard ≡ false) × (hard' ≡ true))

-- The terms that take less from others come first: of priorities those that are served last, of reservations
-- those that cost fewer parts, and of the same cost the gentler.
abbrev pub ComesBefore : Terms → Terms → Type 0
ComesBefore (Prio priority) (Prio priority') = priority' < priority
ComesBefore (Res hard x y) (Res hard' x' y') =
    (parts x y < parts x' y') ⊎ ((parts x y ≡ parts x' y') × IsGentler hard y hard' y')
ComesBefore (Weight weight) (Weight weight') = weight < weight'
ComesBefore (Slots places) (Slots places') = places < places'
ComesBefore _ _ = ⊥

-- on these terms it can be had, and on none that come before
pub record IsFirst (asked : TermsAsked) (periods : Option (List ℕ)) (its : Terms) : Type 0 where
  pub fits : IsFit asked.config periods its
  pub had : IsHadOn asked its
  pub first : (other : Terms) → IsFit asked.config periods other → IsHadOn asked other → ¬ ComesBefore other its

-- the first terms, or none where there are none
abbrev pub IsFirstIfAny : TermsAsked → Option (List ℕ) → Option Terms → Type 0
IsFirstIfAny asked periods None = (its : Terms) → IsFit asked.config periods its → ¬ IsHadOn asked its
IsFirstIfAny asked periods (Some its) = IsFirst asked periods its
