-- The cheapest terms with which a guarantee that is needed can be had on a scheduler, or why there are none.
use Rattle.std.specs.Prelude.{◌≡◌, ◌⊎◌, ℕ, List, Option, Some, None}
use Rattle.hls_text.specs.Lines.{Text}
use Rattle.hls_chron.specs.Name.{IsName}
use Rattle.hls_chron.specs.declared.plain.Config.{Config}
use Rattle.hls_chron.specs.declared.plain.Terms.{Terms}
use Rattle.hls_chron.specs.Ranges.{TermsInRange}
use Rattle.hls_guarantee.specs.Limits.{IsNarrow}
use Rattle.hls_report_text.specs.declared.refusal.Refusal.{Refusal}
use Rattle.hls_report_text.specs.declared.refusal.Refusal.TheVariants.{NameTaken, NoSuchName, WrongSort}
use Rattle.hls_report_text.specs.declared.refusal.Refusal.TheVariants.{TooManyThreads, NoDerivation}
use Rattle.hls_machine.specs.Hierarchy.{config_of}
use Rattle.hls_legal.specs.Moment.{Moment, node_of}
use Rattle.hls_legal.specs.Answers.{Applies}
use Rattle.hls_offer_lines.specs.Cost.{ComesBefore, HasPeriodOf, IsFit}
use Rattle.hls_offer_asks.specs.declared.wish.Wish.{Wish}
use Rattle.hls_offer_asks.specs.declared.needs.Need.{Need}
use Rattle.hls_offer_asks.specs.declared.needs.Had.{Had}
use Rattle.hls_offer_asks.specs.declared.needs.Had.TheVariants.{At, Refused}
use Rattle.hls_offer_asks.specs.Requests.{HasDerivation, IsDoneFor, IsRefusedFor, request_of}

-- within the grammar of scenarios
pub record IsNeed (need : Need) : Type 0 where
  pub name : IsName need.name
  pub wanted : IsNarrow need.wanted

-- the seat on these terms
abbrev pub wish_of : Need → (on : Text) → Terms → Wish
wish_of need on its = record { name = need.name; on = on; terms = its }

-- the request for it is done, is refused so, or has a derivation
abbrev pub IsDoneOn : Moment → Need → (on : Text) → Terms → Type 0
IsDoneOn m need on its = IsDoneFor m (wish_of need on its) need.wanted

abbrev pub IsRefusedOn : Moment → Need → (on : Text) → Refusal → Terms → Type 0
IsRefusedOn m need on refusal its = IsRefusedFor m (wish_of need on its) need.wanted refusal

abbrev pub IsDerivedOn : Moment → Need → (on : Text) → Terms → Type 0
IsDerivedOn m need on its = HasDerivation m (wish_of need on its) need.wanted

-- ---- whatever the terms

-- of the names, of the sort of who has them, or for the number of threads
abbrev pub IsOfNames : Refusal → Type 0
IsOfNames (NameTaken name) = Unit {0}
IsOfNames (NoSuchName name) = Unit {0}
IsOfNames (WrongSort name) = Unit {0}
IsOfNames (TooManyThreads most) = Unit {0}
IsOfNames _ = ⊥

-- the request is refused so on all terms
pub record IsBarred (m : Moment) (need : Need) (on : Text) (refusal : Refusal) : Type 0 where
  pub of_names : IsOfNames refusal
  pub refused : (its : Terms) → IsRefusedOn m need on refusal its

-- no such refusal applies on any
abbrev pub IsUnbarred : Moment → Need → (on : Text) → Type 0
IsUnbarred m need on =
    (its : Terms) (r : Refusal) → IsOfNames r → ¬ Applies m (request_of m.hierarchy (wish_of need on its) need.wanted) r

-- ---- by the terms

abbrev pub config_on : Moment → (on : Text) → Config
config_on m on = config_of (node_of m.hierarchy on)

-- the first fitting terms, in the order of cost, with a fact
pub record IsFirstWith (config : Config) (periods : Option (List ℕ)) (P : Terms → Type 0) (its : Terms) : Type 0
  where
    pub fits : IsFit config periods its
    pub holds : P its
    pub first : (other : Terms) → IsFit config periods other → P other → ¬ ComesBefore other its

-- it is done on no terms whatever, in these periods
abbrev pub NoneDone : Moment → Need → (on : Text) → (periods : Option (List ℕ)) → Type 0
NoneDone m need on periods = (its : Terms) → TermsInRange its → HasPeriodOf periods its → ¬ IsDoneOn m need on its

-- on no terms it is done, and so it is refused on the first ones that have a derivation
pub record IsRefusedAt (m : Moment) (need : Need) (on : Text) (periods : Option (List ℕ)) (its : Terms)
    (refusal : Refusal) : Type 0 where
  pub unbarred : IsUnbarred m need on
  pub first : IsFirstWith (config_on m on) periods (IsDerivedOn m need on) its
  pub refused : IsRefusedOn m need on refusal its
  pub none : NoneDone m need on periods

-- none has a derivation
pub record IsUnderived (m : Moment) (need : Need) (on : Text) (periods : Option (List ℕ)) (refusal : Refusal)
    : Type 0 where
  pub unbarred : IsUnbarred m need on
  pub none : (its : Terms) → IsFit (config_on m on) periods its → ¬ IsDerivedOn m need on its
  pub refusal_is : refusal ≡ NoDerivation need.name m.depth

-- the first terms on which it is done, or why there are none
abbrev pub IsHad : Moment → Need → (on : Text) → (periods : Option (List ℕ)) → Had → Type 0
IsHad m need on periods (At its) = IsFirstWith (config_on m on) periods (IsDoneOn m need on) its
IsHad m need on periods (Refused None refusal) =
    IsBarred m need on refusal ⊎ IsUnderived m need on periods refusal
IsHad m need on periods (Refused (Some its) refusal) = IsRefusedAt m need on periods its refusal

-- where it is refused, it is done nowhere
abbrev pub IsNowhereElse : Moment → Need → (on : Text) → (periods : Option (List ℕ)) → Had → Type 0
IsNowhereElse m need on periods (At its) = Unit {0}
IsNowhereElse m need on periods (Refused terms refusal) = NoneDone m need on periods
