-- The lines that answer a question at a moment, and whether one of them offers a seat.
use Rattle.std.specs.Prelude.{◌≡◌, ◌⊎◌, ℕ, Bool, true, false, List, [], ◌∷◌, Option, Some, None, map}
use Rattle.std.specs.List.{list_any}
use Rattle.hls_text.specs.Lines.{Text}
use Rattle.hls_guarantee.specs.declared.Guarantee.{Guarantee}
use Rattle.hls_scenario.specs.declared.scenario.Command.{Command}
use Rattle.hls_report_text.specs.declared.refusal.Refusal.{Refusal}
use Rattle.hls_report_text.specs.ReportText.{item_text}
use Rattle.hls_machine.specs.Hierarchy.{Hierarchy, name_of}
use Rattle.hls_legal.specs.Moment.{Moment}
use Rattle.hls_offer_words.specs.declared.asked.Question.{Question}
use Rattle.hls_offer_words.specs.declared.asked.Question.TheVariants as questions
use Rattle.hls_offer_text.specs.OfferText.{Free, free_text, refused_text}
use Rattle.hls_offer_asks.specs.declared.wish.Wish.{Wish}
use Rattle.hls_offer_asks.specs.declared.needs.Need.{Need}
use Rattle.hls_offer_asks.specs.declared.needs.Had.{Had}
use Rattle.hls_offer_asks.specs.declared.needs.Had.TheVariants.{At, Refused}
use Rattle.hls_offer_asks.specs.Requests.{request_of}
use Rattle.hls_offer_asks.specs.Offers.{AreLinesFor, IsShutBy}
use Rattle.hls_offer_asks.specs.Needs.{IsHad, IsNowhereElse, wish_of}
use Rattle.hls_offer.specs.Spare.{AreFree, told_periods}

-- lines, and whether one of them may stand in a scenario
pub record Told : Type 0 where
  pub lines : List Text
  pub offers : Bool

-- the line of a request at a tick, as a scenario has it; each version spells requests alike
abbrev pub at_text : (tick : ℕ) → Command → Text
at_text tick command = item_text 1 (record { tick = tick; command = command })

-- ---- what can be promised

-- a line for each guarantee of the offer
abbrev pub open_told : (h : Hierarchy) (tick : ℕ) → Wish → List Guarantee → Told
open_told h tick wish lines = record { lines = map (λ g. at_text tick (request_of h wish g)) lines; offers = true }

-- the one refusal that every request for the seat meets
abbrev pub shut_told : Wish → Refusal → Told
shut_told wish refusal = record { lines = refused_text wish.on (Some wish.terms) refusal ∷ []; offers = false }

pub record TellsOpen (m : Moment) (tick : ℕ) (wish : Wish) (periods : Option (List ℕ)) (told : Told) : Type 0 where
  pub offered : List Guarantee
  pub are : AreLinesFor m wish periods offered
  pub told_is : told ≡ open_told m.hierarchy tick wish offered

pub record TellsShut (m : Moment) (wish : Wish) (told : Told) : Type 0 where
  pub refusal : Refusal
  pub shut : IsShutBy m wish refusal
  pub told_is : told ≡ shut_told wish refusal

-- ---- by which terms a guarantee can be had

-- the line of a scheduler
abbrev pub had_text : (h : Hierarchy) (tick : ℕ) → Need → (on : Text) → Had → Text
had_text h tick need on (At its) = at_text tick (request_of h (wish_of need on its) need.wanted)
had_text h tick need on (Refused its refusal) = refused_text on its refusal

abbrev pub is_at : Had → Bool
is_at (At its) = true
is_at (Refused its refusal) = false

-- a scheduler's name, and by which terms the guarantee can be had on it
pub record Place : Type 0 where
  pub on : Text
  pub had : Had

-- these terms, or why there are none
pub record IsPlaceOf (m : Moment) (need : Need) (periods : Option (List ℕ)) (place : Place) : Type 0 where
  pub is : IsHad m need place.on periods place.had
  pub nowhere : IsNowhereElse m need place.on periods place.had

abbrev pub ArePlacesOf : Moment → Need → Option (List ℕ) → List Place → Type 0
ArePlacesOf m need periods [] = Unit {0}
ArePlacesOf m need periods (place ∷ places) = IsPlaceOf m need periods place × ArePlacesOf m need periods places

-- the places are on the one scheduler that is asked, or on each loaded one in the order of their loads
abbrev pub AreAsked : Hierarchy → Option Text → List Place → Type 0
AreAsked h (Some on) places = map (λ (place : Place). place.on) places ≡ on ∷ []
AreAsked h None places = map (λ (place : Place). Some place.on) places ≡ map (λ k. name_of (h.nodes k)) h.schedulers

abbrev pub places_told : (h : Hierarchy) (tick : ℕ) → Need → List Place → Told
places_told h tick need places = record {
  lines = map (λ (place : Place). had_text h tick need place.on place.had) places;
  offers = list_any (λ (place : Place). is_at place.had) places;
}

pub record TellsPlaces (m : Moment) (tick : ℕ) (need : Need) (on : Option Text) (periods : Option (List ℕ))
    (told : Told) : Type 0 where
  pub places : List Place
  pub asked : AreAsked m.hierarchy on places
  pub are : ArePlacesOf m need periods places
  pub told_is : told ≡ places_told m.hierarchy tick need places

-- ---- what is left

-- a line for each loaded scheduler, in the order of their loads; none offers a seat
pub record TellsLeft (version : ℕ) (m : Moment) (periods : Option (List ℕ)) (told : Told) : Type 0 where
  pub frees : List Free
  pub are : AreFree (told_periods periods) m.hierarchy m.hierarchy.schedulers frees
  pub told_is : told ≡ record { lines = map (free_text version) frees; offers = false }

-- ---- each question

-- in this version of the language
abbrev pub IsTold : (version : ℕ) → Question → Moment → (tick : ℕ) → (periods : Option (List ℕ)) → Told → Type 0
IsTold version (questions.Offer name on its) m tick periods told =
    TellsOpen m tick (record { name = name; on = on; terms = its }) periods told
    ⊎ TellsShut m (record { name = name; on = on; terms = its }) told
IsTold version (questions.Need name wanted on) m tick periods told =
    TellsPlaces m tick (record { name = name; wanted = wanted }) on periods told
IsTold version questions.Spare m tick periods told = TellsLeft version m periods told
