-- What can be promised to a thread on a seat, by what the requests for it are answered.
use Rattle.std.specs.Prelude.{◌≡◌, ◌≢◌, ℕ, List, Option, Contains}
use Rattle.hls_guarantee.specs.declared.Guarantee.{Guarantee}
use Rattle.hls_guarantee.specs.Limits.{IsNarrow}
use Rattle.hls_report_text.specs.declared.refusal.Refusal.{Refusal}
use Rattle.hls_report_text.specs.declared.refusal.Refusal.TheVariants.{NoDerivation}
use Rattle.hls_machine.specs.Hierarchy.{config_of, haves_of}
use Rattle.hls_legal.specs.Moment.{Moment, node_of}
use Rattle.hls_legal.specs.Answers.{number}
use Rattle.hls_offer_best.specs.declared.seat.Seat.{Seat}
use Rattle.hls_offer_lines.specs.Lines.{AreOffers}
use Rattle.hls_offer_asks.specs.declared.wish.Wish.{Wish}
use Rattle.hls_offer_asks.specs.declared.offers.Offer.{Offer}
use Rattle.hls_offer_asks.specs.declared.offers.Offer.TheVariants.{Open, Shut}
use Rattle.hls_offer_asks.specs.Requests.{HasDerivation, IsDoneFor, IsRefusedFor}

-- the seat: the scheduler as it is configured, what its ports have at the moment, the terms, and the depth in force
pub record IsSeatFor (m : Moment) (wish : Wish) (seat : Seat) : Type 0 where
  pub config : seat.place.config ≡ config_of (node_of m.hierarchy wish.on)
  pub terms : seat.place.terms ≡ wish.terms
  pub haves : seat.haves.now ≡ haves_of (node_of m.hierarchy wish.on)
  pub depth : seat.depth ≡ m.depth

-- nothing but the want of a derivation refuses a request for the seat
pub record IsOpen (m : Moment) (wish : Wish) : Type 0 where
  pub done : (g : Guarantee) → HasDerivation m wish g → IsDoneFor m wish g
  pub underived : (g : Guarantee) → ¬ HasDerivation m wish g → IsRefusedFor m wish g (NoDerivation wish.name m.depth)

-- the seat is open, the lines are those of an offer of it, and the request for each of them is done
pub record AreLinesFor (m : Moment) (wish : Wish) (list : Option (List ℕ)) (lines : List Guarantee) : Type 0 where
  pub is_open : IsOpen m wish
  pub seat : Seat
  pub is_seat : IsSeatFor m wish seat
  pub are : AreOffers seat list lines
  pub narrow : (g : Guarantee) → Contains lines g → IsNarrow g
  pub done : (g : Guarantee) → Contains lines g → IsDoneFor m wish g

-- the same refusal meets the request, whatever guarantee it asks for
pub record IsShutBy (m : Moment) (wish : Wish) (refusal : Refusal) : Type 0 where
  pub refused : (g : Guarantee) → IsRefusedFor m wish g refusal
  pub other : number refusal ≢ 24

abbrev pub IsOffer : Moment → Wish → (list : Option (List ℕ)) → Offer → Type 0
IsOffer m wish list (Open lines) = AreLinesFor m wish list lines.items
IsOffer m wish list (Shut refusal) = IsShutBy m wish refusal
