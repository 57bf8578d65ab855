-- What refuses a command, as its answer tells, and the lines where nothing does.
use Rattle.std.specs.Prelude.{◌≢◌, ℕ, List, Option, Some, None}
use Rattle.hls_guarantee.specs.declared.Guarantee.{Guarantee}
use Rattle.hls_guarantee.specs.declared.Guarantee.TheVariants.{Null}
use Rattle.hls_scenario.specs.declared.scenario.Command.{Command}
use Rattle.hls_report_text.specs.declared.refusal.Refusal.{Refusal}
use Rattle.hls_report_text.specs.declared.report.Answer.TheVariants.{Refused}
use Rattle.hls_legal.specs.Moment.{Moment}
use Rattle.hls_legal.specs.Answers.{number, Applies, IsAnswer}
use Rattle.hls_offer_best.specs.declared.seat.Seat.{Seat}
use Rattle.hls_offer_best.specs.Best.{CanAsk}
use Rattle.hls_offer_lines.specs.Lines.{AreOffers}
use Rattle.hls_offer_asks.specs.declared.wish.Wish.{Wish}
use Rattle.hls_offer_asks.specs.Requests.{request_of}
use Rattle.hls_offer_asks.specs.Offers.{IsSeatFor}

-- nothing but the want of a derivation refuses it
abbrev pub IsUnhindered : Moment → Command → Type 0
IsUnhindered m command = (r : Refusal) → number r ≢ 24 → ¬ Applies m command r

-- this refuses it, and not for want of a derivation
pub record IsHinderedBy (m : Moment) (command : Command) (refusal : Refusal) : Type 0 where
  pub answer : IsAnswer m command (Refused refusal)
  pub other : number refusal ≢ 24

abbrev pub IsHindrance : Moment → Command → Option Refusal → Type 0
IsHindrance m command None = IsUnhindered m command
IsHindrance m command (Some refusal) = IsHinderedBy m command refusal

-- nothing refuses a request for a seat that asks for nothing
abbrev pub IsFreeAt : Moment → Wish → Type 0
IsFreeAt m wish = IsUnhindered m (request_of m.hierarchy wish Null)

-- the lines of an offer of the seat
pub record AreLinesAt (m : Moment) (wish : Wish) (list : Option (List ℕ)) (lines : List Guarantee) : Type 0 where
  pub seat : Seat
  pub is_seat : IsSeatFor m wish seat
  pub can : CanAsk seat
  pub are : AreOffers seat list lines
