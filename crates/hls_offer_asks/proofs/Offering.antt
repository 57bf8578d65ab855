-- What an offer of a seat says, from the answer to a request that asks for nothing.
use Rattle.std.proofs.Common.{◌≡◌, ◌≢◌, ℕ, List, Option, sym, ap, ◌∙◌, subst}
use Rattle.hls_chron.specs.declared.plain.Config.{Config}
use Rattle.hls_chron.specs.declared.plain.Config.TheVariants as configs
use Rattle.hls_guarantee.specs.declared.Guarantee.{Guarantee}
use Rattle.hls_guarantee.specs.declared.Guarantee.TheVariants.{Null}
use Rattle.hls_report_text.specs.declared.refusal.Refusal.{Refusal}
use Rattle.hls_machine.specs.Hierarchy.{config_of, haves_of}
use Rattle.hls_machine.specs.Legal.{IsReached}
use Rattle.hls_legal.specs.Tells.{HasName}
use Rattle.hls_legal.specs.Moment.{Moment, NamesScheduler, node_of}
use Rattle.hls_legal.proofs.Found.{named_is, named_there}
use Rattle.hls_manager.proofs.Outcomes.{reached_listed}
use Rattle.hls_offer_laws.specs.Offered.{IsOffered}
use Rattle.hls_offer_best.specs.declared.seat.Seat.{Seat}
use Rattle.hls_offer_best.specs.Best.{Offers}
use Rattle.hls_offer_lines.proofs.Offering.{line-offered}
use Rattle.hls_offer_asks.specs.declared.wish.Wish.{Wish}
use Rattle.hls_offer_asks.specs.Requests.{HasDerivation, request_of}
use Rattle.hls_offer_asks.specs.Offers.{AreLinesFor, IsOpen, IsSeatFor, IsShutBy}
use Rattle.hls_offer_asks.specs.Inside.Hindering.{AreLinesAt, IsFreeAt, IsHinderedBy}
use Rattle.hls_offer_asks.proofs.Asked.{done_if_offered, others_refused, others_unhindered, refused_if_not}
use Rattle.hls_offer_asks.proofs.Seatable.{not_processor, wish_seatable}

-- what the seat offers has a derivation
offered_there : (m : Moment) (wish : Wish) (seat : Seat) → IsSeatFor m wish seat → (g : Guarantee) → Offers seat g
    → HasDerivation m wish g
offered_there m wish seat is g offers =
    let haves = haves_of (node_of m.hierarchy wish.on) in
    subst (λ (c : Config). IsOffered (record { config = c; terms = wish.terms }) haves m.depth g) is.config
    (subst (λ t. IsOffered (record { config = seat.place.config; terms = t }) haves m.depth g) is.terms
    (subst (λ (l : List Guarantee). IsOffered seat.place l m.depth g) is.haves
    (subst (λ n. IsOffered seat.place seat.haves.now n g) is.depth offers)))

module _ (m : Moment) (reached : IsReached m.hierarchy) (wish : Wish) where
  pub shut_by : (refusal : Refusal)
      → IsHinderedBy m (request_of m.hierarchy wish Null) refusal → IsShutBy m wish refusal
  shut_by refusal is = record {
    refused = λ g. others_refused m reached wish Null g refusal is.other is.answer;
    other = is.other;
  }

  module _ (free : IsFreeAt m wish) where
    pub free_scheduler : NamesScheduler m.hierarchy wish.on
    free_scheduler = (let at = wish_seatable m wish Null free in record { scheduler = at.scheduler; there = at.there })

    open_at : IsOpen m wish
    open_at = record {
      done = λ g offers. done_if_offered m reached wish g (others_unhindered m reached wish Null g free) offers;
      underived = λ g ne. refused_if_not m reached wish g (others_unhindered m reached wish Null g free) ne;
    }

    not_cpu : config_of (node_of m.hierarchy wish.on) ≢ configs.Cpu
    not_cpu =
        let names = free_scheduler in
        let found = named_there m.hierarchy wish.on _ names.there in
        λ e. not_processor m.hierarchy reached found.number
        (record { scheduler = names.scheduler; there = found.there })
        (ap config_of (found.there ∙ sym names.there) ∙ e)

    pub lines_for : (list : Option (List ℕ)) (lines : List Guarantee) → AreLinesAt m wish list lines
        → AreLinesFor m wish list lines
    lines_for list lines is =
        let loaded : is.seat.place.config ≢ configs.Cpu = (λ e. not_cpu (sym is.is_seat.config ∙ e)) in
        record {
          is_open = open_at;
          seat = is.seat;
          is_seat = is.is_seat;
          are = is.are;
          narrow = λ g has. (line-offered is.seat is.can loaded list lines is.are g has).1;
          done = λ g has. open_at.done g (offered_there m wish is.seat is.is_seat g
              (line-offered is.seat is.can loaded list lines is.are g has).0);
        }

-- what is found of the scheduler is of the seat
pub seat_found : (m : Moment) → IsReached m.hierarchy → (wish : Wish) (id : ℕ) → HasName m.hierarchy id wish.on
    → (seat : Seat) → seat.place.config ≡ config_of (m.hierarchy.nodes id) → seat.place.terms ≡ wish.terms
    → seat.haves.now ≡ haves_of (m.hierarchy.nodes id) → seat.depth ≡ m.depth → IsSeatFor m wish seat
seat_found m reached wish id has seat config terms haves depth =
    let node = named_is m.hierarchy (reached_listed m.hierarchy reached) id wish.on has in
    record {
      config = config ∙ ap config_of (sym node);
      terms = terms;
      haves = haves ∙ ap haves_of (sym node);
      depth = depth;
    }
