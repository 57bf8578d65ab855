-- The least of the waits that were tried, port by port, is the least.
use Rattle.std.proofs.Common.{◌≡◌, ℕ, ◌+◌, ◌≤◌, ◌<◌, false, List, length, subst, arith, below_more}
use Rattle.std.specs.Prelude.{Option, Some, None, IfSome, slice_get}
use Rattle.std.proofs.lemmas.Option.{slice_get_within}
use Rattle.hls_guarantee.specs.declared.Guarantee.{Guarantee}
use Rattle.hls_guarantee.specs.declared.Guarantee.TheVariants.{Null, Resc}
use Rattle.hls_offer_laws.specs.Offered.{IsLentOf, IsLent}
use Rattle.hls_offer_laws.specs.Candidates.{IsWait}
use Rattle.hls_offer_laws.proofs.Offers.{offered-valid}
use Rattle.hls_offer_best.specs.declared.seat.Seat.{Seat}
use Rattle.hls_offer_best.specs.Best.{Waits, IsLeastIfAny}
use Rattle.hls_offer_best.specs.Inside.Trying.{IsFrom}

abbrev pub TriedWaits : Seat → Option ℕ → (have : Guarantee) → Type 0
TriedWaits seat least have = (lent : Guarantee) (wait : ℕ) → IsLentOf seat.place.config seat.place.terms have lent
    → (lent ≡ Null → ⊥) → IsWait lent wait → wait ≤ 20000 → Waits seat wait → IsFrom least wait

abbrev pub WaitsBelow : Seat → (haves : List Guarantee) → Option ℕ → (n : ℕ) → Type 0
WaitsBelow seat haves least n =
    (port : ℕ) → port < n → (have : Guarantee) → slice_get haves port ≡ Some have → TriedWaits seat least have

pub waits-more : (seat : Seat) (haves : List Guarantee) (least less : Option ℕ) (n : ℕ) (have : Guarantee)
    → slice_get haves n ≡ Some have → ((wait : ℕ) → IsFrom least wait → IsFrom less wait)
    → WaitsBelow seat haves least n → TriedWaits seat less have → WaitsBelow seat haves less (n + 1)
waits-more seat haves least less n have there kept before here =
    below_more (λ port. (other : Guarantee) → slice_get haves port ≡ Some other → TriedWaits seat less other) n
    (λ port under other at lent wait lends some candidate small waits.
    kept wait (before port under other at lent wait lends some candidate small waits))
    (λ other at. (let same : have ≡ other = cc in subst (λ v. TriedWaits seat less v) same here))

abbrev pub HasWait : Seat → Type 0
HasWait seat = (wait : ℕ) → Waits seat wait → (lent : Guarantee) × (best : ℕ)
    × IsLent seat.place seat.haves.now lent × IsWait lent best × (best ≤ wait) × Waits seat best

from-tried : (seat : Seat) (least : Option ℕ) (n : ℕ) → length seat.haves.now ≤ n
    → WaitsBelow seat seat.haves.now least n → HasWait seat → (wait : ℕ) → Waits seat wait
    → (best : ℕ) × (best ≤ wait) × IsFrom least best
from-tried seat least n all tried each wait waits =
    let its = each wait waits in
    let is = its.2 in
    let valid = offered-valid seat.place seat.haves.now seat.depth (Resc false 1 its.1) its.5 in
    let within : is.port < length seat.haves.now =
    slice_get_within seat.haves.now is.port is.have is.there in (
      its.1,
      its.4,
      tried is.port (omega arith) is.have is.there its.0 its.1 is.lends is.some its.3 valid.size its.5,
    )

pub least-of-all : (seat : Seat) (least : Option ℕ) (n : ℕ) → length seat.haves.now ≤ n
    → WaitsBelow seat seat.haves.now least n → IfSome least (λ wait. Waits seat wait) → HasWait seat
    → IsLeastIfAny (λ wait. Waits seat wait) least
least-of-all seat None n all tried waits each =
    λ wait held. (let its = from-tried seat None n all tried each wait held in its.2)
least-of-all seat (Some least) n all tried waits each = record {
  meets = waits;
  least = λ wait held.
      let its = from-tried seat (Some least) n all tried each wait held in omega (arith, its.1, its.2);
}
