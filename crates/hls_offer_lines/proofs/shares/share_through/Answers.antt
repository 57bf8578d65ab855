use Rattle.std.proofs.Common.{◌≡◌, subst}
use Rattle.std.specs.Prelude.{◌↔◌, Option, Some}
use Rattle.hls_guarantee.specs.declared.Guarantee.{Guarantee}
use Rattle.hls_offer_best.proofs.Trying.{lent-of-valid, if-ok-both}
use Rattle.hls_offer_lines.proofs.HardOnes.{IsLentBy}
use Rattle.hls_offer_lines.proofs.Ports.{through-none, through-some}
use Rattle.hls_offer_lines.proofs.shares.share_through.Goals as goal

pub offered_share-requires-clause-valid : goal.offered_share-requires-clause-valid
offered_share-requires-clause-valid g c =
    let seat = c.args.seat.now in
    let lent = c.in-Some.lent in
    let by = (c.lent_of.ensures lent).0 c.in-Some.is in
    lent-of-valid seat.place.config seat.place.terms c.args.have.now lent c.requires.can.config c.requires.can.terms
    c.requires.have by.0

pub returns-in-Some : goal.returns-in-Some
returns-in-Some g c =
    let seat = c.args.seat.now in
    let have = c.args.have.now in
    let lends =
    subst (λ (v : Option Guarantee). (other : Guarantee) → (v ≡ Some other) ↔ IsLentBy seat have other) c.in-Some.is
    c.lent_of.ensures in
    if-ok-both c.offered_share.result (λ found exact same. through-some seat have c.in-Some.lent found lends exact)
    c.offered_share.ensures c.offered_share.ensures

pub returns-in-None : goal.returns-in-None
returns-in-None g c =
    let seat = c.args.seat.now in
    let have = c.args.have.now in
    through-none seat have
    (subst (λ (v : Option Guarantee). (other : Guarantee) → (v ≡ Some other) ↔ IsLentBy seat have other) c.in-None.is
    c.lent_of.ensures)
