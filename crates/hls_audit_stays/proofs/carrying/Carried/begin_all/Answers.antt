use Rattle.std.proofs.Common.{◌∙◌, ap}
use Rattle.hls_audit_stays.specs.Places.{place_in}
use Rattle.hls_audit_stays.specs.Inside.Carried.{found_from, found_by}
use Rattle.hls_audit_stays.proofs.CarryLaws.{opens_start, opens_more, opens_all}
use Rattle.hls_audit_stays.proofs.carrying.Carried.begin_all.Goals as goal

pub loop-name-init : goal.loop-name-init
loop-name-init c = opens_start c.args.self.now

pub loop-name-preserved : goal.loop-name-preserved
loop-name-preserved c =
    let name = c.name-item.result in
    let now = c.loop-name.self in
    opens_more c.args.self.now now c.begin.new.self (found_by c.args.self.now.seats c.args.self.now.tick)
    c.args.names.now c.loop-name.name-index name (found_from name c.find-seated.result now.tick) c.loop-name-test.true
    c.name-item.is
    (ap (λ place. found_from name place now.tick)
    (c.find-seated.ensures ∙ ap (λ s. place_in s.last name) c.loop-name.invariant.seats)
    ∙ ap (λ tick. found_from name (place_in c.args.self.now.seats.last name) tick) c.loop-name.invariant.tick)
    c.loop-name.invariant c.in_ok-begin.ensures

pub returns : goal.returns
returns c =
    opens_all c.args.self.now c.loop-name.self (found_by c.args.self.now.seats c.args.self.now.tick)
    c.args.names.now c.loop-name.name-index c.loop-name-test.false c.loop-name.invariant
