use Rattle.std.proofs.Common.{◌≡◌, ◌++◌, ◌<◌, ◌≤◌, List, length, get_or, refl, subst}
use Rattle.hls_scenario.specs.declared.scenario.Perch.{Perch}
use Rattle.hls_view_tale.specs.Places.{labels_from}
use Rattle.hls_view_tale.proofs.SeatLaws.{labels_more, labels_end}
use Rattle.hls_view_tale.proofs.seats.put_labels.Goals as goal

pub loop-port-init : goal.loop-port-init
loop-port-init c = refl

pub loop-port-preserved : goal.loop-port-preserved
loop-port-preserved c =
    let m = c.args.member.now in
    let perch = c.perch-item.result in
    let here : perch ≡ get_or m.perches c.loop-port.port perch = cc in
    let within : c.loop-port.port < length m.perches =
    subst (λ (perches : List Perch). c.loop-port.port < length perches) c.items-perch-items.ensures
    c.loop-port-test.true in
    labels_more m c.args.above.now c.loop-port.port m.perches perch c.loop-port.labels.items
    c.put_label.new.labels.items
    (c.args.labels.now.items ++ labels_from m c.args.above.now 0 m.perches) within here c.in_ok-put_label.ensures
    c.loop-port.invariant

pub returns : goal.returns
returns c =
    let m = c.args.member.now in
    labels_end m c.args.above.now c.loop-port.port m.perches c.loop-port.labels.items
    (c.args.labels.now.items ++ labels_from m c.args.above.now 0 m.perches)
    (subst (λ (perches : List Perch). length perches ≤ c.loop-port.port) c.items-perch-items.ensures
    c.loop-port-test.false) c.loop-port.invariant
