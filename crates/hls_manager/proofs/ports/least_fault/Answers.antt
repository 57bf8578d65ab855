use Rattle.std.proofs.Common.{◌≡◌, ℕ, Some, refl, subst, arith, length, slice_get}
use Rattle.std.proofs.lemmas.Option.{slice_get_read}
use Rattle.hls_report_text.specs.declared.refusal.Refusal.{Refusal}
use Rattle.hls_report_text.specs.WellFormed.{IsRefusal}
use Rattle.hls_manager.specs.Inside.Least.{IsLeastRefusal}
use Rattle.hls_manager.specs.Inside.Ports.{IsPortRefused}
use Rattle.hls_manager.proofs.LeastLaws.{lesser_keeps}
use Rattle.hls_manager.proofs.PortLaws.{perch_at, one_seat_free, one_seat_faulty}
use Rattle.hls_manager.proofs.ports.least_fault.Goals as goal
use Rattle.hls_manager.proofs.ports.least_fault.Goals.{in-Some, in_default}

pub loop-seat-preserved : goal.loop-seat-preserved
loop-seat-preserved g c =
    let at : slice_get c.args.seats.now c.loop-seat.seat-index ≡ Some c.seat-item.result =
    slice_get_read c.args.seats.now _ c.loop-seat.seat-index c.seat-item.result refl c.loop-seat-test.true
    c.seat-item.is in
    elim c.match-fault_at.branch [
      | in-Some w ↦ rw w.least-is (record {
        answer = λ h perches tree listed are.
            rw w.lesser.ensures (one_seat_faulty h perches c.args.seats.now are c.loop-seat.seat-index
            c.seat-item.result at c.loop-seat.least (c.loop-seat.invariant.answer h perches tree listed are)
            w.in-Some.refusal (λ perch is. w.in-Some.ensures.answer h perch tree listed is));
        formed = λ h perches tree are within.
            (let perch = perch_at h perches (length perches) c.args.seats.now are (omega arith)
            c.loop-seat.seat-index c.seat-item.result at in
            rw w.lesser.ensures (lesser_keeps (λ (r : Refusal). IsRefusal r) c.loop-seat.least w.in-Some.refusal
            (c.loop-seat.invariant.formed h perches tree are within)
            (w.in-Some.ensures.formed h perch.0 tree perch.2 (within c.loop-seat.seat-index perch.0 perch.1))));
      })
      | in_default w ↦ rw w.least-is (record {
        answer = λ h perches tree listed are.
            one_seat_free h perches c.args.seats.now are c.loop-seat.seat-index c.seat-item.result at
            c.loop-seat.least (c.loop-seat.invariant.answer h perches tree listed are)
            (λ perch is. w.in_default.ensures.answer h perch tree listed is);
        formed = c.loop-seat.invariant.formed;
      })
    ]

pub returns-clause-answer : goal.returns-clause-answer
returns-clause-answer g c = λ h perches tree listed are.
    (let counted = are.counted in
    let end : c.loop-seat.seat-index ≡ length perches = omega (arith, counted) in
    subst (λ (n : ℕ). IsLeastRefusal (IsPortRefused h perches) n c.loop-seat.least) end
    (c.loop-seat.invariant.answer h perches tree listed are))
