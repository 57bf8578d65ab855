use Rattle.std.proofs.Common.{◌≡◌, ℕ, Some, refl, subst, arith, length, slice_get}
use Rattle.std.proofs.lemmas.Option.{slice_get_read}
use Rattle.hls_machine.specs.Legal.{fair_queues}
use Rattle.hls_manager.specs.Inside.Heights.{IsMost}
use Rattle.hls_manager.proofs.HeightLaws.{none_over, root_over, one_over, shares_to, few_shares, at_scheduler}
use Rattle.hls_manager.proofs.HeightLaws.{max_within}
use Rattle.hls_manager.proofs.Outcomes.{stands_so, reached_seated}
use Rattle.hls_manager.proofs.heights.shares_over.Goals as goal
use Rattle.hls_manager.proofs.heights.shares_over.Goals.{in-Some, in_default}

pub loop-seat-init : goal.loop-seat-init
loop-seat-init g c = record { most = λ h tree is. none_over h (fair_queues h) c.args.seats.now; within = omega arith }

pub shares-requires : goal.shares-requires
shares-requires g c =
    let at : slice_get c.args.seats.now c.loop-seat.seat-index ≡ Some c.seat-item.result =
    slice_get_read c.args.seats.now _ c.loop-seat.seat-index c.seat-item.result refl c.loop-seat-test.true
    c.seat-item.is in
    stands_so _ c.args.tree.now _ _ c.requires (λ h tree seated listed is.
    at_scheduler h c.args.seats.now is.1 c.loop-seat.seat-index c.in-Some.id c.seat-item.result at c.in-Some.is)

pub loop-seat-preserved : goal.loop-seat-preserved
loop-seat-preserved g c =
    let at : slice_get c.args.seats.now c.loop-seat.seat-index ≡ Some c.seat-item.result =
    slice_get_read c.args.seats.now _ c.loop-seat.seat-index c.seat-item.result refl c.loop-seat-test.true
    c.seat-item.is in
    elim c.match-seat.branch [
      | in-Some w ↦ rw w.most-is (record {
        most = λ h tree is. one_over h (fair_queues h) c.args.seats.now c.loop-seat.seat-index
            c.seat-item.result at c.loop-seat.most w.shares.result w.max-most.result w.max-most.ensures
            (c.loop-seat.invariant.most h tree is)
            (shares_to h c.seat-item.result w.in-Some.id w.in-Some.is w.shares.result
            (w.shares.ensures h tree (reached_seated h is)));
        within =
            (let stands = c.requires in
            let low = few_shares stands.h stands.is.0 w.in-Some.id w.shares.result
            (w.shares.ensures stands.h stands.tree stands.seated) in
            max_within c.loop-seat.most w.shares.result w.max-most.result 4 w.max-most.ensures
            c.loop-seat.invariant.within low);
      })
      | in_default w ↦ rw w.most-is (record {
        most = λ h tree is. root_over h (fair_queues h) c.args.seats.now c.loop-seat.seat-index c.seat-item.result at
            c.loop-seat.most (c.loop-seat.invariant.most h tree is) w.in_default.is refl;
        within = c.loop-seat.invariant.within;
      })
    ]

pub returns-clause-most : goal.returns-clause-most
returns-clause-most g c = λ h tree is.
    (let end : c.loop-seat.seat-index ≡ length c.args.seats.now = omega arith in
    subst (λ (n : ℕ). IsMost h (fair_queues h) c.args.seats.now n c.loop-seat.most) end
    (c.loop-seat.invariant.most h tree is))
