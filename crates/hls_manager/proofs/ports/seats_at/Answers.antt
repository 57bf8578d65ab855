use Rattle.std.proofs.Common.{◌≡◌, ℕ, Option, Some, refl, subst, arith, length, slice_get}
use Rattle.std.proofs.lemmas.Option.{slice_get_read}
use Rattle.hls_report_text.specs.declared.refusal.Refusal.{Refusal}
use Rattle.hls_report_text.specs.WellFormed.{IsRefusal}
use Rattle.hls_manager.specs.Inside.Least.{IsLeastRefusal, IsLeastOf}
use Rattle.hls_manager.specs.Inside.Ports.{IsNameRefused, AreWanted}
use Rattle.hls_manager.proofs.LeastLaws.{lesser_keeps}
use Rattle.hls_manager.proofs.PortLaws.{one_put, one_unnamed}
use Rattle.hls_manager.proofs.ports.seats_at.Goals as goal
use Rattle.hls_manager.proofs.ports.seats_at.Goals.{in-Some, in_default}

pub loop-perch-preserved : goal.loop-perch-preserved
loop-perch-preserved g c =
    let at : slice_get c.args.perches.now c.loop-perch.perch-index ≡ Some c.perch-item.result =
    slice_get_read c.args.perches.now _ c.loop-perch.perch-index c.perch-item.result refl c.loop-perch-test.true
    c.perch-item.is in
    elim c.match-branch-2.branch [
      | in-Some w ↦ rw w.least-is (record {
        named = λ h tree listed.
            rw w.lesser.ensures (one_unnamed h c.args.perches.now c.loop-perch.perch-index c.perch-item.result
            c.loop-perch.least c.loop-perch.seats.items c.put_seat.new.seats.items w.in-Some.refusal
            (c.loop-perch.invariant.named h tree listed) at
            ((rw w.in-Some.is at c.in_ok-refusal.ensures.refused) h tree listed));
        formed =
            rw w.lesser.ensures (lesser_keeps (λ (r : Refusal). IsRefusal r) c.loop-perch.least w.in-Some.refusal
            c.loop-perch.invariant.formed ((rw w.in-Some.is at c.in_ok-refusal.ensures.formed)
            (c.requires.range c.loop-perch.perch-index c.perch-item.result at)));
      })
      | in_default w ↦ rw w.least-is (record {
        named = λ h tree listed.
            one_put h c.args.perches.now listed c.loop-perch.perch-index c.perch-item.result c.loop-perch.least
            c.loop-perch.seats.items c.put_seat.new.seats.items (c.loop-perch.invariant.named h tree listed) at
            ((rw w.in_default.is at c.in_ok-refusal.ensures.put) refl h tree);
        formed = c.loop-perch.invariant.formed;
      })
    ]

pub returns-in-Some-least-clause-refused : goal.returns-in-Some-least-clause-refused
returns-in-Some-least-clause-refused g c = λ h tree listed.
    (let end : c.loop-perch.perch-index ≡ length c.args.perches.now = omega arith in
    let least = (c.loop-perch.invariant.named h tree listed).least in
    subst (λ (n : ℕ). IsLeastOf (IsNameRefused h c.args.perches.now) n c.in-Some-least.refusal) end
    (subst (λ (b : Option Refusal). IsLeastRefusal (IsNameRefused h c.args.perches.now) c.loop-perch.perch-index b)
    c.in-Some-least.is least))

pub returns-in-None-clause-seats : goal.returns-in-None-clause-seats
returns-in-None-clause-seats g c = λ h tree listed.
    (let end : c.loop-perch.perch-index ≡ length c.args.perches.now = omega arith in
    subst (λ (n : ℕ). AreWanted h c.args.perches.now n c.loop-perch.seats.items) end
    ((c.loop-perch.invariant.named h tree listed).wanted c.in-None.is))
