use Rattle.std.proofs.Common.{◌≡◌, ◌∙◌, ◌<◌, ◌≤◌, Some, length, slice_get, refl, sym, ap, subst}
use Rattle.std.proofs.lemmas.Option.{slice_get_read}
use Rattle.hls_audit_stays.specs.Inside.Marks.{next_mark}
use Rattle.hls_audit_stays.proofs.CloseLaws.{AreEnding, ending_start, within_now, ending_hit, ending_miss}
use Rattle.hls_audit_stays.proofs.CloseLaws.{ending_all, still_open}
use Rattle.hls_audit_stays.proofs.carrying.Carried.close_going.Goals as goal
use Rattle.hls_audit_stays.proofs.carrying.Carried.close_going.Goals.{then-is_below, else-is_below+in_ok-push}

pub loop-at-init : goal.loop-at-init
loop-at-init c =
    let old = c.args.self.now in
    let test = next_mark old.seats c.args.answered.now c.args.marks.now c.args.above.now in
    record {
      ending =
          subst (λ still. AreEnding test c.args.self.now.tick old.stays.items old.stays.items old.going.items still 0)
          (sym c.new-still.ensures.items)
          (ending_start test c.args.self.now.tick old.stays.items old.going.items c.requires);
      going_same = refl;
      fresh_same = refl;
      tick_same = refl;
      threads_same = refl;
      seats_same = refl;
    }

pub index-requires : goal.index-requires
index-requires c =
    let old = c.args.self.now in
    let test = next_mark old.seats c.args.answered.now c.args.marks.now c.args.above.now in
    let going = c.loop-at.invariant.going_same in
    let here : slice_get old.going.items c.loop-at.at ≡ Some c.index-place.result.now =
    slice_get_read old.going.items c.len-at-end.result c.loop-at.at c.index-place.result.now
    (c.len-at-end.ensures ∙ old.going.ok.0) c.loop-at-test.true (rw going at c.index-place.ensures) in
    let within = within_now test c.args.self.now.tick old.stays.items c.loop-at.self.stays.items old.going.items
    c.loop-at.still.items c.loop-at.at c.index-place.result.now c.requires here c.loop-at.invariant.ending in
    subst (λ n. c.index-place.result.now < n) (sym c.loop-at.self.stays.ok.0) within

pub end_at-requires : goal.end_at-requires
end_at-requires c =
    let old = c.args.self.now in
    let test = next_mark old.seats c.args.answered.now c.args.marks.now c.args.above.now in
    let going = c.loop-at.invariant.going_same in
    let here : slice_get old.going.items c.loop-at.at ≡ Some c.index-place.result.now =
    slice_get_read old.going.items c.len-at-end.result c.loop-at.at c.index-place.result.now
    (c.len-at-end.ensures ∙ old.going.ok.0) c.loop-at-test.true (rw going at c.index-place.ensures) in
    within_now test c.args.self.now.tick old.stays.items c.loop-at.self.stays.items old.going.items
    c.loop-at.still.items c.loop-at.at c.index-place.result.now c.requires here c.loop-at.invariant.ending

pub loop-at-preserved : goal.loop-at-preserved
loop-at-preserved c =
    let old = c.args.self.now in
    let now = c.loop-at.self in
    let all = c.args.answered.now in
    let test = next_mark old.seats all c.args.marks.now c.args.above.now in
    let place = c.index-place.result.now in
    let stay = c.index.result.now in
    let going = c.loop-at.invariant.going_same in
    let seats = c.loop-at.invariant.seats_same in
    let here : slice_get old.going.items c.loop-at.at ≡ Some place =
    slice_get_read old.going.items c.len-at-end.result c.loop-at.at place
    (c.len-at-end.ensures ∙ old.going.ok.0) c.loop-at-test.true (rw going at c.index-place.ensures) in
    let there : slice_get now.stays.items place ≡ Some stay =
    slice_get_read now.stays.items (length now.stays.items) place stay refl
    (within_now test c.args.self.now.tick old.stays.items now.stays.items old.going.items c.loop-at.still.items
    c.loop-at.at
    place c.requires here c.loop-at.invariant.ending) c.index.ensures in
    let tested : test stay.name ≡ next_mark now.seats all c.args.marks.now c.args.above.now stay.name =
    ap (λ s. next_mark s all c.args.marks.now c.args.above.now stay.name) (sym seats) in
    elim c.if-is_below.branch [
      | then-is_below w ↦ rw (w.self-is, w.still-is) (record {
        ending = ending_hit test c.args.self.now.tick old.stays.items now.stays.items w.end_at.new.stays.items
            old.going.items
            c.loop-at.still.items c.loop-at.at place stay c.requires here there
            (tested ∙ sym c.is_below.ensures ∙ w.if-is_below.true) (w.end_at.ensures stay there)
            c.loop-at.invariant.ending;
        going_same = going;
        fresh_same = c.loop-at.invariant.fresh_same;
        tick_same = c.loop-at.invariant.tick_same;
        threads_same = c.loop-at.invariant.threads_same;
        seats_same = seats;
      })
      | else-is_below+in_ok-push w ↦ rw (w.self-is, w.still-is) (record {
        ending = ending_miss test c.args.self.now.tick old.stays.items now.stays.items old.going.items
            c.loop-at.still.items w.push.new.self.items c.loop-at.at place stay c.requires here there
            (tested ∙ sym c.is_below.ensures ∙ w.if-is_below.false) w.in_ok-push.ensures.items
            c.loop-at.invariant.ending;
        going_same = going;
        fresh_same = c.loop-at.invariant.fresh_same;
        tick_same = c.loop-at.invariant.tick_same;
        threads_same = c.loop-at.invariant.threads_same;
        seats_same = seats;
      })
    ]

pub returns : goal.returns
returns c =
    let old = c.args.self.now in
    let test = next_mark old.seats c.args.answered.now c.args.marks.now c.args.above.now in
    let past : length old.going.items ≤ c.loop-at.at =
    subst (λ n. n ≤ c.loop-at.at) (c.len-at-end.ensures ∙ old.going.ok.0) c.loop-at-test.false in
    record {
      stays = ending_all test c.args.self.now.tick old.stays.items c.loop-at.self.stays.items old.going.items
          c.loop-at.still.items c.loop-at.at past c.loop-at.invariant.ending;
      open_at = still_open test c.args.self.now.tick old.stays.items c.loop-at.self.stays.items old.going.items
          c.loop-at.still.items c.loop-at.at past c.requires c.loop-at.invariant.ending;
      fresh = c.loop-at.invariant.fresh_same;
      tick = c.loop-at.invariant.tick_same;
      threads = c.loop-at.invariant.threads_same;
      seats = c.loop-at.invariant.seats_same;
    }
