use Rattle.std.proofs.Common.{◌∙◌, ◌++◌, ◌+◌, ap, map, filter, sym}
use Rattle.hls_audit_stays.specs.Inside.Marks.{next_mark}
use Rattle.hls_audit_stays.specs.Inside.Carried.{found_by}
use Rattle.hls_audit_stays.proofs.CarryLaws.{carried_move, closed_marked, seats_again}
use Rattle.hls_audit_stays.proofs.carrying.Carried.reseat.Goals as goal

pub close-requires : goal.close-requires
close-requires c = c.in_ok-settle.ensures.open_at c.requires.carried.open_at

pub returns : goal.returns
returns c =
    let old = c.args.self.now in
    let new = c.begin_all.new.self in
    let all = c.args.answered.now in
    let tick = c.args.a.now.tick in
    let name = c.args.name.now in
    let marks = c.in_ok-marks.marks.items in
    let moved = c.in_ok-moved.moved.items in
    let settles = c.in_ok-settle.ensures in
    let closes = c.in_ok-close.ensures in
    let begins = c.in_ok-begin_all.ensures in
    carried_move old c.close.new.self new all c.args.place c.args.a.now name c.requires.command.0 marks moved
    c.requires.there c.requires.done c.requires.command.1 c.in_ok-marks.ensures
    (c.in_ok-moved.ensures
    ∙ ap (λ bs. filter (next_mark old.seats all bs name) old.threads.items) c.deref.ensures.value)
    (closed_marked old c.settle.new.self c.close.new.self all c.deref-2.result.now marks name tick
    c.deref-2.ensures.value settles closes)
    begins.stays begins.going
    (begins.fresh
    ∙ ap (λ names. c.close.new.self.fresh.items ++ map (found_by c.note.new.self c.close.new.self.tick) names)
    c.deref-3.ensures.value
    ∙ ap (λ t. c.close.new.self.fresh.items ++ map (found_by c.note.new.self t) moved)
    (closes.tick ∙ settles.now)
    ∙ ap (λ s. c.close.new.self.fresh.items ++ map (found_by s tick) moved) (sym begins.seats))
    begins.tick (begins.threads ∙ closes.threads ∙ settles.threads)
    (seats_again c.note.new.self new.seats all (c.args.place + 1) begins.seats c.in_ok-note.ensures) c.requires.carried
