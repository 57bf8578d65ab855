use Rattle.std.proofs.Common.{ap, ◌∙◌, ◌++◌, ◌∷◌, []}
use Rattle.hls_audit_stays.proofs.CarryLaws.{carried_thread, note_may, note_seats}
use Rattle.hls_audit_stays.proofs.Names.{bytes_self}
use Rattle.hls_audit_stays.proofs.carrying.Carried.admit.Goals as goal

pub note-requires-clause-seats : goal.note-requires-clause-seats
note-requires-clause-seats c =
    note_seats c.args.self.now c.begin.new.self _ _ (c.in_ok-begin.ensures.seats ∙ c.in_ok-settle.ensures.seats)
    c.requires.carried

pub note-requires-clause-done : goal.note-requires-clause-done
note-requires-clause-done c =
    note_may c.args.a.now c.args.name.now _ c.requires.done c.requires.command.1 (bytes_self c.args.name.now)

pub returns : goal.returns
returns c =
    let settles = c.in_ok-settle.ensures in
    let begins = c.in_ok-begin.ensures in
    carried_thread c.args.self.now c.settle.new.self _ c.args.answered.now c.args.place c.args.a.now c.args.name.now
    c.requires.command.0 c.requires.there c.requires.done c.requires.command.1 settles begins.stays begins.going
    begins.fresh begins.tick
    (c.in_ok-push.ensures.items
    ∙ ap (λ v. v.items ++ c.args.name.now ∷ []) (begins.threads ∙ settles.threads))
    c.in_ok-note.ensures c.requires.carried
