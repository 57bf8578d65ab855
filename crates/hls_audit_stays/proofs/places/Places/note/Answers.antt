use Rattle.std.proofs.Common.{◌∙◌, sym}
use Rattle.hls_audit_stays.proofs.NoteLaws.{notes_again, notes_first}
use Rattle.hls_audit_stays.proofs.places.Places.note.Goals as goal

pub returns-then-has : goal.returns-then-has
returns-then-has c =
    notes_again c.args.self.now c.args.name.now c.args.place (sym c.has.ensures ∙ c.if-has.true)

pub returns : goal.returns
returns c =
    notes_first c.args.self.now c.insert.new.self c.args.name.now c.args.place (sym c.has.ensures ∙ c.if-has.false)
    c.insert.ensures.here (λ other ne. c.insert.ensures.others other ne ∙ c.reserve.ensures.same other)
