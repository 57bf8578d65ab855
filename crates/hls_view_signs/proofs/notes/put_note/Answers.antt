use Rattle.std.proofs.Common.{◌∙◌, sym}
use Rattle.hls_view_signs.proofs.NoteLaws.{noted_put, noted_not}
use Rattle.hls_view_signs.proofs.notes.put_note.Goals as goal

pub returns-in_ok-push : goal.returns-in_ok-push
returns-in_ok-push c =
    noted_put c.args.scale.now c.args.tick c.args.name.now c.args.notes.now.items c.push.new.self.items
    c.in_ok-push.ensures.items

pub returns-else-is_shown : goal.returns-else-is_shown
returns-else-is_shown c =
    noted_not c.args.scale.now c.args.tick c.args.name.now c.args.notes.now.items
    (sym c.is_shown.ensures ∙ c.if-is_shown.false)
