use Rattle.std.proofs.Common.{refl}
use Rattle.hls_core_stays.proofs.Turned.{note_within, note_fits, note_does}
use Rattle.hls_core_stays.proofs.stays.Stays.note.Goals as goal

pub note_at-requires-clause-place : goal.note_at-requires-clause-place
note_at-requires-clause-place g c =
    note_within _ c.args.self.now c.args.tree.now c.args.id c.place-place.result c.requires c.place-place.ensures

pub note_at-requires-clause-fits : goal.note_at-requires-clause-fits
note_at-requires-clause-fits g c = λ tally e.
    note_fits _ c.args.self.now c.args.tree.now c.args.id c.place-place.result c.now.result tally c.requires
    c.place-place.ensures c.now.ensures e

pub returns : goal.returns
returns g c =
    note_does _ c.args.self.now c.args.tree.now c.args.id c.place-place.result c.now.result c.is_ready.result _
    c.place-place.ensures c.now.ensures c.is_ready.ensures c.note_at.ensures refl
