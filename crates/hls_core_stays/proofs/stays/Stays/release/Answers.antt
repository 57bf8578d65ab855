use Rattle.hls_core_stays.proofs.Flags.{may_release, release_noted}
use Rattle.hls_core_stays.proofs.stays.Stays.release.Goals as goal

pub note-requires : goal.note-requires
note-requires g c = may_release _ c.args.self.now c.args.tree.now c.args.id c.requires

pub returns : goal.returns
returns g c = release_noted _ c.args.self.now c.note.new.self c.args.tree.now c.args.id c.note.ensures
