use Rattle.std.proofs.lemmas.Slice.Eq.{slice_eq-Decides}
use Rattle.hls_audit_stays.proofs.BelowLaws.{mark-Decides}
use Rattle.hls_audit_stays.proofs.spells.are_same.Goals as goal

pub returns : goal.returns
returns c = slice_eq-Decides mark-Decides c.args.marks.now c.args.other.now c.eq.result c.eq.ensures
