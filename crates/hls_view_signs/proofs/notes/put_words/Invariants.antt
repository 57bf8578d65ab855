use Rattle.std.proofs.Common.{take}
use Rattle.hls_view_signs.specs.Inside.Notes.{AreNoted}
use Rattle.hls_view_signs.proofs.notes.put_words.Given as goal

abbrev pub invariant-loop-at : goal.invariant-loop-at
invariant-loop-at l = AreNoted l.scale l.name (take l.at l.words) l.fn.notes.items l.notes.items
