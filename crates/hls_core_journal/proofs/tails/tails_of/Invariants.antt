use Rattle.std.proofs.Common.{map, take}
use Rattle.hls_core_journal.specs.Schedule.{tail_text}
use Rattle.hls_core_journal.proofs.Endings.{AreTexts}
use Rattle.hls_core_journal.proofs.tails.tails_of.Given as goal

abbrev pub invariant-loop-way : goal.invariant-loop-way
invariant-loop-way l =
    AreTexts l.bytes.items l.parts.items (map (tail_text l.names.keys) (take l.way-index l.ways))
