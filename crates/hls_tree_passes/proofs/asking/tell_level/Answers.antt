use Rattle.hls_tree_nodes.proofs.Snapshots.{alike_then}
use Rattle.hls_tree_passes.proofs.Tells.{roll_alike}
use Rattle.hls_tree_nodes.proofs.Late.{stays_then}
use Rattle.hls_tree_passes.proofs.asking.tell_level.Goals as goal

pub tell_rest-requires : goal.tell_rest-requires
tell_rest-requires g c = record {
  roll = roll_alike _ _ _ c.tell_places.ensures.alike c.requires.roll;
  telling = c.tell_places.ensures.telling c.args.level c.requires.places c.requires.telling;
  late = c.tell_places.ensures.late.late;
}

pub returns-clause-alike : goal.returns-clause-alike
returns-clause-alike g c = alike_then _ _ _ c.tell_places.ensures.alike c.tell_rest.ensures.alike

pub returns-clause-late : goal.returns-clause-late
returns-clause-late g c = stays_then _ _ _ _ c.tell_places.ensures.late c.tell_rest.ensures.late
