use Rattle.hls_tree_nodes.proofs.Snapshots.{alike_then}
use Rattle.hls_tree_passes.proofs.Tells.{roll_alike}
use Rattle.hls_tree_nodes.proofs.Late.{stays_then, quiet_stays}
use Rattle.hls_tree_passes.proofs.asking.tell_level_news.Goals as goal

pub tell_rest-requires : goal.tell_rest-requires
tell_rest-requires g c = record {
  roll = roll_alike _ _ _ c.tell_news-told.ensures.alike c.requires.roll;
  telling = c.tell_news-told.ensures.telling c.args.level c.requires.places c.requires.telling;
  late = c.tell_news-told.ensures.late.late;
}

pub returns-clause-alike : goal.returns-clause-alike
returns-clause-alike g c = alike_then _ _ _ c.tell_news-told.ensures.alike c.tell_rest.ensures.alike

pub returns-clause-voices : goal.returns-clause-voices
returns-clause-voices g c = c.tell_rest.ensures.voices c.tell_news-told.result c.tell_news-told.ensures.voices

pub returns-clause-late : goal.returns-clause-late
returns-clause-late g c = stays_then _ _ _ _ c.tell_news-told.ensures.late c.tell_rest.ensures.late

pub returns-clause-quiet : goal.returns-clause-quiet
returns-clause-quiet g c = quiet_stays _ _ _ _ _ c.tell_news-told.ensures.quiet c.tell_rest.ensures.late
