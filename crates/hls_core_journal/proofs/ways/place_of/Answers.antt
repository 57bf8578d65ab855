use Rattle.hls_core_journal.proofs.Places.{found_at, not_there}
use Rattle.hls_core_journal.proofs.ways.place_of.Goals as goal

pub returns-clause-found : goal.returns-clause-found
returns-clause-found c =
    found_at c.args.name.now c.args.names.now.keys c.get_index_of.result c.get_index_of.ensures.index

pub returns-clause-none : goal.returns-clause-none
returns-clause-none c =
    not_there c.args.name.now c.args.names.now.keys c.get_index_of.result c.get_index_of.ensures.found
