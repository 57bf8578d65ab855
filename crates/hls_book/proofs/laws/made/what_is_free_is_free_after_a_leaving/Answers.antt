use Rattle.hls_book.proofs.Leavings.{free-leave, full-leave}
use Rattle.hls_book.proofs.laws.made.what_is_free_is_free_after_a_leaving.Goals as goal

pub returns-clause-slots : goal.returns-clause-slots
returns-clause-slots c = free-leave c.args.config

pub returns-clause-full : goal.returns-clause-full
returns-clause-full c = full-leave c.args.config
