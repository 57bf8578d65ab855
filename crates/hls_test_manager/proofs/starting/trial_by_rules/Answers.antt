use Rattle.hls_test_manager.proofs.Sights.{read_commands}
use Rattle.hls_test_manager.proofs.Standings.{at_start}
use Rattle.hls_test_manager.proofs.starting.trial_by_rules.Goals as goal

pub carry_all-requires-clause-commands : goal.carry_all-requires-clause-commands
carry_all-requires-clause-commands g c = read_commands _ _ _ _ c.items-items.ensures c.in-Ok.ensures.found.within.items

pub carry_all-requires-clause-stands : goal.carry_all-requires-clause-stands
carry_all-requires-clause-stands g c = at_start _ c.new-tree.result 64 c.new-tree.ensures.tree
