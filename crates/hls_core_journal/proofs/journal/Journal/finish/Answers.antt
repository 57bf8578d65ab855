use Rattle.hls_core_journal.proofs.Formed.{result_formed}
use Rattle.hls_core_journal.proofs.journal.Journal.finish.Goals as goal

pub returns : goal.returns
returns c =
    result_formed c.args.scenario c.args.depth c.args.self c.args.accounts.items c.args.idle c.totalled.result
    c.requires.scenario c.requires.kept c.requires.depth c.requires.whole c.requires.accounts c.requires.idle
    c.totalled.ensures
