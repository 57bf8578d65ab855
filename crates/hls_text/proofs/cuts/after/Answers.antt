use Rattle.std.proofs.lemmas.Bool.Decides.{Decides-eqb}
use Rattle.std.proofs.lemmas.Slice.Eq.{strip_prefix_is}
use Rattle.hls_text.proofs.WordLaws.{if_some}
use Rattle.hls_text.proofs.cuts.after.Goals as goal

pub returns-clause-found : goal.returns-clause-found
returns-clause-found c =
    if_some _ _ c.strip_prefix.result (strip_prefix_is Decides-eqb c.args.text.now c.args.words.now
    c.strip_prefix.result c.strip_prefix.ensures.cases)
