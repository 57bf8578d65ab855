use Rattle.std.proofs.Common.{sym, map, string_bytes, subst, ◌∷◌}
use Rattle.hls_top_words.specs.Table.{IsNoJob}
use Rattle.hls_top_words.proofs.Options.{no_run}
use Rattle.hls_top_words.proofs.table.may_ask.Goals as goal

pub returns-in-run-clause-no : goal.returns-in-run-clause-no
returns-in-run-clause-no c = λ no.
    subst (λ w. IsNoJob (w ∷ map string_bytes c.args.options.now)) (sym c.in-run.is)
    (no_run _ (c.may_state.ensures.no no))
