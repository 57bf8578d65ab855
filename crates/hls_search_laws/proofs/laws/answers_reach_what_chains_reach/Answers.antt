use Rattle.hls_derive.proofs.Derivings.{follow-end}
use Rattle.hls_search_laws.proofs.Finding.{found-chain}
use Rattle.hls_search_laws.proofs.laws.answers_reach_what_chains_reach.Goals as goal

pub returns : goal.returns
returns c = λ steps follow.
    let g = c.args.g in
    found-chain g steps c.requires (follow-end g steps follow c.requires) follow
