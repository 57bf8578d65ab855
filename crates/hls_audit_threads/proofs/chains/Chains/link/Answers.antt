use Rattle.std.proofs.Common.{ap, set, ◌∙◌}
use Rattle.std.specs.Prelude.{Some}
use Rattle.std.proofs.lemmas.Option.{slice_get-get_or}
use Rattle.std.proofs.lemmas.Result.{on_ok_weaker}
use Rattle.hls_audit_threads.proofs.ChainLaws.{link_none, link_some}
use Rattle.hls_audit_threads.proofs.chains.Chains.link.Goals as goal

pub returns-in-None : goal.returns-in-None
returns-in-None c =
    let keys = c.args.keys.now in
    let here = slice_get-get_or keys c.args.at _ c.requires.within ∙ ap Some c.in-None.is in
    link_none keys c.args.self.now c.args.at c.requires.within here c.requires.linked

pub returns-in-Some : goal.returns-in-Some
returns-in-Some c =
    let keys = c.args.keys.now in
    let here = slice_get-get_or keys c.args.at _ c.requires.within ∙ ap Some c.in-Some.is in
    on_ok_weaker c.set.result
    (λ sets. link_some keys c.args.self.now _ c.args.at c.in-Some.name c.requires.within here c.requires.linked
    (ap (set c.args.self.now.next.items c.args.at) c.find.ensures) sets)
    c.set.ensures
