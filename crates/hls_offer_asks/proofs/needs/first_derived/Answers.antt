use Rattle.std.proofs.Common.{refl, sym, ◌∙◌}
use Rattle.hls_chron.specs.declared.plain.Terms.TheVariants.{Turn}
use Rattle.hls_manager.proofs.Outcomes.{reached_listed}
use Rattle.hls_offer_asks.proofs.Barring.{unbarred_scheduler}
use Rattle.hls_offer_asks.proofs.Deriving.{config_found, first_derived, haves_found}
use Rattle.hls_offer_asks.proofs.Seatable.{fit_as}
use Rattle.hls_offer_asks.proofs.Standing.{is_moment, moment_of, moment_tree, ok_so, runs_stand}
use Rattle.hls_offer_asks.proofs.needs.first_derived.Goals as goal

pub scheduler_of-requires : goal.scheduler_of-requires
scheduler_of-requires g c =
    runs_stand _ c.args.core.now c.tree-tree.result.now c.tree-tree.ensures c.requires.runs _ (λ h tree reached. tt)

pub unreachable-requires : goal.unreachable-requires
unreachable-requires g c =
    let runs = c.requires.runs in
    let m = moment_of _ c.args.core.now runs in
    let at = is_moment _ c.args.core.now runs in
    c.in_default.ensures.none refl m.hierarchy
    (moment_tree _ c.args.core.now c.tree-tree.result.now c.tree-tree.ensures m at)
    (reached_listed m.hierarchy at.reached)
    (unbarred_scheduler m c.args.need.now c.args.on.now Turn (c.requires.unbarred m at))

pub haves_of-requires : goal.haves_of-requires
haves_of-requires g c =
    runs_stand _ c.args.core.now c.tree-tree.result.now c.tree-tree.ensures c.requires.runs _
    (λ h tree reached. (c.in-Some.ensures.found h tree).1)

pub config-requires : goal.config-requires
config-requires g c =
    runs_stand _ c.args.core.now c.tree-tree.result.now c.tree-tree.ensures c.requires.runs _
    (λ h tree reached. (c.in-Some.ensures.found h tree).1)

pub first_terms-requires-clause-can : goal.first_terms-requires-clause-can
first_terms-requires-clause-can g c =
    let runs = c.requires.runs in
    let m = moment_of _ c.args.core.now runs in
    let at = is_moment _ c.args.core.now runs in
    let tree = moment_tree _ c.args.core.now c.tree-tree.result.now c.tree-tree.ensures m at in
    let fit = fit_as m.hierarchy at.reached c.in-Some.id (c.in-Some.ensures.found m.hierarchy tree).1 _ _
    (c.config.ensures m.hierarchy tree) (c.deref.ensures.value ∙ c.in_ok-haves.ensures m.hierarchy tree) in
    record {
      config = fit.config_fits;
      ports = fit.ports;
      each_have = fit.narrow;
      wanted = c.requires.need.wanted;
    }

pub returns : goal.returns
returns g c =
    ok_so c.first_terms.result _ _ (λ first is m at.
    (let tree = moment_tree _ c.args.core.now c.tree-tree.result.now c.tree-tree.ensures m at in
    let has = (c.in-Some.ensures.found m.hierarchy tree).0 in
    first_derived m c.args.need.now c.args.on.now _ _
    (config_found m at.reached c.args.on.now c.in-Some.id has _ (c.config.ensures m.hierarchy tree))
    (haves_found m at.reached c.args.on.now c.in-Some.id has _
    (c.deref.ensures.value ∙ c.in_ok-haves.ensures m.hierarchy tree))
    (c.depth.ensures ∙ sym at.depth) refl first is)) c.first_terms.ensures
