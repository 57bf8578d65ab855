use Rattle.std.proofs.Common.{refl, sym, ◌∙◌}
use Rattle.hls_manager.proofs.Outcomes.{reached_listed}
use Rattle.hls_offer_asks.proofs.Offering.{free_scheduler, seat_found}
use Rattle.hls_offer_asks.proofs.Seatable.{fit_as, terms_range}
use Rattle.hls_offer_asks.proofs.Standing.{is_moment, moment_of, moment_tree, ok_so, runs_stand}
use Rattle.hls_offer_asks.proofs.offers.lines_at.Goals as goal

pub scheduler_of-requires : goal.scheduler_of-requires
scheduler_of-requires g c =
    runs_stand _ c.args.core.now c.tree-tree.result.now c.tree-tree.ensures c.requires.runs _ (λ h tree reached. tt)

pub unreachable-requires : goal.unreachable-requires
unreachable-requires g c =
    let runs = c.requires.runs in
    let m = moment_of _ c.args.core.now runs in
    let at = is_moment _ c.args.core.now runs in
    c.in_default.ensures.none refl m.hierarchy
    (moment_tree _ c.args.core.now c.tree-tree.result.now c.tree-tree.ensures m at)
    (reached_listed m.hierarchy at.reached)
    (free_scheduler m at.reached c.args.wish.now (c.requires.free m at))

pub haves_of-requires : goal.haves_of-requires
haves_of-requires g c =
    runs_stand _ c.args.core.now c.tree-tree.result.now c.tree-tree.ensures c.requires.runs _
    (λ h tree reached. (c.in-Some.ensures.found h tree).1)

pub config-requires : goal.config-requires
config-requires g c =
    runs_stand _ c.args.core.now c.tree-tree.result.now c.tree-tree.ensures c.requires.runs _
    (λ h tree reached. (c.in-Some.ensures.found h tree).1)

pub offered-requires-clause-can : goal.offered-requires-clause-can
offered-requires-clause-can g c =
    let runs = c.requires.runs in
    let m = moment_of _ c.args.core.now runs in
    let at = is_moment _ c.args.core.now runs in
    let tree = moment_tree _ c.args.core.now c.tree-tree.result.now c.tree-tree.ensures m at in
    let fit = fit_as m.hierarchy at.reached c.in-Some.id (c.in-Some.ensures.found m.hierarchy tree).1 _ _
    (c.config.ensures m.hierarchy tree) (c.deref.ensures.value ∙ c.in_ok-haves.ensures m.hierarchy tree) in
    record {
      config = fit.config_fits;
      terms = terms_range c.args.wish.now.terms c.requires.wish.terms;
      ports = fit.ports;
      each_have = fit.narrow;
    }

pub returns : goal.returns
returns g c =
    ok_so c.offered.result _ _ (λ lines are m at.
    (let tree = moment_tree _ c.args.core.now c.tree-tree.result.now c.tree-tree.ensures m at in
    record {
      seat = _;
      is_seat = seat_found m at.reached c.args.wish.now c.in-Some.id (c.in-Some.ensures.found m.hierarchy tree).0 _
          (c.config.ensures m.hierarchy tree) refl
          (c.deref.ensures.value ∙ c.in_ok-haves.ensures m.hierarchy tree) (c.depth.ensures ∙ sym at.depth);
      can = (let fit = fit_as m.hierarchy at.reached c.in-Some.id (c.in-Some.ensures.found m.hierarchy tree).1 _ _
          (c.config.ensures m.hierarchy tree) (c.deref.ensures.value ∙ c.in_ok-haves.ensures m.hierarchy tree) in
          record {
            config = fit.config_fits;
            terms = terms_range c.args.wish.now.terms c.requires.wish.terms;
            ports = fit.ports;
            each_have = fit.narrow;
          });
      are = are;
    })) c.offered.ensures
