-- The chain by hand: the search gives up on commands of this size.
use Rattle.std.proofs.Common.{◌≡◌, ◌∙◌, sym, ap, drop, nat_lt, rules, tests}
use Rattle.std.proofs.lemmas.Iterator.{YieldsList-from_slice, YieldsList-from_map}
use Rattle.std.proofs.lemmas.Iterator.Consumers.{YieldsList-at}
use Rattle.std.proofs.lemmas.Iterator.Adapters.{option_map_id}
use Rattle.std.proofs.lemmas.Iterator.Search.{find_from_yields_List}
use Rattle.hls_clock.specs.Agenda.{first_tick_after}
use Rattle.hls_clock.proofs.Agenda.next_after.Goals as goal

pub returns : goal.returns
returns c =
    let rest : c.items_from.result.now ≡ drop c.args.self.now c.args.scenario.now.items =
    cc (c.items_from.ensures, c.self.view_is) in
    sym (option_map_id c.find.result) ∙
    find_from_yields_List (λ tick. nat_lt c.args.now tick) _ _ _ c.find.ensures.ran
    (YieldsList-from_map _ (λ item. item.tick)
    (YieldsList-at c.map.ensures.source (YieldsList-from_slice c.items_from.result.now cc))
    c.map.ensures.closure (λ x r q k. search (rules, tests)))
    (λ x b q k. search (rules, tests)) ∙
    ap (first_tick_after c.args.now) rest
