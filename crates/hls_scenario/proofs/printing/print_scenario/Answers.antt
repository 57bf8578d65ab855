use Rattle.std.proofs.Common.{◌≡◌, subst, sym}
use Rattle.hls_scenario.specs.Forms.{scenario_text}
use Rattle.hls_scenario.specs.Grammar.{IsScenarioText}
use Rattle.hls_scenario.proofs.CanonicalPrinting.{items_commands, whole_text}
use Rattle.hls_scenario.proofs.CanonicalLaws.{canonical_stands}
use Rattle.hls_scenario.proofs.printing.print_scenario.Goals as goal

pub put_items-requires : goal.put_items-requires
put_items-requires c = rw c.items.ensures (items_commands _ _ _ _ c.requires.items)

pub returns : goal.returns
returns c =
    let s = c.args.scenario.now in
    let e : c.put_items.new.out.items ≡ scenario_text s =
    rw (
      c.in_ok-put_items.ensures,
      c.in_ok-put_head.ensures,
      c.items.ensures,
      c.new-out.ensures.items,
    ) (whole_text s) in
    record {
      text = e;
      stands = subst (λ text. IsScenarioText text s) (sym e)
          (canonical_stands s c.requires);
    }
