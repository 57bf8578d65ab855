use Rattle.std.proofs.Common.{◌+◌, arith, subst, sym, inl, inr, ◌∙◌}
use Rattle.std.proofs.lemmas.Bool.{cases_lt, false≢true}
use Rattle.hls_view_margins.specs.First.{IsLess, IsNoMore, has, wants}
use Rattle.hls_view_margins.specs.Parts.{part}
use Rattle.hls_view_margins.specs.declared.margin.Part.{Part}
use Rattle.hls_view_margins.proofs.Runs.{goes_on, starts_anew}
use Rattle.hls_view_margins.proofs.parts.run_since.Goals as goal

pub returns-then-is_less-clause-leads : goal.returns-then-is_less-clause-leads
returns-then-is_less-clause-leads c = λ f end tell within lo leads.
    let scale = c.args.scale.now in
    let run = c.part_of-run.ensures f end tell (omega arith) in
    let none = c.part_of.ensures f end tell (omega arith) in
    starts_anew scale f lo c.args.tick c.args.since
    (subst (λ (p : Part). IsLess scale (part f c.args.tick 0) p) run
    (subst (λ (p : Part). IsLess scale p c.part_of-run.result) none (c.is_less.ensures.0 c.if-is_less.true)))
    leads

pub returns-else-is_less-clause-leads : goal.returns-else-is_less-clause-leads
returns-else-is_less-clause-leads c = λ f end tell within lo leads.
    let scale = c.args.scale.now in
    let run = c.part_of-run.ensures f end tell (omega arith) in
    let none = c.part_of.ensures f end tell (omega arith) in
    let most : IsNoMore scale c.part_of-run.result c.part_of.result =
    elim (cases_lt (has scale c.part_of.result + wants scale c.part_of-run.result)
    (has scale c.part_of-run.result + wants scale c.part_of.result)) [
      | inl less ↦ absurd (false≢true (sym c.if-is_less.false ∙ c.is_less.ensures.1 less))
      | inr most ↦ most
    ] in
    goes_on scale f lo c.args.tick c.args.since
    (subst (λ (p : Part). IsNoMore scale p (part f c.args.tick 0)) run
    (subst (λ (p : Part). IsNoMore scale c.part_of-run.result p) none most))
    leads
