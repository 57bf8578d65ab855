-- Hierarchies to which a legal run leads.
use Rattle.std.proofs.Common.{◌≡◌, List, [], ◌∷◌, ◌++◌, refl, sym, ap, ◌∙◌, subst}
use Rattle.hls_machine.specs.Hierarchy.{Hierarchy, start}
use Rattle.hls_machine.specs.Steps.{Step, after, state}
use Rattle.hls_machine.specs.Legal.{Can, IsLegal}
use Rattle.hls_machine.specs.Lists.{IsListed}
use Rattle.hls_machine.specs.Seated.{IsSeated}
use Rattle.hls_machine.proofs.Goes.{state_goes, legal_goes}
use Rattle.hls_machine.proofs.Lists.{run_listed}
use Rattle.hls_machine.proofs.Seated.{run_seated}
use Rattle.hls_machine.proofs.Runs.{Kept, run_keeps, start_kept}

pub record IsReached (h : Hierarchy) : Type 0 where
  pub steps : List Step
  pub legal : IsLegal start steps
  pub leads : state start steps ≡ h

pub reached_start : IsReached start
reached_start = record { steps = []; legal = tt; leads = refl }

pub reached_next : (h : Hierarchy) (step : Step) → IsReached h → Can h step → IsReached (after h step)
reached_next h step r can = record {
  steps = r.steps ++ step ∷ [];
  legal = legal_goes r.steps start step r.legal (subst (λ (g : Hierarchy). Can g step) (sym r.leads) can);
  leads = state_goes r.steps start step ∙ ap (λ (g : Hierarchy). after g step) r.leads;
}

pub listed : (h : Hierarchy) → IsReached h → IsListed h
listed h r = subst IsListed r.leads (run_listed r.steps r.legal)

pub seated : (h : Hierarchy) → IsReached h → IsSeated h
seated h r = subst IsSeated r.leads (run_seated r.steps r.legal)

pub kept : (h : Hierarchy) → IsReached h → Kept h
kept h r = subst Kept r.leads (run_keeps r.steps start start_kept r.legal)
