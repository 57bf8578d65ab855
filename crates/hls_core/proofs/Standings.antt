-- The stays of a legal run that is told.
use Rattle.std.proofs.Common.{◌≡◌, ℕ, zero, suc, List, [], ◌∷◌, subst}
use Rattle.std.specs.Prelude.{Some, slice_get}
use Rattle.hls_report_text.specs.Content.{Content}
use Rattle.hls_machine.specs.Hierarchy.{Hierarchy, Stay, start}
use Rattle.hls_machine.specs.Steps.{Step, state}
use Rattle.hls_machine.specs.Legal.{IsLegal}
use Rattle.hls_legal.specs.Tells.{Tells}
use Rattle.hls_legal.proofs.ToldSteps.{IsStayTold, AreStaysTold}
use Rattle.hls_legal.proofs.OrderRuns.{telling_run}
use Rattle.hls_core_stays.specs.Tallies.{IsStanding}

told_at : (c : Content) (h : Hierarchy) (stays : List Stay) (at : ℕ) (stay : Stay) → AreStaysTold c h stays
    → slice_get stays at ≡ Some stay → IsStayTold c h stay stay.until
told_at c h [] at stay told e = absurd (cc)
told_at c h (x ∷ stays) zero stay told e =
    let same : x ≡ stay = cc in subst (λ (y : Stay). IsStayTold c h y y.until) same told.0
told_at c h (x ∷ stays) (suc at) stay told e = told_at c h stays at stay told.1 e

pub run_standing : (c : Content) (steps : List Step) → IsLegal start steps → Tells c steps
    → IsStanding (state start steps)
run_standing c steps legal tells =
    let told = (telling_run c steps legal tells).all.told.stays in
    let h = state start steps in
    record {
      there = λ at stay e none. ((told_at c h h.stays at stay told e).open_yet none).is;
      past = λ at stay e. (told_at c h h.stays at stay told e).past;
    }
