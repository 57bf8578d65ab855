-- A core that has carried nothing out.
use Rattle.std.proofs.Common.{◌≡◌, ℕ, ◌≤◌, List, [], ◌∷◌, length, Option, Some, None, refl, sym, ap, ◌∙◌}
use Rattle.std.proofs.Common.{subst, arith}
use Rattle.std.specs.Fn.{Mut}
use Rattle.hls_guarantee.specs.declared.Guarantee.{Guarantee}
use Rattle.hls_scenario.specs.declared.scenario.Item.{Item}
use Rattle.hls_scenario.specs.declared.scenario.Scenario.{Scenario}
use Rattle.hls_scenario.specs.Grammar.{IsScenario, IsDepth}
use Rattle.hls_report_text.specs.declared.report.Answer.{Answer}
use Rattle.hls_report_text.specs.declared.report.Answered.{Answered}
use Rattle.hls_report_text.specs.Content.{Content}
use Rattle.hls_sched.specs.Seen.{Seen}
use Rattle.hls_sched.specs.GoodKit.{IsGood}
use Rattle.hls_sched.specs.Boxed.{boxed}
use Rattle.hls_machine.specs.Hierarchy.{start}
use Rattle.hls_legal.specs.Tells.{TellsFrom}
use Rattle.hls_legal.specs.Moment.{Boxes}
use Rattle.hls_legal.specs.Kit.{boxes_left}
use Rattle.hls_legal.specs.Along.{AnswersAlong}
use Rattle.hls_legal.specs.Legal.{depth_in_force, IsRun}
use Rattle.hls_tree.specs.Trees.{IsTreeOf, IsReadyOf}
use Rattle.hls_core_journal.specs.Told.{answered_by, told}
use Rattle.hls_core_journal.specs.Kept.{IsNew}
use Rattle.hls_core_journal.proofs.Keeps.{kept_new}
use Rattle.hls_core_stays.specs.Tallies.{AreStays}
use Rattle.hls_core.specs.Begun.{next_by}
use Rattle.hls_core.specs.Bursts.{begun_in}
use Rattle.hls_core.specs.declared.begun.Begun.{Begun}
use Rattle.hls_core.specs.Left.{IsLeft}
use Rattle.hls_manager.specs.Outcomes.{boxes_in}
use Rattle.hls_core.specs.Cores.{IsCoreOf}
use Rattle.hls_core.specs.declared.cores.Core.{Core}

pub none_answered : (items : List Item) → answered_by items [] ≡ []
none_answered [] = refl
none_answered (item ∷ items) = refl

depth_few : (given : ℕ) (own : Option ℕ) → given ≤ 6 → IsDepth own → depth_in_force given own ≤ 6
depth_few given None few is = few
depth_few given (Some depth) few is = is

left_none : (begun : ℕ → Option Begun) → ((k : ℕ) → begun k ≡ None) → IsLeft begun start
left_none begun none = record { at = λ k. ap next_by (none k) }

run_none : (depth : ℕ) (boxes : Boxes) (c : Content) → c.answered ≡ [] → c.horizon ≡ 0 → IsRun depth boxes c []
run_none depth boxes c none idle = record {
  legal = tt;
  tells = subst (λ (xs : List Answered). TellsFrom c start [] xs) (sym none) (sym idle);
  answers = subst (λ (xs : List Answered). AnswersAlong depth start boxes [] xs) (sym none) tt;
}

-- V and P are what the checker knows a box by, and W, Q and X a rule
module _ {V W : Type 0} {P : V → Type 0} {Q : W → Type 0}
    {X : Mut ((x : W) × Q x) (Guarantee × (Guarantee × Unit {0})) (Option Guarantee)}
    (seen : (x : V) × P x → Seen) where
  pub opened : (c : Core V W P Q X) (s : Scenario) (given : ℕ) → c.scenario ≡ s → IsScenario s
      → c.depth ≡ depth_in_force given s.depth → given ≤ 6 → c.agenda ≡ 0
      → IsNew s.items s.horizon c.journal → IsGood (boxed seen) c.kit → IsTreeOf seen c.tree start
      → IsReadyOf seen c.tree start → ((k : ℕ) → begun_in c.bursts k ≡ None) → c.tree.horizon ≡ s.horizon
      → AreStays c.stays start
      → IsCoreOf seen c s given (boxes_in c.kit)
  opened c s given same is depth few place new good tree ready none horizon stays =
      let answered : answered_by s.items c.journal.answers.items ≡ [] =
      ap (answered_by s.items) new.answers ∙ none_answered s.items in
      record {
        scenario = same;
        within = is;
        depth = depth;
        deep = subst (λ n. n ≤ 6) (sym depth) (depth_few given s.depth few is.depth);
        place = place ∙ sym (ap (λ (xs : List Answer). length xs) new.answers);
        kept = kept_new s c.journal new;
        ahead = λ at item le e. (let now = new.ticks in omega (arith, now));
        good = good;
        left = sym (ap (boxes_left (boxes_in c.kit)) answered);
        steps = [];
        run = run_none c.depth (boxes_in c.kit) (told s.version s.items c.depth c.journal) answered new.ticks;
        at_state = record {
          tree = tree;
          ready = ready;
          left = left_none (begun_in c.bursts) none;
          reached = record { past = []; legal = tt; leads = refl };
        };
        stays = stays;
        noted = λ k name e. absurd (cc);
        marks = λ k other e. absurd (cc);
        horizon = horizon;
      }
