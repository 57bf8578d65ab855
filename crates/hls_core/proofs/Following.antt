-- Stays after a command that was answered.
use Rattle.std.proofs.Common.{◌≡◌, ℕ, suc, refl, sym, ap, ◌∙◌, subst, arith, ◌∷◌, [], ◌++◌, List, Bool}
use Rattle.hls_scenario.specs.declared.scenario.Command.{Command}
use Rattle.hls_report_text.specs.declared.refusal.Refusal.{Refusal}
use Rattle.hls_report_text.specs.declared.report.Seated.{Seated}
use Rattle.hls_report_text.specs.declared.report.Answer.{Answer}
use Rattle.hls_report_text.specs.declared.report.Answer.TheVariants.{Done, Refused}
use Rattle.hls_sched.specs.Seen.{Seen}
use Rattle.hls_sched.specs.declared.kit.Kit.{Kit}
use Rattle.hls_machine.specs.Hierarchy.{Hierarchy, start}
use Rattle.hls_machine.specs.Steps.{Step, Refuse, after, state}
use Rattle.hls_machine.specs.Legal.{Can, IsLegal, IsBelow}
use Rattle.hls_machine.specs.Seated.{IsSeated}
use Rattle.hls_machine.proofs.Goes.{state_goes, legal_goes}
use Rattle.hls_machine.proofs.Seated.{run_seated}
use Rattle.hls_machine.proofs.Readings.{under_below, below_rank}
use Rattle.hls_machine.proofs.Runs.{run_keeps, start_kept}
use Rattle.hls_legal.specs.Tells.{Answers}
use Rattle.hls_tree.specs.Trees.{IsTreeOf, IsReadyOf, Stands, Any}
use Rattle.hls_tree.specs.declared.tree.Tree.{Tree}
use Rattle.hls_legal.specs.Moment.{Moment}
use Rattle.hls_manager.specs.Outcomes as manager
use Rattle.hls_machine.specs.Legal.{IsReached}
use Rattle.hls_manager.specs.Outcomes.{HasMarkRoom, moment}
use Rattle.hls_manager.proofs.Outcomes.{reached_listed}
use Rattle.hls_core_stays.specs.Tallies.{AreStays}
use Rattle.hls_core_stays.specs.Turnovers.{IsTurnover, TellsBelow}
use Rattle.hls_core_stays.specs.Changes.{Turns, MayTurn}
use Rattle.hls_core_stays.specs.declared.stays.Stays.{Stays}
use Rattle.hls_core_stays.specs.declared.turnover.Turnover.{Turnover}
use Rattle.hls_core_stays.specs.declared.turnover.Turnover.TheVariants.{Rouses}
use Rattle.hls_core.specs.declared.bursts.Bursts.{Bursts}
use Rattle.hls_core.specs.Standing.{IsAt}
use Rattle.hls_core.specs.Inside.Outcomes.{CarriesOut, CarriesStays, MayCarry, Follows, MayFollow}

run_tells : (steps : List Step) → IsLegal start steps → (k : ℕ) (below : ℕ → Bool)
    → IsBelow (state start steps) k below → TellsBelow (state start steps) k below
run_tells steps legal k below is node =
    let kept = run_keeps steps start start_kept legal in (
      λ on. below_rank (state start steps) kept.rank kept.sound k below is (suc (kept.rank node)) node
          (omega arith) on,
      λ under. under_below (state start steps) k below is under.0 node under.1,
    )

reached_tells : (h : Hierarchy) → IsReached h → (k : ℕ) (below : ℕ → Bool) → IsBelow h k below → TellsBelow h k below
reached_tells h is =
    subst (λ (g : Hierarchy). (k : ℕ) (below : ℕ → Bool) → IsBelow g k below → TellsBelow g k below) (sym is.leads)
    (run_tells is.past is.legal)

reached_after : (h : Hierarchy) (step : Step) → IsReached h → Can h step → IsReached (after h step)
reached_after h step is can = record {
  past = is.past ++ step ∷ [];
  legal = legal_goes is.past start step is.legal (subst (λ g. Can g step) is.leads can);
  leads = ap (λ g. after g step) is.leads ∙ sym (state_goes is.past start step);
}

reached_seated : (h : Hierarchy) → IsReached h → IsSeated h
reached_seated h is = subst (λ (g : Hierarchy). IsSeated g) (sym is.leads) (run_seated is.past is.legal)

-- V and P are what the checker knows a box by
module _ {V : Type 0} {P : V → Type 0} (seen : (x : V) × P x → Seen) where
  pub follow_turns : (stays : Stays) (t : Tree V P) (turnover : Turnover) (answer : Answer) (seats : List Seated)
      (h : Hierarchy) (command : Command) (step : Step) → answer ≡ Done seats
      → Follows seen stays t turnover answer h command step → Turns seen stays t turnover h command step
  follow_turns stays t turnover answer seats h command step is x = record {
    stays = x.stays;
    standing = x.standing;
    listed = reached_listed h x.reached;
    of = x.of;
    does = subst (λ a. Answers h command a step) is x.answers;
    can = x.can;
    tells = reached_tells h x.reached;
    tree = x.tree;
    ready = x.ready;
  }

  pub follow_may : (stays : Stays) (t : Tree V P) (turnover : Turnover) (answer : Answer) (seats : List Seated)
      → answer ≡ Done seats → MayFollow seen stays t turnover answer → MayTurn seen stays t turnover
  follow_may stays t turnover answer seats is may =
      let reached = reached_after may.h may.step may.follows.reached may.follows.can in
      record {
        h = may.h;
        command = may.command;
        step = may.step;
        turns = follow_turns stays t turnover answer seats may.h may.command may.step is may.follows;
        seated = reached_seated (after may.h may.step) reached;
        listed = reached_listed (after may.h may.step) reached;
      }

  pub follow_none : (stays : Stays) (t : Tree V P) (turnover : Turnover) (answer : Answer) (refusal : Refusal)
      (h : Hierarchy) (command : Command) (step : Step) → answer ≡ Refused refusal
      → Follows seen stays t turnover answer h command step → AreStays stays (after h step)
  follow_none stays t turnover answer refusal h command step is x =
      let refused : step ≡ Refuse = subst (λ a. Answers h command a step) is x.answers in
      subst (λ s. AreStays stays (after h s)) (sym refused) x.stays

  pub any_stands : (t : Tree V P) (bursts : Bursts) (stays : Stays)
      → Stands seen t (MayCarry seen t bursts stays) → Stands seen t Any
  any_stands t bursts stays x =
      record { h = x.h; tree = x.tree; seated = x.seated; listed = x.listed; is = tt }

  pub out_stands : (t : Tree V P) (bursts : Bursts) (stays : Stays)
      → Stands seen t (MayCarry seen t bursts stays) → Stands seen t (λ h. IsReached h × HasMarkRoom h)
  out_stands t bursts stays x = record {
    h = x.h;
    tree = x.tree;
    seated = x.seated;
    listed = x.listed;
    is = (x.is.at_state.reached, x.is.marks);
  }

  pub follows : (old new : Tree V P) (bursts : Bursts) (stays room : Stays) (turnover : Turnover)
      (command : Command) (answer : Answer) (h : Hierarchy) (step : Step) → MayCarry seen old bursts stays h
      → AreStays room h → IsTurnover h command turnover → Answers h command answer step → Can h step
      → IsTreeOf seen new (after h step) → IsReadyOf seen new (after h step)
      → Follows seen room new turnover answer h command step
  follows old new bursts stays room turnover command answer h step may are of answers can tree ready = record {
    stays = are;
    standing = may.standing;
    reached = may.at_state.reached;
    of = of;
    answers = answers;
    can = can;
    tree = tree;
    ready = ready;
  }

  followed : (old new : Tree V P) (bursts : Bursts) (stays room : Stays) (m : Moment) (commands : ℕ)
      (turnover : Turnover) (command : Command) (answer : Answer) → MayCarry seen old bursts stays m.hierarchy
      → AreStays room m.hierarchy → IsTurnover m.hierarchy command turnover
      → manager.CarriesOut seen old new m commands command answer → MayFollow seen room new turnover answer
  followed old new bursts stays room m commands turnover command answer may are of out = record {
    h = m.hierarchy;
    command = command;
    step = out.step;
    follows = follows old new bursts stays room turnover command answer m.hierarchy out.step may are of out.does out.can
        out.tree (out.ready may.at_state.ready);
  }

  pub may_follow : (old new : Tree V P) (bursts : Bursts) (stays room : Stays) (kit : Kit V P) (depth commands : ℕ)
      (turnover : Turnover) (command : Command) (answer : Answer) → Stands seen old (MayCarry seen old bursts stays)
      → ((h : Hierarchy) → AreStays stays h → AreStays room h)
      → ((h : Hierarchy) → IsTreeOf seen old h → IsTurnover h command turnover)
      → ((h : Hierarchy) → IsTreeOf seen old h → IsReached h
      → manager.CarriesOut seen old new (moment h kit depth) commands command answer)
      → MayFollow seen room new turnover answer
  may_follow old new bursts stays room kit depth commands turnover command answer x same of carried =
      followed old new bursts stays room (moment x.h kit depth) commands turnover command answer x.is
      (same x.h x.is.stays) (of x.h x.tree) (carried x.h x.tree x.is.at_state.reached)

  -- the thread may be noted that a command wakes or blocks
  pub may_rouse : (old new : Tree V P) (bursts later : Bursts) (stays : Stays) (id : ℕ) (command : Command)
      → Stands seen old (MayCarry seen old bursts stays)
      → ((h : Hierarchy) → IsTreeOf seen old h → IsTurnover h command (Rouses id))
      → ((m : Moment) (commands : ℕ) → IsAt seen old bursts m.hierarchy
      → CarriesOut seen old new later m commands command (Done []))
      → MayTurn seen stays new (Rouses id)
  may_rouse old new bursts later stays id command x of carried =
      let m : Moment = record {
        hierarchy = x.h;
        boxes = record { left = λ kind. 0; used = λ kind. 0 };
        depth = 0;
      } in
      follow_may stays new (Rouses id) (Done []) [] refl
      (followed old new bursts stays stays m 0 (Rouses id) command (Done []) x.is x.is.stays (of x.h x.tree)
      (carried m 0 x.is.at_state).out)

  -- and then the stays are carried along
  pub roused_stays : (old new : Tree V P) (bursts : Bursts) (was now : Stays) (id : ℕ) (command : Command)
      (answer : Answer)
      → ((h : Hierarchy) → IsTreeOf seen old h → IsTurnover h command (Rouses id))
      → ((h : Hierarchy) (c : Command) (step : Step) → Turns seen was new (Rouses id) h c step
      → AreStays now (after h step))
      → answer ≡ Done [] → CarriesStays seen old new bursts was now command answer
  roused_stays old new bursts was now id command answer of turned done = λ h step may does can tree ready.
      turned h command step
      (follow_turns was new (Rouses id) answer [] h command step done
      (follows old new bursts was was (Rouses id) command answer h step may may.stays (of h may.at_state.tree) does can
      tree ready))

  -- a refused command leaves the stays
  pub refused_stays : (t : Tree V P) (bursts : Bursts) (stays : Stays) (command : Command) (refusal : Refusal)
      → CarriesStays seen t t bursts stays stays command (Refused refusal)
  refused_stays t bursts stays command refusal = λ h step may does can tree ready.
      subst (λ s. AreStays stays (after h s)) (sym does) may.stays
