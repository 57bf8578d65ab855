-- A core goes on by commands and by ticks.
use Rattle.std.proofs.Common.{◌≡◌, ℕ, inl, inr, ◌⊎◌, ◌+◌, ◌-◌, ◌<◌, ◌≤◌, true}
use Rattle.std.proofs.Common.{List, [], ◌∷◌, ◌++◌}
use Rattle.std.proofs.Common.{length, refl, sym, ap, ◌∙◌, subst, arith, slice_get}
use Rattle.std.specs.Prelude.{Option, Some}
use Rattle.std.specs.List.{list_any}
use Rattle.std.specs.Str.{bytes_eq}
use Rattle.std.proofs.lemmas.List.{length-append}
use Rattle.std.proofs.lemmas.Option.{slice_get_within}
use Rattle.std.specs.Fn.{Mut}
use Rattle.hls_guarantee.specs.declared.Guarantee.{Guarantee}
use Rattle.hls_scenario.specs.declared.scenario.Command.{Command}
use Rattle.hls_scenario.specs.declared.scenario.Scenario.{Scenario}
use Rattle.hls_report_text.specs.declared.report.Answer.{Answer}
use Rattle.hls_report_text.specs.declared.report.Answered.{Answered}
use Rattle.hls_report_text.specs.Content.{Content}
use Rattle.hls_report_text.proofs.LineTexts.{horizon_fits}
use Rattle.hls_report_text.proofs.NameLaws.{grown_any}
use Rattle.hls_report_text.specs.WellFormed as formed
use Rattle.hls_sched.specs.Seen.{Seen}
use Rattle.hls_sched.specs.GoodKit.{IsGood}
use Rattle.hls_sched.specs.declared.kit.Kit.{Kit}
use Rattle.hls_sched.specs.Boxed.{boxed}
use Rattle.hls_tree.specs.Kits.{IsSameKit}
use Rattle.hls_machine.specs.Hierarchy.{Hierarchy, start, name_of}
use Rattle.hls_machine.specs.Steps.{Step, after, state}
use Rattle.hls_machine.specs.Legal.{Can, IsLegal}
use Rattle.hls_machine.proofs.Goes.{state_goes, legal_goes}
use Rattle.hls_machine.proofs.Lists.{run_listed}
use Rattle.hls_machine.proofs.Seated.{run_seated}
use Rattle.hls_legal.specs.Tells.{Answers}
use Rattle.hls_legal.specs.Moment.{Boxes, new_name}
use Rattle.hls_legal.specs.Answers.{IsAnswer}
use Rattle.hls_legal.specs.Kit.{boxes_left, boxes_after}
use Rattle.hls_legal.specs.Legal.{IsRun}
use Rattle.hls_legal.specs.Grown.{with_answer}
use Rattle.hls_legal.proofs.Growth.{run_command}
use Rattle.hls_tree.specs.Trees.{IsTreeOf, IsReadyOf, Stands}
use Rattle.hls_tree.specs.declared.tree.Tree.{Tree}
use Rattle.hls_core_journal.specs.declared.journal.Journal.{Journal}
use Rattle.hls_core_journal.specs.Told.{answered_as, answered_by, told}
use Rattle.hls_core_journal.specs.Kept.{IsNoted, MayNote, has_name, named_by}
use Rattle.hls_core_journal.proofs.Keeps.{kept_note, told_note, noted_grows, may_note, answered_push}
use Rattle.hls_core.specs.Bursts.{begun_in}
use Rattle.hls_core.specs.declared.bursts.Bursts.{Bursts}
use Rattle.hls_manager.specs.Outcomes.{boxes_in, moment}
use Rattle.hls_manager.proofs.Versions.{of_either}
use Rattle.hls_core.specs.Marks.{HasMarksFor}
use Rattle.hls_core.specs.Standing.{IsAt}
use Rattle.hls_core_stays.specs.Tallies.{AreStays}
use Rattle.hls_core_stays.specs.declared.stays.Stays.{Stays}
use Rattle.hls_core.specs.Inside.Outcomes.{CarriesOut, MayCarry}
use Rattle.hls_core.proofs.Standings.{run_standing}
use Rattle.hls_core.specs.Cores.{AreNoted, IsCoreOf}
use Rattle.hls_core.specs.declared.cores.Core.{Core}
use Rattle.hls_core.proofs.Items.{IsDue, is_due, items_command}
use Rattle.hls_core.proofs.Rooms.{command_marks, next_marks, legal_apart}
use Rattle.hls_core.proofs.Seats.{named_so}
use Rattle.hls_core.proofs.Carried.{kit_boxes}
use Rattle.hls_clock.specs.Agenda.{due_command}
use Rattle.hls_scenario.specs.Grammar.{IsScenario, IsCommand}

boxes_push : (boxes : Boxes) (xs : List Answered) (a : Answered)
    → boxes_left boxes (xs ++ a ∷ []) ≡ boxes_after (boxes_left boxes xs) a.command a.answer
boxes_push boxes [] a = refl
boxes_push boxes (x ∷ xs) a = boxes_push (boxes_after boxes x.command x.answer) xs a

noted_step : (h : Hierarchy) (command : Command) (answer : Answer) (step : Step) (j k : Journal)
    → Answers h command answer step → IsNoted command answer j k → AreNoted h j → AreNoted (after h step) k
noted_step h command answer step j k does noted are c name e =
    by (named_so h command answer step j.names.keys c name does e)
  where
    by : (name_of (h.nodes c) ≡ Some name) ⊎ (list_any (bytes_eq name)
        (named_by answer (new_name command) j.names.keys) ≡ true) → has_name k name ≡ true
    by (inl was) = grown_any j.names.keys k.names.keys name (noted_grows command answer j k noted) (are c name was)
    by (inr known) = subst (λ ns. list_any (bytes_eq name) ns ≡ true) (sym noted.names) known

-- V and P are what the checker knows a box by
module _ {V : Type 0} {P : V → Type 0} (seen : (x : V) × P x → Seen) where
  pub at_next : (t : Tree V P) (bursts : Bursts) (steps : List Step) (step : Step) → IsLegal start steps
      → Can (state start steps) step → IsTreeOf seen t (after (state start steps) step)
      → IsReadyOf seen t (after (state start steps) step)
      → Rattle.hls_core.specs.Left.IsLeft (begun_in bursts) (after (state start steps) step)
      → IsAt seen t bursts (state start (steps ++ step ∷ []))
  at_next t bursts steps step legal can tree ready left =
      let goes = state_goes steps start step in
      record {
        tree = subst (IsTreeOf seen t) (sym goes) tree;
        ready = subst (IsReadyOf seen t) (sym goes) ready;
        left = subst (Rattle.hls_core.specs.Left.IsLeft (begun_in bursts)) (sym goes) left;
        reached = record { past = steps ++ step ∷ []; legal = legal_goes steps start step legal can; leads = refl };
      }

-- V and P are what the checker knows a box by, and W, Q and X a rule
module _ {V W : Type 0} {P : V → Type 0} {Q : W → Type 0}
    {X : Mut ((x : W) × Q x) (Guarantee × (Guarantee × Unit {0})) (Option Guarantee)}
    (seen : (x : V) × P x → Seen) where
  pub core_carries : (c : Core V W P Q X) (s : Scenario) (given : ℕ) (boxes : Boxes) (command : Command)
      → (is : IsCoreOf seen c s given boxes) → IsDue s.items c.agenda c.journal.ticks command
      → MayCarry seen c.tree c.bursts c.stays (state start is.steps)
  core_carries c s given boxes command is due = record {
    at_state = is.at_state;
    marks = next_marks (state start is.steps) (length s.items - c.agenda)
        (let lt = slice_get_within s.items c.agenda due.item due.there in omega (arith, lt)) is.marks;
    stays = is.stays;
    standing = run_standing (told s.version s.items c.depth c.journal) is.steps is.run.legal is.run.tells;
    short =
        (let horizon = is.horizon in
        let few = horizon_fits s.version s.horizon is.within.horizon in omega (arith, horizon, few));
  }

  pub core_stands : (c : Core V W P Q X) (s : Scenario) (given : ℕ) (boxes : Boxes) (command : Command)
      → IsCoreOf seen c s given boxes → IsDue s.items c.agenda c.journal.ticks command
      → Stands seen c.tree (MayCarry seen c.tree c.bursts c.stays)
  core_stands c s given boxes command is due = record {
    h = state start is.steps;
    tree = is.at_state.tree;
    seated = run_seated is.steps is.run.legal;
    listed = run_listed is.steps is.run.legal;
    is = core_carries c s given boxes command is due;
  }

  pub core_may_note : (c : Core V W P Q X) (s : Scenario) (given : ℕ) (boxes : Boxes) (command : Command)
      → IsCoreOf seen c s given boxes → IsDue s.items c.agenda c.journal.ticks command → MayNote command c.journal
  core_may_note c s given boxes command is due =
      subst (λ k. MayNote k c.journal) due.is
      (may_note s c.journal due.item is.kept (ap (slice_get s.items) (sym is.place) ∙ due.there))

  pub carried : (old new : Core V W P Q X) (s : Scenario) (given : ℕ) (boxes : Boxes) (commands : ℕ) (command : Command)
      (answer : Answer) (is : IsCoreOf seen old s given boxes)
      (due : IsDue s.items old.agenda old.journal.ticks command) → length s.items ≤ commands
      → CarriesOut seen old.tree new.tree new.bursts (moment (state start is.steps) old.kit old.depth) commands command
      answer
      → boxes_in new.kit ≡ boxes_after (boxes_in old.kit) command answer → formed.MayAnswer command answer
      → IsGood (boxed seen) new.kit → IsNoted command answer old.journal new.journal → new.agenda ≡ old.agenda + 1
      → new.scenario ≡ old.scenario → new.depth ≡ old.depth → new.tree.horizon ≡ old.tree.horizon
      → ((h : Hierarchy) (step : Step) → MayCarry seen old.tree old.bursts old.stays h → Answers h command answer step
      → Can h step → IsTreeOf seen new.tree (after h step) → IsReadyOf seen new.tree (after h step)
      → AreStays new.stays (after h step))
      → IsCoreOf seen new s given boxes
  carried old new s given boxes commands command answer is due all carries left fits good noted place scenario depth
      horizon follows =
      let h = state start is.steps in
      let out = carries.out in
      let item = due.item in
      let lt = slice_get_within s.items old.agenda item due.there in
      let at_place : slice_get s.items (length old.journal.answers.items) ≡ Some item =
      ap (slice_get s.items) (sym is.place) ∙ due.there in
      let notes : IsNoted item.command answer old.journal new.journal =
      subst (λ c. IsNoted c answer old.journal new.journal) (sym due.is) noted in
      let grammar = items_command s.version s.horizon 0 s.items old.agenda item is.within.items due.there in
      let fit = subst (λ c. formed.MayAnswer c answer) (sym due.is) fits in
      let c = told s.version s.items old.depth old.journal in
      let a = answered_as item answer in
      let boxed_now = boxes_left boxes (answered_by s.items old.journal.answers.items) in
      let told_is = told_note s old.depth old.journal new.journal item answer is.kept at_place notes in
      let answers : IsAnswer (record { hierarchy = h; boxes = boxed_now; depth = old.depth }) command answer =
      subst (λ b. IsAnswer (record { hierarchy = h; boxes = b; depth = old.depth }) command answer) is.left
      out.answers in
      let run : IsRun old.depth boxes (with_answer c a) (is.steps ++ out.step ∷ []) =
      run_command old.depth boxes c is.steps out.step a is.run due.tick out.can
      (subst (λ k. Answers h k answer out.step) (sym due.is) out.does)
      (subst (λ k. IsAnswer (record { hierarchy = h; boxes = boxed_now; depth = old.depth }) k answer) (sym due.is)
      answers) in
      let more = length s.items - new.agenda in
      let one : length s.items - old.agenda ≡ more + 1 = omega (arith, lt, place) in
      let marks : HasMarksFor more (after h out.step) =
      command_marks h out.step commands more out.can out.roomy (omega (arith, all, one))
      (legal_apart is.steps is.run.legal) (subst (λ n. HasMarksFor n h) one is.marks) in
      record {
        scenario = scenario ∙ is.scenario;
        within = is.within;
        depth = depth ∙ is.depth;
        deep = subst (λ n. n ≤ 6) (sym depth) is.deep;
        place =
            let count = ap (λ (xs : List Answer). length xs) noted.answers
            ∙ length-append old.journal.answers.items (answer ∷ []) in
            let before = is.place in omega (arith, count, before, place);
        kept = kept_note s old.journal new.journal item answer is.kept at_place grammar.0 fit notes;
        ahead = λ at other le e.
            (let ahead = is.ahead at other (omega (arith, le, place)) e in
            let ticks = noted.ticks in omega (arith, ahead, ticks));
        good = good;
        left =
            left ∙ ap (λ b. boxes_after b command answer) is.left
            ∙ ap (λ k. boxes_after boxed_now k answer) (sym due.is)
            ∙ sym (boxes_push boxes (answered_by s.items old.journal.answers.items) a)
            ∙ ap (boxes_left boxes)
            (sym (ap (answered_by s.items) noted.answers ∙ answered_push s.items old.journal.answers.items item
            answer at_place));
        steps = is.steps ++ out.step ∷ [];
        run =
            subst (λ n. IsRun n boxes (told s.version s.items n new.journal) (is.steps ++ out.step ∷ [])) (sym depth)
            (subst (λ (k : Content). IsRun old.depth boxes k (is.steps ++ out.step ∷ [])) (sym told_is) run);
        at_state =
            at_next seen new.tree new.bursts is.steps out.step is.run.legal out.can out.tree
            (out.ready is.at_state.ready) carries.left;
        stays =
            subst (AreStays new.stays) (sym (state_goes is.steps start out.step))
            (follows h out.step (core_carries old s given boxes command is due) out.does out.can out.tree
            (out.ready is.at_state.ready));
        noted =
            subst (λ g. AreNoted g new.journal) (sym (state_goes is.steps start out.step))
            (noted_step h command answer out.step old.journal new.journal out.does noted is.noted);
        marks = subst (λ g. HasMarksFor more g) (sym (state_goes is.steps start out.step)) marks;
        horizon = horizon ∙ is.horizon;
      }

  -- a core whose command met want of memory
  pub stayed : (c : Core V W P Q X) (t : Tree V P) (kit : Kit V P) (bursts : Bursts) (stays : Stays) (s : Scenario)
      (given : ℕ) (boxes : Boxes) (is : IsCoreOf seen c s given boxes) → IsAt seen t bursts (state start is.steps)
      → IsSameKit (boxed seen) c.kit kit → IsGood (boxed seen) kit → t.horizon ≡ c.tree.horizon
      → AreStays stays (state start is.steps)
      → IsCoreOf seen (record c { tree = t; kit = kit; bursts = bursts; stays = stays }) s given boxes
  stayed c t kit bursts stays s given boxes is here same good horizon counted = record {
    scenario = is.scenario;
    within = is.within;
    depth = is.depth;
    deep = is.deep;
    place = is.place;
    kept = is.kept;
    ahead = is.ahead;
    good = good;
    left = kit_boxes seen c.kit kit same ∙ is.left;
    steps = is.steps;
    run = is.run;
    at_state = here;
    stays = counted;
    noted = is.noted;
    marks = is.marks;
    horizon = horizon ∙ is.horizon;
  }

-- ---- the command that is due

pub due_for : (own s : Scenario) (place now ticks : ℕ) (command : Command) → own ≡ s → now ≡ ticks
    → Some command ≡ due_command own.items place now → IsDue s.items place ticks command
due_for own s place now ticks command same at e =
    is_due s.items place ticks command
    (e ∙ ap (λ (x : Scenario). due_command x.items place now) same ∙ ap (due_command s.items place) at)

pub due_command_is : (s : Scenario) (place now : ℕ) (command : Command) → IsScenario s
    → IsDue s.items place now command → IsCommand 2 command
due_command_is s place now command is due =
    subst (IsCommand 2) due.is (of_either s.version due.item.command
    (items_command s.version s.horizon 0 s.items place due.item is.items due.there).0)

pub due_small : (s : Scenario) (place now : ℕ) (command : Command) → IsScenario s
    → IsDue s.items place now command → place < 65536
due_small s place now command is due =
    let lt = slice_get_within s.items place due.item due.there in let few = is.few in omega (arith, lt, few)
