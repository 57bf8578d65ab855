-- Runs that go on at their end, and the reports that tell them.
use Rattle.std.proofs.Common.{◌≡◌, ℕ, ◌+◌, ◌<◌, ◌≤◌, List, [], ◌∷◌, ◌++◌, Option, Bool, refl, sym, ap, ◌∙◌}
use Rattle.std.proofs.Common.{subst, arith}
use Rattle.std.specs.List.{AllByRecursion}
use Rattle.std.proofs.lemmas.List.{append-nil}
use Rattle.hls_text.specs.Lines.{Text}
use Rattle.hls_scenario.specs.declared.scenario.Command.{Command}
use Rattle.hls_scenario.specs.declared.scenario.Command.TheVariants as said
use Rattle.hls_report_text.specs.declared.report.Answer.{Answer}
use Rattle.hls_report_text.specs.declared.report.Answer.TheVariants.{Done, Refused}
use Rattle.hls_report_text.specs.declared.report.Answered.{Answered}
use Rattle.hls_report_text.specs.Content.{Content}
use Rattle.hls_machine.specs.Hierarchy.{Hierarchy, start}
use Rattle.hls_machine.specs.Steps.{Step, Elapse, Path, after, state}
use Rattle.hls_machine.specs.Legal.{Can}
use Rattle.hls_machine.proofs.Goes.{legal_goes}
use Rattle.hls_legal.specs.Schedule.{path_at}
use Rattle.hls_legal.specs.Tells.{Names, Answers, TellsFrom}
use Rattle.hls_legal.specs.Moment.{Boxes}
use Rattle.hls_legal.specs.Answers.{IsAnswer}
use Rattle.hls_legal.specs.Kit.{boxes_left}
use Rattle.hls_legal.specs.Along.{IsTick, AnswersAlong}
use Rattle.hls_legal.proofs.Grows.{along_command, along_tick}
use Rattle.hls_legal.specs.Legal.{IsRun}
use Rattle.hls_legal.specs.Grown.{with_answer, IsTickMore}

-- ticks never fall
pub now_by : (c : Content) (steps : List Step) (h : Hierarchy) (left : List Answered) → TellsFrom c h steps left
    → h.now ≤ c.horizon
now_by c [] h [] told = omega (arith, told)
now_by c [] h (b ∷ left) told = absurd told
now_by c (Elapse asking masks path ∷ steps) h left told =
    let rest : h.now + 1 ≤ c.horizon = now_by c steps (after h (Elapse asking masks path)) left told.2 in
    omega (arith, rest)
now_by c (step ∷ steps) h [] told = absurd told
now_by c (step ∷ steps) h (b ∷ left) told = now_by c steps (after h step) left told.2

all_more : (n m : ℕ) (left more : List Answered) → AllByRecursion (λ (a : Answered). n < a.tick) left → n < m
    → AllByRecursion (λ (a : Answered). m ≤ a.tick) more
    → AllByRecursion (λ (a : Answered). n < a.tick) (left ++ more)
all_more n m [] [] all lt late = tt
all_more n m [] (b ∷ more) all lt late =
    (let le = late.0 in omega (arith, lt, le), all_more n m [] more tt lt late.1)
all_more n m (a ∷ left) more all lt late = (all.0, all_more n m left more all.1 lt late)

-- A report that tells a run tells a longer one, once what is more is told where the run led.
tells_more : (c d : Content) (last : List Step) (more : List Answered)
    → ((t : ℕ) → t < c.horizon → path_at d.stretches t ≡ path_at c.stretches t)
    → AllByRecursion (λ (a : Answered). c.horizon ≤ a.tick) more → (steps : List Step) (h : Hierarchy)
    (left : List Answered) → TellsFrom c h steps left
    → ((state h steps).now ≡ c.horizon → TellsFrom d (state h steps) last more)
    → TellsFrom d h (steps ++ last) (left ++ more)
tells_more c d last more paths late [] h [] told next = next told
tells_more c d last more paths late [] h (b ∷ left) told next = absurd told
tells_more c d last more paths late (Elapse asking masks path ∷ steps) h left told next =
    let rest : h.now + 1 ≤ c.horizon = now_by c steps (after h (Elapse asking masks path)) left told.2 in
    let lt : h.now < c.horizon = omega (arith, rest) in (
      all_more h.now c.horizon left more told.0 lt late,
      subst (Names h path) (sym (paths h.now lt)) told.1,
      tells_more c d last more paths late steps (after h (Elapse asking masks path)) left told.2 next,
    )
tells_more c d last more paths late (step ∷ steps) h [] told next = absurd told
tells_more c d last more paths late (step ∷ steps) h (b ∷ left) told next =
    (told.0, told.1, tells_more c d last more paths late steps (after h step) left told.2 next)

-- ---- a command

does_no_tick : (h : Hierarchy) (command : Command) (step : Step)
    → Rattle.hls_legal.specs.Tells.Does h command step → ¬ IsTick step
does_no_tick h (said.Load name config perches) (Elapse asking masks path) does is = does
does_no_tick h (said.Thread name perch) (Elapse asking masks path) does is = does
does_no_tick h (said.End name) (Elapse asking masks path) does is = does
does_no_tick h (said.Unload name) (Elapse asking masks path) does is = does
does_no_tick h (said.Move name perch) (Elapse asking masks path) does is = does
does_no_tick h (said.Wake name every burst) (Elapse asking masks path) does is = does
does_no_tick h (said.Block name) (Elapse asking masks path) does is = does
does_no_tick h command _ does is = is

pub answers_no_tick : (h : Hierarchy) (command : Command) (answer : Answer) (step : Step)
    → Answers h command answer step → ¬ IsTick step
answers_no_tick h command (Done seats) step does is = does_no_tick h command step does is
answers_no_tick h command (Refused r) step e is = subst (λ (s : Step). IsTick s) e is

one_told : (d : Content) (g : Hierarchy) (step : Step) (a : Answered) → a.tick ≡ g.now
    → Answers g a.command a.answer step → g.now ≡ d.horizon → ¬ IsTick step → TellsFrom d g (step ∷ []) (a ∷ [])
one_told d g (Elapse asking masks path) a tick answers now not = absurd (not tt)
one_told d g _ a tick answers now not = (tick, answers, now)

pub run_command : (depth : ℕ) (boxes : Boxes) (c : Content) (steps : List Step) (step : Step) (a : Answered)
    → IsRun depth boxes c steps → a.tick ≡ c.horizon → Can (state start steps) step
    → Answers (state start steps) a.command a.answer step
    → IsAnswer (record { hierarchy = state start steps; boxes = boxes_left boxes c.answered; depth = depth })
    a.command a.answer
    → IsRun depth boxes (with_answer c a) (steps ++ step ∷ [])
run_command depth boxes c steps step a run tick can answers answer =
    let not = answers_no_tick (state start steps) a.command a.answer step answers in
    record {
      legal = legal_goes steps start step run.legal can;
      tells = tells_more c (with_answer c a) (step ∷ []) (a ∷ []) (λ t lt. refl) (omega (arith, tick), tt) steps
          start c.answered run.tells
          (λ now. one_told (with_answer c a) (state start steps) step a (tick ∙ sym now) answers now not);
      answers = along_command depth steps start boxes c.answered step a run.answers not answer;
    }

-- ---- a tick

pub run_tick : (depth : ℕ) (boxes : Boxes) (c d : Content) (steps : List Step) (asking : ℕ → Bool)
    (masks : ℕ → ℕ) (path : Option Path) (names : Option (List Text)) → IsRun depth boxes c steps
    → Can (state start steps) (Elapse asking masks path) → Names (state start steps) path names
    → IsTickMore c d names → IsRun depth boxes d (steps ++ Elapse asking masks path ∷ [])
run_tick depth boxes c d steps asking masks path names run can named more =
    let tick = Elapse asking masks path in
    let told : TellsFrom d start (steps ++ tick ∷ []) (c.answered ++ []) =
    tells_more c d (tick ∷ []) [] more.before tt steps start c.answered run.tells (λ now. (
      tt,
      subst (Names (state start steps) path) (sym (ap (path_at d.stretches) now ∙ more.path)) named,
      ap (λ n. n + 1) now ∙ sym more.horizon,
    )) in
    record {
      legal = legal_goes steps start tick run.legal can;
      tells = subst (TellsFrom d start (steps ++ tick ∷ [])) (append-nil c.answered ∙ sym more.answered) told;
      answers = subst (AnswersAlong depth start boxes (steps ++ tick ∷ [])) (sym more.answered)
          (along_tick depth steps start boxes c.answered tick run.answers tt);
    }
