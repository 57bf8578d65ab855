-- Where each command and each tick of a report stands in the run that it tells, with the tree of names up to it.
use Rattle.std.proofs.Common.{◌≡◌, ℕ, zero, suc, inl, inr, ◌+◌, ◌<◌, ◌≤◌, List, [], ◌∷◌, ◌++◌, Bool}
use Rattle.std.proofs.Common.{cond, take, slice_get, filter, refl, sym, ap, ◌∙◌, subst, arith}
use Rattle.std.specs.Prelude.{Option, Some, nat_le, fold}
use Rattle.std.specs.List.{AllByRecursion}
use Rattle.std.proofs.lemmas.Bool.{cases_eq, le-leb, lt-leb}
use Rattle.std.proofs.lemmas.List.{append-nil, append_assoc}
use Rattle.std.proofs.lemmas.List.Elements.{filter-append}
use Rattle.hls_scenario.specs.declared.scenario.Command.{Command}
use Rattle.hls_scenario.proofs.CanonicalLines.{all_append}
use Rattle.hls_report_text.specs.declared.report.Answer.{Answer}
use Rattle.hls_report_text.specs.declared.report.Answer.TheVariants.{Done, Refused}
use Rattle.hls_report_text.specs.declared.report.Answered.{Answered}
use Rattle.hls_report_text.specs.Content.{Content}
use Rattle.hls_machine.specs.Hierarchy.{Hierarchy, start}
use Rattle.hls_machine.specs.Steps.{Step, Refuse, Load, Admit, End, Unload, Move, Rouse, Block, Elapse, Path}
use Rattle.hls_machine.specs.Steps.{state}
use Rattle.hls_machine.specs.Steps as steps
use Rattle.hls_machine.specs.Legal.{Can, IsLegal}
use Rattle.hls_legal.specs.Schedule.{path_at}
use Rattle.hls_legal.specs.Tells.{Answers, Names, TellsFrom, Tells}
use Rattle.hls_legal.proofs.ToldSteps.{each_same}
use Rattle.hls_legal.proofs.ToldRuns.{one_more}
use Rattle.hls_legal.proofs.Reached.{IsReached, reached_next, reached_start}
use Rattle.hls_legal.proofs.OrderRuns.{no_elapse}
use Rattle.hls_legal.specs.Moment.{Boxes}
use Rattle.hls_legal.specs.Answers.{IsAnswer}
use Rattle.hls_legal.specs.Along.{AnswersAlong}
use Rattle.hls_legal.specs.Kit.{boxes_after}
use Rattle.hls_audit_clauses.specs.declared.member.Member.{Member}
use Rattle.hls_audit_clauses.specs.Names.{after_answer, tree_of, tree_at}
use Rattle.hls_audit_clauses.proofs.Trees.{IsTreeOf}
use Rattle.hls_audit_clauses.proofs.TreeSteps.{step_tree, tick_tree}

fold_push : {X Y : Type 0} (f : Y → X → Y) (z : Y) (xs : List X) (x : X)
    → fold f z (xs ++ x ∷ []) ≡ f (fold f z xs) x
fold_push f z [] x = refl
fold_push f z (y ∷ xs) x = fold_push f (f z y) xs x

tree_push : (before : List Answered) (a : Answered)
    → tree_of (before ++ a ∷ []) ≡ after_answer (tree_of before) a
tree_push before a = fold_push after_answer [] before a

start_tree : IsTreeOf [] start
start_tree = record { ks = []; members = tt; seats = refl; all = λ k name has. absurd (cc) }

next_tree : (h : Hierarchy) (before : List Answered) (a : Answered) (step : Step) → IsReached h → Can h step
    → Answers h a.command a.answer step → IsTreeOf (tree_of before) h
    → IsTreeOf (tree_of (before ++ a ∷ [])) (steps.after h step)
next_tree h before a step reached can does t =
    subst (λ (tree : List Member). IsTreeOf tree (steps.after h step)) (sym (tree_push before a))
    (step_tree h (tree_of before) a.tick a.command a.answer step reached can does t)

-- ---- commands

-- a command, behind these, with its step and its answer
pub record IsCommandStep (depth : ℕ) (front : List Answered) (a : Answered) : Type 0 where
  pub h : Hierarchy
  pub boxes : Boxes
  pub step : Step
  pub reached : IsReached h
  pub can : Can h step
  pub does : Answers h a.command a.answer step
  pub answer : IsAnswer (record { hierarchy = h; boxes = boxes; depth = depth }) a.command a.answer
  pub tree : IsTreeOf (tree_of front) h

command_at : (depth : ℕ) (before left : List Answered) (x : Answered) (at : ℕ) (a : Answered)
    → IsCommandStep depth before x
    → ((n : ℕ) (b : Answered) → slice_get left n ≡ Some b
    → IsCommandStep depth ((before ++ x ∷ []) ++ take n left) b)
    → slice_get (x ∷ left) at ≡ Some a → IsCommandStep depth (before ++ take at (x ∷ left)) a
command_at depth before left x zero a here rest e =
    let same : x ≡ a = cc in
    subst (λ (l : List Answered). IsCommandStep depth l a) (sym (append-nil before))
    (subst (IsCommandStep depth before) same here)
command_at depth before left x (suc n) a here rest e =
    subst (λ (l : List Answered). IsCommandStep depth l a) (append_assoc before (x ∷ []) (take n left))
    (rest n a e)

run_commands : (run : List Step) (c : Content) (h : Hierarchy) (boxes : Boxes) (before left : List Answered)
    → IsReached h → IsLegal h run → TellsFrom c h run left → AnswersAlong c.depth h boxes run left
    → IsTreeOf (tree_of before) h → (at : ℕ) (a : Answered) → slice_get left at ≡ Some a
    → IsCommandStep c.depth (before ++ take at left) a
run_commands [] c h boxes before [] reached legal tells answers t at a e = absurd (cc)
run_commands [] c h boxes before (x ∷ left) reached legal tells answers t at a e = absurd tells
run_commands (Elapse asking masks path ∷ run) c h boxes before left reached legal tells answers t at a e =
    run_commands run c (steps.after h (Elapse asking masks path)) boxes before left
    (reached_next h (Elapse asking masks path) reached legal.0) legal.1 tells.2 answers
    (tick_tree h (tree_of before) asking masks path t) at a e
run_commands (step ∷ run) c h boxes before (x ∷ left) reached legal tells answers t at a e =
    command_at c.depth before left x at a
    (record {
      h = h;
      boxes = boxes;
      step = step;
      reached = reached;
      can = legal.0;
      does = tells.1;
      answer = answers.0;
      tree = t;
    })
    (λ n b f. run_commands run c (steps.after h step) (boxes_after boxes x.command x.answer) (before ++ x ∷ [])
    left (reached_next h step reached legal.0) legal.1 tells.2 answers.1
    (next_tree h before x step reached legal.0 tells.1 t) n b f) e
run_commands (step ∷ run) c h boxes before [] reached legal tells answers t at a e = absurd tells

pub command_step : (c : Content) (boxes : Boxes) (run : List Step) → IsLegal start run → Tells c run
    → AnswersAlong c.depth start boxes run c.answered → (at : ℕ) (a : Answered)
    → slice_get c.answered at ≡ Some a → IsCommandStep c.depth (take at c.answered) a
command_step c boxes run legal tells answers at a e =
    run_commands run c start boxes [] c.answered reached_start legal tells answers start_tree at a e

-- ---- ticks

-- a tick, with its step
pub record IsTickStep (c : Content) (t : ℕ) : Type 0 where
  pub h : Hierarchy
  pub asking : ℕ → Bool
  pub masks : ℕ → ℕ
  pub path : Option Path
  pub reached : IsReached h
  pub can : Can h (Elapse asking masks path)
  pub told : Names h path (path_at c.stretches t)
  pub tree : IsTreeOf (tree_at t c.answered) h

abbrev by : (t : ℕ) → Answered → Bool
by t a = nat_le a.tick t

early_kept : (t : ℕ) (xs : List Answered) → AllByRecursion (λ (a : Answered). a.tick ≤ t) xs
    → filter (by t) xs ≡ xs
early_kept t [] all = refl
early_kept t (x ∷ xs) all =
    ap (λ (b : Bool). cond b (x ∷ filter (by t) xs) (filter (by t) xs)) (le-leb x.tick t all.0)
    ∙ ap (λ l. x ∷ l) (early_kept t xs all.1)

late_gone : (t : ℕ) (xs : List Answered) → AllByRecursion (λ (a : Answered). t < a.tick) xs
    → filter (by t) xs ≡ []
late_gone t [] all = refl
late_gone t (x ∷ xs) all =
    ap (λ (b : Bool). cond b (x ∷ filter (by t) xs) (filter (by t) xs)) (lt-leb x.tick t all.0)
    ∙ late_gone t xs all.1

tree_here : (c : Content) (t : ℕ) (before left : List Answered) → c.answered ≡ before ++ left
    → AllByRecursion (λ (a : Answered). a.tick ≤ t) before → AllByRecursion (λ (a : Answered). t < a.tick) left
    → tree_at t c.answered ≡ tree_of before
tree_here c t before left all early late =
    ap tree_of (ap (filter (by t)) all ∙ filter-append (by t) before left
    ∙ ap (λ l. l ++ filter (by t) left) (early_kept t before early)
    ∙ ap (λ l. before ++ l) (late_gone t left late) ∙ append-nil before)

-- commands take no time
now_same : (h : Hierarchy) (command : Command) (answer : Answer) (step : Step) → Answers h command answer step
    → h.now ≡ (steps.after h step).now
now_same h command (Refused refusal) step does = ap (λ (s : Step). (steps.after h s).now) (sym does)
now_same h command (Done by) Refuse does = refl
now_same h command (Done by) (Load k new set spare_ticks spare_marks held) does = refl
now_same h command (Done by) (Admit k new seat) does = refl
now_same h command (Done by) (End k) does = refl
now_same h command (Done by) (Unload k) does = refl
now_same h command (Done by) (Move k seat below) does = refl
now_same h command (Done by) (Rouse k how) does = refl
now_same h command (Done by) (Block k) does = refl
now_same h command (Done by) (Elapse asking masks path) does = absurd (no_elapse h command asking masks path does)

run_ticks : (run : List Step) (c : Content) (h : Hierarchy) (before left : List Answered)
    → c.answered ≡ before ++ left → AllByRecursion (λ (a : Answered). a.tick ≤ h.now) before → IsReached h
    → IsLegal h run → TellsFrom c h run left → IsTreeOf (tree_of before) h → (t : ℕ) → h.now ≤ t
    → t < c.horizon → IsTickStep c t
run_ticks [] c h before [] all early reached legal tells tree t lo hi = absurd (omega (arith, tells))
run_ticks [] c h before (x ∷ left) all early reached legal tells tree t lo hi = absurd tells
run_ticks (Elapse asking masks path ∷ run) c h before left all early reached legal tells tree t lo hi =
    elim (cases_eq h.now t) [
      | inl e ↦ record {
        h = h;
        asking = asking;
        masks = masks;
        path = path;
        reached = reached;
        can = legal.0;
        told = subst (λ (x : ℕ). Names h path (path_at c.stretches x)) e tells.1;
        tree = subst (λ (x : ℕ). IsTreeOf (tree_at x c.answered) h) e
            (subst (λ (l : List Member). IsTreeOf l h) (sym (tree_here c h.now before left all early tells.0))
            tree);
      }
      | inr ne ↦
          run_ticks run c (steps.after h (Elapse asking masks path)) before left all
          (each_same (λ (a : Answered). a.tick ≤ h.now) (λ (a : Answered). a.tick ≤ h.now + 1) before
          (λ a le. omega arith) early)
          (reached_next h (Elapse asking masks path) reached legal.0) legal.1 tells.2
          (tick_tree h (tree_of before) asking masks path tree) t (omega arith) hi
    ]
run_ticks (step ∷ run) c h before (x ∷ left) all early reached legal tells tree t lo hi =
    let now = now_same h x.command x.answer step tells.1 in
    run_ticks run c (steps.after h step) (before ++ x ∷ []) left (one_more c before left x all)
    (subst (λ (n : ℕ). AllByRecursion (λ (b : Answered). b.tick ≤ n) (before ++ x ∷ [])) now
    (all_append (λ (b : Answered). b.tick ≤ h.now) before (x ∷ []) early
    ((let e = tells.0 in let le : x.tick ≤ h.now = omega (arith, e) in le), tt)))
    (reached_next h step reached legal.0) legal.1 tells.2 (next_tree h before x step reached legal.0 tells.1 tree)
    t (subst (λ (n : ℕ). n ≤ t) now lo) hi
run_ticks (step ∷ run) c h before [] all early reached legal tells tree t lo hi = absurd tells

pub tick_step : (c : Content) (run : List Step) → IsLegal start run → Tells c run → (t : ℕ) → t < c.horizon
    → IsTickStep c t
tick_step c run legal tells t lt =
    run_ticks run c start [] c.answered refl tt reached_start legal tells start_tree t (omega arith) lt

-- ---- the end of a run

run_tree : (run : List Step) (c : Content) (h : Hierarchy) (before left : List Answered)
    → c.answered ≡ before ++ left → IsReached h → IsLegal h run → TellsFrom c h run left
    → IsTreeOf (tree_of before) h → IsTreeOf (tree_of c.answered) (state h run)
run_tree [] c h before [] all reached legal tells tree =
    subst (λ (l : List Answered). IsTreeOf (tree_of l) h) (sym (all ∙ append-nil before)) tree
run_tree [] c h before (x ∷ left) all reached legal tells tree = absurd tells
run_tree (Elapse asking masks path ∷ run) c h before left all reached legal tells tree =
    run_tree run c (steps.after h (Elapse asking masks path)) before left all
    (reached_next h (Elapse asking masks path) reached legal.0) legal.1 tells.2
    (tick_tree h (tree_of before) asking masks path tree)
run_tree (step ∷ run) c h before (x ∷ left) all reached legal tells tree =
    run_tree run c (steps.after h step) (before ++ x ∷ []) left (one_more c before left x all)
    (reached_next h step reached legal.0) legal.1 tells.2 (next_tree h before x step reached legal.0 tells.1 tree)
run_tree (step ∷ run) c h before [] all reached legal tells tree = absurd tells

pub end_tree : (c : Content) (run : List Step) → IsLegal start run → Tells c run
    → IsTreeOf (tree_of c.answered) (state start run)
end_tree c run legal tells = run_tree run c start [] c.answered refl reached_start legal tells start_tree
