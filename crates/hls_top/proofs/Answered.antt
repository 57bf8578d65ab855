-- A report each of whose answers is the defined one in its own run tells a run with the defined answers.
use Rattle.std.proofs.Common.{◌≡◌, ℕ, zero, suc, ◌<◌, refl, Bool, List, [], ◌∷◌, ◌++◌, subst, arith, take}
use Rattle.std.specs.Prelude.{Option, None, Some, slice_get}
use Rattle.std.specs.List.{AllByRecursion}
use Rattle.hls_report_text.specs.declared.report.Answered.{Answered}
use Rattle.hls_report_text.specs.Content.{Content}
use Rattle.hls_machine.specs.Hierarchy.{Hierarchy, start}
use Rattle.hls_machine.specs.Steps.{Step, Elapse, Path, after, state}
use Rattle.hls_legal.specs.Tells.{TellsFrom}
use Rattle.hls_legal.specs.Moment.{Boxes}
use Rattle.hls_legal.specs.Answers.{IsAnswer}
use Rattle.hls_legal.specs.Along.{IsTick, AnswersAlong}
use Rattle.hls_legal.specs.Kit.{boxes_left, boxes_after}
use Rattle.hls_legal.specs.Legal.{IsRun}
use Rattle.hls_top.specs.Promises.{AnswersEach}
use Rattle.hls_top.proofs.Promised.{IsBehind}

all_at : (P : Answered → Type 0) (left : List Answered) (at : ℕ) (a : Answered) → AllByRecursion P left
    → slice_get left at ≡ Some a → P a
all_at P [] at a all there = absurd (let no : None ≡ Some a = there in cc)
all_at P (b ∷ left) zero a all there = let same : b ≡ a = (let both : Some b ≡ Some a = there in cc) in
    subst P same all.0
all_at P (b ∷ left) (suc at) a all there = all_at P left at a all.1 there

module _ (short : Content) (depth : ℕ) (h : Hierarchy) (boxes : Boxes) (a : Answered) where
  abbrev Answers : (past : List Step) → (before : List Answered) → Type 0
  Answers past before = IsAnswer (record {
    hierarchy = state h past;
    boxes = boxes_left boxes before;
    depth = depth;
  }) a.command a.answer

  -- a run that goes on by a tick is not cut before it
  cut_tick : (asking : ℕ → Bool) (masks : ℕ → ℕ) (path : Option Path) (steps past rest : List Step)
      (before : List Answered) → past ++ rest ≡ Elapse asking masks path ∷ steps → TellsFrom short h past before
      → Answers past before → h.now < short.horizon
      → IsBehind short depth (after h (Elapse asking masks path)) boxes steps before a
  cut_tick asking masks path steps [] rest [] whole tells answer lt =
      absurd (let now : h.now ≡ short.horizon = tells in omega arith)
  cut_tick asking masks path steps [] rest (b ∷ before) whole tells answer lt = absurd tells
  cut_tick asking masks path steps (s ∷ past) rest before whole tells answer lt =
      let tick : Step = Elapse asking masks path in
      let same : s ≡ tick = cc in
      let told : TellsFrom short h (tick ∷ past) before =
      subst (λ (x : Step). TellsFrom short h (x ∷ past) before) same tells in
      record {
        past = past;
        rest = rest;
        whole = cc;
        tells = told.2;
        answer = subst (λ (x : Step). Answers (x ∷ past) before) same answer;
      }

  -- before its first command no step but ticks is told
  no_past : (step : Step) (steps past rest : List Step) → (IsTick step → ⊥) → past ++ rest ≡ step ∷ steps
      → TellsFrom short h past [] → past ≡ []
  no_past step steps [] rest other whole tells = refl
  no_past step steps (Elapse asking masks path ∷ past) rest other whole tells =
      let same : Elapse asking masks path ≡ step = cc in absurd (other (subst IsTick same tt))
  no_past step steps (s ∷ past) rest other whole tells = absurd tells

  -- a run that goes on by the step of a command
  cut_step : (step : Step) (steps past rest : List Step) (b : Answered) (before : List Answered)
      → (IsTick step → ⊥) → past ++ rest ≡ step ∷ steps → TellsFrom short h past (b ∷ before)
      → Answers past (b ∷ before)
      → IsBehind short depth (after h step) (boxes_after boxes b.command b.answer) steps before a
  cut_step step steps [] rest b before other whole tells answer = absurd tells
  cut_step step steps (Elapse asking masks path ∷ past) rest b before other whole tells answer =
      let same : Elapse asking masks path ≡ step = cc in absurd (other (subst IsTick same tt))
  cut_step step steps (s ∷ past) rest b before other whole tells answer =
      let same : s ≡ step = cc in
      record {
        past = past;
        rest = rest;
        whole = cc;
        tells = subst (λ (x : Step). TellsFrom short (after h x) past before) same tells.2;
        answer = subst (λ (x : Step). Answers (x ∷ past) (b ∷ before)) same answer;
      }

module _ (c : Content) (depth : ℕ) where
  -- each command that is left, with what is told of the report before it
  abbrev AreBehind : (told : ℕ → List Answered) → Hierarchy → Boxes → List Step → (left : List Answered) → Type 0
  AreBehind told h boxes steps left = (at : ℕ) (a : Answered) → slice_get left at ≡ Some a
      → IsBehind (record c { horizon = a.tick; answered = told at }) depth h boxes steps (take at left) a

  along : (steps : List Step) (told : ℕ → List Answered) (h : Hierarchy) (boxes : Boxes) (left : List Answered)
      → TellsFrom c h steps left → AreBehind told h boxes steps left → AnswersAlong depth h boxes steps left
  along [] told h boxes [] tells each = tt
  along [] told h boxes (a ∷ left) tells each = absurd tells
  along (Elapse asking masks path ∷ steps) told h boxes left tells each =
      along steps told (after h (Elapse asking masks path)) boxes left tells.2 (λ at a there.
      let b = each at a there in
      cut_tick (record c { horizon = a.tick; answered = told at }) depth h boxes a asking masks path steps b.past b.rest
      (take at left) b.whole b.tells b.answer (all_at (λ (x : Answered). h.now < x.tick) left at a tells.0 there))
  along (step ∷ steps) told h boxes [] tells each = absurd tells
  along (step ∷ steps) told h boxes (a ∷ left) tells each =
      let b = each 0 a refl in
      let none = no_past (record c { horizon = a.tick; answered = told 0 }) depth h boxes a step steps b.past b.rest
      (λ tick. tick) b.whole b.tells in (
        subst (λ (past : List Step). IsAnswer (record {
          hierarchy = state h past;
          boxes = boxes;
          depth = depth;
        }) a.command a.answer) none b.answer,
        along steps (λ at. told (suc at)) (after h step) (boxes_after boxes a.command a.answer) left tells.2
            (λ at next there.
            let then = each (suc at) next there in
            cut_step (record c {
              horizon = next.tick;
              answered =
                  told (suc at);
            }) depth h boxes next step steps then.past
            then.rest a (take at left) (λ tick. tick) then.whole then.tells then.answer),
      )

pub answered_run : (boxes : Boxes) (c : Content) → AnswersEach boxes c
    → (steps : List Step) × IsRun c.depth boxes c steps
answered_run boxes c is = (
  is.steps,
  record {
    legal = is.legal;
    tells = is.tells;
    answers = along c c.depth is.steps (λ at. take at c.answered) start boxes c.answered is.tells (λ at a there.
        let b = is.each at a there in
        record { past = b.past; rest = b.rest; whole = b.whole; tells = b.tells; answer = b.answer.defined });
  },
)
