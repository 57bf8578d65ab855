-- A legal report keeps what the program promises of it.
use Rattle.std.proofs.Common.{◌≡◌, ℕ, zero, suc, ◌<◌, ◌≤◌, List, [], ◌∷◌, ◌++◌, refl, sym, ap, ◌∙◌, subst, arith}
use Rattle.std.proofs.Common.{inl, inr, take, true}
use Rattle.std.specs.Prelude.{Option, None, Some, ◌↔◌, slice_get, option_and_then, Result, Ok, Err, IfOk}
use Rattle.std.specs.List.{AllByRecursion}
use Rattle.std.proofs.lemmas.Slice.Eq.{bytes_eq-Decides}
use Rattle.hls_text.specs.Lines.{Text}
use Rattle.hls_scenario.specs.declared.scenario.Scenario.{Scenario}
use Rattle.hls_scenario.specs.declared.scenario.Command.{Command}
use Rattle.hls_scenario.specs.Grammar.{IsScenarioText}
use Rattle.hls_report_text.specs.declared.refusal.Refusal.{Refusal}
use Rattle.hls_report_text.specs.declared.refusal.Refusal.TheVariants.{NameTaken, NoSuchName, WrongSort}
use Rattle.hls_report_text.specs.declared.refusal.Refusal.TheVariants.{TooManyNodes, TooManyThreads, NotEmpty}
use Rattle.hls_report_text.specs.declared.refusal.Refusal.TheVariants.{TermsUnfit, PriorityTaken, SeatsFull}
use Rattle.hls_report_text.specs.declared.refusal.Refusal.TheVariants.{Cycle, TooDeep, TooManyShares, KitEmpty}
use Rattle.hls_report_text.specs.declared.refusal.Refusal.TheVariants.{NoRoom, NoDerivation}
use Rattle.hls_report_text.specs.declared.report.Answer.{Answer}
use Rattle.hls_report_text.specs.declared.report.Answer.TheVariants.{Done, Refused}
use Rattle.hls_report_text.specs.declared.report.Answered.{Answered}
use Rattle.hls_report_text.specs.declared.stretch.Stretch.{Stretch}
use Rattle.hls_report_text.specs.Content.{Content, content_of}
use Rattle.hls_machine.specs.Hierarchy.{Hierarchy, start}
use Rattle.hls_machine.specs.Steps.{Step, Elapse, after, state}
use Rattle.hls_machine.specs.Legal.{IsLegal}
use Rattle.hls_machine.proofs.Supply as supply
use Rattle.hls_legal.specs.Schedule.{last_name, is_name, is_served, path_at}
use Rattle.hls_legal.specs.Tells.{TellsFrom, Tells}
use Rattle.hls_legal.proofs.KeepingAccounts.{stays_kept}
use Rattle.hls_legal.proofs.Agreements.{ran_ready}
use Rattle.hls_legal.specs.Moment.{Boxes, Moment}
use Rattle.hls_legal.specs.Refusals.{IsUnderived}
use Rattle.hls_legal.specs.Answers.{number, Applies, IsAnswer}
use Rattle.hls_legal.specs.Along.{AnswersAlong}
use Rattle.hls_legal.specs.Kit.{boxes_left, boxes_after}
use Rattle.hls_legal.specs.Legal.{IsLegalContent}
use Rattle.hls_legal.proofs.KeepingStays.{report_kept}
use Rattle.hls_legal_jobs.proofs.Kept.{jobs_kept}
use Rattle.hls_legal.proofs.Removal.{removed}
use Rattle.hls_audit_clauses.proofs.Kept.{report_kept as never_fails}
use Rattle.hls_core.specs.Texts.{IsLegalText}
use Rattle.hls_top.specs.Outputs.{IsReportOf}
use Rattle.hls_top.specs.Promises.{IsRefusal, HasRoom, IsAnswerIn, AnswersEach}
use Rattle.hls_top.specs.Promises.{KeepsPromises}

-- ---- one thread at most

one_name : (name other : Text) (found : Option Text) → is_name name found ≡ true → is_name other found ≡ true
    → name ≡ other
one_name name other None is also = absurd cc
one_name name other (Some last) is also =
    sym ((bytes_eq-Decides last name).0 is) ∙ (bytes_eq-Decides last other).0 also

one_served : (stretches : List Stretch) (t : ℕ) (name other : Text) → is_served stretches name t ≡ true
    → is_served stretches other t ≡ true → name ≡ other
unfolding is_served
one_served stretches t name other is also =
    one_name name other (option_and_then last_name (path_at stretches t)) is also

-- ---- the answers along a run

first_of : (P : Answered → Type 0) (left : List Answered) (at : ℕ) → AllByRecursion P left
    → AllByRecursion P (take at left)
first_of P left zero all = tt
first_of P [] (suc at) all = tt
first_of P (a ∷ left) (suc at) all = (all.0, first_of P left at all.1)

-- a command has its defined answer where the first steps lead, which the report has told by then
pub record IsBehind (short : Content) (depth : ℕ) (h : Hierarchy) (boxes : Boxes) (steps : List Step)
    (before : List Answered) (a : Answered) : Type 0 where
  pub past : List Step
  pub rest : List Step
  pub whole : past ++ rest ≡ steps
  pub tells : TellsFrom short h past before
  pub answer : IsAnswer (record {
    hierarchy = state h past;
    boxes = boxes_left boxes before;
    depth = depth;
  }) a.command a.answer

further : (short : Content) (depth : ℕ) (h : Hierarchy) (boxes later : Boxes) (step : Step) (steps : List Step)
    (before now : List Answered) (a : Answered) → boxes_left boxes now ≡ boxes_left later before
    → ((past : List Step) → TellsFrom short (after h step) past before → TellsFrom short h (step ∷ past) now)
    → IsBehind short depth (after h step) later steps before a → IsBehind short depth h boxes (step ∷ steps) now a
further short depth h boxes later step steps before now a same told b = record {
  past = step ∷ b.past;
  rest = b.rest;
  whole = ap (λ l. step ∷ l) b.whole;
  tells = told b.past b.tells;
  answer = subst (λ (left : Boxes). IsAnswer (record {
    hierarchy = state (after h step) b.past;
    boxes = left;
    depth = depth;
  }) a.command a.answer) (sym same) b.answer;
}

first_behind : (short : Content) (depth : ℕ) (h : Hierarchy) (boxes : Boxes) (steps : List Step) (b a : Answered)
    → b ≡ a → h.now ≡ short.horizon
    → IsAnswer (record { hierarchy = h; boxes = boxes; depth = depth }) b.command b.answer
    → IsBehind short depth h boxes steps [] a
first_behind short depth h boxes steps b a same now answer = record {
  past = [];
  rest = steps;
  whole = refl;
  tells = now;
  answer = subst (λ (x : Answered). IsAnswer (record { hierarchy = h; boxes = boxes; depth = depth }) x.command
      x.answer) same answer;
}

module _ (c : Content) (told : List Answered) (depth : ℕ) (a : Answered) where
  abbrev short : Content
  short = record c { horizon = a.tick; answered = told }

  behind : (h : Hierarchy) (boxes : Boxes) (steps : List Step) (left : List Answered) (at : ℕ)
      → TellsFrom c h steps left → AnswersAlong depth h boxes steps left → slice_get left at ≡ Some a
      → IsBehind short depth h boxes steps (take at left) a
  behind h boxes [] [] at tells along there = absurd (let no : None ≡ Some a = there in cc)
  behind h boxes [] (b ∷ left) at tells along there = absurd along
  behind h boxes (Elapse asking masks path ∷ steps) left at tells along there =
      further short depth h boxes boxes (Elapse asking masks path) steps (take at left) (take at left) a refl
      (λ past rest. (first_of (λ (b : Answered). h.now < b.tick) left at tells.0, tells.1, rest))
      (behind (after h (Elapse asking masks path)) boxes steps left at tells.2 along there)
  behind h boxes (step ∷ steps) [] at tells along there = absurd along
  behind h boxes (step ∷ steps) (b ∷ left) zero tells along there =
      let same : b ≡ a = (let both : Some b ≡ Some a = there in cc) in
      first_behind short depth h boxes (step ∷ steps) b a same
      (sym tells.0 ∙ ap (λ (x : Answered). x.tick) same) along.0
  behind h boxes (step ∷ steps) (b ∷ left) (suc at) tells along there =
      further short depth h boxes (boxes_after boxes b.command b.answer) step steps (take at left) (b ∷ take at left) a
      refl (λ past rest. (tells.0, tells.1, rest))
      (behind (after h step) (boxes_after boxes b.command b.answer) steps left at tells.2 along.1 there)

-- ---- what has room is refused exactly where there is no derivation

underived : (m : Moment) (command : Command) (r : Refusal) → Applies m command r → 24 ≤ number r
    → (name : Text) × IsUnderived m.hierarchy m.depth command name
underived m command (NameTaken name) applies late = absurd (omega (arith, late))
underived m command (NoSuchName name) applies late = absurd (omega (arith, late))
underived m command (WrongSort name) applies late = absurd (omega (arith, late))
underived m command (TooManyNodes most) applies late = absurd (omega (arith, late))
underived m command (TooManyThreads most) applies late = absurd (omega (arith, late))
underived m command (NotEmpty name seats) applies late = absurd (omega (arith, late))
underived m command (TermsUnfit name) applies late = absurd (omega (arith, late))
underived m command (PriorityTaken priority) applies late = absurd (omega (arith, late))
underived m command (SeatsFull name seats) applies late = absurd (omega (arith, late))
underived m command (Cycle name) applies late = absurd (omega (arith, late))
underived m command (TooDeep level) applies late = absurd (omega (arith, late))
underived m command (TooManyShares count) applies late = absurd (omega (arith, late))
underived m command (KitEmpty kind used) applies late = absurd (omega (arith, late))
underived m command (NoRoom free asked) applies late = absurd (omega (arith, late))
underived m command (NoDerivation name depth) (inl whole) late = (name, whole.0)
underived m command (NoDerivation name depth) (inr place) late = absurd place.first.tells.refuses

exact : (m : Moment) (command : Command) (answer : Answer) → IsAnswer m command answer → HasRoom m command
    → (IsRefusal answer ↔ ((name : Text) × IsUnderived m.hierarchy m.depth command name))
exact m command (Refused r) is room = (λ u. underived m command r is.applies (room r is.applies), λ lacks. tt)
exact m command (Done seats) is room =
    (λ no. absurd no, λ lacks. is.none (NoDerivation lacks.0 m.depth) (inl (lacks.1, refl)))

answer_in : (m : Moment) (command : Command) (answer : Answer) → IsAnswer m command answer
    → IsAnswerIn m command answer
answer_in m command answer is = record { defined = is; refused = exact m command answer is }

answers_each : (boxes : Boxes) (c : Content) (steps : List Step) → IsLegal start steps → Tells c steps
    → AnswersAlong c.depth start boxes steps c.answered → AnswersEach boxes c
answers_each boxes c steps legal tells along = record {
  steps = steps;
  legal = legal;
  tells = tells;
  each = λ at a there.
      let b = behind c (take at c.answered) c.depth a start boxes steps c.answered at tells along there in
      record {
        past = b.past;
        rest = b.rest;
        whole = b.whole;
        tells = b.tells;
        answer = answer_in _ a.command a.answer b.answer;
      };
}

-- ---- all of it

pub promises_kept : (s : Scenario) (given : ℕ) (boxes : Boxes) (c : Content) → IsLegalContent s given boxes c
    → KeepsPromises s given boxes c
promises_kept s given boxes c legal = record {
  ready = record {
    one = λ t name other. one_served c.stretches t name other;
    ready = λ t name. ran_ready c legal.steps legal.run.legal legal.run.tells t name;
  };
  stays = report_kept c legal.accounts
      (stays_kept c legal.steps legal.run.legal legal.run.tells
      (supply.stays_kept legal.steps legal.run.legal));
  jobs = jobs_kept s given boxes c legal;
  answers = answers_each boxes c legal.steps legal.run.legal legal.run.tells legal.run.answers;
  refusals = λ at a r there refused. removed s given boxes c at a r legal there refused;
  kept = λ clause t. never_fails s given boxes c legal clause t;
}

-- the text of a legal report is as promised
pub text_if_ok : {B E : Type 0} (result : Result B E) (bytes_of : B → Text) (text : Text) (s : Scenario)
    (given : ℕ) (boxes : Boxes) → IsScenarioText text s
    → IfOk result (λ bytes. IsLegalText s given boxes (bytes_of bytes))
    → IfOk result (λ bytes. IsReportOf given boxes text (bytes_of bytes))
text_if_ok (Ok bytes) bytes_of text s given boxes read told = record {
  scenario = s;
  report = told.report;
  read = read;
  legal = told.legal;
  promises = promises_kept s given boxes (content_of told.report) told.legal.legal;
  spelled = told.spelled;
}
text_if_ok (Err e) bytes_of text s given boxes read told = tt
