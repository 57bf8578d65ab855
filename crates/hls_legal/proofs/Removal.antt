-- A refused command can be left out.
use Rattle.std.proofs.Common.{◌≡◌, ℕ, zero, suc, ◌<◌, ◌≤◌, List, [], ◌∷◌, length, Some, refl, sym, ap, ◌∙◌}
use Rattle.std.proofs.Common.{subst, arith, slice_get, map}
use Rattle.std.specs.List.{AllByRecursion}
use Rattle.hls_scenario.specs.declared.scenario.Scenario.{Scenario}
use Rattle.hls_scenario.specs.declared.scenario.Command.{Command}
use Rattle.hls_scenario.specs.declared.scenario.Command.TheVariants as said
use Rattle.hls_report_text.specs.declared.refusal.Refusal.{Refusal}
use Rattle.hls_report_text.specs.declared.report.Answer.{Answer}
use Rattle.hls_report_text.specs.declared.report.Answer.TheVariants.{Refused}
use Rattle.hls_report_text.specs.declared.report.Answered.{Answered}
use Rattle.hls_report_text.specs.Content.{Content}
use Rattle.hls_report_text.specs.ReportText.{item_of}
use Rattle.hls_report_text.specs.WellFormed.{AreAnswered, IsContent}
use Rattle.hls_machine.specs.Hierarchy.{Hierarchy, start}
use Rattle.hls_machine.specs.Steps.{Step, Refuse, Elapse, after, state}
use Rattle.hls_machine.specs.Legal.{IsLegal}
use Rattle.hls_legal.specs.Agrees.{accounts_in, idle_in}
use Rattle.hls_legal.specs.Tells.{Answers, TellsFrom}
use Rattle.hls_legal.proofs.Agreements.{accounts_told, idle_told}
use Rattle.hls_legal.specs.Moment.{Boxes}
use Rattle.hls_legal.specs.Kit.{boxes_after}
use Rattle.hls_legal.specs.Along.{AnswersAlong}
use Rattle.hls_legal.specs.Legal.{IsLegalContent}
use Rattle.hls_legal.specs.Without.{without, scenario_without, content_without}

-- the run without the refusal leads where the run with it does
record IsShorter (depth : ℕ) (c : Content) (h : Hierarchy) (boxes : Boxes) (steps : List Step)
    (left : List Answered) : Type 0 where
  pub shorter : List Step
  pub legal : IsLegal h shorter
  pub tells : TellsFrom c h shorter left
  pub answers : AnswersAlong depth h boxes shorter left
  pub leads : state h shorter ≡ state h steps

all_without : (P : Answered → Type 0) (at : ℕ) (xs : List Answered) → AllByRecursion P xs
    → AllByRecursion P (without at xs)
all_without P at [] all = tt
all_without P zero (x ∷ xs) all = all.1
all_without P (suc at) (x ∷ xs) all = (all.0, all_without P at xs all.1)

refused_boxes : (boxes : Boxes) (command : Command) (r : Refusal) → boxes_after boxes command (Refused r) ≡ boxes
refused_boxes boxes (said.Load name config perches) r = refl
refused_boxes boxes (said.Thread name perch) r = refl
refused_boxes boxes (said.End name) r = refl
refused_boxes boxes (said.Unload name) r = refl
refused_boxes boxes (said.Move name perch) r = refl
refused_boxes boxes (said.Wake name every burst) r = refl
refused_boxes boxes (said.Block name) r = refl

step_refused : (h : Hierarchy) (command : Command) (answer : Answer) (r : Refusal) (step : Step) → answer ≡ Refused r
    → Answers h command answer step → step ≡ Refuse
step_refused h command answer r step e answers = subst (λ (x : Answer). Answers h command x step) e answers

module _ (depth : ℕ) (c : Content) (a : Answered) (r : Refusal) (refused : a.answer ≡ Refused r) where
  shorten : (steps : List Step) (h : Hierarchy) (boxes : Boxes) (left : List Answered) (at : ℕ) → IsLegal h steps
      → TellsFrom c h steps left → AnswersAlong depth h boxes steps left → slice_get left at ≡ Some a
      → IsShorter depth c h boxes steps (without at left)
  shorten [] h boxes [] at legal told along e = absurd (cc)
  shorten [] h boxes (b ∷ left) at legal told along e = absurd told
  shorten (Elapse asking masks path ∷ steps) h boxes left at legal told along e =
      let tick = Elapse asking masks path in
      let rest = shorten steps (after h tick) boxes left at legal.1 told.2 along e in
      record {
        shorter = tick ∷ rest.shorter;
        legal = (legal.0, rest.legal);
        tells = (all_without (λ (x : Answered). h.now < x.tick) at left told.0, told.1, rest.tells);
        answers = rest.answers;
        leads = rest.leads;
      }
  shorten (step ∷ steps) h boxes [] at legal told along e = absurd told
  shorten (Refuse ∷ steps) h boxes (b ∷ left) zero legal told along e =
      let same : b ≡ a = cc in
      let boxes_same : boxes_after boxes b.command b.answer ≡ boxes =
      ap (λ (x : Answer). boxes_after boxes b.command x) (ap (λ (x : Answered). x.answer) same ∙ refused)
      ∙ refused_boxes boxes b.command r in
      record {
        shorter = steps;
        legal = legal.1;
        tells = told.2;
        answers = subst (λ (x : Boxes). AnswersAlong depth h x steps left) boxes_same along.1;
        leads = refl;
      }
  shorten (step ∷ steps) h boxes (b ∷ left) zero legal told along e =
      let same : b ≡ a = cc in
      let is = step_refused h b.command b.answer r step (ap (λ (x : Answered). x.answer) same ∙ refused) told.1 in
      absurd (cc)
  shorten (step ∷ steps) h boxes (b ∷ left) (suc at) legal told along e =
      let rest = shorten steps (after h step) (boxes_after boxes b.command b.answer) left at legal.1 told.2 along.1
      e in
      record {
        shorter = step ∷ rest.shorter;
        legal = (legal.0, rest.legal);
        tells = (told.0, told.1, rest.tells);
        answers = (along.0, rest.answers);
        leads = rest.leads;
      }

-- ---- the report

pub tells_like : (c d : Content) → c.horizon ≡ d.horizon → c.stretches ≡ d.stretches → (steps : List Step)
    (h : Hierarchy) (left : List Answered) → TellsFrom c h steps left → TellsFrom d h steps left
tells_like c d horizon stretches [] h [] told = told ∙ horizon
tells_like c d horizon stretches [] h (b ∷ left) told = absurd told
tells_like c d horizon stretches (Elapse asking masks path ∷ steps) h left told = (
  told.0,
  subst (λ s. Rattle.hls_legal.specs.Tells.Names h path (Rattle.hls_legal.specs.Schedule.path_at s h.now))
      stretches told.1,
  tells_like c d horizon stretches steps (after h (Elapse asking masks path)) left told.2,
)
tells_like c d horizon stretches (step ∷ steps) h [] told = absurd told
tells_like c d horizon stretches (step ∷ steps) h (b ∷ left) told =
    (told.0, told.1, tells_like c d horizon stretches steps (after h step) left told.2)

map_without : {A B : Type 0} (f : A → B) (at : ℕ) (xs : List A) → map f (without at xs) ≡ without at (map f xs)
map_without f at [] = refl
map_without f zero (x ∷ xs) = refl
map_without f (suc at) (x ∷ xs) = ap (λ l. f x ∷ l) (map_without f at xs)

short_without : {A : Type 0} (at : ℕ) (xs : List A) → length (without at xs) ≤ length xs
short_without at [] = omega arith
short_without zero (x ∷ xs) = omega arith
short_without (suc at) (x ∷ xs) = let rest = short_without at xs in omega (arith, rest)

earlier : (version horizon last first : ℕ) (xs : List Answered) → first ≤ last
    → AreAnswered version horizon last xs → AreAnswered version horizon first xs
earlier version horizon last first [] le are = tt
earlier version horizon last first (x ∷ xs) le are =
    (are.0, are.1, (let late = are.2 in omega (arith, le, late)), are.3, are.4)

answered_without : (version horizon last at : ℕ) (xs : List Answered) → AreAnswered version horizon last xs
    → AreAnswered version horizon last (without at xs)
answered_without version horizon last at [] are = tt
answered_without version horizon last zero (x ∷ xs) are = earlier version horizon x.tick last xs are.2 are.4
answered_without version horizon last (suc at) (x ∷ xs) are =
    (are.0, are.1, are.2, are.3, answered_without version horizon x.tick at xs are.4)

formed_without : (at : ℕ) (c : Content) → IsContent c → IsContent (content_without at c)
formed_without at c is = record {
  version = is.version;
  horizon = is.horizon;
  depth = is.depth;
  few = (let short = short_without at c.answered in let few = is.few in omega (arith, short, few));
  answered = answered_without c.version c.horizon 0 at c.answered is.answered;
  cover = is.cover;
  names = is.names;
  accounts = is.accounts;
  idle = is.idle;
}

pub removed : (s : Scenario) (given : ℕ) (boxes : Boxes) (c : Content) (at : ℕ) (a : Answered) (r : Refusal)
    → IsLegalContent s given boxes c → slice_get c.answered at ≡ Some a → a.answer ≡ Refused r
    → IsLegalContent (scenario_without at s) given boxes (content_without at c)
removed s given boxes c at a r legal is refused =
    let run = shorten c.depth c a r refused legal.steps start boxes c.answered at legal.run.legal legal.run.tells
    legal.run.answers is in
    let d = content_without at c in
    let tells : TellsFrom d start run.shorter d.answered =
    tells_like c d refl refl run.shorter start (without at c.answered) run.tells in
    record {
      formed = formed_without at c legal.formed;
      version = legal.version;
      horizon = legal.horizon;
      depth = legal.depth;
      commands = map_without item_of at c.answered ∙ ap (without at) legal.commands;
      steps = run.shorter;
      run = record { legal = run.legal; tells = tells; answers = run.answers };
      accounts = legal.accounts ∙ accounts_told c legal.steps legal.run.legal legal.run.tells
          ∙ ap accounts_in (sym run.leads) ∙ sym (accounts_told d run.shorter run.legal tells);
      idle = legal.idle ∙ idle_told c legal.steps legal.run.legal legal.run.tells
          ∙ ap idle_in (sym run.leads) ∙ sym (idle_told d run.shorter run.legal tells);
    }
