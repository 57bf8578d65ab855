-- The legal reports of a scenario differ in derivations alone.
use Rattle.std.proofs.Common.{◌≡◌, ◌⊎◌, ℕ, ◌+◌, ◌<◌, ◌≤◌, inl, inr, List, [], ◌∷◌, Option, None}
use Rattle.std.proofs.Common.{Bool, refl, sym, ap, ◌∙◌, subst, arith, map}
use Rattle.std.specs.Prelude.{is_none}
use Rattle.std.specs.List.{AllByRecursion}
use Rattle.std.proofs.lemmas.Bool.{cases_eq}
use Rattle.hls_chron.specs.Ticks.{count}
use Rattle.hls_scenario.specs.declared.scenario.Item.{Item}
use Rattle.hls_scenario.specs.declared.scenario.Scenario.{Scenario}
use Rattle.hls_scenario.specs.declared.scenario.Command.{Command}
use Rattle.hls_scenario.specs.declared.scenario.Command.TheVariants as said
use Rattle.hls_report_text.specs.declared.report.Answer.{Answer}
use Rattle.hls_report_text.specs.declared.report.Answer.TheVariants.{Done, Refused}
use Rattle.hls_report_text.specs.declared.report.Answered.{Answered}
use Rattle.hls_report_text.specs.declared.stretch.Stretch.{Stretch}
use Rattle.hls_report_text.specs.Content.{Content}
use Rattle.hls_report_text.specs.ReportText.{item_of}
use Rattle.hls_machine.specs.Hierarchy.{Hierarchy, start}
use Rattle.hls_machine.specs.Steps.{Step, Elapse, Path, after}
use Rattle.hls_machine.specs.Legal.{Can, IsLegal}
use Rattle.hls_machine.specs.Lists.{IsListed}
use Rattle.hls_machine.proofs.Determined.{IsKnown, elapse_one, run_known, start_known}
use Rattle.hls_machine.proofs.Solutions.{CanGo, run_goes, start_goes}
use Rattle.hls_legal.specs.Accounts.{accounts_of}
use Rattle.hls_legal.specs.Ready.{is_ready}
use Rattle.hls_legal.specs.Schedule.{path_at}
use Rattle.hls_legal.specs.Tells.{Names, Answers, TellsFrom}
use Rattle.hls_legal.proofs.Agreements.{accounts_told}
use Rattle.hls_legal.proofs.Reached.{IsReached, reached_start, reached_next, listed}
use Rattle.hls_legal.specs.Moment.{Boxes}
use Rattle.hls_legal.specs.Answers.{IsAnswer}
use Rattle.hls_legal.specs.AlikeAnswers.{IsAlikeAnswer}
use Rattle.hls_legal.specs.Kit.{boxes_after}
use Rattle.hls_legal.specs.Along.{IsTick, AnswersAlong}
use Rattle.hls_legal.proofs.OneAnswer.{answer_one}
use Rattle.hls_legal.specs.AlikeReports.{AreAlikeAnswered, IsAlikeContent}
use Rattle.hls_legal.specs.Legal.{IsRun, IsLegalContent}
use Rattle.hls_legal.proofs.Covers.{cover_one}
use Rattle.hls_legal.proofs.Growth.{now_by}
use Rattle.hls_legal.proofs.Twins.{Renaming, Twin}
use Rattle.hls_legal.proofs.TwinAnswers.{moment, answer-twin}
use Rattle.hls_legal.proofs.TwinTicks.{asking_here, masks_here, path_here, asking-twin, run-twin, names-twin}
use Rattle.hls_legal.proofs.TwinTicks.{tick-twin}
use Rattle.hls_legal.proofs.TwinSteps.{AreTwins, step-twin}

-- ---- what a report tells of one step

record TickTold (c : Content) (h : Hierarchy) (step : Step) (steps : List Step) (left : List Answered) : Type 0
  where
    pub asking : ℕ → Bool
    pub masks : ℕ → ℕ
    pub path : Option Path
    pub is : step ≡ Elapse asking masks path
    pub late : AllByRecursion (λ (a : Answered). h.now < a.tick) left
    pub named : Names h path (path_at c.stretches h.now)
    pub rest : TellsFrom c (after h (Elapse asking masks path)) steps left

record CommandTold (c : Content) (h : Hierarchy) (step : Step) (steps : List Step) (left : List Answered) : Type 0
  where
    pub first : Answered
    pub more : List Answered
    pub is : left ≡ first ∷ more
    pub no_tick : ¬ IsTick step
    pub tick : first.tick ≡ h.now
    pub answers : Answers h first.command first.answer step
    pub rest : TellsFrom c (after h step) steps more

told_of : (c : Content) (h : Hierarchy) (step : Step) (steps : List Step) (left : List Answered)
    → TellsFrom c h (step ∷ steps) left → TickTold c h step steps left ⊎ CommandTold c h step steps left
told_of c h (Elapse asking masks path) steps left told = inl (record {
  asking = asking;
  masks = masks;
  path = path;
  is = refl;
  late = told.0;
  named = told.1;
  rest = told.2;
})
told_of c h step steps [] told = absurd told
told_of c h step steps (a ∷ left) told = inr (record {
  first = a;
  more = left;
  is = refl;
  no_tick = λ is. is;
  tick = told.0;
  answers = told.1;
  rest = told.2;
})

along_of : (depth : ℕ) (h : Hierarchy) (boxes : Boxes) (step : Step) (steps : List Step) (a : Answered)
    (left : List Answered) → ¬ IsTick step → AnswersAlong depth h boxes (step ∷ steps) (a ∷ left)
    → IsAnswer (record { hierarchy = h; boxes = boxes; depth = depth }) a.command a.answer
    × AnswersAlong depth (after h step) (boxes_after boxes a.command a.answer) steps left
along_of depth h boxes (Elapse asking masks path) steps a left no_tick along = absurd (no_tick tt)
along_of depth h boxes step steps a left no_tick along = along

-- ---- what alike answers leave

boxes_alike : (boxes : Boxes) (command : Command) (one two : Answer) → IsAlikeAnswer one two
    → boxes_after boxes command one ≡ boxes_after boxes command two
boxes_alike boxes (said.Load name config perches) (Done seats) (Done others) alike = refl
boxes_alike boxes (said.Load name config perches) (Refused x) (Refused y) alike = refl
boxes_alike boxes (said.Load name config perches) (Done seats) (Refused y) alike = absurd alike
boxes_alike boxes (said.Load name config perches) (Refused x) (Done others) alike = absurd alike
boxes_alike boxes (said.Thread name perch) one two alike = refl
boxes_alike boxes (said.End name) one two alike = refl
boxes_alike boxes (said.Unload name) one two alike = refl
boxes_alike boxes (said.Move name perch) one two alike = refl
boxes_alike boxes (said.Wake name every burst) one two alike = refl
boxes_alike boxes (said.Block name) one two alike = refl

next_twins : (r : Renaming) (h g : Hierarchy) → Twin r h g → CanGo h → IsListed h → IsListed g → (c : Command)
    (one two : Answer) (step other : Step) → IsAlikeAnswer one two → Answers h c one step → Answers g c two other
    → Can h step → Can g other → AreTwins (after h step) (after g other)
next_twins r h g twin go mine theirs c (Done seats) (Done others) step other alike f t can could =
    step-twin r h g twin go mine theirs c step other f t can could
next_twins r h g twin go mine theirs c (Refused x) (Refused y) step other alike f t can could = record {
  renaming = r;
  twin = subst (λ s. Twin r (after h s) (after g other)) (sym f)
      (subst (λ s. Twin r h (after g s)) (sym t) twin);
}
next_twins r h g twin go mine theirs c (Done seats) (Refused y) step other alike f t can could = absurd alike
next_twins r h g twin go mine theirs c (Refused x) (Done others) step other alike f t can could = absurd alike

abbrev path_in : Step → Option Path
path_in (Elapse asking masks path) = path
path_in _ = None

-- ---- along two runs

record IsSameFrom (c d : Content) (now : ℕ) (left rights : List Answered) : Type 0 where
  pub answered : AreAlikeAnswered left rights
  pub paths : (t : ℕ) → now ≤ t → t < c.horizon → path_at c.stretches t ≡ path_at d.stretches t

no_items : (a : Answered) (left : List Answered) → [] ≡ map item_of (a ∷ left) → ⊥
no_items a left e = cc

first_item : (a b : Answered) (left rights : List Answered) → map item_of (a ∷ left) ≡ map item_of (b ∷ rights)
    → item_of a ≡ item_of b
first_item a b left rights e = cc

other_items : (a b : Answered) (left rights : List Answered) → map item_of (a ∷ left) ≡ map item_of (b ∷ rights)
    → map item_of left ≡ map item_of rights
other_items a b left rights e = cc

-- a command of this tick is not left over
none_due : (now : ℕ) (b : Answered) (left rights : List Answered) → AllByRecursion (λ (a : Answered). now < a.tick) left
    → map item_of left ≡ map item_of (b ∷ rights) → b.tick ≡ now → ⊥
none_due now b [] rights late e tick = no_items b rights e
none_due now b (a ∷ left) rights late e tick =
    (let same : a.tick ≡ b.tick = ap (λ (x : Item). x.tick) (first_item a b left rights e) in
    let lt = late.0 in omega (arith, same, lt, tick))

module _ (c d : Content) (ends : c.horizon ≡ d.horizon) (depth : ℕ) where
  go_of : (h : Hierarchy) → IsReached h → CanGo h
  go_of h reached = subst CanGo reached.leads (run_goes reached.steps start start_goes reached.legal)

  known_of : (h : Hierarchy) → IsReached h → IsKnown h
  known_of h reached = subst IsKnown reached.leads (run_known reached.steps start start_known reached.legal)

  same_tick : (r : Renaming) (h g : Hierarchy) → Twin r h g → IsReached h → (asking other : ℕ → Bool)
      (masks slots : ℕ → ℕ) (path way : Option Path) → Can h (Elapse asking masks path)
      → Can g (Elapse other slots way) → (twin : Twin r h g)
      → Elapse asking masks path ≡ Elapse (asking_here r h g twin other slots) (masks_here r h g twin other slots)
      (path_here r h g twin other slots way)
  same_tick r h g twin reached asking other masks slots path way can could tw =
      elapse_one h (known_of h reached) asking (asking_here r h g tw other slots) masks
      (masks_here r h g tw other slots) path (path_here r h g tw other slots way) can.0 can.1
      (asking-twin r h g tw other slots could.0) (run-twin r h g tw other slots way could.1)

  same : (steps others : List Step) (r : Renaming) (h g : Hierarchy) → Twin r h g → IsReached h → IsReached g
      → (boxes : Boxes) (left rights : List Answered) → IsLegal h steps → IsLegal g others
      → TellsFrom c h steps left → TellsFrom d g others rights → AnswersAlong depth h boxes steps left
      → AnswersAlong depth g boxes others rights → map item_of left ≡ map item_of rights
      → IsSameFrom c d h.now left rights
  same [] [] r h g twin mine theirs boxes [] [] legal other told tells along answers items =
      record { answered = tt; paths = λ t from lt. absurd (omega (arith, told, from, lt)) }
  same [] [] r h g twin mine theirs boxes [] (b ∷ rights) legal other told tells along answers items = absurd tells
  same [] others r h g twin mine theirs boxes (a ∷ left) rights legal other told tells along answers items =
      absurd told
  same [] (o ∷ others) r h g twin mine theirs boxes [] rights legal other told tells along answers items =
      elim (told_of d g o others rights tells) [
        | inl tick ↦
            let le : g.now + 1 ≤ d.horizon =
            now_by d others (after g (Elapse tick.asking tick.masks tick.path)) rights tick.rest in
            let now = twin.now in
            absurd (omega (arith, le, now, told, ends))
        | inr command ↦ absurd (no_items command.first command.more (items ∙ ap (map item_of) command.is))
      ]
  same (s ∷ steps) [] r h g twin mine theirs boxes left (b ∷ rights) legal other told tells along answers items =
      absurd tells
  same (s ∷ steps) [] r h g twin mine theirs boxes left [] legal other told tells along answers items =
      elim (told_of c h s steps left told) [
        | inl tick ↦
            let le : h.now + 1 ≤ c.horizon =
            now_by c steps (after h (Elapse tick.asking tick.masks tick.path)) left tick.rest in
            let now = twin.now in
            absurd (omega (arith, le, now, tells, ends))
        | inr command ↦ absurd (no_items command.first command.more (sym items ∙ ap (map item_of) command.is))
      ]
  same (s ∷ steps) (o ∷ others) r h g twin mine theirs boxes left rights legal other told tells along answers
      items =
      elim (told_of c h s steps left told) [
        | inl tick ↦ elim (told_of d g o others rights tells) [
          | inl tock ↦
              let one = Elapse tick.asking tick.masks tick.path in
              let two = Elapse tock.asking tock.masks tock.path in
              let can : Can h one = subst (λ x. Can h x) tick.is legal.0 in
              let could : Can g two = subst (λ x. Can g x) tock.is other.0 in
              let alike = same_tick r h g twin mine tick.asking tock.asking tick.masks tock.masks tick.path
              tock.path can could twin in
              let next : Twin r (after h one) (after g two) =
              subst (λ x. Twin r (after h x) (after g two)) (sym alike)
              (tick-twin r h g twin tock.asking tock.masks tock.path) in
              let paths_same : tick.path ≡ path_here r h g twin tock.asking tock.masks tock.path = ap path_in alike in
              let names : path_at c.stretches h.now ≡ path_at d.stretches h.now =
              names-twin r h g twin tock.asking tock.masks tock.path (path_at c.stretches h.now)
              (path_at d.stretches h.now)
              (subst (λ p. Names h p (path_at c.stretches h.now)) paths_same tick.named)
              (subst (λ n. Names g tock.path (path_at d.stretches n)) (sym twin.now) tock.named) in
              let rest = same steps others r (after h one) (after g two) next (reached_next h one mine can)
              (reached_next g two theirs could) boxes left rights
              (subst (λ x. IsLegal (after h x) steps) tick.is legal.1)
              (subst (λ x. IsLegal (after g x) others) tock.is other.1) tick.rest tock.rest
              (subst (λ x. AnswersAlong depth h boxes (x ∷ steps) left) tick.is along)
              (subst (λ x. AnswersAlong depth g boxes (x ∷ others) rights) tock.is answers) items in
              record {
                answered = rest.answered;
                paths = λ t from lt. elim (cases_eq t h.now) [
                  | inl e ↦ ap (path_at c.stretches) e ∙ names ∙ ap (path_at d.stretches) (sym e)
                  | inr ne ↦ rest.paths t (omega (arith, from, ne)) lt
                ];
              }
          | inr command ↦
              let tick_is = command.tick ∙ sym twin.now in
              absurd (none_due h.now command.first left command.more tick.late
              (items ∙ ap (map item_of) command.is) tick_is)
        ]
        | inr command ↦ elim (told_of d g o others rights tells) [
          | inl tock ↦
              let tick_is = command.tick ∙ twin.now in
              absurd (none_due g.now command.first rights command.more tock.late
              (sym items ∙ ap (map item_of) command.is) tick_is)
          | inr demand ↦
              let a = command.first in
              let b = demand.first in
              let both : map item_of (a ∷ command.more) ≡ map item_of (b ∷ demand.more) =
              sym (ap (map item_of) command.is) ∙ items ∙ ap (map item_of) demand.is in
              let item = first_item a b command.more demand.more both in
              let commands : a.command ≡ b.command = ap (λ (x : Item). x.command) item in
              let mine_along = along_of depth h boxes s steps a command.more command.no_tick
              (subst (λ l. AnswersAlong depth h boxes (s ∷ steps) l) command.is along) in
              let their_along = along_of depth g boxes o others b demand.more demand.no_tick
              (subst (λ l. AnswersAlong depth g boxes (o ∷ others) l) demand.is answers) in
              let mine_there : IsAnswer (moment boxes depth g) b.command a.answer =
              subst (λ x. IsAnswer (moment boxes depth g) x a.answer) commands
              (answer-twin boxes depth r h g twin a.command a.answer mine_along.0) in
              let alike = answer_one (moment boxes depth g) b.command a.answer b.answer mine_there their_along.0 in
              let next = next_twins r h g twin (go_of h mine) (listed h mine) (listed g theirs) b.command a.answer
              b.answer s o alike (subst (λ x. Answers h x a.answer s) commands command.answers) demand.answers
              legal.0 other.0 in
              let left_boxes : boxes_after boxes b.command b.answer ≡ boxes_after boxes a.command a.answer =
              sym (boxes_alike boxes b.command a.answer b.answer alike)
              ∙ ap (λ x. boxes_after boxes x a.answer) (sym commands) in
              let rest = same steps others next.renaming (after h s) (after g o) next.twin
              (reached_next h s mine legal.0) (reached_next g o theirs other.0)
              (boxes_after boxes a.command a.answer) command.more demand.more legal.1 other.1 command.rest
              demand.rest mine_along.1
              (subst (λ x. AnswersAlong depth (after g o) x others demand.more) left_boxes their_along.1)
              (other_items a b command.more demand.more both) in
              let answered : AreAlikeAnswered (a ∷ command.more) (b ∷ demand.more) = (
                record { tick = ap (λ (x : Item). x.tick) item; command = commands; answer = alike },
                rest.answered,
              ) in
              record {
                answered = subst (λ l. AreAlikeAnswered l rights) (sym command.is)
                    (subst (λ l. AreAlikeAnswered (a ∷ command.more) l) (sym demand.is) answered);
                paths = λ t from lt. rest.paths t
                    (subst (λ n. n ≤ t) (sym (now_same h s command.no_tick)) from) lt;
              }
        ]
      ]
    where
      now_same : (h : Hierarchy) (s : Step) → ¬ IsTick s → (after h s).now ≡ h.now
      now_same h (Elapse asking masks path) no_tick = absurd (no_tick tt)
      now_same h _ no_tick = refl

-- ---- the accounts go by the answers alike

alike_late : (n : ℕ) (left rights : List Answered) → AreAlikeAnswered left rights
    → AllByRecursion (λ (a : Answered). n < a.tick) left → AllByRecursion (λ (a : Answered). n < a.tick) rights
alike_late n [] [] alike late = tt
alike_late n (a ∷ left) (b ∷ rights) alike late =
    ((let same = alike.0.tick in let lt = late.0 in omega (arith, same, lt)), alike_late n left rights alike.1 late.1)
alike_late n [] (b ∷ rights) alike late = absurd alike
alike_late n (a ∷ left) [] alike late = absurd alike

alike_answers : (h : Hierarchy) (c : Command) (one two : Answer) (step : Step) → IsAlikeAnswer one two
    → Answers h c one step → Answers h c two step
alike_answers h c (Done seats) (Done others) step alike f = f
alike_answers h c (Refused x) (Refused y) step alike f = f
alike_answers h c (Done seats) (Refused y) step alike f = absurd alike
alike_answers h c (Refused x) (Done others) step alike f = absurd alike

tells_alike : (c : Content) (steps : List Step) (h : Hierarchy) (left rights : List Answered)
    → AreAlikeAnswered left rights → TellsFrom c h steps left → TellsFrom c h steps rights
tells_alike c [] h [] [] alike told = told
tells_alike c [] h [] (b ∷ rights) alike told = absurd alike
tells_alike c [] h (a ∷ left) rights alike told = absurd told
tells_alike c (Elapse asking masks path ∷ steps) h left rights alike told = (
  alike_late h.now left rights alike told.0,
  told.1,
  tells_alike c steps (after h (Elapse asking masks path)) left rights alike told.2,
)
tells_alike c (step ∷ steps) h [] rights alike told = absurd told
tells_alike c (step ∷ steps) h (a ∷ left) [] alike told = absurd alike
tells_alike c (step ∷ steps) h (a ∷ left) (b ∷ rights) alike told = (
  sym alike.0.tick ∙ told.0,
  subst (λ x. Answers h x b.answer step) alike.0.command
      (alike_answers h a.command a.answer b.answer step alike.0.answer told.1),
  tells_alike c steps (after h step) left rights alike.1 told.2,
)

tells_record : (c d : Content) → c.horizon ≡ d.horizon → c.stretches ≡ d.stretches → (steps : List Step)
    (h : Hierarchy) (left : List Answered) → TellsFrom c h steps left → TellsFrom d h steps left
tells_record = Rattle.hls_legal.proofs.Removal.tells_like

abbrev plain : ℕ → List Answered → List Stretch → Content
plain horizon answered stretches = record {
  version = 1;
  horizon = horizon;
  depth = 0;
  answered = answered;
  stretches = stretches;
  accounts = [];
  idle = 0;
}

accounts_plain : (c : Content) → accounts_of c ≡ accounts_of (plain c.horizon c.answered c.stretches)
unfolding is_ready
accounts_plain c = refl

accounts_alike : (c d : Content) (steps : List Step) → c.horizon ≡ d.horizon → c.stretches ≡ d.stretches
    → AreAlikeAnswered c.answered d.answered → IsLegal start steps → TellsFrom c start steps c.answered
    → accounts_of c ≡ accounts_of d
accounts_alike c d steps ends stretches alike legal told =
    let e = record c { answered = d.answered } in
    let tells : TellsFrom e start steps e.answered =
    tells_record c e refl refl steps start d.answered
    (tells_alike c steps start c.answered d.answered alike told) in
    accounts_told c steps legal told ∙ sym (accounts_told e steps legal tells) ∙ accounts_plain e
    ∙ (λ i. accounts_of (plain (ends i) d.answered (stretches i))) ∙ sym (accounts_plain d)

-- ---- two reports

abbrev identity : Renaming
identity = record { to = λ k. k; back = λ k. k; there = λ k. refl; home = λ k. refl }

start_twin : Twin identity start start
start_twin = record {
  now = refl;
  nodes = λ k. tt;
  root = refl;
  schedulers = refl;
  threads = refl;
  seats = refl;
  serves = λ k. tt;
}

pub one_report : (s : Scenario) (given : ℕ) (boxes : Boxes) (c d : Content) → IsLegalContent s given boxes c
    → IsLegalContent s given boxes d → IsAlikeContent c d
one_report s given boxes c d f t =
    let ends : c.horizon ≡ d.horizon = f.horizon ∙ sym t.horizon in
    let depths : c.depth ≡ d.depth = f.depth ∙ sym t.depth in
    let theirs : IsRun c.depth boxes d t.steps = subst (λ n. IsRun n boxes d t.steps) (sym depths) t.run in
    let alike = same c d ends c.depth f.steps t.steps identity start start start_twin reached_start reached_start
    boxes c.answered d.answered f.run.legal theirs.legal f.run.tells theirs.tells f.run.answers theirs.answers
    (f.commands ∙ sym t.commands) in
    let stretches : c.stretches ≡ d.stretches =
    cover_one c.stretches d.stretches 0 None None c.horizon f.formed.cover
    (subst (λ n. Rattle.hls_report_text.specs.WellFormed.Cover 0 None d.stretches n) (sym ends) t.formed.cover)
    (λ t from lt. alike.paths t from lt) in
    record {
      version = f.version ∙ sym t.version;
      horizon = ends;
      depth = depths;
      answered = alike.answered;
      stretches = stretches;
      accounts = f.accounts ∙ accounts_alike c d f.steps ends stretches alike.answered f.run.legal f.run.tells
          ∙ sym t.accounts;
      idle = f.idle ∙ (λ i. count (λ n. is_none (path_at (stretches i) n)) 0 (ends i)) ∙ sym t.idle;
    }
