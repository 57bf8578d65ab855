-- Two runs of the same commands go side by side up to a command that the longer one answers.
use Rattle.std.proofs.Common.{◌≡◌, ℕ, ◌+◌, ◌<◌, ◌≤◌, inl, inr, List, [], ◌∷◌, ◌++◌, Option, Some, Bool, length, refl}
use Rattle.std.proofs.Common.{sym, ap, ◌∙◌, subst, arith, map, slice_get}
use Rattle.hls_scenario.specs.declared.scenario.Item.{Item}
use Rattle.hls_scenario.specs.declared.scenario.Command.{Command}
use Rattle.hls_scenario.specs.declared.scenario.Command.TheVariants as said
use Rattle.hls_report_text.specs.declared.report.Answer.{Answer}
use Rattle.hls_report_text.specs.declared.report.Answer.TheVariants.{Done, Refused}
use Rattle.hls_report_text.specs.declared.report.Answered.{Answered}
use Rattle.hls_report_text.specs.Content.{Content}
use Rattle.hls_report_text.specs.ReportText.{item_of}
use Rattle.hls_machine.specs.Hierarchy.{Hierarchy, start}
use Rattle.hls_machine.specs.Steps.{Step, Elapse, Path, after, state}
use Rattle.hls_machine.specs.Legal.{Can, IsLegal}
use Rattle.hls_machine.specs.Lists.{IsListed}
use Rattle.hls_machine.proofs.Determined.{IsKnown, elapse_one, run_known, start_known}
use Rattle.hls_machine.proofs.Solutions.{CanGo, run_goes, start_goes}
use Rattle.hls_legal.specs.Tells.{Answers, TellsFrom}
use Rattle.hls_legal.proofs.Reached.{IsReached, reached_start, reached_next, listed}
use Rattle.hls_legal.specs.Moment.{Boxes}
use Rattle.hls_legal.specs.Answers.{IsAnswer}
use Rattle.hls_legal.specs.AlikeAnswers.{IsAlikeAnswer}
use Rattle.hls_legal.specs.Kit.{boxes_after, boxes_left}
use Rattle.hls_legal.specs.Along.{AnswersAlong}
use Rattle.hls_legal.proofs.OneAnswer.{answer_one}
use Rattle.hls_legal.specs.Legal.{IsRun}
use Rattle.hls_legal.proofs.Growth.{now_by}
use Rattle.hls_legal.proofs.Twins.{Renaming, Twin, inverse, twin_back}
use Rattle.hls_legal.proofs.TwinAnswers.{moment, answer-twin}
use Rattle.hls_legal.proofs.TwinTicks.{asking_here, masks_here, path_here, asking-twin, run-twin, tick-twin}
use Rattle.hls_legal.proofs.TwinSteps.{AreTwins, step-twin}
use Rattle.hls_legal_moments.specs.Moments.{moment_behind, IsAnsweredAt}
use Rattle.hls_legal_moments.proofs.Views.{next_of, begun, no_items, first_late, late_one}

-- ---- twins after a tick, and after a command with alike answers

goes_on : (h : Hierarchy) → IsReached h → CanGo h
goes_on h reached = subst CanGo reached.leads (run_goes reached.steps start start_goes reached.legal)

is_known : (h : Hierarchy) → IsReached h → IsKnown h
is_known h reached = subst IsKnown reached.leads (run_known reached.steps start start_known reached.legal)

twins_tick : (r : Renaming) (h g : Hierarchy) → (twin : Twin r h g) → IsReached h → (asking other : ℕ → Bool)
    (masks slots : ℕ → ℕ) (path way : Option Path) → Can h (Elapse asking masks path) → Can g (Elapse other slots way)
    → Twin r (after h (Elapse asking masks path)) (after g (Elapse other slots way))
twins_tick r h g twin reached asking other masks slots path way can could =
    let alike : Elapse asking masks path ≡ Elapse (asking_here r h g twin other slots)
    (masks_here r h g twin other slots) (path_here r h g twin other slots way) =
    elapse_one h (is_known h reached) asking (asking_here r h g twin other slots) masks
    (masks_here r h g twin other slots) path (path_here r h g twin other slots way) can.0 can.1
    (asking-twin r h g twin other slots could.0) (run-twin r h g twin other slots way could.1) in
    subst (λ x. Twin r (after h x) (after g (Elapse other slots way))) (sym alike)
    (tick-twin r h g twin other slots way)

twins_step : (r : Renaming) (h g : Hierarchy) → Twin r h g → CanGo h → IsListed h → IsListed g → (c : Command)
    (one two : Answer) (step other : Step) → IsAlikeAnswer one two → Answers h c one step → Answers g c two other
    → Can h step → Can g other → AreTwins (after h step) (after g other)
twins_step r h g twin go mine theirs c (Done seats) (Done others) step other alike f t can could =
    step-twin r h g twin go mine theirs c step other f t can could
twins_step r h g twin go mine theirs c (Refused x) (Refused y) step other alike f t can could = record {
  renaming = r;
  twin = subst (λ s. Twin r (after h s) (after g other)) (sym f)
      (subst (λ s. Twin r h (after g s)) (sym t) twin);
}
twins_step r h g twin go mine theirs c (Done seats) (Refused y) step other alike f t can could = absurd alike
twins_step r h g twin go mine theirs c (Refused x) (Done others) step other alike f t can could = absurd alike

boxes_alike : (boxes : Boxes) (command : Command) (one two : Answer) → IsAlikeAnswer one two
    → boxes_after boxes command one ≡ boxes_after boxes command two
boxes_alike boxes (said.Load name config perches) (Done seats) (Done others) alike = refl
boxes_alike boxes (said.Load name config perches) (Refused x) (Refused y) alike = refl
boxes_alike boxes (said.Load name config perches) (Done seats) (Refused y) alike = absurd alike
boxes_alike boxes (said.Load name config perches) (Refused x) (Done others) alike = absurd alike
boxes_alike boxes (said.Thread name perch) one two alike = refl
boxes_alike boxes (said.End name) one two alike = refl
boxes_alike boxes (said.Unload name) one two alike = refl
boxes_alike boxes (said.Move name perch) one two alike = refl
boxes_alike boxes (said.Wake name every burst) one two alike = refl
boxes_alike boxes (said.Block name) one two alike = refl

-- ---- side by side

-- the command behind what is left of the shorter run is answered as where that run leads
record IsMet (depth : ℕ) (item : Item) (h : Hierarchy) (steps : List Step) (boxes : Boxes)
    (left rights : List Answered) : Type 0 where
  pub answered : Answered
  pub there : slice_get rights (length left) ≡ Some answered
  pub is : item_of answered ≡ item
  pub answer : IsAnswer (record {
    hierarchy = state h steps;
    boxes = boxes_left boxes left;
    depth = depth;
  }) answered.command answered.answer

met_tick : (depth : ℕ) (item : Item) (h : Hierarchy) (step tick : Step) (steps : List Step) (boxes : Boxes)
    (left rights : List Answered) → step ≡ tick → IsMet depth item (after h tick) steps boxes left rights
    → IsMet depth item h (step ∷ steps) boxes left rights
met_tick depth item h step tick steps boxes left rights same met = record {
  answered = met.answered;
  there = met.there;
  is = met.is;
  answer = subst (λ (s : Step). IsAnswer (record {
    hierarchy = state (after h s) steps;
    boxes = boxes_left boxes left;
    depth = depth;
  }) met.answered.command met.answered.answer) (sym same) met.answer;
}

met_command : (depth : ℕ) (item : Item) (h : Hierarchy) (step : Step) (steps : List Step) (boxes : Boxes)
    (a b : Answered) (left rights more others : List Answered) → left ≡ a ∷ more → rights ≡ b ∷ others
    → IsMet depth item (after h step) steps (boxes_after boxes a.command a.answer) more others
    → IsMet depth item h (step ∷ steps) boxes left rights
met_command depth item h step steps boxes a b left rights more others mine theirs met =
    subst (λ (l : List Answered). IsMet depth item h (step ∷ steps) boxes l rights) (sym mine)
    (subst (λ (l : List Answered). IsMet depth item h (step ∷ steps) boxes (a ∷ more) l) (sym theirs)
    (record { answered = met.answered; there = met.there; is = met.is; answer = met.answer }))

module _ (c d : Content) (depth : ℕ) (item : Item) (later : List Item) (due : item.tick ≡ c.horizon) where
  -- the shorter run has come to its end
  at_end : (others : List Step) (r : Renaming) (h g : Hierarchy) → Twin r h g → (boxes : Boxes)
      (rights : List Answered) → IsLegal g others → h.now ≡ c.horizon → TellsFrom d g others rights
      → AnswersAlong depth g boxes others rights → map item_of rights ≡ item ∷ later
      → IsMet depth item h [] boxes [] rights
  at_end [] r h g twin boxes [] other now tells answers items = absurd (let no : ⊥ = cc in no)
  at_end [] r h g twin boxes (b ∷ rights) other now tells answers items = absurd tells
  at_end (o ∷ others) r h g twin boxes rights other now tells answers items =
      let is = begun rights item later items in
      elim (next_of d depth g boxes o others rights other tells answers) [
        | inl tock ↦
            let lt = late_one g.now rights is.first is.more is.is tock.late in
            let ticks = ap (λ (x : Item). x.tick) is.item_is in
            let same = twin.now in
            absurd (omega (arith, lt, ticks, same, now, due))
        | inr demand ↦
            let both : is.first ∷ is.more ≡ demand.first ∷ demand.more = sym is.is ∙ demand.is in
            let same : is.first ≡ demand.first = cc in
            record {
              answered = demand.first;
              there = ap (λ (l : List Answered). slice_get l 0) demand.is;
              is = ap item_of (sym same) ∙ is.item_is;
              answer = answer-twin boxes depth (inverse r) g h (twin_back r h g twin) demand.first.command
                  demand.first.answer demand.answer;
            }
      ]

  meet : (steps others : List Step) (r : Renaming) (h g : Hierarchy) → Twin r h g → IsReached h → IsReached g
      → (boxes : Boxes) (left rights : List Answered) → IsLegal h steps → IsLegal g others
      → TellsFrom c h steps left → TellsFrom d g others rights → AnswersAlong depth h boxes steps left
      → AnswersAlong depth g boxes others rights → map item_of rights ≡ map item_of left ++ item ∷ later
      → IsMet depth item h steps boxes left rights
  meet [] others r h g twin mine theirs boxes [] rights legal other told tells along answers items =
      at_end others r h g twin boxes rights other told tells answers items
  meet [] others r h g twin mine theirs boxes (a ∷ left) rights legal other told tells along answers items =
      absurd told
  meet (s ∷ steps) [] r h g twin mine theirs boxes left [] legal other told tells along answers items =
      absurd (no_items (map item_of left) later item items)
  meet (s ∷ steps) [] r h g twin mine theirs boxes left (b ∷ rights) legal other told tells along answers items =
      absurd tells
  meet (s ∷ steps) (o ∷ others) r h g twin mine theirs boxes left rights legal other told tells along answers
      items =
      elim (next_of c depth h boxes s steps left legal told along) [
        | inl tick ↦ elim (next_of d depth g boxes o others rights other tells answers) [
          | inl tock ↦
              let one = Elapse tick.asking tick.masks tick.path in
              let two = Elapse tock.asking tock.masks tock.path in
              let next = twins_tick r h g twin mine tick.asking tock.asking tick.masks tock.masks tick.path tock.path
              tick.can tock.can in
              met_tick depth item h s one steps boxes left rights tick.is
              (meet steps others r (after h one) (after g two) next (reached_next h one mine tick.can)
              (reached_next g two theirs tock.can) boxes left rights tick.legal tock.legal tick.rest tock.rest
              tick.along tock.along items)
          | inr demand ↦
              let le : h.now + 1 ≤ c.horizon =
              now_by c steps (after h (Elapse tick.asking tick.masks tick.path)) left tick.rest in
              let lt : h.now < item.tick = omega (arith, le, due) in
              let late = first_late h.now left item (item_of demand.first) later (map item_of demand.more) tick.late
              lt (sym (ap (map item_of) demand.is) ∙ items) in
              let same = twin.now in
              let at = demand.tick in
              absurd (omega (arith, late, same, at))
        ]
        | inr command ↦
            let a = command.first in
            let whole : map item_of rights ≡ item_of a ∷ (map item_of command.more ++ item ∷ later) =
            items ∙ ap (λ (l : List Answered). map item_of l ++ item ∷ later) command.is in
            let is = begun rights (item_of a) (map item_of command.more ++ item ∷ later) whole in
            elim (next_of d depth g boxes o others rights other tells answers) [
              | inl tock ↦
                  let lt = late_one g.now rights is.first is.more is.is tock.late in
                  let ticks : is.first.tick ≡ a.tick = ap (λ (x : Item). x.tick) is.item_is in
                  let same = twin.now in
                  let at = command.tick in
                  absurd (omega (arith, lt, ticks, same, at))
              | inr demand ↦
                  let b = demand.first in
                  let both : is.first ∷ is.more ≡ b ∷ demand.more = sym is.is ∙ demand.is in
                  let firsts : is.first ≡ b = cc in
                  let mores : is.more ≡ demand.more = cc in
                  let commands : a.command ≡ b.command =
                  sym (ap (λ (x : Item). x.command) is.item_is) ∙ ap (λ (x : Answered). x.command) firsts in
                  let mine_there : IsAnswer (moment boxes depth g) b.command a.answer =
                  subst (λ x. IsAnswer (moment boxes depth g) x a.answer) commands
                  (answer-twin boxes depth r h g twin a.command a.answer command.answer) in
                  let alike = answer_one (moment boxes depth g) b.command a.answer b.answer mine_there demand.answer in
                  let next = twins_step r h g twin (goes_on h mine) (listed h mine) (listed g theirs) b.command
                  a.answer b.answer s o alike (subst (λ x. Answers h x a.answer s) commands command.answers)
                  demand.answers command.can demand.can in
                  let left_boxes : boxes_after boxes b.command b.answer ≡ boxes_after boxes a.command a.answer =
                  sym (boxes_alike boxes b.command a.answer b.answer alike)
                  ∙ ap (λ x. boxes_after boxes x a.answer) (sym commands) in
                  met_command depth item h s steps boxes a b left rights command.more demand.more command.is demand.is
                  (meet steps others next.renaming (after h s) (after g o) next.twin
                  (reached_next h s mine command.can) (reached_next g o theirs demand.can)
                  (boxes_after boxes a.command a.answer) command.more demand.more command.legal demand.legal
                  command.rest demand.rest command.along
                  (subst (λ x. AnswersAlong depth (after g o) x others demand.more) left_boxes demand.along)
                  (ap (map item_of) (sym mores) ∙ is.items_are))
            ]
      ]

-- ---- two reports

abbrev identity : Renaming
identity = record { to = λ k. k; back = λ k. k; there = λ k. refl; home = λ k. refl }

start_twin : Twin identity start start
start_twin = record {
  now = refl;
  nodes = λ k. tt;
  root = refl;
  schedulers = refl;
  threads = refl;
  seats = refl;
  serves = λ k. tt;
}

pub answered_behind : (depth : ℕ) (boxes : Boxes) (c d : Content) (steps others : List Step) (item : Item)
    (later : List Item) → IsRun depth boxes c steps → IsRun depth boxes d others → item.tick ≡ c.horizon
    → map item_of d.answered ≡ map item_of c.answered ++ item ∷ later
    → IsAnsweredAt (moment_behind depth boxes c steps) d (length c.answered) item
answered_behind depth boxes c d steps others item later f t due items =
    let met = meet c d depth item later due steps others identity start start start_twin reached_start reached_start
    boxes c.answered d.answered f.legal t.legal f.tells t.tells f.answers t.answers items in
    record {
      answered = met.answered;
      there = met.there;
      item_is = met.is;
      answer = subst (λ (x : Item). IsAnswer (moment_behind depth boxes c steps) x.command met.answered.answer) met.is
          met.answer;
    }
