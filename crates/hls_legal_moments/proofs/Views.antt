-- What a run that a report tells does next: a tick elapses, or a command is answered.
use Rattle.std.proofs.Common.{◌≡◌, ◌⊎◌, ℕ, ◌<◌, inl, inr, List, [], ◌∷◌, ◌++◌, Option, Bool, refl, ap, arith, map}
use Rattle.std.specs.List.{AllByRecursion}
use Rattle.hls_scenario.specs.declared.scenario.Item.{Item}
use Rattle.hls_report_text.specs.declared.report.Answered.{Answered}
use Rattle.hls_report_text.specs.Content.{Content}
use Rattle.hls_report_text.specs.ReportText.{item_of}
use Rattle.hls_machine.specs.Hierarchy.{Hierarchy}
use Rattle.hls_machine.specs.Steps.{Step, Elapse, Path, after}
use Rattle.hls_machine.specs.Legal.{Can, IsLegal}
use Rattle.hls_legal.specs.Tells.{Answers, TellsFrom}
use Rattle.hls_legal.specs.Moment.{Boxes}
use Rattle.hls_legal.specs.Answers.{IsAnswer}
use Rattle.hls_legal.specs.Kit.{boxes_after}
use Rattle.hls_legal.specs.Along.{AnswersAlong}

pub record TickNext (c : Content) (depth : ℕ) (h : Hierarchy) (boxes : Boxes) (step : Step) (steps : List Step)
    (left : List Answered) : Type 0 where
  pub asking : ℕ → Bool
  pub masks : ℕ → ℕ
  pub path : Option Path
  pub is : step ≡ Elapse asking masks path
  pub can : Can h (Elapse asking masks path)
  pub legal : IsLegal (after h (Elapse asking masks path)) steps
  pub late : AllByRecursion (λ (a : Answered). h.now < a.tick) left
  pub rest : TellsFrom c (after h (Elapse asking masks path)) steps left
  pub along : AnswersAlong depth (after h (Elapse asking masks path)) boxes steps left

pub record CommandNext (c : Content) (depth : ℕ) (h : Hierarchy) (boxes : Boxes) (step : Step) (steps : List Step)
    (left : List Answered) : Type 0 where
  pub first : Answered
  pub more : List Answered
  pub is : left ≡ first ∷ more
  pub can : Can h step
  pub legal : IsLegal (after h step) steps
  pub tick : first.tick ≡ h.now
  pub answers : Answers h first.command first.answer step
  pub rest : TellsFrom c (after h step) steps more
  pub answer : IsAnswer (record { hierarchy = h; boxes = boxes; depth = depth }) first.command first.answer
  pub along : AnswersAlong depth (after h step) (boxes_after boxes first.command first.answer) steps more

pub next_of : (c : Content) (depth : ℕ) (h : Hierarchy) (boxes : Boxes) (step : Step) (steps : List Step)
    (left : List Answered) → IsLegal h (step ∷ steps) → TellsFrom c h (step ∷ steps) left
    → AnswersAlong depth h boxes (step ∷ steps) left
    → TickNext c depth h boxes step steps left ⊎ CommandNext c depth h boxes step steps left
next_of c depth h boxes (Elapse asking masks path) steps left legal told along = inl (record {
  asking = asking;
  masks = masks;
  path = path;
  is = refl;
  can = legal.0;
  legal = legal.1;
  late = told.0;
  rest = told.2;
  along = along;
})
next_of c depth h boxes step steps [] legal told along = absurd told
next_of c depth h boxes step steps (a ∷ left) legal told along = inr (record {
  first = a;
  more = left;
  is = refl;
  can = legal.0;
  legal = legal.1;
  tick = told.0;
  answers = told.1;
  rest = told.2;
  answer = along.0;
  along = along.1;
})

-- ---- commands by their items

pub record IsBegun (left : List Answered) (item : Item) (items : List Item) : Type 0 where
  pub first : Answered
  pub more : List Answered
  pub is : left ≡ first ∷ more
  pub item_is : item_of first ≡ item
  pub items_are : map item_of more ≡ items

pub begun : (left : List Answered) (item : Item) (items : List Item) → map item_of left ≡ item ∷ items
    → IsBegun left item items
begun [] item items e = absurd (let no : ⊥ = cc in no)
begun (a ∷ left) item items e = record { first = a; more = left; is = refl; item_is = cc; items_are = cc }

pub no_items : (items later : List Item) (item : Item) → [] ≡ items ++ item ∷ later → ⊥
no_items [] later item e = cc
no_items (one ∷ items) later item e = cc

-- the first of these commands, or the item behind them, comes later
pub first_late : (now : ℕ) (left : List Answered) (item first : Item) (later more : List Item)
    → AllByRecursion (λ (a : Answered). now < a.tick) left → now < item.tick
    → first ∷ more ≡ map item_of left ++ item ∷ later → now < first.tick
first_late now [] item first later more late lt e =
    let same : first ≡ item = cc in
    let ticks = ap (λ (x : Item). x.tick) same in omega (arith, lt, ticks)
first_late now (a ∷ left) item first later more late lt e =
    let same : first ≡ item_of a = cc in
    let ticks : first.tick ≡ a.tick = ap (λ (x : Item). x.tick) same in
    let one = late.0 in omega (arith, one, ticks)

pub late_one : (now : ℕ) (left : List Answered) (first : Answered) (more : List Answered) → left ≡ first ∷ more
    → AllByRecursion (λ (a : Answered). now < a.tick) left → now < first.tick
late_one now [] first more e late = absurd (let no : ⊥ = cc in no)
late_one now (a ∷ left) first more e late =
    let same : a ≡ first = cc in
    let ticks = ap (λ (x : Answered). x.tick) same in
    let one = late.0 in omega (arith, one, ticks)
