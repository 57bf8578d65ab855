-- The commands that were carried out up to a tick are those of the items up to it.
use Rattle.std.proofs.lemmas.Bool.{le-leb, leb-true}
use Rattle.std.proofs.Common.{◌≡◌, ℕ, zero, suc, ◌<◌, ◌≤◌, List, [], ◌∷◌, Some}
use Rattle.std.proofs.Common.{Bool, true, false, refl, sym, ap, arith, length, slice_get}
use Rattle.std.specs.Prelude.{map, nat_le}
use Rattle.hls_scenario.specs.declared.scenario.Item.{Item}
use Rattle.hls_report_text.specs.declared.report.Answer.{Answer}
use Rattle.hls_report_text.specs.declared.report.Answered.{Answered}
use Rattle.hls_report_text.specs.Content.{Content}
use Rattle.hls_report_text.specs.ReportText.{item_of}
use Rattle.hls_machine.specs.Hierarchy.{Hierarchy}
use Rattle.hls_machine.specs.Steps.{Step, Elapse, after}
use Rattle.hls_legal.specs.Tells.{TellsFrom}
use Rattle.hls_core_journal.specs.Told.{answered_by, answered_as}
use Rattle.hls_offer.specs.Moments.{items_to}

-- ---- what was told has ticks up to the horizon

pub record IsTold (c : Content) (h : Hierarchy) (left : List Answered) : Type 0 where
  pub now : h.now ≤ c.horizon
  pub ticks : (k : ℕ) (a : Answered) → slice_get left k ≡ Some a → a.tick ≤ c.horizon

first_tick : (c : Content) (a : Answered) (left : List Answered) (now : ℕ) → a.tick ≡ now → now ≤ c.horizon
    → ((k : ℕ) (b : Answered) → slice_get left k ≡ Some b → b.tick ≤ c.horizon)
    → (k : ℕ) (b : Answered) → slice_get (a ∷ left) k ≡ Some b → b.tick ≤ c.horizon
first_tick c a left now at le rest zero b e =
    let same : a ≡ b = cc in
    let ticks = ap (λ (x : Answered). x.tick) same in omega (arith, at, le, ticks)
first_tick c a left now at le rest (suc k) b e = rest k b e

pub told_ticks : (c : Content) (steps : List Step) (h : Hierarchy) (left : List Answered) → TellsFrom c h steps left
    → IsTold c h left
told_ticks c [] h [] told = record { now = omega (arith, told); ticks = λ k a e. absurd (cc) }
told_ticks c [] h (b ∷ left) told = absurd told
told_ticks c (Elapse asking masks path ∷ steps) h left told =
    let rest = told_ticks c steps (after h (Elapse asking masks path)) left told.2 in
    let later = rest.now in
    record { now = omega (arith, later); ticks = rest.ticks }
told_ticks c (step ∷ steps) h [] told = absurd told
told_ticks c (step ∷ steps) h (a ∷ left) told =
    let rest = told_ticks c steps (after h step) left told.2 in
    record { now = rest.now; ticks = first_tick c a left h.now told.0 rest.now rest.ticks }

-- ---- and what is left has later ones

no_lt : (a b : ℕ) → nat_le a b ≡ true → b < a → ⊥
no_lt a b e lt = (let le = leb-true a b e in omega (arith, le, lt))

later_not : (tick at : ℕ) → tick < at → nat_le at tick ≡ false
later_not tick at lt = by (nat_le at tick) refl
  where
    by : (b : Bool) → nat_le at tick ≡ b → nat_le at tick ≡ false
    by true e = absurd (no_lt at tick e lt)
    by false e = e

none_to : (tick : ℕ) (items : List Item)
    → ((k : ℕ) (item : Item) → slice_get items k ≡ Some item → tick < item.tick) → items_to tick items ≡ []
none_to tick [] later = refl
none_to tick (item ∷ items) later =
    rw (later_not tick item.tick (later 0 item refl)) (none_to tick items (λ k one e. later (suc k) one e))

pub items_told : (tick : ℕ) (items : List Item) (answers : List Answer) → length answers ≤ length items
    → ((k : ℕ) (a : Answered) → slice_get (answered_by items answers) k ≡ Some a → a.tick ≤ tick)
    → ((k : ℕ) (item : Item) → length answers ≤ k → slice_get items k ≡ Some item → tick < item.tick)
    → map item_of (answered_by items answers) ≡ items_to tick items
items_told tick [] [] few told later = refl
items_told tick [] (answer ∷ answers) few told later = absurd (omega (arith, few))
items_told tick (item ∷ items) [] few told later =
    sym (none_to tick (item ∷ items) (λ k one e. later k one (omega arith) e))
items_told tick (item ∷ items) (answer ∷ answers) few told later =
    let first = le-leb item.tick tick (told 0 (answered_as item answer) refl) in
    rw first (ap (λ (rest : List Item). item ∷ rest)
    (items_told tick items answers (omega (arith, few)) (λ k a e. told (suc k) a e)
    (λ k one le e. later (suc k) one (omega (arith, le)) e)))
