-- The items of a scenario at their places.
use Rattle.std.proofs.Common.{◌≡◌, ◌≢◌, ℕ, zero, suc, inl, inr, ◌⊎◌, ◌+◌, ◌<◌, ◌≤◌, Bool, true, false}
use Rattle.std.proofs.Common.{cond, nat_lt, drop, ◌==◌, List, []}
use Rattle.std.proofs.Common.{◌∷◌, length, map, refl, sym, ap, ◌∙◌, subst, arith, slice_get}
use Rattle.std.specs.Prelude.{Option, Some, None}
use Rattle.std.proofs.lemmas.Bool.{cases_lt, eqb-true, eqb-false, ltb-true, lt-ltb}
use Rattle.std.proofs.lemmas.Option.{slice_get_within, slice_get-get_or}
use Rattle.hls_scenario.specs.declared.scenario.Item.{Item}
use Rattle.hls_scenario.specs.declared.scenario.Command.{Command}
use Rattle.hls_scenario.specs.Grammar.{AreItems, IsCommand}
use Rattle.hls_report_text.specs.declared.report.Answer.{Answer}
use Rattle.hls_report_text.specs.ReportText.{item_of}
use Rattle.hls_clock.specs.Agenda.{due_of, due_command, first_tick_after}
use Rattle.hls_core_journal.specs.Told.{answered_by}
use Rattle.hls_core.specs.Cores.{AreAhead, NoneDue, NoneWithin}

-- the command that is due
pub record IsDue (items : List Item) (place now : ℕ) (command : Command) : Type 0 where
  pub item : Item
  pub there : slice_get items place ≡ Some item
  pub tick : item.tick ≡ now
  pub is : item.command ≡ command

pub is_due : (items : List Item) (place now : ℕ) (command : Command) → Some command ≡ due_command items place now
    → IsDue items place now command
is_due items place now command e = by (slice_get items place) refl e
  where
    by : (found : Option Item) → slice_get items place ≡ found → Some command ≡ due_of now found
        → IsDue items place now command
    by None there f = absurd (cc)
    by (Some item) there f = on (item.tick == now) refl f
      where
        on : (b : Bool) → (item.tick == now) ≡ b → Some command ≡ cond b (Some item.command) None
            → IsDue items place now command
        on true same g =
            record { item = item; there = there; tick = eqb-true item.tick now same; is = (let h = sym g in cc) }
        on false other g = absurd (cc)

pub items_command : (version horizon last : ℕ) (items : List Item) (at : ℕ) (item : Item)
    → AreItems version horizon last items → slice_get items at ≡ Some item
    → IsCommand version item.command × (last ≤ item.tick) × (item.tick < horizon)
items_command version horizon last [] at item are e = absurd (cc)
items_command version horizon last (one ∷ items) zero item are e =
    let same : one ≡ item = cc in
    subst (λ (i : Item). IsCommand version i.command × (last ≤ i.tick) × (i.tick < horizon)) same (are.0, are.1, are.2)
items_command version horizon last (one ∷ items) (suc at) item are e =
    let rest = items_command version horizon one.tick items at item are.3 e in
    let first = are.1 in
    let later = rest.1 in (rest.0, omega (arith, first, later), rest.2)

pub items_rise : (version horizon last : ℕ) (items : List Item) (at more : ℕ) (one other : Item)
    → AreItems version horizon last items → at ≤ more → slice_get items at ≡ Some one
    → slice_get items more ≡ Some other → one.tick ≤ other.tick
items_rise version horizon last [] at more one other are le e f = absurd (cc)
items_rise version horizon last (item ∷ items) zero zero one other are le e f =
    let same : one ≡ other = cc in
    let ticks = ap (λ (i : Item). i.tick) same in omega (arith, ticks)
items_rise version horizon last (item ∷ items) zero (suc more) one other are le e f =
    let same : item ≡ one = cc in
    let ticks = ap (λ (i : Item). i.tick) same in
    let rest = (items_command version horizon item.tick items more other are.3 f).1 in omega (arith, ticks, rest)
items_rise version horizon last (item ∷ items) (suc at) zero one other are le e f = absurd (omega (arith, le))
items_rise version horizon last (item ∷ items) (suc at) (suc more) one other are le e f =
    items_rise version horizon item.tick items at more one other are.3 (omega (arith, le)) e f

-- the next tick comes once none is due
pub ahead_next : (version horizon : ℕ) (items : List Item) (place now : ℕ) → AreItems version horizon 0 items
    → NoneDue items place now → AreAhead items place (now + 1)
ahead_next version horizon items place now are none at item le e =
    by (cases_lt place (length items))
  where
    by : (place < length items) ⊎ (length items ≤ place) → now + 1 ≤ item.tick
    by (inl lt) =
        let first = slice_get-get_or items place item lt in
        let later = none _ first in
        let rise = items_rise version horizon 0 items place at _ item are le first e in omega (arith, later, rise)
    by (inr past) = let lt = slice_get_within items at item e in absurd (omega (arith, past, lt, le))

-- at the horizon none is left
pub none_left : (version horizon : ℕ) (items : List Item) (place : ℕ) → AreItems version horizon 0 items
    → place ≤ length items → AreAhead items place horizon → place ≡ length items
none_left version horizon items place are le ahead = by (cases_lt place (length items))
  where
    by : (place < length items) ⊎ (length items ≤ place) → place ≡ length items
    by (inl lt) = absurd (first items place are ahead lt)
      where
        first : (items : List Item) (place : ℕ) → AreItems version horizon 0 items → AreAhead items place horizon
            → place < length items → ⊥
        first [] place are ahead lt = omega (arith, lt)
        first (item ∷ items) place are ahead lt =
            let there = slice_get-get_or (item ∷ items) place item lt in
            let late = ahead place _ (omega arith) there in
            let early = (items_command version horizon 0 (item ∷ items) place _ are there).2 in
            omega (arith, late, early)
    by (inr past) = omega (arith, le, past)

pub all_told : (items : List Item) (answers : List Answer) → length answers ≡ length items
    → map item_of (answered_by items answers) ≡ items
all_told [] answers n = refl
all_told (item ∷ items) [] n = absurd (omega (arith, n))
all_told (item ∷ items) (answer ∷ answers) n =
    ap (λ (rest : List Item). item ∷ rest) (all_told items answers (omega (arith, n)))

-- where none is due, the next is of a later tick
pub none_due : (items : List Item) (place now : ℕ) → AreAhead items place now → None ≡ due_command items place now
    → NoneDue items place now
none_due items place now ahead e item there = by (item.tick == now) refl
  where
    by : (b : Bool) → (item.tick == now) ≡ b → now < item.tick
    by true same =
        let found : due_command items place now ≡ Some item.command =
        ap (due_of now) there ∙ ap (λ b. cond b (Some item.command) None) same in absurd (cc)
    by false other =
        let le = ahead place item (omega arith) there in
        let apart : item.tick ≢ now = eqb-false item.tick now other in omega (arith, le, apart)

-- ---- the next tick of a command

first_by : (now tick t : ℕ) (rest : Option ℕ) (b : Bool) → nat_lt now tick ≡ b → cond b (Some tick) rest ≡ Some t
    → (rest ≡ Some t → now < t) → now < t
first_by now tick t rest true lt e later = let same : tick ≡ t = cc in
    let before = ltb-true now tick lt in omega (arith, before, same)
first_by now tick t rest false lt e later = later e

first_later : (now : ℕ) (items : List Item) (t : ℕ) → first_tick_after now items ≡ Some t → now < t
first_later now [] t e = absurd (cc)
first_later now (item ∷ items) t e =
    first_by now item.tick t (first_tick_after now items) (nat_lt now item.tick) refl e (first_later now items t)

first_is : (now : ℕ) (items : List Item) (place : ℕ) (item : Item) → slice_get items place ≡ Some item
    → now < item.tick → first_tick_after now (drop place items) ≡ Some item.tick
first_is now [] place item there lt = absurd (cc)
first_is now (x ∷ items) zero item there lt =
    let same : x ≡ item = cc in
    ap (λ b. cond b (Some x.tick) (first_tick_after now items))
    (lt-ltb now x.tick (subst (λ (y : Item). now < y.tick) (sym same) lt)) ∙ ap (λ (y : Item). Some y.tick) same
first_is now (x ∷ items) (suc place) item there lt = first_is now items place item there lt

first_none : (now : ℕ) (items : List Item) (place : ℕ) → slice_get items place ≡ None
    → first_tick_after now (drop place items) ≡ None
first_none now [] zero none = refl
first_none now [] (suc place) none = refl
first_none now (x ∷ items) zero none = absurd cc
first_none now (x ∷ items) (suc place) none = first_none now items place none

-- the next tick that is found is that of the next command
pub next_is : (items : List Item) (place own now t : ℕ) (next : Option ℕ) → NoneDue items place own → now ≡ own
    → next ≡ first_tick_after now (drop place items) → next ≡ Some t
    → (item : Item) × (slice_get items place ≡ Some item) × (item.tick ≡ t)
next_is items place own now t next none at is found = by (slice_get items place) refl
  where
    by : (o : Option Item) → slice_get items place ≡ o
        → (item : Item) × (slice_get items place ≡ Some item) × (item.tick ≡ t)
    by None there = absurd (let no : None ≡ Some t = sym (first_none now items place there) ∙ sym is ∙ found in cc)
    by (Some item) there =
        let lt = none item there in
        let same : Some item.tick ≡ Some t =
        sym (first_is now items place item there (omega (arith, lt, at))) ∙ sym is ∙ found in
        (item, there, cc)

-- the next command is not due before its tick
pub none_within : (items : List Item) (place own now ticks : ℕ) (next : Option ℕ) → NoneDue items place own
    → now ≡ own → next ≡ first_tick_after now (drop place items) → ((t : ℕ) → next ≡ Some t → now + ticks ≤ t)
    → NoneWithin items place own ticks
none_within items place own now ticks next none at is within item there =
    let lt = none item there in
    let before = within item.tick (is ∙ first_is now items place item there (omega (arith, lt, at))) in
    omega (arith, before, at)

pub next_later : (items : List Item) (now t : ℕ) (next : Option ℕ) → next ≡ first_tick_after now items
    → next ≡ Some t → now < t
next_later items now t next is e = first_later now items t (sym is ∙ e)

pub inner : (x y : ℕ) → Some x ≡ Some y → x ≡ y
inner x y e = cc

pub within_none : {X : Type 0} (t : ℕ) (next : Option ℕ) → next ≡ None → next ≡ Some t → X
within_none t next none some = absurd (let no : None ≡ Some t = sym none ∙ some in cc)
