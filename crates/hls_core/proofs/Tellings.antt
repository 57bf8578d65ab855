-- What is told in a text while a core goes on.
use Rattle.std.proofs.Common.{◌≡◌, ℕ, zero, suc, ◌+◌, ◌-◌, ◌<◌, ◌≤◌, List, [], ◌∷◌, ◌++◌, length}
use Rattle.std.proofs.Common.{refl, sym, ap, ◌∙◌, subst, arith, append_assoc}
use Rattle.std.specs.Prelude.{Option, Some, Result, Ok, Err, OnOk, vec_capacity, slice_get, flat_map}
use Rattle.std.specs.Prelude.{All, zip, get_or}
use Rattle.std.proofs.lemmas.Option.{slice_get-get_or}
use Rattle.std.specs.Global.{Vec}
use Rattle.std.specs.Fn.{Mut}
use Rattle.std.proofs.lemmas.List.{length-append, append-nil}
use Rattle.std.proofs.lemmas.Grind.{flat_map-append}
use Rattle.hls_text.specs.Lines.{Text}
use Rattle.hls_guarantee.specs.declared.Guarantee.{Guarantee}
use Rattle.hls_scenario.specs.declared.scenario.Item.{Item}
use Rattle.hls_scenario.specs.declared.scenario.Scenario.{Scenario}
use Rattle.hls_scenario.specs.Grammar.{IsScenario, IsCommand}
use Rattle.hls_report_text.specs.declared.report.Answer.{Answer}
use Rattle.hls_report_text.specs.declared.report.Answered.{Answered}
use Rattle.hls_report_text.specs.ReportText.{head_lines, answered_lines, ended}
use Rattle.hls_report_text.specs.WellFormed.{MayAnswer}
use Rattle.hls_sched.specs.Seen.{Seen}
use Rattle.hls_legal.specs.Moment.{Boxes}
use Rattle.hls_core_journal.specs.declared.journal.Journal.{Journal}
use Rattle.hls_core_journal.specs.Told.{answered_as, answered_by}
use Rattle.hls_core_journal.specs.Kept.{IsKept}
use Rattle.hls_core_journal.proofs.Lists.{zip_push, all_front}
use Rattle.hls_core_journal.proofs.Keeps.{answered_push}
use Rattle.hls_core.specs.Cores.{IsCoreOf}
use Rattle.hls_core.specs.Inside.Sparing.{keeping, MayGoOn, GoesOn, StaysOn}
use Rattle.hls_core.specs.Inside.Tellings.{told_by, IsToldIn, IsUntoldIn, MayTell, HasUntold, TellsLast, TellsOn}
use Rattle.hls_core.specs.declared.cores.Core.{Core}
use Rattle.hls_core.proofs.Items.{items_command}
use Rattle.hls_core.proofs.Pushed.{pushed}

-- ---- lists

found : {A : Type 0} (xs : List A) (n : ℕ) → n < length xs → (x : A) × (slice_get xs n ≡ Some x)
found [] n lt = absurd (omega (arith, lt))
found (x ∷ xs) zero lt = (x, refl)
found (x ∷ xs) (suc n) lt = found xs n (omega (arith, lt))

-- what is taken from a list of one item
record IsTheOne {A : Type 0} (rest : List A) (x y : A) : Type 0 where
  none : rest ≡ []
  same : y ≡ x

the_one : {A : Type 0} (xs rest : List A) (x y : A) → xs ≡ x ∷ [] → xs ≡ rest ++ y ∷ [] → IsTheOne rest x y
the_one xs [] x y one is = record { none = refl; same = (let e = sym one ∙ is in cc) }
the_one xs (z ∷ rest) x y one is =
    let long = length-append (z ∷ rest) (y ∷ []) in
    let count = ap length (sym one ∙ is) in absurd (omega (arith, long, count))

pub not_none : {A : Type 0} (xs rest : List A) (x : A) → xs ≡ x ∷ [] → xs ≡ rest ++ []
    → length rest ≡ length xs - 1 → ⊥
not_none xs rest x one is fewer =
    let count = ap length one in
    let same = ap length (is ∙ append-nil rest) in omega (arith, count, same, fewer)

-- ---- the command that was carried out last

pub record IsLastOf (s : Scenario) (before : List Answer) (answer : Answer) : Type 0 where
  pub item : Item
  pub there : slice_get s.items (length before) ≡ Some item
  pub command : IsCommand s.version item.command
  pub fits : MayAnswer item.command answer

pub last_of : (s : Scenario) (j : Journal) (before : List Answer) (answer : Answer) → IsScenario s → IsKept s j
    → j.answers.items ≡ before ++ answer ∷ [] → IsLastOf s before answer
last_of s j before answer is kept all =
    let few = kept.few in
    let count = ap length all ∙ length-append before (answer ∷ []) in
    let at = found s.items (length before) (omega (arith, few, count)) in
    let P = λ (p : Item × Answer). MayAnswer p.0.command p.1 in
    record {
      item = at.0;
      there = at.1;
      command = (items_command s.version s.horizon 0 s.items (length before) at.0 is.items at.1).0;
      fits = (all_front P (zip s.items before) (at.0, answer)
          (subst (All P) (zip_push s.items before at.0 answer at.1)
          (subst (λ (xs : List Answer). All P (zip s.items xs)) all kept.fit))).1;
    }

-- its lines may be written
pub record MayPut (version : ℕ) (item : Item) (answer : Answer) : Type 0 where
  pub command : IsCommand version item.command
  pub fits : MayAnswer item.command answer

-- what is read at a place
pub item_at : (items read : List Item) (place : ℕ) (item : Item) → read ≡ items → place < length items
    → item ≡ get_or read place item → slice_get items place ≡ Some item
item_at items read place item same lt is =
    slice_get-get_or items place item lt
    ∙ ap (λ (i : Item). Some i) (ap (λ (xs : List Item). get_or xs place item) (sym same) ∙ sym is)

told_more : (s : Scenario) (depth : ℕ) (before : List Answer) (item : Item) (answer : Answer)
    → slice_get s.items (length before) ≡ Some item
    → told_by s depth (before ++ answer ∷ [])
    ≡ told_by s depth before ++ ended (answered_lines s.version (answered_as item answer))
told_more s depth before item answer there =
    let head = ended (head_lines s.version s.horizon depth) in
    let lines : Answered → Text = λ a. ended (answered_lines s.version a) in
    let first = flat_map lines (answered_by s.items before) in
    ap (λ (xs : List Answered). head ++ flat_map lines xs) (answered_push s.items before item answer there)
    ∙ ap (λ (t : Text). head ++ t)
    (flat_map-append lines (answered_by s.items before) (answered_as item answer ∷ [])
    ∙ ap (λ (t : Text). first ++ t) (append-nil (lines (answered_as item answer))))
    ∙ sym (append_assoc head first (lines (answered_as item answer)))

-- V and P are what the checker knows a box by, and W, Q and X a rule
module _ {V W : Type 0} {P : V → Type 0} {Q : W → Type 0}
    {X : Mut ((x : W) × Q x) (Guarantee × (Guarantee × Unit {0})) (Option Guarantee)}
    (seen : (x : V) × P x → Seen) where
  pub last_untold : (c : Core V W P Q X) (s : Scenario) (given : ℕ) (boxes : Boxes) (was : Text)
      → (u : IsUntoldIn seen c s given boxes was) → IsLastOf s u.before u.answer
  last_untold c s given boxes was u =
      last_of s (keeping u.answers c).journal u.before u.answer u.is.within u.is.kept u.all

  pub untold_place : (c : Core V W P Q X) (s : Scenario) (given : ℕ) (boxes : Boxes) (was : Text)
      → (u : IsUntoldIn seen c s given boxes was) → c.agenda ≡ length u.before + 1
  untold_place c s given boxes was u =
      u.is.place ∙ ap length u.all ∙ length-append u.before (u.answer ∷ [])

  pub untold_within : (c : Core V W P Q X) (was : Text) → HasUntold seen c was
      → c.agenda - 1 < length c.scenario.items
  untold_within c was has =
      let u = has.is in
      let place = untold_place c has.s has.given has.boxes was u in
      let few = u.is.kept.few in
      let count = ap length u.all ∙ length-append u.before (u.answer ∷ []) in
      let own = ap (λ (x : Scenario). length x.items) u.is.scenario in omega (arith, place, few, count, own)

  -- the item at the place before the agenda's is the last
  pub untold_item : (c : Core V W P Q X) (s : Scenario) (given : ℕ) (boxes : Boxes) (was : Text) (place : ℕ)
      (item : Item) (u : IsUntoldIn seen c s given boxes was) → place ≡ c.agenda - 1
      → slice_get c.scenario.items place ≡ Some item → slice_get s.items (length u.before) ≡ Some item
  untold_item c s given boxes was place item u at there =
      let next = untold_place c s given boxes was u in
      let same : length u.before ≡ place = omega (arith, at, next) in
      ap (slice_get s.items) same ∙ ap (λ (x : Scenario). slice_get x.items place) (sym u.is.scenario) ∙ there

  pub told_last : (c : Core V W P Q X) (j : Journal) (was text : Text) (place : ℕ) (item : Item) (answer : Answer)
      → place ≡ c.agenda - 1 → slice_get c.scenario.items place ≡ Some item
      → c.journal.answers.items ≡ j.answers.items ++ answer ∷ []
      → vec_capacity j.answers ≡ vec_capacity c.journal.answers
      → j ≡ record c.journal { answers = j.answers }
      → text ≡ was ++ ended (answered_lines c.scenario.version (answered_as item answer))
      → TellsLast seen c was (record c { journal = j }) text
  told_last c j was text place item answer at there taken room others put s given boxes u =
      let one = the_one c.journal.answers.items j.answers.items u.answer answer u.last taken in
      let here = untold_item c s given boxes was place item u at there in
      record {
        answers = u.answers;
        is = subst (λ (k : Journal). IsCoreOf seen (record c { journal = record k { answers = u.answers } }) s given
            boxes) (sym others) u.is;
        none = one.none;
        room = (let had = u.room in omega (arith, had, room));
        spelled =
            put ∙ ap (λ (x : Scenario). was ++ ended (answered_lines x.version (answered_as item answer)))
            u.is.scenario
            ∙ ap (λ (t : Text). t ++ ended (answered_lines s.version (answered_as item answer))) u.spelled
            ∙ ap (λ (a : Answer). told_by s c.depth u.before ++ ended (answered_lines s.version (answered_as item a)))
            one.same
            ∙ sym (told_more s c.depth u.before item u.answer here)
            ∙ ap (told_by s c.depth) (sym u.all);
      }

  -- ---- one command more, and one tick

  pub told_goes_on : (c : Core V W P Q X) (was : Text) → MayTell seen c was → MayGoOn seen c
  told_goes_on c was may = record {
    answers = may.is.answers;
    s = may.s;
    given = may.given;
    boxes = may.boxes;
    is = may.is.is;
    fewer = (let none = ap length may.is.none in omega (arith, none));
    room = may.is.room;
  }

  told_room : (old new : Core V W P Q X) (s : Scenario) (given : ℕ) (boxes : Boxes) (was : Text)
      → GoesOn seen old new → (t : IsToldIn seen old s given boxes was)
      → length t.answers.items < vec_capacity t.answers
  told_room old new s given boxes was goes t =
      let due = goes.due in
      let place = t.is.place in
      let room = t.is.kept.answers_room in
      let own = ap (λ (x : Scenario). length x.items) t.is.scenario in omega (arith, due, place, room, own)

  pub told_untold : (old new : Core V W P Q X) (s : Scenario) (given : ℕ) (boxes : Boxes) (was : Text)
      → GoesOn seen old new → IsToldIn seen old s given boxes was → IsUntoldIn seen new s given boxes was
  told_untold old new s given boxes was goes t =
      let more = pushed t.answers goes.answer (told_room old new s given boxes was goes t) in
      let on = goes.is t.answers more s given boxes refl refl t.is in
      record {
        answers = more;
        before = t.answers.items;
        answer = goes.answer;
        all = refl;
        is = on;
        last = goes.noted ∙ ap (λ l. l ++ goes.answer ∷ []) t.none;
        room = (let had = t.room in let same = goes.room in omega (arith, had, same));
        spelled = t.spelled ∙ ap (λ n. told_by s n t.answers.items) (t.is.depth ∙ sym on.depth);
      }

  pub may_untold : (old new : Core V W P Q X) (was : Text) → GoesOn seen old new → MayTell seen old was
      → HasUntold seen new was
  may_untold old new was goes may = record {
    s = may.s;
    given = may.given;
    boxes = may.boxes;
    is = told_untold old new may.s may.given may.boxes was goes may.is;
  }

  pub tells_same : (old new : Core V W P Q X) (was : Text) → new ≡ old → TellsOn seen old was new was
  tells_same old new was same s given boxes t =
      subst (λ (c : Core V W P Q X). IsToldIn seen c s given boxes was) (sym same) t

  pub tells_command : (old mid new : Core V W P Q X) (was text : Text) → GoesOn seen old mid
      → TellsLast seen mid was new text → TellsOn seen old was new text
  tells_command old mid new was text goes last s given boxes t =
      last s given boxes (told_untold old mid s given boxes was goes t)

  pub tells_tick : (old new : Core V W P Q X) (was : Text) → StaysOn seen old new
      → new.journal.answers ≡ old.journal.answers → TellsOn seen old was new was
  tells_tick old new was on same s given boxes t =
      let is = on t.answers s given boxes t.is in
      record {
        answers = t.answers;
        is = is;
        none = ap (λ (v : Vec Answer). v.items) same ∙ t.none;
        room = subst (λ (v : Vec Answer). vec_capacity t.answers ≤ vec_capacity v) (sym same) t.room;
        spelled = t.spelled ∙ ap (λ n. told_by s n t.answers.items) (t.is.depth ∙ sym is.depth);
      }

  pub tells_both : (old mid new : Core V W P Q X) (was some text : Text) → TellsOn seen old was mid some
      → TellsOn seen mid some new text → TellsOn seen old was new text
  tells_both old mid new was some text one two s given boxes t = two s given boxes (one s given boxes t)

  pub still_tells : (old new : Core V W P Q X) (was text : Text) → TellsOn seen old was new text
      → MayTell seen old was → MayTell seen new text
  still_tells old new was text on may =
      record { s = may.s; given = may.given; boxes = may.boxes; is = on may.s may.given may.boxes may.is }

  -- ---- measures

  told_few : (c : Core V W P Q X) (was : Text) → MayTell seen c was → c.agenda ≤ length c.scenario.items
  told_few c was may =
      let count = ap (λ (x : Scenario). length x.items) may.is.is.scenario in
      let place = may.is.is.place in
      let few = may.is.is.kept.few in omega (arith, count, place, few)

  -- a command that was carried out leaves fewer
  pub told_fewer : (old new : Core V W P Q X) (text : Text) → MayTell seen new text → new.scenario ≡ old.scenario
      → new.agenda ≡ old.agenda + 1
      → length new.scenario.items - new.agenda < length old.scenario.items - old.agenda
  told_fewer old new text may same next =
      let count = ap (λ (x : Scenario). length x.items) same in
      let left = told_few new text may in omega (arith, count, next, left)

  -- no tick passes at the horizon
  pub told_within : (c : Core V W P Q X) (was : Text) → MayTell seen c was → c.journal.ticks ≤ c.scenario.horizon
  told_within c was may =
      let horizon = ap (λ (x : Scenario). x.horizon) may.is.is.scenario in
      let ticks = may.is.is.kept.within in omega (arith, horizon, ticks)

  -- the last command and its answer have lines
  pub may_put : (c : Core V W P Q X) (rest : List Answer) (was : Text) (place : ℕ) (item : Item) (answer : Answer)
      → HasUntold seen c was → place ≡ c.agenda - 1 → slice_get c.scenario.items place ≡ Some item
      → c.journal.answers.items ≡ rest ++ answer ∷ [] → MayPut c.scenario.version item answer
  may_put c rest was place item answer has at there taken =
      let u = has.is in
      let last = last_untold c has.s has.given has.boxes was u in
      let here = untold_item c has.s has.given has.boxes was place item u at there in
      let one = the_one c.journal.answers.items rest u.answer answer u.last taken in
      let both : Some last.item ≡ Some item = sym last.there ∙ here in
      let same : last.item ≡ item = cc in
      record {
        command = subst (λ (x : Scenario). IsCommand x.version item.command) (sym u.is.scenario)
            (subst (λ (i : Item). IsCommand has.s.version i.command) same last.command);
        fits = subst (λ (a : Answer). MayAnswer item.command a) (sym one.same)
            (subst (λ (i : Item). MayAnswer i.command u.answer) same last.fits);
      }

-- where nothing failed
pub on_done : {T E A B : Type 0} (result : Result T E) → (A → B) → OnOk result A → OnOk result B
on_done (Ok t) f x = f x
on_done (Err e) f x = tt
