-- A core whose journal let go of answers goes on as one that has kept them.
use Rattle.std.proofs.Common.{◌≡◌, ℕ, zero, suc, ◌+◌, ◌∙◌, ◌≤◌, true, false, Bool, [], ◌∷◌, ◌++◌, length, refl, sym, ap}
use Rattle.std.proofs.Common.{subst, arith}
use Rattle.std.specs.Prelude.{Option, Some, None, Result, Ok, Err, IfOk, OnErr, vec_capacity}
use Rattle.std.specs.Global.{Vec}
use Rattle.std.specs.Fn.{Mut}
use Rattle.hls_guarantee.specs.declared.Guarantee.{Guarantee}
use Rattle.hls_scenario.specs.declared.scenario.Command.{Command}
use Rattle.hls_scenario.specs.declared.scenario.Scenario.{Scenario}
use Rattle.hls_report_text.specs.declared.report.Answer.{Answer}
use Rattle.hls_report_text.specs.declared.report.Path.{Path}
use Rattle.hls_sched.specs.Seen.{Seen}
use Rattle.hls_machine.specs.Hierarchy.{Hierarchy}
use Rattle.hls_legal.specs.Moment.{Boxes}
use Rattle.hls_tree.specs.Trees.{Stands}
use Rattle.hls_tree.specs.declared.tree.Tree.{Tree}
use Rattle.hls_core_journal.specs.declared.journal.Journal.{Journal}
use Rattle.hls_core_journal.specs.Kept.{IsWayOrIdle, IsNoted, IsTicked, AreTicked, MayNote, MayTick}
use Rattle.hls_core_stays.specs.declared.stays.Stays.{Stays}
use Rattle.hls_core.specs.Inside.Elapses.{MayElapse, Elapses}
use Rattle.hls_core.specs.Cores.{IsCoreOf, Runs}
use Rattle.hls_core.specs.Readings.{HasOneMore}
use Rattle.hls_core.specs.Inside.Sparing.{keeping, MayGoOn, GoesOn, StaysOn}
use Rattle.hls_core.specs.declared.bursts.Bursts.{Bursts}
use Rattle.hls_core.specs.declared.cores.Core.{Core}

-- the journal, had it kept these answers
abbrev pub with_answers : Vec Answer → Journal → Journal
with_answers v j = record j { answers = v }

-- ---- what does not go by answers

way_kept : (j : Journal) (v : Vec Answer) (path : Option Path) → IsWayOrIdle j path
    → IsWayOrIdle (with_answers v j) path
way_kept j v None way = tt
way_kept j v (Some path) way = record { short = way.short; some = way.some; within = way.within }

way_spared : (j : Journal) (v : Vec Answer) (path : Option Path) → IsWayOrIdle (with_answers v j) path
    → IsWayOrIdle j path
way_spared j v None way = tt
way_spared j v (Some path) way = record { short = way.short; some = way.some; within = way.within }

pub tick_spared : (j : Journal) (v : Vec Answer) → MayTick (with_answers v j) → MayTick j
tick_spared j v may = record { short = may.short; room = may.room; more = may.more }

one_kept : (old new : Journal) (v : Vec Answer) (path : Option Path) → IsTicked path old new
    → IsTicked path (with_answers v old) (with_answers v new)
one_kept old new v path is = record {
  runs = is.runs;
  answers = refl;
  names = is.names;
  ticks = is.ticks;
  room = is.room;
}

pub ticked_kept : (n : ℕ) (old new : Journal) (v : Vec Answer) (path : Option Path) → AreTicked n path old new
    → AreTicked n path (with_answers v old) (with_answers v new)
ticked_kept zero old new v path same = ap (with_answers v) same
ticked_kept (suc n) old new v path (mid, before, one) =
    (with_answers v mid, ticked_kept n old mid v path before, one_kept mid new v path one)

pub ticked_answers : (n : ℕ) (old new : Journal) (path : Option Path) → AreTicked n path old new
    → new.answers ≡ old.answers
ticked_answers zero old new path same = ap (λ (j : Journal). j.answers) same
ticked_answers (suc n) old new path (mid, before, one) = one.answers ∙ ticked_answers n old mid path before

pub ticked_ticks : (n : ℕ) (old new : Journal) (path : Option Path) → AreTicked n path old new
    → new.ticks ≡ old.ticks + n
ticked_ticks zero old new path same =
    let now = ap (λ (j : Journal). j.ticks) same in omega (arith, now)
ticked_ticks (suc n) old new path (mid, before, one) =
    let was = ticked_ticks n old mid path before in
    let now = one.ticks in omega (arith, was, now)

pub note_spared : (j : Journal) (v : Vec Answer) (command : Command) → length j.answers.items ≤ length v.items
    → vec_capacity v ≤ vec_capacity j.answers → MayNote command (with_answers v j)
    → MayNote command j
note_spared j v command fewer room may = record {
  answers = (let lt = may.answers in omega (arith, fewer, room, lt));
  names = may.names;
}

pub noted_kept : (old new : Journal) (v w : Vec Answer) (command : Command) (answer : Answer)
    → w.items ≡ v.items ++ answer ∷ [] → vec_capacity w ≡ vec_capacity v → IsNoted command answer old new
    → IsNoted command answer (with_answers v old) (with_answers w new)
noted_kept old new v w command answer more room is = record {
  answers = more;
  names = is.names;
  runs = is.runs;
  ticks = is.ticks;
  answers_room = room;
  names_room = is.names_room;
}

-- V and P are what the checker knows a box by
module _ {V : Type 0} {P : V → Type 0} (seen : (x : V) × P x → Seen) where
  elapse_kept : (t : Tree V P) (bursts : Bursts) (tallies : Stays) (j : Journal) (v : Vec Answer) (most : ℕ)
      (h : Hierarchy) → MayElapse seen t bursts tallies j most h
      → MayElapse seen t bursts tallies (with_answers v j) most h
  elapse_kept t bursts tallies j v most h may = record {
    at_state = may.at_state;
    stays = may.stays;
    standing = may.standing;
    noted = may.noted;
    early = may.early;
    short = may.short;
  }

  elapse_spared : (t : Tree V P) (bursts : Bursts) (tallies : Stays) (j : Journal) (v : Vec Answer) (most : ℕ)
      (h : Hierarchy) → MayElapse seen t bursts tallies (with_answers v j) most h
      → MayElapse seen t bursts tallies j most h
  elapse_spared t bursts tallies j v most h may = record {
    at_state = may.at_state;
    stays = may.stays;
    standing = may.standing;
    noted = may.noted;
    early = may.early;
    short = may.short;
  }

  pub stands_spared : (t : Tree V P) (bursts : Bursts) (tallies : Stays) (j : Journal) (v : Vec Answer)
      (most : ℕ) → Stands seen t (MayElapse seen t bursts tallies (with_answers v j) most)
      → Stands seen t (MayElapse seen t bursts tallies j most)
  stands_spared t bursts tallies j v most stands = record {
    h = stands.h;
    tree = stands.tree;
    seated = stands.seated;
    listed = stands.listed;
    is = elapse_spared t bursts tallies j v most stands.h stands.is;
  }

  pub elapses_kept : (old new : Tree V P) (before after : Bursts) (was tallies : Stays) (j : Journal)
      (v : Vec Answer) (path : Option Path) (most n : ℕ)
      → ((h : Hierarchy) → MayElapse seen old before was j most h → Elapses seen new after tallies j h path n)
      → (h : Hierarchy) → MayElapse seen old before was (with_answers v j) most h
      → Elapses seen new after tallies (with_answers v j) h path n
  elapses_kept old new before after was tallies j v path most n elapses h may =
      let e = elapses h (elapse_spared old before was j v most h may) in
      record {
        asking = e.asking;
        masks = e.masks;
        path = e.path;
        is = e.is;
        names = e.names;
        way = way_kept j v path e.way;
        ready = e.ready;
        left = e.left;
        stays = e.stays;
      }

-- ---- a core that has kept all its answers

-- V and P are what the checker knows a box by, and W, Q and X a rule
module _ {V W : Type 0} {P : V → Type 0} {Q : W → Type 0}
    {X : Mut ((x : W) × Q x) (Guarantee × (Guarantee × Unit {0})) (Option Guarantee)}
    (seen : (x : V) × P x → Seen) where
  pub whole_goes_on : (c : Core V W P Q X) → Runs seen c → MayGoOn seen c
  whole_goes_on c runs = record {
    answers = c.journal.answers;
    s = runs.s;
    given = runs.given;
    boxes = runs.boxes;
    is = runs.is;
    fewer = omega arith;
    room = omega arith;
  }

  pub whole_stays : (old new : Core V W P Q X) (s : Scenario) (given : ℕ) (boxes : Boxes) → StaysOn seen old new
      → new.journal.answers ≡ old.journal.answers → IsCoreOf seen old s given boxes → IsCoreOf seen new s given boxes
  whole_stays old new s given boxes on same is =
      subst (λ (v : Vec Answer). IsCoreOf seen (keeping v new) s given boxes) (sym same)
      (on old.journal.answers s given boxes is)

  pub whole_carried : {E : Type 0} (result : Result Bool E) (old new : Core V W P Q X)
      → IfOk result (λ carried. carried ≡ true → GoesOn seen old new)
      → IfOk result (λ carried. carried ≡ false → new ≡ old) → OnErr result (StaysOn seen old new)
      → OnErr result (new.journal ≡ old.journal) → (s : Scenario) (given : ℕ) (boxes : Boxes)
      → IsCoreOf seen old s given boxes → IsCoreOf seen new s given boxes
  whole_carried (Ok true) old new on same stays still s given boxes is =
      let goes = on refl in
      goes.is old.journal.answers new.journal.answers s given boxes goes.noted goes.room is
  whole_carried (Ok false) old new on same stays still s given boxes is =
      subst (λ (c : Core V W P Q X). IsCoreOf seen c s given boxes) (sym (same refl)) is
  whole_carried (Err e) old new on same stays still s given boxes is =
      whole_stays old new s given boxes stays (ap (λ (j : Journal). j.answers) still) is

  pub one_more : {E : Type 0} (result : Result Bool E) (old new : Core V W P Q X)
      → IfOk result (λ carried. carried ≡ true → GoesOn seen old new)
      → IfOk result (λ carried. carried ≡ true → HasOneMore old new)
  one_more (Ok b) old new on = λ is.
      let goes = on is in
      record { answer = goes.answer; answers = goes.noted; next = goes.agenda }
  one_more (Err e) old new on = tt

-- what holds anyway holds where there is a fault
pub on_fault : {T E X : Type 0} (result : Result T E) → X → OnErr result X
on_fault (Ok t) x = tt
on_fault (Err e) x = x
