-- Commands and runs, tick by tick.
use Rattle.std.proofs.Common.{◌≡◌, ℕ, zero, suc, ◌+◌, ◌<◌, ◌≤◌, List, [], ◌∷◌, inl, inr}
use Rattle.std.proofs.Common.{refl, sym, ap, ◌∙◌, subst, arith, cond, length, get_or, take, map}
use Rattle.std.specs.Prelude.{Bool, Option, Some, None, nat_le, slice_get, filter, option_map, min}
use Rattle.std.proofs.lemmas.Bool.{cases_eq, cases_lt, le-leb, lt-leb}
use Rattle.std.proofs.lemmas.List.Sums.{fold_more}
use Rattle.std.proofs.lemmas.Option.{slice_get_read, slice_get_within, get_or_from_slice_get, slice_get_cases}
use Rattle.hls_text.specs.Lines.{Text}
use Rattle.hls_report_text.specs.declared.report.Answered.{Answered}
use Rattle.hls_report_text.specs.declared.report.Run.{Run}
use Rattle.hls_report_text.specs.declared.stretch.Stretch.{Stretch}
use Rattle.hls_report_text.specs.Content.{Content, path_names, stretch_of}
use Rattle.hls_report_text.specs.WellFormed.{Cover, IsContent}
use Rattle.hls_legal.specs.Schedule.{path_at}
use Rattle.hls_audit_clauses.specs.declared.member.Member.{Member}
use Rattle.hls_audit_clauses.specs.Names.{after_answer, tree_of, tree_at}
use Rattle.hls_audit_clauses.specs.Ways.{leads_down}
use Rattle.hls_audit_clauses.specs.Clauses.{IsAstray}
use Rattle.hls_audit_threads.specs.Inside.Order.{AreInOrder}
use Rattle.hls_audit.specs.Inside.Leading.{IsAbreast, IsReached, tick_or, end_or}
use Rattle.hls_audit_threads.proofs.RunLaws.{run_since, run_next, path_is, one_run}

-- ---- commands

-- within a tick, of whose commands some may be still to come
pub record IsUnderway (all : List Answered) (t next : ℕ) (tree : List Member) : Type 0 where
  pub within : next ≤ length all
  pub tree_is : tree ≡ tree_of (take next all)
  pub before : (k : ℕ) (a : Answered) → k < next → slice_get all k ≡ Some a → a.tick ≤ t

pub abreast_none : (all : List Answered) (tree : List Member) → tree ≡ [] → IsAbreast all 0 0 tree
abreast_none all tree e = record {
  within = omega arith;
  tree_is = e;
  before = λ k a lt there. absurd (omega (arith, lt));
  behind = λ k a le there. omega arith;
}

pub underway : (all : List Answered) (t next : ℕ) (tree : List Member) → IsAbreast all t next tree
    → IsUnderway all t next tree
underway all t next tree so_far = record {
  within = so_far.within;
  tree_is = so_far.tree_is;
  before = λ k a lt there. let early = so_far.before k a lt there in omega (arith, early);
}

pub underway_more : (all : List Answered) (t next : ℕ) (a : Answered) (tree more : List Member) → next < length all
    → a ≡ get_or all next a → a.tick ≤ t → more ≡ after_answer tree a → IsUnderway all t next tree
    → IsUnderway all t (next + 1) more
underway_more all t next a tree more lt e early step so_far = record {
  within = omega (arith, lt);
  tree_is = step ∙ ap (λ (t : List Member). after_answer t a) so_far.tree_is
      ∙ ap (after_answer (tree_of (take next all))) e ∙ sym (fold_more after_answer [] all next a lt);
  before = λ k b less there. elim (cases_eq k next) [
    | inl same ↦
        let at : slice_get all next ≡ Some b = subst (λ n. slice_get all n ≡ Some b) same there in
        let one : a ≡ b = e ∙ get_or_from_slice_get all next b a at in
        subst (λ (x : Answered). x.tick ≤ t) one early
    | inr ne ↦ so_far.before k b (omega arith) there
  ];
}

pub abreast_at : (all : List Answered) (t next : ℕ) (a : Answered) (tree : List Member) → AreInOrder all
    → next < length all → a ≡ get_or all next a → t < a.tick → IsUnderway all t next tree
    → IsAbreast all (t + 1) next tree
abreast_at all t next a tree order lt e late so_far = record {
  within = omega (arith, lt);
  tree_is = so_far.tree_is;
  before = λ k b less there. let early = so_far.before k b less there in omega (arith, early);
  behind = λ k b le there.
      let first : slice_get all next ≡ Some a = slice_get_read all (length all) next a refl lt e in
      let later = order next k a b le first there in omega (arith, later, late);
}

pub abreast_all : (all : List Answered) (t next end : ℕ) (tree : List Member) → end ≡ length all → end ≤ next
    → IsUnderway all t next tree → IsAbreast all (t + 1) end tree
abreast_all all t next end tree e le so_far =
    let within = so_far.within in
    subst (λ (n : ℕ). IsAbreast all (t + 1) n tree) (let same : next ≡ end = omega (arith, within, e, le) in same)
    (record {
      within = within;
      tree_is = so_far.tree_is;
      before = λ k b less there. let early = so_far.before k b less there in omega (arith, early);
      behind = λ k b more there.
          let lt = slice_get_within all k b there in absurd (omega (arith, lt, le, e, more));
    })

up_to : (t next : ℕ) (all : List Answered)
    → ((k : ℕ) (a : Answered) → k < next → slice_get all k ≡ Some a → a.tick ≤ t)
    → ((k : ℕ) (a : Answered) → next ≤ k → slice_get all k ≡ Some a → t < a.tick)
    → filter (λ (a : Answered). nat_le a.tick t) all ≡ take next all
up_to t zero [] before behind = refl
up_to t (suc next) [] before behind = refl
up_to t zero (a ∷ all) before behind =
    ap (λ (b : Bool). cond b (a ∷ filter (λ (a : Answered). nat_le a.tick t) all)
    (filter (λ (a : Answered). nat_le a.tick t) all)) (lt-leb a.tick t (behind 0 a (omega arith) refl))
    ∙ up_to t zero all (λ k b lt. absurd (omega (arith, lt))) (λ k b le. behind (suc k) b (omega arith))
up_to t (suc next) (a ∷ all) before behind =
    ap (λ (b : Bool). cond b (a ∷ filter (λ (a : Answered). nat_le a.tick t) all)
    (filter (λ (a : Answered). nat_le a.tick t) all)) (le-leb a.tick t (before 0 a (omega arith) refl))
    ∙ ap (λ (l : List Answered). a ∷ l)
    (up_to t next all (λ k b lt. before (suc k) b (omega (arith, lt))) (λ k b le. behind (suc k) b (omega (arith, le))))

-- the tree is that of the tick
pub tree_here : (all : List Answered) (t then next : ℕ) (tree : List Member) → then ≡ t + 1
    → IsAbreast all then next tree → tree ≡ tree_at t all
tree_here all t then next tree e so_far =
    so_far.tree_is ∙ sym (ap tree_of (up_to t next all
    (λ k a lt there. let early = so_far.before k a lt there in omega (arith, early, e))
    (λ k a le there. let late = so_far.behind k a le there in omega (arith, late, e))))

-- ---- what a step of the audit does

-- the path of a tick that a run has
pub path_reached : (c : Content) (names : List Text) (runs items : List Run) (t at : ℕ) (run : Run) → IsContent c
    → c.stretches ≡ map (stretch_of names) runs → items ≡ runs → Some run ≡ slice_get items at
    → IsReached runs (t + 1) at → path_at c.stretches t ≡ option_map (path_names names) run.path
path_reached c names runs items t at run formed e same found reached =
    let one : reached.run ≡ run =
    one_run reached.run run (sym reached.there ∙ ap (λ (l : List Run). slice_get l at) (sym same) ∙ sym found) in
    let since = reached.since in
    let until = reached.until in
    path_is c names runs t at reached.run formed e reached.there (omega (arith, since)) (omega (arith, until))
    ∙ ap (λ (x : Run). option_map (path_names names) x.path) one

pub unreached : (runs items : List Run) (t at : ℕ) → items ≡ runs → length items ≤ at → IsReached runs t at → ⊥
unreached runs items t at same past reached =
    let lt = slice_get_within runs at reached.run reached.there in
    let le : length runs ≤ at = subst (λ (l : List Run). length l ≤ at) same past in omega (arith, lt, le)

-- the run at a place, as it is read
pub read_at : (items : List Run) (at : ℕ) (run : Run) → at < length items → run ≡ get_or items at run
    → Some run ≡ slice_get items at
read_at items at run lt e = sym (slice_get_read items (length items) at run refl lt e)

pub reach_first : (c : Content) (names : List Text) (runs : List Run) → IsContent c
    → c.stretches ≡ map (stretch_of names) runs → IsReached runs 0 0
reach_first c names [] formed e =
    absurd (let some = formed.horizon.0 in
    let none : 0 ≡ c.horizon = subst (λ (l : List Stretch). Cover 0 None l c.horizon) e formed.cover in
    omega (arith, some, none))
reach_first c names (r ∷ runs) formed e =
    let cover = subst (λ (l : List Stretch). Cover 0 None l c.horizon) e formed.cover in
    let starts = cover.0 in
    record { run = r; there = refl; since = omega (arith, starts); until = omega arith }

-- the run goes on
pub reach_on : (runs items : List Run) (t at : ℕ) (run : Run) → items ≡ runs → Some run ≡ slice_get items at
    → t ≤ run.to → IsReached runs t at → IsReached runs (t + 1) at
reach_on runs items t at run same found le reached =
    let one : reached.run ≡ run =
    one_run reached.run run (sym reached.there ∙ ap (λ (l : List Run). slice_get l at) (sym same) ∙ sym found) in
    let since = reached.since in
    record {
      run = reached.run;
      there = reached.there;
      since = omega (arith, since);
      until = subst (λ (x : Run). t + 1 ≤ x.to + 1) (sym one) (omega (arith, le));
    }

-- the next run begins
pub reach_next : (c : Content) (names : List Text) (runs items : List Run) (t at : ℕ) (run : Run) → IsContent c
    → c.stretches ≡ map (stretch_of names) runs → items ≡ runs → Some run ≡ slice_get items at
    → t < c.horizon → run.to < t → IsReached runs t at → IsReached runs (t + 1) (at + 1)
reach_next c names runs items t at run formed e same found early past reached =
    let one : reached.run ≡ run =
    one_run reached.run run (sym reached.there ∙ ap (λ (l : List Run). slice_get l at) (sym same) ∙ sym found) in
    let until = reached.until in
    let over : reached.run.to < t = subst (λ (x : Run). x.to < t) (sym one) past in
    let cover = subst (λ (l : List Stretch). Cover 0 None l c.horizon) e formed.cover in
    let more = run_next names 0 None runs c.horizon at reached.run cover reached.there
    (omega (arith, until, over, early)) in
    let since = more.since in
    let ahead = (run_since names 0 None runs c.horizon (suc at) more.next cover more.there).1 in
    let here : suc at ≡ at + 1 = omega arith in
    record {
      run = more.next;
      there = subst (λ (n : ℕ). slice_get runs n ≡ Some more.next) here more.there;
      since = omega (arith, since, until, over);
      until = omega (arith, since, until, over, ahead);
    }

-- ---- from one tick on to the next at which a run begins or a command comes

-- no command comes in between
pub abreast_later : (all : List Answered) (t next later horizon : ℕ) (tree : List Member) → AreInOrder all → t ≤ later
    → later ≤ tick_or horizon (slice_get all next) → IsAbreast all t next tree → IsAbreast all later next tree
abreast_later all t next later horizon tree order le soon so_far = record {
  within = so_far.within;
  tree_is = so_far.tree_is;
  before = λ k a lt there. let early = so_far.before k a lt there in omega (arith, early, le);
  behind = λ k a more there. elim (slice_get_cases all next).1 [
    | inl found ↦
        let first = order next k found.0 a more found.2 there in
        let bound : later ≤ found.0.tick =
        subst (λ (o : Option Answered). later ≤ tick_or horizon o) found.2 soon in
        omega (arith, first, bound)
    | inr past ↦
        let lt = slice_get_within all k a there in
        let end = past.0 in absurd (omega (arith, lt, end, more))
  ];
}

-- nor does the run end
pub reached_later : (runs : List Run) (t at later horizon : ℕ) → t ≤ later
    → later ≤ end_or horizon (slice_get runs at) → IsReached runs t at → IsReached runs later at
reached_later runs t at later horizon le soon reached =
    let since = reached.since in record {
      run = reached.run;
      there = reached.there;
      since = omega (arith, since, le);
      until = subst (λ (o : Option Run). later ≤ end_or horizon o) reached.there soon;
    }

-- so nothing leads astray in between that does not at once
pub never_between : (c : Content) (names : List Text) (runs : List Run) (t next at later : ℕ) (tree : List Member)
    → IsContent c → AreInOrder c.answered → c.stretches ≡ map (stretch_of names) runs
    → later ≤ tick_or c.horizon (slice_get c.answered next) → later ≤ end_or c.horizon (slice_get runs at)
    → IsAbreast c.answered (t + 1) next tree → IsReached runs (t + 1) at → ¬ IsAstray c t
    → (k : ℕ) → t ≤ k → k < later → ¬ IsAstray c k
never_between c names runs t next at later tree formed order e calm lasts abreast reached none k lo hi now =
    let since = reached.since in
    let until = reached.until in
    let ends : later ≤ reached.run.to + 1 =
    subst (λ (o : Option Run). later ≤ end_or c.horizon o) reached.there lasts in
    let here = path_is c names runs k at reached.run formed e reached.there (omega (arith, since, lo))
    (omega (arith, ends, hi)) in
    let first = path_is c names runs t at reached.run formed e reached.there (omega (arith, since))
    (omega (arith, until)) in
    let still = abreast_later c.answered (t + 1) next (k + 1) c.horizon tree order (omega (arith, lo))
    (omega (arith, calm, hi)) abreast in
    let then : tree ≡ tree_at t c.answered = tree_here c.answered t (t + 1) next tree refl abreast in
    let after : tree ≡ tree_at k c.answered = tree_here c.answered k (k + 1) next tree refl still in
    none (record {
      names = now.names;
      path = first ∙ sym here ∙ now.path;
      astray = ap (λ (l : List Member). leads_down l now.names) (sym then ∙ after) ∙ now.astray;
    })

-- none up to there
pub none_until : (c : Content) (names : List Text) (runs : List Run) (t next at later : ℕ) (tree : List Member)
    → IsContent c → AreInOrder c.answered → c.stretches ≡ map (stretch_of names) runs
    → later ≤ tick_or c.horizon (slice_get c.answered next) → later ≤ end_or c.horizon (slice_get runs at)
    → IsAbreast c.answered (t + 1) next tree → IsReached runs (t + 1) at → ((k : ℕ) → k < t + 1 → ¬ IsAstray c k)
    → (k : ℕ) → k < later → ¬ IsAstray c k
none_until c names runs t next at later tree formed order e calm lasts abreast reached none k lt =
    elim (cases_lt k t) [
      | inl early ↦ none k (omega (arith, early))
      | inr late ↦ never_between c names runs t next at later tree formed order e calm lasts abreast reached
          (none t (omega arith)) k late lt
    ]

-- time goes on
pub moment_later : (all : List Answered) (runs : List Run) (t next at horizon : ℕ) (tree : List Member) → t < horizon
    → IsAbreast all (t + 1) next tree → IsReached runs (t + 1) at
    → t < min (tick_or horizon (slice_get all next)) (end_or horizon (slice_get runs at))
moment_later all runs t next at horizon tree lt abreast reached =
    let until = reached.until in
    let ends : t < end_or horizon (slice_get runs at) =
    subst (λ (o : Option Run). t < end_or horizon o) (sym reached.there) (omega (arith, until)) in
    let comes : t < tick_or horizon (slice_get all next) = elim (slice_get_cases all next).1 [
      | inl found ↦
          let late = abreast.behind next found.0 (omega arith) found.2 in
          subst (λ (o : Option Answered). t < tick_or horizon o) (sym found.2) (omega (arith, late))
      | inr past ↦ subst (λ (o : Option Answered). t < tick_or horizon o) (sym past.1) lt
    ] in
    omega (arith, ends, comes)
