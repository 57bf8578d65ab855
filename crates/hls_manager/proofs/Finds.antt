-- What a lookup of a name tells of the answer.
use Rattle.std.proofs.Common.{◌≡◌, ◌≢◌, ℕ, List, [], Option, Some, None, refl, sym, ap, ◌∙◌, ◌≤◌, arith, subst}
use Rattle.std.specs.Prelude.{option_and_then}
use Rattle.hls_text.specs.Lines.{Text}
use Rattle.hls_scenario.specs.declared.scenario.Command.{Command}
use Rattle.hls_scenario.specs.declared.scenario.Command.TheVariants as said
use Rattle.hls_report_text.specs.declared.refusal.Refusal.{Refusal}
use Rattle.hls_report_text.specs.declared.refusal.Refusal.TheVariants.{NoSuchName, WrongSort, NotEmpty}
use Rattle.hls_report_text.specs.declared.report.Answer.TheVariants.{Done, Refused}
use Rattle.hls_machine.specs.Hierarchy.{Hierarchy, Node, Loaded, Admitted, Scheduler, name_of}
use Rattle.hls_machine.specs.Legal.{IsThread}
use Rattle.hls_machine.specs.Lists.{IsListed}
use Rattle.hls_legal.specs.Tells.{HasName}
use Rattle.hls_legal.specs.Moment.{Moment, node_of, number_of, NamesScheduler, NamesThread}
use Rattle.hls_legal.specs.Dues.{Due, dues, AreSettled}
use Rattle.hls_legal.specs.Refusals.{IsOfWrongSort, IsNotEmpty, seats_taken}
use Rattle.hls_legal.specs.Answers.{IsAnswer}
use Rattle.hls_legal.proofs.Found.{found_named, named_is}
use Rattle.hls_chron.specs.declared.plain.Kind.{Kind}
use Rattle.hls_tree.specs.declared.seat.Sort.TheVariants as sorts
use Rattle.hls_tree.specs.Reads.{IsLoaded, IsSort}
use Rattle.hls_manager.specs.Finds.{IsNoScheduler, IsOfThread}
use Rattle.hls_manager.proofs.Plain.{IsPlain, ends, wakes, blocks, unloads, unknown, wrong, full, none}

-- nobody has a name
pub nobody : (h : Hierarchy) (name : Text) → ((id : ℕ) → name_of (h.nodes id) ≢ Some name) → node_of h name ≡ None
nobody h name free = by (number_of h name) refl
  where
    by : (k : Option ℕ) → number_of h name ≡ k → node_of h name ≡ None
    by None e = ap (option_and_then h.nodes) e
    by (Some k) e = absurd (free k (found_named h name k e))

-- the sort of a node
pub named_scheduler : (h : Hierarchy) → IsListed h → (id : ℕ) (name : Text) → HasName h id name
    → IsLoaded (h.nodes id) → NamesScheduler h name
named_scheduler h listed id name has is =
    record { scheduler = is.scheduler; there = named_is h listed id name has ∙ is.there }

pub named_thread : (h : Hierarchy) → IsListed h → (id : ℕ) (name : Text) → HasName h id name
    → IsThread (h.nodes id) → NamesThread h name
named_thread h listed id name has is =
    record { thread = is.thread; there = named_is h listed id name has ∙ is.there }

pub no_scheduler_by_none : (h : Hierarchy) (name : Text) → ((id : ℕ) → name_of (h.nodes id) ≢ Some name)
    → IsNoScheduler h name (NoSuchName name)
no_scheduler_by_none h name free = (refl, nobody h name free)

pub no_scheduler_by_thread : (h : Hierarchy) → IsListed h → (id : ℕ) (name : Text) → HasName h id name
    → IsThread (h.nodes id) → IsNoScheduler h name (WrongSort (Some name))
no_scheduler_by_thread h listed id name has is = (refl, named_thread h listed id name has is)

-- the sort that the tree tells
pub sort_thread : (node : Option Node) → IsSort node sorts.Thread → IsThread node
sort_thread None is = absurd is
sort_thread (Some (Loaded s)) is = absurd is
sort_thread (Some (Admitted t)) is = record { thread = t; there = refl }

pub sort_sched : (node : Option Node) (kind : Kind) → IsSort node (sorts.Sched kind) → IsLoaded node
sort_sched None kind is = absurd is
sort_sched (Some (Loaded s)) kind is = record { scheduler = s; there = refl }
sort_sched (Some (Admitted t)) kind is = absurd is

-- ---- ends, wakes and blocks

plain_of : (h : Hierarchy) (command : Command) (name : Text) → IsOfThread command name → IsPlain h command name
plain_of h (said.End other) name e = subst (λ (n : Text). IsPlain h (said.End other) n) e (ends h other)
plain_of h (said.Wake other every burst) name e =
    subst (λ (n : Text). IsPlain h (said.Wake other every burst) n) e (wakes h other every burst)
plain_of h (said.Block other) name e = subst (λ (n : Text). IsPlain h (said.Block other) n) e (blocks h other)
plain_of h _ name e = absurd e

wrong_of : (h : Hierarchy) (command : Command) (name : Text) → IsOfThread command name → NamesScheduler h name
    → IsOfWrongSort h command name
wrong_of h (said.End other) name e is = is
wrong_of h (said.Wake other every burst) name e is = is
wrong_of h (said.Block other) name e is = is
wrong_of h _ name e is = absurd e

not_wrong : (h : Hierarchy) (command : Command) (name : Text) → IsOfThread command name → NamesThread h name
    → ¬ IsOfWrongSort h command name
not_wrong h (said.End other) name e is f = (let a = is.there in let b = f.there in cc)
not_wrong h (said.Wake other every burst) name e is f = (let a = is.there in let b = f.there in cc)
not_wrong h (said.Block other) name e is f = (let a = is.there in let b = f.there in cc)
not_wrong h _ name e is f = e

no_unload : (command : Command) (name other : Text) → IsOfThread command name → ¬ (command ≡ said.Unload other)
no_unload (said.End a) name other e f = cc
no_unload (said.Wake a every burst) name other e f = cc
no_unload (said.Block a) name other e f = cc
no_unload _ name other e f = e

pub settled_none : (depth : ℕ) (ds : List Due) → ds ≡ [] → AreSettled depth ds []
settled_none depth ds e = subst (λ (d : List Due). AreSettled depth d []) (sym e) tt

module _ (m : Moment) (command : Command) (name : Text) (of : IsOfThread command name) where
  abbrev h : Hierarchy
  h = m.hierarchy

  pub thread_unknown : ((id : ℕ) → name_of (h.nodes id) ≢ Some name)
      → IsAnswer m command (Refused (NoSuchName name))
  thread_unknown free = unknown m command name (plain_of h command name of) (nobody h name free)

  module _ (listed : IsListed h) (id : ℕ) (has : HasName h id name) where
    pub thread_wrong : IsLoaded (h.nodes id) → IsAnswer m command (Refused (WrongSort (Some name)))
    thread_wrong is =
        let names = named_scheduler h listed id name has is in
        wrong m command name (plain_of h command name of) (Loaded names.scheduler) names.there
        (wrong_of h command name of names)

    pub thread_done : IsThread (h.nodes id) → IsAnswer m command (Done [])
    thread_done is =
        let names = named_thread h listed id name has is in
        let plain = plain_of h command name of in
        record {
          none = none m command name plain (Admitted names.thread) names.there (not_wrong h command name of names)
              (λ seats f. no_unload command name name of f.unloads);
          settled = settled_none m.depth (dues h command) plain.settles;
        }

-- ---- unloads

module _ (m : Moment) (name : Text) where
  abbrev held : Hierarchy
  held = m.hierarchy

  abbrev command_is : Command
  command_is = said.Unload name

  pub unload_unknown : node_of held name ≡ None → IsAnswer m command_is (Refused (NoSuchName name))
  unload_unknown free = unknown m command_is name (unloads held name) free

  pub unload_wrong : NamesThread held name → IsAnswer m command_is (Refused (WrongSort (Some name)))
  unload_wrong is = wrong m command_is name (unloads held name) (Admitted is.thread) is.there is

  refused_by : (r : Refusal) → IsNoScheduler held name r → IsAnswer m command_is (Refused r)
  refused_by (NoSuchName other) f =
      subst (λ (n : Text). IsAnswer m command_is (Refused (NoSuchName n))) (sym f.0) (unload_unknown f.1)
  refused_by (WrongSort (Some other)) f =
      subst (λ (n : Text). IsAnswer m command_is (Refused (WrongSort (Some n)))) (sym f.0) (unload_wrong f.1)
  refused_by (WrongSort None) f = absurd f
  refused_by _ f = absurd f

  pub unload_refused : (r : Refusal) → IsNoScheduler held name r → IsAnswer m command_is (Refused r)
  unload_refused r f = refused_by r f

  module _ (is : NamesScheduler held name) where
    right : ¬ IsOfWrongSort held command_is name
    right f = (let a = is.there in let b = f.there in cc)

    pub unload_full : (seats : ℕ) → seats ≡ seats_taken is.scheduler.book → 1 ≤ seats
        → IsAnswer m command_is (Refused (NotEmpty name seats))
    unload_full seats e some =
        full m command_is name (unloads held name) (Loaded is.scheduler) is.there right seats
        (record { unloads = refl; place = is; seats_are = e; some = some })

    empty_by : seats_taken is.scheduler.book ≡ 0 → (seats : ℕ) → ¬ IsNotEmpty held command_is name seats
    empty_by e seats f =
        let a = is.there in
        let b = f.place.there in
        let same : f.place.scheduler ≡ is.scheduler = cc in
        let count = f.seats_are ∙ ap (λ (s : Scheduler). seats_taken s.book) same ∙ e in
        let some = f.some in
        omega (arith, count, some)

    pub unload_done : seats_taken is.scheduler.book ≡ 0 → IsAnswer m command_is (Done [])
    unload_done e = record {
      none = none m command_is name (unloads held name) (Loaded is.scheduler) is.there right (empty_by e);
      settled = tt;
    }
