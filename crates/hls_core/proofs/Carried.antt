-- What commands leave of a tree and of bursts.
use Rattle.std.proofs.lemmas.Bool.{cases_eq}
use Rattle.std.proofs.Common.{◌≡◌, ◌≢◌, ℕ, inl, inr, ◌⊎◌, [], Option, Bool, true}
use Rattle.std.proofs.Common.{false, cond, Some, None, ◌+◌, ◌<◌, ◌≤◌, ◌^◌, refl, sym, ap, ◌∙◌, subst, arith, length}
use Rattle.std.specs.Prelude.{Result, Ok, Err, IfOk, OnErr, slice_index}
use Rattle.std.proofs.lemmas.List.{length-map}
use Rattle.hls_text.specs.Lines.{Text}
use Rattle.hls_scenario.specs.declared.scenario.Command.{Command}
use Rattle.hls_scenario.specs.declared.scenario.Command.TheVariants as said
use Rattle.hls_scenario.specs.Grammar.{IsWaking}
use Rattle.hls_report_text.specs.declared.refusal.Refusal.{Refusal}
use Rattle.hls_report_text.specs.declared.report.Answer.{Answer}
use Rattle.hls_report_text.specs.declared.report.Answer.TheVariants.{Done, Refused}
use Rattle.hls_report_text.specs.WellFormed as formed
use Rattle.hls_sched.specs.Seen.{Seen}
use Rattle.hls_sched.specs.GoodKit.{boxes_of, place_of}
use Rattle.hls_sched.specs.declared.kit.Kit.{Kit}
use Rattle.hls_sched.specs.Boxed.{boxed}
use Rattle.hls_machine.specs.Hierarchy.{Hierarchy, Wake, Asleep}
use Rattle.hls_machine.specs.Steps.{Refuse, Rouse, with_wake, wake_by}
use Rattle.hls_machine.specs.Steps as steps
use Rattle.hls_machine.specs.Legal.{IsThread, IsReached}
use Rattle.hls_machine.specs.Lists.{IsListed}
use Rattle.hls_legal.specs.Tells.{HasName, burst_of}
use Rattle.hls_legal.specs.Moment.{Boxes, Moment}
use Rattle.hls_legal.specs.Answers.{IsAnswer}
use Rattle.hls_tree.specs.Kits.{IsSameKit}
use Rattle.hls_tree.specs.Trees.{IsTreeOf, IsAsBefore, Stands, ready_of}
use Rattle.hls_tree.specs.declared.tree.Tree.{Tree}
use Rattle.hls_chron.specs.declared.plain.Kind.{Kind}
use Rattle.hls_core_stays.specs.Turnovers.{IsTurnover}
use Rattle.hls_core_stays.specs.declared.stays.Stays.{Stays}
use Rattle.hls_core_stays.specs.declared.turnover.Turnover.{Turnover}
use Rattle.hls_core.specs.Begun.{begun_by}
use Rattle.hls_core.specs.Bursts.{begun_in}
use Rattle.hls_core.specs.declared.begun.Begun.{Begun}
use Rattle.hls_core.specs.declared.bursts.Bursts.{Bursts}
use Rattle.hls_manager.specs.Outcomes as manager
use Rattle.hls_manager.specs.Outcomes.{boxes_in, moment}
use Rattle.hls_manager.specs.Finds.{IsOfThread}
use Rattle.hls_manager.proofs.Outcomes.{reached_listed}
use Rattle.hls_core.specs.Standing.{IsAt}
use Rattle.hls_core.specs.Inside.Outcomes.{IsOfSeats, CarriesOut, MayCarry, ends}
use Rattle.hls_core.proofs.Seats.{seats_left}
use Rattle.hls_core.proofs.Readiness.{same_left, left_woken, ready_woken, left_blocked, ready_blocked}

pub on_err : {A E : Type 0} (r : Result A E) (F : Type 0) → F → OnErr r F
on_err (Ok x) F f = tt
on_err (Err e) F f = f

pub all_left : (begun new : ℕ → Option Begun) (id : ℕ) → new id ≡ begun id → ((k : ℕ) → k ≢ id → new k ≡ begun k)
    → (k : ℕ) → new k ≡ begun k
all_left begun new id here others k = by (cases_eq k id)
  where
    by : (k ≡ id) ⊎ (k ≢ id) → new k ≡ begun k
    by (inl same) = ap new same ∙ here ∙ sym (ap begun same)
    by (inr other) = others k other

-- a done answer without seats is well formed
pub formed_none : (command : Command) (answer : Answer) → answer ≡ Done [] → formed.MayAnswer command answer
formed_none command answer done = subst (λ (a : Answer). formed.MayAnswer command a) (sym done) tt

pub same_boxes : (one other : Boxes) → ((kind : Kind) → one.left kind ≡ other.left kind)
    → ((kind : Kind) → one.used kind ≡ other.used kind) → one ≡ other
same_boxes one other left used = λ i. record { left = λ kind. left kind i; used = λ kind. used kind i }

period_few : (every burst : Option ℕ) → IsWaking 2 every burst → (period : ℕ) → every ≡ Some period → period ≤ 100000
period_few None burst waking period e = absurd (cc)
period_few (Some one) None waking period e = absurd waking
period_few (Some one) (Some ticks) waking period e =
    let within = waking.1 in
    let few = within.1 in
    let same : one ≡ period = cc in omega (arith, few, same)

-- V and P are what the checker knows a box by
module _ {V : Type 0} {P : V → Type 0} (seen : (x : V) × P x → Seen) where
  pub refused : (t : Tree V P) (bursts : Bursts) (command : Command) (name : Text) (r : Refusal)
      → IsOfThread command name
      → ((m : Moment) (command : Command) → IsTreeOf seen t m.hierarchy → IsListed m.hierarchy
      → IsOfThread command name → IsAnswer m command (Refused r))
      → (m : Moment) (commands : ℕ) → IsAt seen t bursts m.hierarchy
      → CarriesOut seen t t bursts m commands command (Refused r)
  refused t bursts command name r of answers m commands is = record {
    out = record {
      answers = answers m command is.tree (reached_listed m.hierarchy is.reached) of;
      step = Refuse;
      does = refl;
      can = tt;
      roomy = tt;
      tree = is.tree;
      ready = λ ready. ready;
    };
    left = is.left;
  }

  -- a thread was found by its name, and its flag was set
  pub record IsFlagged (old new : Tree V P) (id : ℕ) (name : Text) (ready : Bool) : Type 0 where
    pub found : (h : Hierarchy) → IsTreeOf seen old h → HasName h id name × IsThread (h.nodes id)
    pub done : (m : Moment) (command : Command) → IsTreeOf seen old m.hierarchy → IsListed m.hierarchy
        → IsOfThread command name → IsAnswer m command (Done [])
    pub woken : (h : Hierarchy) (how : Wake) → IsTreeOf seen old h → IsTreeOf seen new (with_wake h id how)
    pub set : ready_of seen new id ≡ ready
    pub others : (k : ℕ) → k ≢ id → ready_of seen new k ≡ ready_of seen old k

  pub woken : (old new : Tree V P) (bursts later : Bursts) (id : ℕ) (name : Text) (every burst : Option ℕ) (now : ℕ)
      → IsWaking 2 every burst → IsFlagged old new id name true
      → ((h : Hierarchy) → IsTreeOf seen old h → now ≡ h.now) → begun_in later id ≡ begun_by every burst now
      → ((k : ℕ) → k ≢ id → begun_in later k ≡ begun_in bursts k) → (answer : Answer) → answer ≡ Done []
      → (m : Moment) (commands : ℕ) → IsAt seen old bursts m.hierarchy
      → CarriesOut seen old new later m commands (said.Wake name every burst) answer
  woken old new bursts later id name every burst now waking flagged at_now begun rest answer done m commands is =
      let found = flagged.found m.hierarchy is.tree in
      subst (CarriesOut seen old new later m commands (said.Wake name every burst)) (sym done) (record {
        out = record {
          answers = flagged.done m (said.Wake name every burst) is.tree (reached_listed m.hierarchy is.reached) refl;
          step = Rouse id (burst_of every burst);
          does = (found.0, refl);
          can = found.1;
          roomy = tt;
          tree = flagged.woken m.hierarchy (wake_by (burst_of every burst) m.hierarchy.now) is.tree;
          ready = λ ready. ready_woken (ready_of seen old) (ready_of seen new) m.hierarchy id every burst waking ready
              flagged.set flagged.others;
        };
        left = left_woken (begun_in bursts) (begun_in later) m.hierarchy id every burst waking found.1 is.left
            (begun ∙ ap (begun_by every burst) (at_now m.hierarchy is.tree)) rest;
      })

  -- the first release behind a wake has a number of 32 bits
  pub wake_fits : (t : Tree V P) (bursts : Bursts) (stays : Stays) (every burst : Option ℕ) (now : ℕ)
      → IsWaking 2 every burst → Stands seen t (MayCarry seen t bursts stays)
      → ((h : Hierarchy) → IsTreeOf seen t h → now ≡ h.now)
      → (period : ℕ) → every ≡ Some period → now + period < 2 ^ 32
  wake_fits t bursts stays every burst now waking x at_now period e =
      let here = at_now x.h x.tree in
      let tick = x.tree.of.now in
      let within = x.tree.of.within in
      let short = x.is.short in
      let few = period_few every burst waking period e in omega (arith, here, tick, within, short, few)

  pub blocked : (old new : Tree V P) (bursts later : Bursts) (id : ℕ) (name : Text) → IsFlagged old new id name false
      → begun_in later id ≡ None → ((k : ℕ) → k ≢ id → begun_in later k ≡ begun_in bursts k)
      → (answer : Answer) → answer ≡ Done [] → (m : Moment) (commands : ℕ) → IsAt seen old bursts m.hierarchy
      → CarriesOut seen old new later m commands (said.Block name) answer
  blocked old new bursts later id name flagged none rest answer done m commands is =
      let found = flagged.found m.hierarchy is.tree in
      subst (CarriesOut seen old new later m commands (said.Block name)) (sym done) (record {
        out = record {
          answers = flagged.done m (said.Block name) is.tree (reached_listed m.hierarchy is.reached) refl;
          step = steps.Block id;
          does = found.0;
          can = found.1;
          roomy = tt;
          tree = flagged.woken m.hierarchy Asleep is.tree;
          ready = λ ready. ready_blocked (ready_of seen old) (ready_of seen new) m.hierarchy id ready flagged.set
              flagged.others;
        };
        left = left_blocked (begun_in bursts) (begun_in later) m.hierarchy id found.1 is.left none rest;
      })

  -- what the manager carries out keeps what is left of bursts, but for that of a thread that was ended
  pub managed : (old new : Tree V P) (bursts later : Bursts) (m : Moment) (commands : ℕ) (command : Command)
      (answer : Answer) (turnover : Turnover) → IsOfSeats command → IsAt seen old bursts m.hierarchy
      → IsTurnover m.hierarchy command turnover
      → ((k : ℕ) → begun_in later k ≡ cond (ends turnover answer k) None (begun_in bursts k))
      → manager.CarriesOut seen old new m commands command answer
      → CarriesOut seen old new later m commands command answer
  managed old new bursts later m commands command answer turnover of is turns kept out = record {
    out = out;
    left = seats_left (begun_in bursts) (begun_in later) m.hierarchy command answer out.step turnover
        (reached_listed m.hierarchy is.reached) of out.does out.can turns kept is.left;
  }

  pub unmoved : (t : Tree V P) (bursts later : Bursts) (h : Hierarchy) → ((k : ℕ) → begun_in later k ≡ begun_in
      bursts k)
      → IsAt seen t bursts h → IsAt seen t later h
  unmoved t bursts later h same is = record {
    tree = is.tree;
    ready = is.ready;
    left = same_left (begun_in bursts) (begun_in later) h same is.left;
    reached = is.reached;
  }

  pub as_before : (old new : Tree V P) (bursts : Bursts) (h : Hierarchy) → IsAsBefore seen old new
      → IsAt seen old bursts h → IsAt seen new bursts h
  as_before old new bursts h same is = record {
    tree = same.tree h is.tree;
    ready = λ k t there. is.ready k t there ∙ sym (same.ready k);
    left = is.left;
    reached = is.reached;
  }

  -- the boxes of a kit that is as it was
  pub kit_boxes : (old new : Kit V P) → IsSameKit (boxed seen) old new → boxes_in new ≡ boxes_in old
  kit_boxes old new same =
      same_boxes (boxes_in new) (boxes_in old)
      (λ kind. sym (length-map (boxes_of kind new) (boxed seen)) ∙ ap length (same.boxes kind)
      ∙ length-map (boxes_of kind old) (boxed seen))
      (λ kind. ap (λ used. slice_index used (place_of kind)) same.used)

  pub same_kit : (kit : Kit V P) → IsSameKit (boxed seen) kit kit
  same_kit kit = record { boxes = λ kind. refl; used = refl }

  pub at_depth : {E : Type 0} (old new : Tree V P) (kit : Kit V P) (depth commands : ℕ) (command : Command)
      (r : Result Answer E)
      → IfOk r (λ answer. (m : Moment) (commands : ℕ) → m.depth ≡ depth → IsTreeOf seen old m.hierarchy
      → IsReached m.hierarchy → manager.CarriesOut seen old new m commands command answer)
      → IfOk r (λ answer. (h : Hierarchy) → IsTreeOf seen old h → IsReached h
      → manager.CarriesOut seen old new (moment h kit depth) commands command answer)
  at_depth old new kit depth commands command (Ok answer) carried = λ h tree reached.
      carried (moment h kit depth) commands refl tree reached
  at_depth old new kit depth commands command (Err e) carried = tt

  pub at_moment : {E : Type 0} (old new : Tree V P) (bursts later : Bursts) (kit : Kit V P) (depth commands : ℕ)
      (command : Command) (r : Result Answer E)
      → IfOk r (λ answer. (m : Moment) (commands : ℕ) → IsAt seen old bursts m.hierarchy
      → CarriesOut seen old new later m commands command answer)
      → IfOk r (λ answer. (h : Hierarchy) → IsAt seen old bursts h
      → CarriesOut seen old new later (moment h kit depth) commands command answer)
  at_moment old new bursts later kit depth commands command (Ok answer) carried = λ h is.
      carried (moment h kit depth) commands is
  at_moment old new bursts later kit depth commands command (Err e) carried = tt
