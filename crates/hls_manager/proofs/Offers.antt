-- A thread that is offered a seat.
use Rattle.std.proofs.Common.{◌≡◌, ℕ, zero, suc, [], ◌∷◌, Option, Some, None, refl, sym, ap, ◌∙◌}
use Rattle.std.proofs.Common.{◌<◌, ◌≤◌, arith, subst, slice_get, length}
use Rattle.std.specs.Prelude.{IsSome, IfOk, OnOk}
use Rattle.std.specs.declared.result.Result.{Result}
use Rattle.std.specs.declared.result.Result.TheVariants.{Ok, Err}
use Rattle.hls_text.specs.Lines.{Text}
use Rattle.hls_chron.specs.declared.plain.Terms.{Terms}
use Rattle.hls_chron.specs.Name.{IsName}
use Rattle.hls_chron.specs.Ranges.{TermsInRange}
use Rattle.hls_guarantee.specs.declared.Guarantee.{Guarantee}
use Rattle.hls_guarantee.specs.Limits.{IsNarrow}
use Rattle.hls_derive.specs.declared.derivation.Derivation.{Derivation}
use Rattle.hls_scenario.specs.declared.scenario.Spot.{Spot}
use Rattle.hls_scenario.specs.declared.scenario.Spot.TheVariants.{Cpu, Under}
use Rattle.hls_scenario.specs.declared.scenario.Perch.{Perch}
use Rattle.hls_scenario.specs.declared.scenario.Command.TheVariants as said
use Rattle.hls_scenario.specs.Grammar.{IsCommand}
use Rattle.hls_report_text.specs.declared.refusal.Refusal.{Refusal}
use Rattle.hls_report_text.specs.declared.refusal.Refusal.TheVariants.{NameTaken, NoSuchName, WrongSort}
use Rattle.hls_report_text.specs.declared.refusal.Refusal.TheVariants.{TooManyThreads, NoDerivation}
use Rattle.hls_report_text.specs.declared.report.Answer.{Answer}
use Rattle.hls_report_text.specs.declared.report.Answer.TheVariants.{Done}
use Rattle.hls_kinds.specs.declared.fault.SeatFault.{SeatFault}
use Rattle.hls_kinds.specs.Faults.{IsFirstFaultIfAny}
use Rattle.hls_sched.specs.Seen.{Seen}
use Rattle.hls_machine.specs.Hierarchy.{Hierarchy, Node, Loaded, Place, Processor, At}
use Rattle.hls_machine.specs.Hierarchy.{config_of, haves_of, book_of, name_of}
use Rattle.hls_machine.specs.Hierarchy.{Seat as TakenSeat}
use Rattle.hls_machine.specs.Steps.{Admit}
use Rattle.hls_machine.specs.Legal.{scheduler_at}
use Rattle.hls_machine.specs.Lists.{IsListed}
use Rattle.hls_legal.specs.Tells.{HasName, IsSpot, terms_in}
use Rattle.hls_legal.specs.Moment.{Moment, node_of}
use Rattle.hls_legal.specs.Dues.{Due, due_at, Derives, IsUnderivable, config_there, haves_there}
use Rattle.hls_legal.specs.Answers.{IsRefused, IsDone}
use Rattle.hls_legal.proofs.Found.{named_is}
use Rattle.hls_tree.specs.Offers.{IsFreeName, MayTake, MayTakeEach, MayAdmit, IsTakenAs, AreTakenAs}
use Rattle.hls_tree.specs.Offers as offers
use Rattle.hls_tree.specs.Reads.{IsLoaded, IsParent}
use Rattle.hls_tree.specs.Trees.{Admits}
use Rattle.hls_tree.specs.declared.seat.Seat.{Seat}
use Rattle.hls_tree.specs.declared.tree.Tree.{Tree}
use Rattle.hls_manager.specs.Finds.{IsNoScheduler}
use Rattle.hls_manager.specs.Faults.{fault_refusal}
use Rattle.hls_manager.specs.Seats.{config_at, haves_at, due_for}
use Rattle.hls_manager.specs.Offers.{IsOffered}
use Rattle.hls_machine.specs.Legal.{IsReached}
use Rattle.hls_manager.specs.Outcomes.{HasMarkRoom, CarriesOut}
use Rattle.hls_manager.proofs.Admissions.{name_taken, on_processor, on_nobody, on_thread, too_many, seat_fault}
use Rattle.hls_manager.proofs.Admissions.{underived, derived}
use Rattle.hls_manager.proofs.Admits.{IsTakenFor, can_admit}
use Rattle.hls_manager.proofs.Outcomes.{reached_listed}
use Rattle.hls_scenario.specs.Grammar as grammar
use Rattle.hls_chron.specs.declared.plain.Terms.TheVariants as terms

-- terms in the grammar are in range
pub spot_terms : (spot : Spot) → grammar.IsSpot spot → TermsInRange (terms_in spot)
spot_terms Cpu is = tt
spot_terms (Under sched terms.Cpu) is = absurd is.1
spot_terms (Under sched (terms.Prio priority)) is = is.1
spot_terms (Under sched (terms.Res hard x y)) is = is.1
spot_terms (Under sched (terms.Weight weight)) is = is.1
spot_terms (Under sched (terms.Slots places)) is = is.1
spot_terms (Under sched terms.Turn) is = tt
spot_terms (Under sched terms.Sole) is = tt

-- an answer that is returned as it was told
pub answered_so : {E : Type 0} (r : Result Answer E) (told : Answer) (A : Type 0) (Q : Answer → Type 0)
    → (A → Q told) → IfOk r (λ answer. answer ≡ told) → OnOk r A → IfOk r Q
answered_so (Ok answer) told A Q to is has = subst Q (sym is) (to has)
answered_so (Err error) told A Q to is has = tt

-- the name of the scheduler and the terms of a thread's perch
pub under_name : (name : Text) (perch : Perch) (sched : Text) (terms : Terms) → IsCommand 2 (said.Thread name perch)
    → perch.spot ≡ Under sched terms → IsName sched
under_name name perch sched terms within at =
    (subst (λ (spot : Spot). grammar.IsSpot spot) at within.1.spot).0

pub under_range : (name : Text) (perch : Perch) (sched : Text) (terms : Terms) → IsCommand 2 (said.Thread name perch)
    → perch.spot ≡ Under sched terms → TermsInRange terms
under_range name perch sched terms within at =
    subst (λ (spot : Spot). TermsInRange (terms_in spot)) at (spot_terms perch.spot within.1.spot)

some_there : (node : Option Node) (name : Text) → name_of node ≡ Some name → IsSome node
some_there None name e = absurd (cc)
some_there (Some node) name e = refl

-- somebody has the name
pub taken : (m : Moment) (name : Text) (perch : Perch) → IsListed m.hierarchy → (id : ℕ)
    → HasName m.hierarchy id name → IsRefused m (said.Thread name perch) (NameTaken name)
taken m name perch listed id has =
    name_taken m name perch
    (subst (λ (n : Option Node). IsSome n) (sym (named_is m.hierarchy listed id name has))
    (some_there (m.hierarchy.nodes id) name has))

pub at_cpu : (m : Moment) (name : Text) (perch : Perch) → node_of m.hierarchy name ≡ None → perch.spot ≡ Cpu
    → IsRefused m (said.Thread name perch) (WrongSort None)
at_cpu m name perch free at = on_processor m name perch free at

module _ (m : Moment) (name : Text) (perch : Perch) (free : node_of m.hierarchy name ≡ None) (sched : Text)
    (terms : Terms) (at : perch.spot ≡ Under sched terms) where
  pub no_parent : (r : Refusal) → IsNoScheduler m.hierarchy sched r → IsRefused m (said.Thread name perch) r
  no_parent (NoSuchName other) f =
      subst (λ (n : Text). IsRefused m (said.Thread name perch) (NoSuchName n)) (sym f.0)
      (on_nobody m name perch free sched terms at f.1)
  no_parent (WrongSort (Some other)) f =
      subst (λ (n : Text). IsRefused m (said.Thread name perch) (WrongSort (Some n))) (sym f.0)
      (on_thread m name perch free sched terms at f.1.thread f.1.there)
  no_parent (WrongSort None) f = absurd f
  no_parent _ f = absurd f

  module _ (listed : IsListed m.hierarchy) (p : ℕ) (has : HasName m.hierarchy p sched)
      (is : IsLoaded (m.hierarchy.nodes p)) where
    there : node_of m.hierarchy sched ≡ Some (Loaded is.scheduler)
    there = named_is m.hierarchy listed p sched has ∙ is.there

    pub too_many_threads : 256 ≤ length m.hierarchy.threads
        → IsRefused m (said.Thread name perch) (TooManyThreads 256)
    too_many_threads many = too_many m name perch free sched terms at is.scheduler there many

    answer_is : (answer : Option SeatFault)
        → IsFirstFaultIfAny (config_of (m.hierarchy.nodes p)) (book_of (m.hierarchy.nodes p)) terms answer
        → IsFirstFaultIfAny is.scheduler.config is.scheduler.book terms answer
    answer_is answer f =
        subst (λ (n : Option Node). IsFirstFaultIfAny (config_of n) (book_of n) terms answer) is.there f

    pub faulty : length m.hierarchy.threads < 256 → (fault : SeatFault)
        → IsFirstFaultIfAny (config_of (m.hierarchy.nodes p)) (book_of (m.hierarchy.nodes p)) terms (Some fault)
        → IsRefused m (said.Thread name perch) (fault_refusal sched fault)
    faulty few fault f =
        seat_fault m name perch free sched terms at is.scheduler there few fault (answer_is (Some fault) f)

    pub offered : length m.hierarchy.threads < 256 → (seat : Seat) → seat.parent ≡ Some p → seat.terms ≡ terms
        → seat.kept ≡ perch.want
        → IsFirstFaultIfAny (config_of (m.hierarchy.nodes p)) (book_of (m.hierarchy.nodes p)) terms None
        → IsOffered m.hierarchy name perch seat
    offered few seat parent set kept f = record {
      name_free = free;
      few = few;
      sched = sched;
      place = at ∙ ap (Under sched) (sym set);
      kept = kept;
      parent = p;
      parent_is = parent;
      has = has;
      scheduler = is.scheduler;
      there = is.there;
      fits = subst (λ (t : Terms). IsFirstFaultIfAny is.scheduler.config is.scheduler.book t None) (sym set)
          (answer_is None f);
    }

-- ---- what was offered

module _ (h : Hierarchy) (name : Text) (perch : Perch) (seat : Seat) (o : IsOffered h name perch seat) where
  pub parent_there : IsParent h seat.parent
  parent_there = subst (λ (p : Option ℕ). IsParent h p) (sym o.parent_is)
      (record { scheduler = o.scheduler; there = o.there })

  pub same_due : IsListed h → due_for h name 0 seat ≡ due_at h name 0 perch
  same_due listed =
      let node = sym (named_is h listed o.parent o.sched o.has) in
      let config = ap (config_at h) o.parent_is ∙ ap config_of node ∙ sym (ap (config_there h) o.place) in
      let haves = ap (haves_at h) o.parent_is ∙ ap haves_of node ∙ sym (ap (haves_there h) o.place) in
      let terms = sym (ap terms_in o.place) in
      λ i. record {
        name = name;
        port = 0;
        place = record { config = config i; terms = terms i };
        haves = haves i;
        want = o.kept i;
      }

  pub terms_range : IsCommand 2 (said.Thread name perch) → TermsInRange seat.terms
  terms_range within =
      let all = spot_terms perch.spot within.1.spot in
      subst (λ (s : Spot). TermsInRange (terms_in s)) o.place all

  pub kept_narrow : IsCommand 2 (said.Thread name perch) → IsNarrow seat.kept
  kept_narrow within = subst (λ (g : Guarantee). IsNarrow g) (sym o.kept) within.1.want

  name_is_free : IsListed h → IsFreeName h name
  name_is_free listed other has = (let free = o.name_free in let is = named_is h listed other name has in
      let lost = sym has ∙ ap name_of (sym is ∙ free) in cc)

  may_take : IsCommand 2 (said.Thread name perch) → HasMarkRoom h → MayTake h seat
  may_take within room = record {
    fits = subst (λ (p : Option ℕ). offers.TakesAt h p seat.terms) (sym o.parent_is)
        (record {
          scheduler = o.scheduler;
          there = o.there;
          fits = o.fits;
          room = (let le = room o.parent o.scheduler o.there in omega (arith, le));
        });
    terms = terms_range within;
    kept = kept_narrow within;
  }

  each_one : IsCommand 2 (said.Thread name perch) → HasMarkRoom h → (i : ℕ) (s : Seat)
      → slice_get (seat ∷ []) i ≡ Some s → MayTake h s
  each_one within room zero s e =
      (let same : seat ≡ s = cc in subst (λ (x : Seat). MayTake h x) same (may_take within room))
  each_one within room (suc i) s e = absurd (cc)

  lone : (i j : ℕ) (one other : Seat) → slice_get (seat ∷ []) i ≡ Some one → slice_get (seat ∷ []) j ≡ Some other
      → i ≡ j
  lone zero zero one other e f = refl
  lone zero (suc j) one other e f = absurd (cc)
  lone (suc i) j one other e f = absurd (cc)

  pub may_admit : IsCommand 2 (said.Thread name perch) → IsListed h → HasMarkRoom h → MayAdmit h name seat
  may_admit within listed room = record {
    name_free = name_is_free listed;
    below = λ none. (let some = o.parent_is in cc);
    seats = record {
      each = each_one within room;
      apart = λ i j one other e f same. lone i j one other e f;
    };
  }

  -- ---- the seat that was taken

  spot_by : (place : Place) → scheduler_at place ≡ Some o.parent → IsSpot h place (Under o.sched seat.terms)
  spot_by Processor e = absurd (cc)
  spot_by (At p slot) e =
      (let same : o.parent ≡ p = cc in subst (λ (n : ℕ). HasName h n o.sched) same o.has)

  taken_for : (s : TakenSeat) → IsTakenAs h [] seat s → IsTakenFor h [] perch s
  taken_for s is = record {
    is = record {
      place = subst (λ (spot : Spot). IsSpot h s.place spot) (sym o.place)
          (spot_by s.place (is.on ∙ o.parent_is));
      terms = is.terms ∙ sym (ap terms_in o.place);
      kept = is.kept ∙ o.kept;
    };
    free = is.free;
  }

-- ---- the answer where it was offered

module _ (m : Moment) (name : Text) (perch : Perch) (seat : Seat) (o : IsOffered m.hierarchy name perch seat)
    (listed : IsListed m.hierarchy) where
  node : node_of m.hierarchy o.sched ≡ Some (Loaded o.scheduler)
  node = named_is m.hierarchy listed o.parent o.sched o.has ∙ o.there

  due_is : due_for m.hierarchy name 0 seat ≡ due_at m.hierarchy name 0 perch
  due_is = same_due m.hierarchy name perch seat o listed

  pub lacks_derivation : IsUnderivable m.depth (due_for m.hierarchy name 0 seat)
      → IsRefused m (said.Thread name perch) (NoDerivation name m.depth)
  lacks_derivation lacks =
      underived m name perch o.name_free o.sched seat.terms o.place o.scheduler node o.few
      o.fits
      (subst (λ (d : Due). IsUnderivable m.depth d) due_is lacks)

  pub lacks_within : (depth : ℕ) → m.depth ≡ depth → IsUnderivable depth (due_for m.hierarchy name 0 seat)
      → IsRefused m (said.Thread name perch) (NoDerivation name depth)
  lacks_within depth deep = subst
      (λ (n : ℕ). IsUnderivable n (due_for m.hierarchy name 0 seat)
      → IsRefused m (said.Thread name perch) (NoDerivation name n))
      deep lacks_derivation

  pub has_derivation : (d : Derivation) → Derives m.depth (due_for m.hierarchy name 0 seat) d
      → IsDone m (said.Thread name perch) ((record { name = name; port = 0; derivation = d }) ∷ [])
  has_derivation d derives =
      derived m name perch o.name_free o.sched seat.terms o.place o.scheduler node o.few
      o.fits d
      (subst (λ (x : Due). Derives m.depth x d) due_is derives)

module _ {V : Type 0} {P : V → Type 0} (seen : (x : V) × P x → Seen) where
  -- a thread was admitted on the seat that was offered
  pub admits : (old new : Tree V P) (m : Moment) (commands : ℕ) (name : Text) (perch : Perch) (seat : Seat) (id : ℕ)
      (d : Derivation) → IsCommand 2 (said.Thread name perch) → IsReached m.hierarchy
      → IsOffered m.hierarchy name perch seat → Derives m.depth (due_for m.hierarchy name 0 seat) d
      → Admits seen old new m.hierarchy id name seat
      → CarriesOut seen old new m commands (said.Thread name perch)
      (Done ((record { name = name; port = 0; derivation = d }) ∷ []))
  admits old new m commands name perch seat id d within is o derives a =
      let listed = reached_listed m.hierarchy is in
      let answer = has_derivation m name perch seat o listed d derives in
      let at = taken_for m.hierarchy name perch seat o a.seat (a.taken.each 0 seat a.seat refl refl) in
      record {
        answers = answer;
        step = Admit id name a.seat;
        does = (refl, at.is);
        can = can_admit m is.past is.legal is.leads name perch within answer.none d
            (subst (λ (x : Due). Derives m.depth x d) (same_due m.hierarchy name perch seat o listed) derives) id
            a.seat a.unused at;
        roomy = tt;
        tree = a.tree;
        ready = a.ready;
      }
