-- Where a step may be taken, nothing refuses the command that it does.
use Rattle.std.proofs.Common.{◌≡◌, ◌≢◌, ◌⊎◌, ℕ, zero, suc, inl, inr, ◌+◌, ◌≤◌, List, [], ◌∷◌, Option}
use Rattle.std.proofs.Common.{Some, None, Bool, false, map, slice_get, refl, sym, ap, ◌∙◌, subst, arith}
use Rattle.std.specs.Prelude.{is_some, IsSome}
use Rattle.hls_text.specs.Lines.{Text}
use Rattle.hls_chron.specs.declared.plain.Config.{Config}
use Rattle.hls_chron.specs.declared.plain.Terms.{Terms}
use Rattle.hls_chron.specs.Kinds.{kind_of}
use Rattle.hls_chron.specs.Ledger.{Ledger}
use Rattle.hls_chron.specs.Seats.{terms_at}
use Rattle.hls_chron.specs.Ticks.{count}
use Rattle.hls_chron.proofs.CountLaws.{count-none, count-push}
use Rattle.hls_kinds.specs.Fits.{Fits}
use Rattle.hls_kinds.specs.Room.{IsFull}
use Rattle.hls_kinds.specs.declared.fault.SeatFault.{SeatFault}
use Rattle.hls_kinds.specs.declared.fault.SeatFault.TheVariants as faults
use Rattle.hls_kinds.specs.Faults as seats
use Rattle.hls_scenario.specs.declared.scenario.Spot.{Spot}
use Rattle.hls_scenario.specs.declared.scenario.Spot.TheVariants.{Cpu, Under}
use Rattle.hls_scenario.specs.declared.scenario.Perch.{Perch}
use Rattle.hls_scenario.specs.declared.scenario.Command.{Command}
use Rattle.hls_scenario.specs.declared.scenario.Command.TheVariants as said
use Rattle.hls_report_text.specs.declared.refusal.Refusal.{Refusal}
use Rattle.hls_report_text.specs.declared.refusal.Refusal.TheVariants.{NameTaken, NoSuchName, WrongSort}
use Rattle.hls_report_text.specs.declared.refusal.Refusal.TheVariants.{TooManyNodes, TooManyThreads, NotEmpty}
use Rattle.hls_report_text.specs.declared.refusal.Refusal.TheVariants.{TermsUnfit, PriorityTaken, SeatsFull}
use Rattle.hls_report_text.specs.declared.refusal.Refusal.TheVariants.{Cycle, TooDeep, TooManyShares, KitEmpty}
use Rattle.hls_report_text.specs.declared.refusal.Refusal.TheVariants.{NoRoom, NoDerivation}
use Rattle.hls_machine.specs.Hierarchy.{Hierarchy, Node, Loaded, Admitted, Scheduler, Thread, Place, Processor, At}
use Rattle.hls_machine.specs.Hierarchy.{Seat, seats_of, name_of}
use Rattle.hls_machine.specs.Steps.{Step, Load, Admit, End, Unload, Move, Rouse, Block}
use Rattle.hls_machine.specs.Legal.{MaySit, MayBeRoot, MayTakeAt, MayTake, MayMoveTo, IsThread, CanUnload, Can}
use Rattle.hls_machine.specs.Legal.{NotBelow, IsShallow}
use Rattle.hls_machine.specs.Readings.{IsUnderBy}
use Rattle.hls_machine.proofs.Readings.{under_below}
use Rattle.hls_machine.specs.Steps.{reseated, effect, nobody, loaded}
use Rattle.hls_machine.specs.Lists.{IsListed}
use Rattle.hls_derive.specs.declared.derivation.Derivation.{Derivation}
use Rattle.hls_chron.specs.declared.plain.Kind.{Kind}
use Rattle.hls_report_text.specs.declared.report.Seated.{Seated}
use Rattle.hls_report_text.specs.declared.report.Answer.TheVariants.{Done}
use Rattle.hls_legal.specs.Tells.{HasName, IsSpot, terms_in, IsPerch, ArePerches, Does}
use Rattle.hls_legal.specs.Moment.{Boxes, Moment, number_of, node_of, NamesScheduler, spots_of}
use Rattle.hls_legal.specs.Levels.{HasChainAfter, HasChain, with_mover}
use Rattle.hls_legal.specs.Refusals.{PlacesThread, HasFault, seats_taken}
use Rattle.hls_legal.specs.Refusals as refusals
use Rattle.hls_legal.specs.Answers.{number, RefusesCommand, RefusesPlace, RefusesFirstPlace, Applies, IsAnswer}
use Rattle.hls_legal.specs.Dues.{Due, dues, Derives, AreSettled}
use Rattle.hls_legal.specs.Doable.{MayDo, HasBox, AreDerivable}
use Rattle.hls_legal.proofs.Chains.{load_chain, move_chain}
use Rattle.hls_legal.proofs.Found.{named_found, named_is, named_there}

-- ---- at one place

no_fault : (config : Config) (b : Ledger) (t : Terms) → Fits config b t → ¬ IsFull config b → (fault : SeatFault)
    → ¬ seats.Applies config b t fault
no_fault config b t fits room faults.Unfit (inl f) = f fits.of_kind
no_fault config b t fits room faults.Unfit (inr f) = fits.within f
no_fault config b t fits room (faults.PriorityTaken p) f = fits.apart p f.0 f.1
no_fault config b t fits room (faults.Full n) f = room f.0
no_fault config b t fits room (faults.NoRoom free asked) f = fits.room free asked f

pub fault_here : (h : Hierarchy) (sched name : Text) (t : Terms) (fault : SeatFault) (s : Scheduler)
    → node_of h sched ≡ Some (Loaded s) → HasFault h (Under sched t) name fault
    → seats.Applies s.config s.book t fault
fault_here h sched name t fault s there f =
    let both : Under sched t ≡ Under name f.terms = f.place in
    let same : sched ≡ name = cc in
    let terms : f.terms ≡ t = cc in
    let found : Some (Loaded f.scheduler) ≡ Some (Loaded s) = sym f.there ∙ sym (ap (node_of h) same) ∙ there in
    let own : f.scheduler ≡ s = cc in
    subst (λ (x : Terms). seats.Applies s.config s.book x fault) terms
    (subst (λ (x : Scheduler). seats.Applies x.config x.book f.terms fault) own f.applies)

off_root : (h : Hierarchy) (name : Text) (fault : SeatFault) → ¬ HasFault h Cpu name fault
off_root h name fault f = (let e = f.place in cc)

root_free : (h : Hierarchy) (command : Command) (seat : Seat) (r : Refusal) → MayBeRoot h seat
    → ¬ PlacesThread h command → ¬ RefusesPlace h command Cpu r
root_free h command seat (NoSuchName name) may bars f = (let e = f.place in cc)
root_free h command seat (WrongSort None) may bars f = bars f
root_free h command seat (WrongSort (Some name)) may bars f = f
root_free h command seat (TermsUnfit name) may bars f = off_root h name _ f
root_free h command seat (PriorityTaken priority) may bars f = off_root h f.0 _ f.1
root_free h command seat (SeatsFull None seats) may bars f =
    (let e : IsSome {T = ℕ} None = subst (λ (o : Option ℕ). IsSome o) may.free f.taken in cc)
root_free h command seat (SeatsFull (Some name) seats) may bars f = off_root h name _ f
root_free h command seat (NoRoom free asked) may bars f = off_root h f.0 _ f.1
root_free h command seat _ may bars f = f

slot_free : (h : Hierarchy) (command : Command) (left : List Seat) (seat : Seat) (p slot : ℕ) (sched : Text)
    (terms : Terms) (r : Refusal) → IsListed h → MaySit h left seat p slot → HasName h p sched
    → seat.terms ≡ terms → ¬ RefusesPlace h command (Under sched terms) r
slot_free h command left seat p slot sched terms r listed may has is =
    let there : node_of h sched ≡ Some (Loaded may.scheduler) = named_is h listed p sched has ∙ may.there in
    let fits : Fits may.scheduler.config may.scheduler.book terms =
    subst (Fits may.scheduler.config may.scheduler.book) is may.fits in
    let sound : (name : Text) (fault : SeatFault) → ¬ HasFault h (Under sched terms) name fault =
    λ name fault f. no_fault may.scheduler.config may.scheduler.book terms fits may.room fault
    (fault_here h sched name terms fault may.scheduler there f) in
    none r there sound
  where
    none : (r : Refusal) → node_of h sched ≡ Some (Loaded may.scheduler)
        → ((name : Text) (fault : SeatFault) → ¬ HasFault h (Under sched terms) name fault)
        → ¬ RefusesPlace h command (Under sched terms) r
    none (NoSuchName name) there sound f =
        (let same : sched ≡ name = (let e = f.place in cc) in
        let both = sym there ∙ ap (node_of h) same ∙ f.unknown in cc)
    none (WrongSort None) there sound f = f
    none (WrongSort (Some name)) there sound f = (let both = sym there ∙ f.1.there in cc)
    none (TermsUnfit name) there sound f = sound name _ f
    none (PriorityTaken priority) there sound f = sound f.0 _ f.1
    none (SeatsFull None seats) there sound f = (let e = f.place in cc)
    none (SeatsFull (Some name) seats) there sound f = sound name _ f
    none (NoRoom free asked) there sound f = sound f.0 _ f.1
    none (NameTaken name) there sound f = f
    none (TooManyNodes most) there sound f = f
    none (TooManyThreads most) there sound f = f
    none (NotEmpty name seats) there sound f = f
    none (Cycle name) there sound f = f
    none (TooDeep level) there sound f = f
    none (TooManyShares shares) there sound f = f
    none (KitEmpty kind used) there sound f = f
    none (NoDerivation name depth) there sound f = f

-- the seat at a spot may be taken
pub record MayTakeSpot (h : Hierarchy) (spot : Spot) : Type 0 where
  pub left : List Seat
  pub seat : Seat
  pub spot_is : IsSpot h seat.place spot
  pub terms_are : seat.terms ≡ terms_in spot
  pub may : MayTakeAt h left seat seat.place

spot_free : (h : Hierarchy) (command : Command) (left : List Seat) (seat : Seat) (place : Place) (spot : Spot)
    (r : Refusal) → IsListed h → IsSpot h place spot → seat.terms ≡ terms_in spot → MayTakeAt h left seat place
    → (spot ≡ Cpu → ¬ PlacesThread h command) → ¬ RefusesPlace h command spot r
spot_free h command left seat Processor Cpu r listed is terms may bars = root_free h command seat r may (bars refl)
spot_free h command left seat Processor (Under sched terms) r listed is e may bars = absurd is
spot_free h command left seat (At p slot) Cpu r listed is e may bars = absurd is
spot_free h command left seat (At p slot) (Under sched terms) r listed is e may bars =
    slot_free h command left seat p slot sched terms r listed may is e

pub place_free : (h : Hierarchy) (command : Command) (spot : Spot) (r : Refusal) → IsListed h
    → MayTakeSpot h spot → (spot ≡ Cpu → ¬ PlacesThread h command) → ¬ RefusesPlace h command spot r
place_free h command spot r listed t bars =
    spot_free h command t.left t.seat t.seat.place spot r listed t.spot_is t.terms_are t.may bars

-- ---- the seats of a step

record IsPerchAt (h : Hierarchy) (seats : List Seat) (port : ℕ) (spot : Spot) : Type 0 where
  pub seat : Seat
  pub perch : Perch
  pub at_port : slice_get seats port ≡ Some seat
  pub is : IsPerch h seat perch
  pub spot_is : perch.spot ≡ spot

perch_at : (h : Hierarchy) (seats : List Seat) (perches : List Perch) (port : ℕ) (spot : Spot)
    → ArePerches h seats perches → slice_get (map (λ (perch : Perch). perch.spot) perches) port ≡ Some spot
    → IsPerchAt h seats port spot
perch_at h [] [] port spot are e = absurd (cc)
perch_at h [] (perch ∷ perches) port spot are e = absurd are
perch_at h (seat ∷ seats) [] port spot are e = absurd are
perch_at h (seat ∷ seats) (perch ∷ perches) zero spot are e =
    record {
      seat = seat;
      perch = perch;
      at_port = refl;
      is = are.0;
      spot_is = (let same : perch.spot ≡ spot = cc in same);
    }
perch_at h (seat ∷ seats) (perch ∷ perches) (suc port) spot are e =
    let rest = perch_at h seats perches port spot are.1 e in
    record { seat = rest.seat; perch = rest.perch; at_port = rest.at_port; is = rest.is; spot_is = rest.spot_is }

take_spot : (h : Hierarchy) (left : List Seat) (seat : Seat) (perch : Perch) (spot : Spot) → IsPerch h seat perch
    → perch.spot ≡ spot → MayTake h left seat → MayTakeSpot h spot
take_spot h left seat perch spot is same may = record {
  left = left;
  seat = seat;
  spot_is = subst (IsSpot h seat.place) same is.place;
  terms_are = is.terms ∙ ap terms_in same;
  may = may.free;
}

lone_spot : (spot other : Spot) (port : ℕ) → slice_get (spot ∷ []) port ≡ Some other → spot ≡ other
lone_spot spot other zero e = cc
lone_spot spot other (suc port) e = absurd (cc)

pub spots_taken : (h : Hierarchy) (command : Command) (step : Step) → Does h command step → Can h step
    → (port : ℕ) (spot : Spot) → slice_get (spots_of command) port ≡ Some spot → MayTakeSpot h spot
spots_taken h (said.Load name config perches) (Load k new set spare_ticks spare_marks seats) does can port spot e =
    let at_port = perch_at h seats perches port spot does.2 e in
    take_spot h [] at_port.seat at_port.perch spot at_port.is at_port.spot_is
    (can.0.places.take port at_port.seat at_port.at_port)
spots_taken h (said.Thread name perch) (Admit k new seat) does can port spot e =
    take_spot h [] seat perch spot does.1 (lone_spot perch.spot spot port e) (can.places.take 0 seat refl)
spots_taken h (said.Move name perch) (Move k seat below) does can port spot e =
    take_spot h (seats_of (h.nodes k)) seat perch spot does.1 (lone_spot perch.spot spot port e) can.0.take
spots_taken h (said.End name) step does can port spot e = absurd (cc)
spots_taken h (said.Unload name) step does can port spot e = absurd (cc)
spots_taken h (said.Wake name every burst) step does can port spot e = absurd (cc)
spots_taken h (said.Block name) step does can port spot e = absurd (cc)
spots_taken h _ _ does can port spot e = absurd does

-- no thread is placed at the processor
off_processor : (h : Hierarchy) (place : Place) (spot : Spot) → IsSpot h place spot → spot ≡ Cpu
    → place ≡ Processor
off_processor h Processor spot is e = refl
off_processor h (At p slot) Cpu is e = absurd is
off_processor h (At p slot) (Under sched terms) is e = absurd (cc)

no_thread_moves : (place : Place) (node : Option Node) (thread : Thread) → MayMoveTo place node
    → node ≡ Some (Admitted thread) → place ≢ Processor
no_thread_moves place None t may e = absurd may
no_thread_moves place (Some (Loaded s)) t may e = absurd (cc)
no_thread_moves place (Some (Admitted x)) t may e = may

no_thread_there : (h : Hierarchy) → IsListed h → (command : Command) (step : Step) → Does h command step
    → Can h step → (port : ℕ) → slice_get (spots_of command) port ≡ Some Cpu → ¬ PlacesThread h command
no_thread_there h listed (said.Load name config perches) step does can port e places = places
no_thread_there h listed (said.Thread name perch) (Admit k new seat) does can port e places =
    can.place (off_processor h seat.place perch.spot does.1.place (lone_spot perch.spot Cpu port e))
no_thread_there h listed (said.Move name perch) (Move k seat below) does can port e places =
    no_thread_moves seat.place (h.nodes k) places.thread can.0.sort
    (sym (named_is h listed k name does.0) ∙ places.there)
    (off_processor h seat.place perch.spot does.1.place (lone_spot perch.spot Cpu port e))
no_thread_there h listed (said.End name) step does can port e places = places
no_thread_there h listed (said.Unload name) step does can port e places = places
no_thread_there h listed (said.Wake name every burst) step does can port e places = places
no_thread_there h listed (said.Block name) step does can port e places = places
no_thread_there h listed _ _ does can port e places = does

-- ---- the command as a whole

some_named : (h : Hierarchy) (name : Text) (o : Option Node) → node_of h name ≡ o → IsSome o
    → (node : Node) × (node_of h name ≡ Some node)
some_named h name None e is = absurd (cc)
some_named h name (Some node) e is = (node, e)

name_fresh : (h : Hierarchy) (made name : Text) → ((other : ℕ) → name_of (h.nodes other) ≢ Some made)
    → made ≡ name → ¬ IsSome (node_of h name)
name_fresh h made name fresh same taken =
    let some = some_named h name (node_of h name) refl taken in
    let found = named_there h name some.0 some.1 in
    fresh found.number (found.has ∙ ap (λ n. Some n) (sym same))

new_free : (h : Hierarchy) (command : Command) (step : Step) (name : Text) → Does h command step → Can h step
    → ¬ refusals.IsNameTaken h command name
new_free h (said.Load new config perches) (Load k made set spare_ticks spare_marks seats) name does can f =
    name_fresh h made name can.0.new.fresh (does.0 ∙ (let e = f.new in let same : new ≡ name = cc in same)) f.taken
new_free h (said.Thread new perch) (Admit k made seat) name does can f =
    name_fresh h made name can.new.fresh (does.0 ∙ (let e = f.new in let same : new ≡ name = cc in same)) f.taken
new_free h (said.End own) step name does can f = (let e = f.new in cc)
new_free h (said.Unload own) step name does can f = (let e = f.new in cc)
new_free h (said.Move own perch) step name does can f = (let e = f.new in cc)
new_free h (said.Wake own every burst) step name does can f = (let e = f.new in cc)
new_free h (said.Block own) step name does can f = (let e = f.new in cc)
new_free h _ _ name does can f = does

known : (h : Hierarchy) → IsListed h → (k : ℕ) (own name : Text) → HasName h k own → own ≡ name
    → node_of h name ≡ None → ⊥
known h listed k own name has same unknown =
    let is : node_of h name ≡ h.nodes k = ap (node_of h) (sym same) ∙ named_is h listed k own has in
    let none : name_of (h.nodes k) ≡ None = ap name_of (sym is ∙ unknown) in
    (let e = sym has ∙ none in cc)

old_known : (h : Hierarchy) → IsListed h → (command : Command) (step : Step) (name : Text) → Does h command step
    → ¬ refusals.IsNameUnknown h command name
old_known h listed (said.Load new config perches) step name does f = (let e = f.old in cc)
old_known h listed (said.Thread new perch) step name does f = (let e = f.old in cc)
old_known h listed (said.End own) (End k) name does f =
    known h listed k own name does (let e = f.old in cc) f.unknown
old_known h listed (said.Unload own) (Unload k) name does f =
    known h listed k own name does (let e = f.old in cc) f.unknown
old_known h listed (said.Move own perch) (Move k seat below) name does f =
    known h listed k own name does.0 (let e = f.old in cc) f.unknown
old_known h listed (said.Wake own every burst) (Rouse k how) name does f =
    known h listed k own name does.0 (let e = f.old in cc) f.unknown
old_known h listed (said.Block own) (Block k) name does f =
    known h listed k own name does (let e = f.old in cc) f.unknown
old_known h listed _ _ name does f = does

-- what has the command's own name
own_is : (h : Hierarchy) → IsListed h → (k : ℕ) (own name : Text) → HasName h k own → Some own ≡ Some name
    → node_of h name ≡ h.nodes k
own_is h listed k own name has e =
    let same : own ≡ name = cc in ap (node_of h) (sym same) ∙ named_is h listed k own has

thread_no_scheduler : (h : Hierarchy) → IsListed h → (k : ℕ) (own name : Text) → HasName h k own
    → Some own ≡ Some name → IsThread (h.nodes k) → ¬ NamesScheduler h name
thread_no_scheduler h listed k own name has e thread f =
    (let both = sym f.there ∙ own_is h listed k own name has e ∙ thread.there in cc)

no_join : (h : Hierarchy) (place : Place) (node : Option Node) (s : Scheduler) → MayMoveTo place node
    → node ≡ Some (Loaded s) → kind_of s.config ≢ Rattle.hls_chron.specs.declared.plain.Kind.TheVariants.Join
no_join h place None s may e = absurd may
no_join h place (Some (Admitted t)) s may e = absurd (cc)
no_join h place (Some (Loaded x)) s may e =
    (let same : x ≡ s = cc in
    subst (λ (y : Scheduler). kind_of y.config ≢ Rattle.hls_chron.specs.declared.plain.Kind.TheVariants.Join) same
    may)

sort_right : (h : Hierarchy) → IsListed h → (command : Command) (step : Step) (name : Text) → Does h command step
    → Can h step → ¬ refusals.IsNameOfWrongSort h command name
sort_right h listed (said.Load new config perches) step name does can f = (let e = f.old in cc)
sort_right h listed (said.Thread new perch) step name does can f = (let e = f.old in cc)
sort_right h listed (said.End own) (End k) name does can f =
    thread_no_scheduler h listed k own name does f.old can f.wrong
sort_right h listed (said.Unload own) (Unload k) name does can f =
    (let both = sym f.wrong.there ∙ own_is h listed k own name does f.old ∙ can.there in cc)
sort_right h listed (said.Move own perch) (Move k seat below) name does can f =
    no_join h seat.place (h.nodes k) f.wrong.place.scheduler can.0.sort
    (sym (own_is h listed k own name does.0 f.old) ∙ f.wrong.place.there) f.wrong.kind
sort_right h listed (said.Wake own every burst) (Rouse k how) name does can f =
    thread_no_scheduler h listed k own name does.0 f.old can f.wrong
sort_right h listed (said.Block own) (Block k) name does can f =
    thread_no_scheduler h listed k own name does f.old can f.wrong
sort_right h listed _ _ name does can f = does

few_nodes : (h : Hierarchy) (command : Command) (step : Step) (most : ℕ) → Does h command step → Can h step
    → ¬ refusals.AreTooManyNodes h command most
few_nodes h (said.Load new config perches) (Load k made set spare_ticks spare_marks seats) most does can f =
    let few = can.0.few in let many = f.many in omega (arith, few, many)
few_nodes h (said.Thread new perch) step most does can f = (let e = f.loads in cc)
few_nodes h (said.End own) step most does can f = (let e = f.loads in cc)
few_nodes h (said.Unload own) step most does can f = (let e = f.loads in cc)
few_nodes h (said.Move own perch) step most does can f = (let e = f.loads in cc)
few_nodes h (said.Wake own every burst) step most does can f = (let e = f.loads in cc)
few_nodes h (said.Block own) step most does can f = (let e = f.loads in cc)
few_nodes h _ _ most does can f = does

few_threads : (h : Hierarchy) (command : Command) (step : Step) (most : ℕ) → Does h command step → Can h step
    → ¬ refusals.AreTooManyThreads h command most
few_threads h (said.Thread new perch) (Admit k made seat) most does can f =
    let few = can.few in let many = f.many in omega (arith, few, many)
few_threads h (said.Load new config perches) step most does can f = (let e = f.admits in cc)
few_threads h (said.End own) step most does can f = (let e = f.admits in cc)
few_threads h (said.Unload own) step most does can f = (let e = f.admits in cc)
few_threads h (said.Move own perch) step most does can f = (let e = f.admits in cc)
few_threads h (said.Wake own every burst) step most does can f = (let e = f.admits in cc)
few_threads h (said.Block own) step most does can f = (let e = f.admits in cc)
few_threads h _ _ most does can f = does

none_counted : (test : ℕ → Bool) (i n : ℕ) → ((t : ℕ) → test t ≡ false) → count test i n ≡ 0
none_counted test i zero off = count-none test i
none_counted test i (suc n) off =
    count-push test i n ∙ (let rest = none_counted test i n off in rw (off (i + n)) (omega (arith, rest)))

empty : (h : Hierarchy) → IsListed h → (k : ℕ) (own name : Text) (seats : ℕ) → HasName h k own
    → CanUnload (h.nodes k) → ¬ refusals.IsNotEmpty h (said.Unload own) name seats
empty h listed k own name seats has can f =
    let same : Some own ≡ Some name = (let e = f.unloads in cc) in
    let both : Some (Loaded can.scheduler) ≡ Some (Loaded f.place.scheduler) =
    sym can.there ∙ sym (own_is h listed k own name has same) ∙ f.place.there in
    let scheduler : can.scheduler ≡ f.place.scheduler = cc in
    let off : (slot : ℕ) → is_some (terms_at f.place.scheduler.book slot) ≡ false =
    λ slot. ap is_some (ap (λ (s : Scheduler). terms_at s.book slot) (sym scheduler) ∙ can.empty slot) in
    let none = none_counted (λ slot. is_some (terms_at f.place.scheduler.book slot)) 0 32 off in
    let are = f.seats_are in
    let some = f.some in
    omega (arith, none, are, some)

unload_empty : (h : Hierarchy) → IsListed h → (command : Command) (step : Step) (name : Text) (seats : ℕ)
    → Does h command step → Can h step → ¬ refusals.IsNotEmpty h command name seats
unload_empty h listed (said.Unload own) (Unload k) name seats does can f =
    empty h listed k own name seats does can f
unload_empty h listed (said.Load new config perches) step name seats does can f = (let e = f.unloads in cc)
unload_empty h listed (said.Thread new perch) step name seats does can f = (let e = f.unloads in cc)
unload_empty h listed (said.End own) step name seats does can f = (let e = f.unloads in cc)
unload_empty h listed (said.Move own perch) step name seats does can f = (let e = f.unloads in cc)
unload_empty h listed (said.Wake own every burst) step name seats does can f = (let e = f.unloads in cc)
unload_empty h listed (said.Block own) step name seats does can f = (let e = f.unloads in cc)
unload_empty h listed _ _ name seats does can f = does

-- ---- cycles

away : (h : Hierarchy) → IsListed h → (below : ℕ → Bool) (place : Place) (spot : Spot) (name : Text)
    (terms : Terms) (p : ℕ) → IsSpot h place spot → spot ≡ Under name terms → number_of h name ≡ Some p
    → NotBelow below place → below p ≡ false
away h listed below Processor Cpu name terms p is e at acyclic = absurd (cc)
away h listed below Processor (Under sched others) name terms p is e at acyclic = absurd is
away h listed below (At q slot) Cpu name terms p is e at acyclic = absurd is
away h listed below (At q slot) (Under sched others) name terms p is e at acyclic =
    let same : sched ≡ name = cc in
    let node : q ≡ p = (let both = sym (named_found h listed q sched is) ∙ ap (number_of h) same ∙ at in cc) in
    ap below (sym node) ∙ acyclic

no_cycle : (h : Hierarchy) → IsListed h → (command : Command) (step : Step) (name : Text) → Does h command step
    → Can h step → ¬ refusals.IsCycle h command name
no_cycle h listed (said.Move own perch) (Move k seat below) name does can f =
    let mover : own ≡ f.mover = (let e = f.moves in cc) in
    let spot : perch.spot ≡ Under name f.terms = (let e = f.moves in let same : perch ≡ f.perch = cc in
    ap (λ (p : Perch). p.spot) same ∙ f.to) in
    let node : k ≡ f.moved =
    (let both = sym (named_found h listed k own does.0) ∙ ap (number_of h) mover ∙ f.mover_is in cc) in
    let under = f.under in
    let at_k : IsUnderBy h k under.0 f.place = subst (λ n. IsUnderBy h n under.0 f.place) (sym node) under.1 in
    let on = under_below h k below can.0.under under.0 f.place at_k in
    let off = away h listed below seat.place perch.spot name f.terms f.place does.1.place spot f.place_is
    can.0.acyclic in
    (let both = sym on ∙ off in cc)
no_cycle h listed (said.Load new config perches) step name does can f = (let e = f.moves in cc)
no_cycle h listed (said.Thread new perch) step name does can f = (let e = f.moves in cc)
no_cycle h listed (said.End own) step name does can f = (let e = f.moves in cc)
no_cycle h listed (said.Unload own) step name does can f = (let e = f.moves in cc)
no_cycle h listed (said.Wake own every burst) step name does can f = (let e = f.moves in cc)
no_cycle h listed (said.Block own) step name does can f = (let e = f.moves in cc)
no_cycle h listed _ _ name does can f = does

-- ---- levels and shares

record IsLow (level shares : ℕ) : Type 0 where
  pub levels : level ≤ 8
  pub few : shares ≤ 4

low : (g : Hierarchy) (level shares : ℕ) → IsShallow g → HasChain g level shares → IsLow level shares
low g level shares shallow c =
    let levels = shallow.levels c.chain c.stands in
    let few = shallow.shares c.chain c.stands in
    let is = c.level_is in
    let are = c.shares_are in
    record { levels = omega (arith, levels, is); few = omega (arith, few, are) }

chains_low : (h : Hierarchy) → IsListed h → (command : Command) (step : Step) (level shares : ℕ)
    → Does h command step → Can h step → HasChainAfter h command level shares → IsLow level shares
chains_low h listed (said.Load name config perches) (Load k new set spare_ticks spare_marks seats) level shares does
    can c =
    let s = loaded h.now new set spare_ticks spare_marks seats in
    low (effect h k (Some (Loaded s)) nobody) level shares can.1
    (load_chain h listed k can.0.new.unused s nobody perches does.2 config level shares does.1 c)
chains_low h listed (said.Move own perch) (Move k seat below) level shares does can c =
    let would : HasChain (with_mover h (Some k) perch) level shares =
    subst (λ n. HasChain (with_mover h n perch) level shares) (named_found h listed k own does.0) c in
    low (effect h k (reseated seat (h.nodes k)) below) level shares can.1
    (move_chain h listed k seat perch below does.1.place level shares would)
chains_low h listed (said.Thread new perch) step level shares does can c = absurd c
chains_low h listed (said.End own) step level shares does can c = absurd c
chains_low h listed (said.Unload own) step level shares does can c = absurd c
chains_low h listed (said.Wake own every burst) step level shares does can c = absurd c
chains_low h listed (said.Block own) step level shares does can c = absurd c
chains_low h listed _ _ level shares does can c = absurd does

-- ---- the kit, and derivations

boxed : (boxes : Boxes) (command : Command) (kind : Kind) (used : ℕ) → HasBox boxes command
    → ¬ refusals.IsKitEmpty boxes command kind used
boxed boxes (said.Load new config perches) kind used box f =
    let set : config ≡ f.config = (let e = f.loads in cc) in
    box (ap (λ c. boxes.left (kind_of c)) set ∙ ap boxes.left (sym f.kind_is) ∙ f.none)
boxed boxes (said.Thread new perch) kind used box f = (let e = f.loads in cc)
boxed boxes (said.End own) kind used box f = (let e = f.loads in cc)
boxed boxes (said.Unload own) kind used box f = (let e = f.loads in cc)
boxed boxes (said.Move own perch) kind used box f = (let e = f.loads in cc)
boxed boxes (said.Wake own every burst) kind used box f = (let e = f.loads in cc)
boxed boxes (said.Block own) kind used box f = (let e = f.loads in cc)

-- what a step that may be taken does lacks a box or a derivation alone
module _ (m : Moment) (listed : IsListed m.hierarchy) (c : Command) (may : MayDo m.hierarchy c) where
  abbrev lacks : Refusal → Type 0
  lacks r = (number r ≡ 22) ⊎ (number r ≡ 24)

  command_free : (r : Refusal) → RefusesCommand m c r → lacks r
  command_free (NameTaken name) f = absurd (new_free m.hierarchy c may.step name may.does may.can f)
  command_free (NoSuchName name) f = absurd (old_known m.hierarchy listed c may.step name may.does f)
  command_free (WrongSort None) f = absurd f
  command_free (WrongSort (Some name)) f =
      absurd (sort_right m.hierarchy listed c may.step name may.does may.can f)
  command_free (TooManyNodes most) f = absurd (few_nodes m.hierarchy c may.step most may.does may.can f)
  command_free (TooManyThreads most) f = absurd (few_threads m.hierarchy c may.step most may.does may.can f)
  command_free (NotEmpty name seats) f =
      absurd (unload_empty m.hierarchy listed c may.step name seats may.does may.can f)
  command_free (TermsUnfit name) f = absurd f
  command_free (PriorityTaken priority) f = absurd f
  command_free (SeatsFull name seats) f = absurd f
  command_free (Cycle name) f = absurd (no_cycle m.hierarchy listed c may.step name may.does may.can f)
  command_free (TooDeep level) f =
      let levels =
      (chains_low m.hierarchy listed c may.step level f.shares may.does may.can f.chain).levels in
      let above = f.above in
      absurd (omega (arith, levels, above))
  command_free (TooManyShares shares) f =
      let few = (chains_low m.hierarchy listed c may.step f.level shares may.does may.can f.chain).few in
      let above = f.above in
      absurd (omega (arith, few, above))
  command_free (KitEmpty kind used) f = inl refl
  command_free (NoRoom free asked) f = absurd f
  command_free (NoDerivation name depth) f = inr refl

  spots_free : (r : Refusal) → ¬ RefusesFirstPlace m c r
  spots_free r f =
      let at = f.first in
      place_free m.hierarchy c at.item r listed
      (spots_taken m.hierarchy c may.step may.does may.can at.at at.item at.item_is)
      (λ e. no_thread_there m.hierarchy listed c may.step may.does may.can at.at
      (at.item_is ∙ ap (λ s. Some s) e)) at.tells.refuses

  pub only_late : (r : Refusal) → Applies m c r → lacks r
  only_late r (inl f) = command_free r f
  only_late r (inr f) = absurd (spots_free r f)

derivable : (m : Moment) (c : Command) → AreDerivable m c → (name : Text)
    → ¬ refusals.IsUnderived m.hierarchy m.depth c name
derivable m c are name f = let d = are f.at f.item f.item_is in f.tells.lacks d.0 d.1

none_late : (m : Moment) (c : Command) → HasBox m.boxes c → AreDerivable m c → (r : Refusal)
    → ((number r ≡ 22) ⊎ (number r ≡ 24)) → ¬ RefusesCommand m c r
none_late m c box are (KitEmpty kind used) late f = boxed m.boxes c kind used box f
none_late m c box are (NoDerivation name depth) late f = derivable m c are name f.0
none_late m c box are _ (inl e) f = absurd (omega (arith, e))
none_late m c box are _ (inr e) f = absurd (omega (arith, e))

pub none_applies : (m : Moment) → IsListed m.hierarchy → (c : Command) → MayDo m.hierarchy c
    → HasBox m.boxes c → AreDerivable m c → (r : Refusal) → ¬ Applies m c r
none_applies m listed c may box are r (inl f) =
    none_late m c box are r (only_late m listed c may r (inl f)) f
none_applies m listed c may box are r (inr f) = spots_free m listed c may r f

-- ---- the answer

pub settled_from : (depth : ℕ) (due : List Due)
    → ((at : ℕ) (one : Due) → slice_get due at ≡ Some one → (d : Derivation) × Derives depth one d)
    → (seats : List Seated) × AreSettled depth due seats
settled_from depth [] derived = ([], tt)
settled_from depth (one ∷ due) derived =
    let first = derived 0 one refl in
    let rest = settled_from depth due (λ at other e. derived (suc at) other e) in (
      (record { name = one.name; port = one.port; derivation = first.0 }) ∷ rest.0,
      (record { name = refl; port = refl; derives = first.1 }, rest.1),
    )

pub possible_done : (m : Moment) → IsListed m.hierarchy → (c : Command) → MayDo m.hierarchy c
    → HasBox m.boxes c → AreDerivable m c → (seats : List Seated) × IsAnswer m c (Done seats)
possible_done m listed c may box are =
    let settled = settled_from m.depth (dues m.hierarchy c) are in
    (settled.0, record { none = none_applies m listed c may box are; settled = settled.1 })
