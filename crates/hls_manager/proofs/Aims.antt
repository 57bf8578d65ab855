-- From what the tree answers of a move to the answers to it.
use Rattle.std.proofs.Common.{◌≡◌, ◌≢◌, ℕ, ◌+◌, Option, Some, None, refl, sym, ap, ◌∙◌, ◌<◌, ◌≤◌, arith, subst}
use Rattle.std.proofs.Common.{length}
use Rattle.std.specs.Prelude.{IsSome, is_some}
use Rattle.hls_text.specs.Lines.{Text}
use Rattle.hls_chron.specs.declared.plain.Terms.{Terms}
use Rattle.hls_chron.specs.declared.plain.Terms.TheVariants as terms
use Rattle.hls_kinds.specs.declared.fault.SeatFault.{SeatFault}
use Rattle.hls_kinds.specs.declared.fault.SeatFault.TheVariants as faults
use Rattle.hls_kinds.specs.Faults.{IsFirstFaultIfAny}
use Rattle.hls_scenario.specs.declared.scenario.Spot.{Spot}
use Rattle.hls_scenario.specs.declared.scenario.Spot.TheVariants.{Cpu, Under}
use Rattle.hls_scenario.specs.declared.scenario.Perch.{Perch}
use Rattle.hls_scenario.specs.declared.scenario.Command.{Command}
use Rattle.hls_scenario.specs.declared.scenario.Command.TheVariants as said
use Rattle.hls_report_text.specs.declared.refusal.Refusal.{Refusal}
use Rattle.hls_report_text.specs.declared.refusal.Refusal.TheVariants.{NoSuchName, WrongSort, TermsUnfit}
use Rattle.hls_report_text.specs.declared.refusal.Refusal.TheVariants.{PriorityTaken, SeatsFull, Cycle, TooDeep}
use Rattle.hls_report_text.specs.declared.refusal.Refusal.TheVariants.{TooManyShares, NoRoom}
use Rattle.hls_machine.specs.Hierarchy.{Hierarchy, Node, Loaded, config_of, book_of}
use Rattle.hls_machine.specs.Legal.{fair_queues, scheduler_at}
use Rattle.hls_machine.specs.Lists.{IsListed}
use Rattle.hls_machine.specs.Readings.{IsUnder}
use Rattle.hls_legal.specs.Tells.{HasName, terms_in}
use Rattle.hls_legal.specs.Moment.{Moment, number_of, node_of, spot_name, NamesJoin, NamesThread}
use Rattle.hls_legal.specs.Levels.{HasChain, with_mover, seat_there, place_on, place_there}
use Rattle.hls_legal.specs.Refusals.{PlacesThread, IsCycle, IsTooDeep, AreTooManyShares}
use Rattle.hls_legal.specs.Answers.{number, RefusesPlace, IsRefused}
use Rattle.hls_legal.proofs.Found.{named_is, named_found}
use Rattle.hls_tree.specs.Offers.{MovesTo, IsNoCycle, moved_to}
use Rattle.hls_tree.specs.Reads.{IsLoaded, IsSeatAnswer, IsRootAnswer, IsGreatestLevel, AreMostShares}
use Rattle.hls_tree.specs.declared.seat.Seat.{Seat}
use Rattle.hls_manager.specs.Inside.Shifts.{IsAtSpot, IsAimed, spot_refusal, IsLoop, LevelsWithin, SharesWithin}
use Rattle.hls_manager.specs.Inside.Shifts.{IsMisplaced, IsPlaced}
use Rattle.hls_manager.proofs.Finds.{named_scheduler}
use Rattle.hls_manager.proofs.Places.{of_fault, to_fault, first_fault}
use Rattle.hls_manager.proofs.Shifts.{IsClear, whole_refused, place_refused}

-- a fault of a place is the least refusal there
record IsFaultAt (h : Hierarchy) (c : Command) (spot : Spot) (fault : SeatFault) : Type 0 where
  pub refuses : RefusesPlace h c spot (spot_refusal spot fault)
  pub first : (other : Refusal) → RefusesPlace h c spot other → number (spot_refusal spot fault) ≤ number other

-- ---- at the processor

module _ (h : Hierarchy) (c : Command) (no_thread : ¬ PlacesThread h c) where
  -- nothing but a root refuses there
  root_place : (r : Refusal) → RefusesPlace h c Cpu r → IsSome h.root × (number r ≡ 18)
  root_place (NoSuchName name) f = absurd (let e = f.place in cc)
  root_place (WrongSort None) f = absurd (no_thread f)
  root_place (WrongSort (Some name)) f = absurd f
  root_place (TermsUnfit name) f = absurd (let e = f.place in cc)
  root_place (PriorityTaken priority) f = absurd (let e = f.1.place in cc)
  root_place (SeatsFull None seats) f = (f.taken, refl)
  root_place (SeatsFull (Some name) seats) f = absurd (let e = f.place in cc)
  root_place (NoRoom free asked) f = absurd (let e = f.1.place in cc)
  root_place _ f = absurd f

  some_root : (root : Option ℕ) → root ≢ None → IsSome root
  some_root None ne = absurd (ne refl)
  some_root (Some k) ne = refl

  root_taken : h.root ≢ None → IsFaultAt h c Cpu (faults.Full 1)
  root_taken ne = record {
    refuses = record { place = refl; taken = some_root h.root ne; seats_are = refl };
    first = λ other f. (let e = (root_place other f).1 in omega (arith, e));
  }

  root_fault : (fault : SeatFault) → IsRootAnswer h.root terms.Cpu (Some fault) → IsFaultAt h c Cpu fault
  root_fault faults.Unfit is = absurd (is refl)
  root_fault (faults.Full seats) is =
      let at = root_taken is.1 in
      record { refuses = at.refuses; first = at.first }
  root_fault (faults.PriorityTaken priority) is = absurd is
  root_fault (faults.NoRoom free asked) is = absurd is

  root_fits : IsRootAnswer h.root terms.Cpu None → (r : Refusal) → ¬ RefusesPlace h c Cpu r
  root_fits is r f =
      (let some = (root_place r f).0 in let none = is.1 in let lost = ap is_some none in cc)

-- ---- at a scheduler

module _ (h : Hierarchy) (listed : IsListed h) (c : Command) (sched : Text) (set : Terms) (p : ℕ)
    (has : HasName h p sched) (is : IsLoaded (h.nodes p)) where
  there : node_of h sched ≡ Some (Loaded is.scheduler)
  there = named_is h listed p sched has ∙ is.there

  answer_is : (answer : Option SeatFault) → IsSeatAnswer h (Some p) set answer
      → IsFirstFaultIfAny is.scheduler.config is.scheduler.book set answer
  answer_is answer f =
      subst (λ (n : Option Node). IsFirstFaultIfAny (config_of n) (book_of n) set answer) is.there f

  under_fault : (fault : SeatFault) → IsSeatAnswer h (Some p) set (Some fault) → IsFaultAt h c (Under sched set) fault
  under_fault fault f =
      let first = answer_is (Some fault) f in
      record {
        refuses = to_fault h c sched set is.scheduler there fault first.applies;
        first = λ other g. first_fault h c sched set is.scheduler there fault first other g;
      }

  under_fits : IsSeatAnswer h (Some p) set None → (r : Refusal) → ¬ RefusesPlace h c (Under sched set) r
  under_fits f r g =
      (let of = of_fault h c sched set is.scheduler there r g in answer_is None f of.fault of.applies)

-- ---- a move

-- of the faults only the want of room is told after what is asked of the whole hierarchy
early_number : (spot : Spot) (fault : SeatFault) → ((free asked : ℕ) → fault ≢ faults.NoRoom free asked)
    → number (spot_refusal spot fault) ≤ 18
early_number Cpu fault no_room = omega arith
early_number (Under sched set) faults.Unfit no_room = omega arith
early_number (Under sched set) (faults.PriorityTaken priority) no_room = omega arith
early_number (Under sched set) (faults.Full seats) no_room = omega arith
early_number (Under sched set) (faults.NoRoom free asked) no_room = absurd (no_room free asked refl)

module _ (h : Hierarchy) (listed : IsListed h) (name : Text) (perch : Perch) (id : ℕ) (seat : Seat)
    (aimed : IsAimed h name perch id seat) where
  abbrev c : Command
  c = said.Move name perch

  node_is : node_of h name ≡ h.nodes id
  node_is = named_is h listed id name aimed.has

  pub mover_number : number_of h name ≡ Some id
  mover_number = named_found h listed id name aimed.has

  sort_by : (node : Option Node) → MovesTo seat.parent node → node ≢ None
  sort_by None sort e = sort
  sort_by (Some node) sort e = (cc)

  known : node_of h name ≢ None
  known none = sort_by (h.nodes id) aimed.sort (sym node_is ∙ none)

  lone : ¬ NamesJoin h name
  lone f = (subst (λ (n : Option Node). MovesTo seat.parent n) (sym node_is ∙ f.place.there) aimed.sort) f.kind

  -- ---- what is no ring, and not too deep

  same_mover : (other : Text) (f : IsCycle h c other) → f.moved ≡ id
  same_mover other f =
      let moves = f.moves in
      let same : f.mover ≡ name = cc in
      let found = sym (ap (number_of h) same) ∙ f.mover_is in
      let is = mover_number in
      cc

  no_ring : (other : Text) (set : Terms) (parent : Option ℕ) (spot : Spot) (k place : ℕ) → spot ≡ Under other set
      → IsAtSpot h parent spot → IsNoCycle h k parent → number_of h other ≡ Some place → ¬ IsUnder h k place
  no_ring other set parent Cpu k place e is acyclic found under = cc
  no_ring other set None (Under sched more) k place e is acyclic found under = is
  no_ring other set (Some p) (Under sched more) k place e is acyclic found under =
      let same : sched ≡ other = cc in
      let number = named_found h listed p sched is.0 in
      let here : number_of h other ≡ Some p = sym (ap (number_of h) same) ∙ number in
      let at : p ≡ place = cc in
      acyclic p refl (subst (λ (n : ℕ). IsUnder h k n) (sym at) under)

  pub no_cycle : IsNoCycle h id seat.parent → (other : Text) → ¬ IsCycle h c other
  no_cycle acyclic other f =
      let moves = f.moves in
      let same : f.perch ≡ perch = cc in
      let at : perch.spot ≡ Under other f.terms = sym (ap (λ (x : Perch). x.spot) same) ∙ f.to in
      no_ring other f.terms seat.parent perch.spot id f.place at aimed.spot acyclic f.place_is
      (subst (λ (n : ℕ). IsUnder h n f.place) (same_mover other f) f.under)

  would : with_mover h (number_of h name) perch ≡ moved_to h id (seat_there h perch)
  would = ap (λ n. with_mover h n perch) mover_number

  parent_by : (parent : Option ℕ) (spot : Spot) → IsAtSpot h parent spot → scheduler_at (place_there h spot) ≡ parent
  parent_by None Cpu is = refl
  parent_by (Some p) (Under sched set) is =
      ap (λ n. scheduler_at (place_on n)) (named_found h listed p sched is.0)
  parent_by None (Under sched set) is = absurd is
  parent_by (Some p) Cpu is = absurd is

  parent_there : scheduler_at (seat_there h perch).place ≡ seat.parent
  parent_there = parent_by seat.parent perch.spot aimed.spot

  chain_there : (level shares : ℕ) → HasChain (with_mover h (number_of h name) perch) level shares
      → HasChain (moved_to h id (seat_there h perch)) level shares
  chain_there level shares f = subst (λ (g : Hierarchy). HasChain g level shares) would f

  flat : LevelsWithin h id seat.parent 8 → (level : ℕ) → ¬ IsTooDeep h c level
  flat within level f =
      let there = chain_there level f.shares f.chain in
      let le = within (seat_there h perch) there.chain parent_there there.stands in
      let is = there.level_is in
      let above = f.above in
      omega (arith, le, is, above)

  thin : SharesWithin h id seat.parent 4 → (shares : ℕ) → ¬ AreTooManyShares h c shares
  thin within shares f =
      let there = chain_there f.level shares f.chain in
      let le = within (seat_there h perch) there.chain parent_there there.stands in
      let is = there.shares_are in
      let above = f.above in
      omega (arith, le, is, above)

  -- ---- what is

  ring_by : (other : Text) (parent : Option ℕ) (spot : Spot) → perch.spot ≡ spot → IsAtSpot h parent spot
      → spot_name spot ≡ Some other → IsLoop h id parent → IsLoaded (h.nodes id) → IsCycle h c other
  ring_by other None spot e at named under is = absurd under
  ring_by other (Some p) Cpu e at named under is = absurd at
  ring_by other (Some p) (Under sched set) e at named under is =
      let same : sched ≡ other = cc in
      record {
        mover = name;
        terms = set;
        perch = perch;
        moves = refl;
        to = e ∙ ap (λ (n : Text). Under n set) same;
        scheduler = named_scheduler h listed id name aimed.has is;
        moved = id;
        place = p;
        mover_is = mover_number;
        place_is = sym (ap (number_of h) same) ∙ named_found h listed p sched at.0;
        under = under;
      }

  pub ring : (other : Text) → spot_name perch.spot ≡ Some other → IsLoop h id seat.parent → IsLoaded (h.nodes id)
      → IsCycle h c other
  ring other named under is = ring_by other seat.parent perch.spot refl aimed.spot named under is

  deep : (level : ℕ) → IsGreatestLevel (moved_to h id (seat_there h perch)) level → 8 < level → IsTooDeep h c level
  deep level g above = record {
    shares = fair_queues (moved_to h id (seat_there h perch)) g.chain;
    chain = subst (λ (x : Hierarchy). HasChain x level (fair_queues (moved_to h id (seat_there h perch)) g.chain))
        (sym would)
        (record { chain = g.chain; stands = g.stands; level_is = sym g.length_is; shares_are = refl });
    greatest = λ other fewer has.
        (let there = chain_there other fewer has in
        let le = g.greatest there.chain there.stands in
        let is = there.level_is in
        omega (arith, le, is));
    above = above;
  }

  shared : (shares : ℕ) → AreMostShares (moved_to h id (seat_there h perch)) shares → 4 < shares
      → AreTooManyShares h c shares
  shared shares g above = record {
    level = length g.chain;
    chain = subst (λ (x : Hierarchy). HasChain x (length g.chain) shares) (sym would)
        (record { chain = g.chain; stands = g.stands; level_is = refl; shares_are = sym g.shares_are });
    greatest = λ deep other has.
        (let there = chain_there deep other has in
        let le = g.most there.chain there.stands in
        let is = there.shares_are in
        omega (arith, le, is));
    above = above;
  }

  -- ---- what is clear

  clear_names : (n : ℕ) → n ≤ 19 → IsClear h name perch n
  clear_names n le = record {
    known = λ lt. known;
    lone = λ lt. lone;
    acyclic = λ lt. absurd (omega (arith, le, lt));
    flat = λ lt. absurd (omega (arith, le, lt));
    thin = λ lt. absurd (omega (arith, le, lt));
  }

  clear_rings : IsNoCycle h id seat.parent → (n : ℕ) → n ≤ 20 → IsClear h name perch n
  clear_rings acyclic n le = record {
    known = λ lt. known;
    lone = λ lt. lone;
    acyclic = λ lt. no_cycle acyclic;
    flat = λ lt. absurd (omega (arith, le, lt));
    thin = λ lt. absurd (omega (arith, le, lt));
  }

  clear_levels : IsNoCycle h id seat.parent → LevelsWithin h id seat.parent 8 → (n : ℕ) → n ≤ 21
      → IsClear h name perch n
  clear_levels acyclic within n le = record {
    known = λ lt. known;
    lone = λ lt. lone;
    acyclic = λ lt. no_cycle acyclic;
    flat = λ lt. flat within;
    thin = λ lt. absurd (omega (arith, le, lt));
  }

  pub clear_all : IsPlaced h id seat.parent → (n : ℕ) → IsClear h name perch n
  clear_all placed n = record {
    known = λ lt. known;
    lone = λ lt. lone;
    acyclic = λ lt. no_cycle placed.acyclic;
    flat = λ lt. flat placed.levels;
    thin = λ lt. thin placed.shares;
  }

  -- ---- the place

  no_thread_by : (spot : Spot) (parent : Option ℕ) → spot ≡ Cpu → IsAtSpot h parent spot → parent ≡ None
  no_thread_by Cpu None e is = refl
  no_thread_by Cpu (Some p) e is = absurd is
  no_thread_by (Under sched set) parent e is = absurd (cc)

  no_thread : (parent : Option ℕ) → parent ≡ None → seat.parent ≡ parent
      → ¬ NamesThread h name
  no_thread parent none e f =
      (subst (λ (n : Option Node). MovesTo seat.parent n) (sym node_is ∙ f.there) aimed.sort) (e ∙ none)

  fault_by : (parent : Option ℕ) (spot : Spot) → seat.parent ≡ parent → IsAtSpot h parent spot → (fault : SeatFault)
      → IsSeatAnswer h parent (terms_in spot) (Some fault) → IsFaultAt h c spot fault
  fault_by None Cpu e at fault f = root_fault h c (no_thread None refl e) fault f
  fault_by (Some p) (Under sched set) e at fault f = under_fault h listed c sched set p at.0 at.1 fault f
  fault_by None (Under sched set) e at fault f = absurd at
  fault_by (Some p) Cpu e at fault f = absurd at

  fault_here : (fault : SeatFault) → IsSeatAnswer h seat.parent seat.terms (Some fault)
      → IsFaultAt h c perch.spot fault
  fault_here fault f =
      fault_by seat.parent perch.spot refl aimed.spot fault
      (subst (λ (t : Terms). IsSeatAnswer h seat.parent t (Some fault)) aimed.terms f)

  fits_by : (parent : Option ℕ) (spot : Spot) → seat.parent ≡ parent → IsAtSpot h parent spot
      → IsSeatAnswer h parent (terms_in spot) None → (r : Refusal) → ¬ RefusesPlace h c spot r
  fits_by None Cpu e at f = root_fits h c (no_thread None refl e) f
  fits_by (Some p) (Under sched set) e at f = under_fits h listed c sched set p at.0 at.1 f
  fits_by None (Under sched set) e at f = absurd at
  fits_by (Some p) Cpu e at f = absurd at

  pub fits_here : IsSeatAnswer h seat.parent seat.terms None → (r : Refusal) → ¬ RefusesPlace h c perch.spot r
  fits_here f =
      fits_by seat.parent perch.spot refl aimed.spot
      (subst (λ (t : Terms). IsSeatAnswer h seat.parent t None) aimed.terms f)

module _ (m : Moment) (listed : IsListed m.hierarchy) (name : Text) (perch : Perch) (id : ℕ) (seat : Seat)
    (aimed : IsAimed m.hierarchy name perch id seat) where
  abbrev g : Hierarchy
  g = m.hierarchy

  abbrev move : Command
  move = said.Move name perch

  -- a fault that is told first
  pub early : (fault : SeatFault) → ((free asked : ℕ) → fault ≢ faults.NoRoom free asked)
      → IsSeatAnswer g seat.parent seat.terms (Some fault) → IsRefused m move (spot_refusal perch.spot fault)
  early fault no_room f =
      let at = fault_here g listed name perch id seat aimed fault f in
      let le = early_number perch.spot fault no_room in
      place_refused m name perch (spot_refusal perch.spot fault) at.refuses
      (clear_names g listed name perch id seat aimed (number (spot_refusal perch.spot fault) + 1)
      (omega (arith, le)))
      at.first

  -- what is wrong with the place, where no fault is told first
  pub misplaced : ((other : Refusal) → RefusesPlace g move perch.spot other → 23 ≤ number other) → (r : Refusal)
      → IsMisplaced g id seat.parent perch.spot r → IsLoaded (g.nodes id) → IsRefused m move r
  misplaced late (Cycle other) f is =
      whole_refused m name perch (Cycle other) (ring g listed name perch id seat aimed other f.0 f.1 is)
      (clear_names g listed name perch id seat aimed 19 (omega arith))
      (λ r refuses. (let le = late r refuses in omega (arith, le)))
  misplaced late (TooDeep level) f is =
      let greatest = f.2 (seat_there g perch) (parent_there g listed name perch id seat aimed) in
      whole_refused m name perch (TooDeep level) (deep g listed name perch id seat aimed level greatest f.1)
      (clear_rings g listed name perch id seat aimed f.0 20 (omega arith))
      (λ r refuses. (let le = late r refuses in omega (arith, le)))
  misplaced late (TooManyShares shares) f is =
      let most = f.3 (seat_there g perch) (parent_there g listed name perch id seat aimed) in
      whole_refused m name perch (TooManyShares shares) (shared g listed name perch id seat aimed shares most f.2)
      (clear_levels g listed name perch id seat aimed f.0 f.1 21 (omega arith))
      (λ r refuses. (let le = late r refuses in omega (arith, le)))
  misplaced late _ f is = absurd f

  -- the want of room is the only fault
  late_by : (parent : Option ℕ) (spot : Spot) (free asked : ℕ) → IsAtSpot g parent spot
      → IsSeatAnswer g parent (terms_in spot) (Some (faults.NoRoom free asked))
      → IsFaultAt g move spot (faults.NoRoom free asked)
      → RefusesPlace g move spot (NoRoom free asked)
      × ((other : Refusal) → RefusesPlace g move spot other → 23 ≤ number other)
  late_by None Cpu free asked at is f = absurd is
  late_by None (Under sched set) free asked at is f = absurd at
  late_by (Some p) Cpu free asked at is f = absurd at
  late_by (Some p) (Under sched set) free asked at is f = (f.refuses, f.first)

  pub room_late : (free asked : ℕ) → IsSeatAnswer g seat.parent seat.terms (Some (faults.NoRoom free asked))
      → RefusesPlace g move perch.spot (NoRoom free asked)
      × ((other : Refusal) → RefusesPlace g move perch.spot other → 23 ≤ number other)
  room_late free asked f =
      late_by seat.parent perch.spot free asked aimed.spot
      (subst (λ (t : Terms). IsSeatAnswer g seat.parent t (Some (faults.NoRoom free asked))) aimed.terms f)
      (fault_here g listed name perch id seat aimed (faults.NoRoom free asked) f)

  pub no_room : (free asked : ℕ) → IsSeatAnswer g seat.parent seat.terms (Some (faults.NoRoom free asked))
      → IsPlaced g id seat.parent → IsRefused m move (NoRoom free asked)
  no_room free asked f placed =
      let at = room_late free asked f in
      place_refused m name perch (NoRoom free asked) at.0
      (clear_all g listed name perch id seat aimed placed 24) at.1

  -- ---- by what the tree answers

  pub misplaced_fits : IsSeatAnswer g seat.parent seat.terms None → (r : Refusal)
      → IsLoaded (g.nodes id) × IsMisplaced g id seat.parent perch.spot r → IsRefused m move r
  misplaced_fits fits r f =
      misplaced
      (λ other refuses. absurd (fits_here g listed name perch id seat aimed fits other refuses)) r f.1 f.0

  room_so : (fault : SeatFault) (free asked : ℕ) → fault ≡ faults.NoRoom free asked
      → IsSeatAnswer g seat.parent seat.terms (Some fault)
      → IsSeatAnswer g seat.parent seat.terms (Some (faults.NoRoom free asked))
  room_so fault free asked e f = subst (λ (x : SeatFault). IsSeatAnswer g seat.parent seat.terms (Some x)) e f

  pub misplaced_full : (fault : SeatFault) (free asked : ℕ) → fault ≡ faults.NoRoom free asked
      → IsSeatAnswer g seat.parent seat.terms (Some fault) → (r : Refusal)
      → IsLoaded (g.nodes id) × IsMisplaced g id seat.parent perch.spot r → IsRefused m move r
  misplaced_full fault free asked e full r f =
      misplaced (room_late free asked (room_so fault free asked e full)).1 r f.1 f.0

  pub lacks_room : (fault : SeatFault) (free asked : ℕ) → fault ≡ faults.NoRoom free asked
      → IsSeatAnswer g seat.parent seat.terms (Some fault) → IsPlaced g id seat.parent
      → IsRefused m move (NoRoom free asked)
  lacks_room fault free asked e full placed = no_room free asked (room_so fault free asked e full) placed
