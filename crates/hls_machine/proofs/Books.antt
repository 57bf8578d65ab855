-- Every step leaves every book made.
use Rattle.std.proofs.Common.{◌≡◌, ◌≢◌, ℕ, inl, inr, ◌⊎◌, List, [], ◌∷◌, ◌++◌, slice_get, Option, Some, None}
use Rattle.std.proofs.Common.{Bool, true, false, if◌then◌else◌, ◌==◌, refl, sym, ap, ◌∙◌, subst}
use Rattle.std.proofs.lemmas.Bool.{cases_eq, eq-eqb}
use Rattle.hls_chron.specs.declared.book.Event.{Event}
use Rattle.hls_chron.specs.declared.book.Event.TheVariants.{Settle}
use Rattle.hls_chron.specs.declared.plain.Config.TheVariants.{Cpu}
use Rattle.hls_chron.specs.Seats.{SlotAsks, terms_at}
use Rattle.hls_kinds.specs.Asks.{slot_asks}
use Rattle.hls_kinds.specs.Discipline.{Serves, KeepsDiscipline}
use Rattle.hls_kinds.specs.Made.{IsRow, IsMade}
use Rattle.hls_kinds.proofs.MadeLaws.{made_new, made_mark, made_row}
use Rattle.hls_kinds.proofs.MarkLaws.{sits_on}
use Rattle.hls_kinds.proofs.DisciplineLaws.{discipline-unwritten}
use Rattle.hls_book.proofs.Books.{discipline_made}
use Rattle.hls_machine.specs.Ledgers.{empty_book, with_marks}
use Rattle.hls_machine.specs.Hierarchy.{Hierarchy, Node, Loaded, Admitted, Scheduler, Wake, Asleep, Seat, At, start}
use Rattle.hls_machine.specs.Hierarchy.{seats_of, book_of, config_of}
use Rattle.hls_machine.specs.Steps.{seatings, leavings, marked, renewed, reseated, roused, Hop, Path, hop_at}
use Rattle.hls_machine.specs.Steps.{hops_of, row_by, ticked, Step, Refuse, Load, Admit, End, Unload, Move}
use Rattle.hls_machine.specs.Steps.{Rouse, Block, Elapse, loaded, admitted, wake_by, after, effect, nobody, state}
use Rattle.hls_machine.specs.Legal.{MayTake, MayRun, IsAsking, Can, IsLegal}
use Rattle.hls_machine.specs.Linked.{SitsAt}
use Rattle.hls_machine.proofs.Nodes.{seats-reseated}
use Rattle.hls_machine.proofs.Seatings.{Apart, lone_port}
use Rattle.hls_machine.proofs.Takings.{may_sit}
use Rattle.hls_machine.proofs.Kept.{IsSound, at_same, at_other}
use Rattle.hls_machine.proofs.Hops.{path_goes}
use Rattle.hls_machine.proofs.Elapses.{mask_by}
use Rattle.hls_machine.proofs.Admissions.{OneEach, seats_on}
use Rattle.hls_machine.proofs.Makings.{Have, MayBeTaken, made-marks}
use Rattle.hls_machine.proofs.Runs.{Kept, step_keeps, start_kept}

abbrev pub IsMadeNode : Option Node → Type 0
IsMadeNode None = Unit {0}
IsMadeNode (Some (Loaded s)) = IsMade s.config s.book
IsMadeNode (Some (Admitted t)) = Unit {0}

abbrev pub AllMade : Hierarchy → Type 0
AllMade h = (k : ℕ) → IsMadeNode (h.nodes k)

made_marked : (es : List Event) (node : Option Node)
    → ((s : Scheduler) → node ≡ Some (Loaded s) → IsMade s.config s.book
    → IsMade s.config (with_marks s.book es)) → IsMadeNode node → IsMadeNode (marked es node)
made_marked es None makes has = tt
made_marked es (Some (Loaded s)) makes has = makes s refl has
made_marked es (Some (Admitted t)) makes has = tt

made_renewed : (b : Bool) (now : ℕ) (node : Option Node) → IsMadeNode node → IsMadeNode (renewed b now node)
made_renewed false now any has = has
made_renewed true now None has = tt
made_renewed true now (Some (Loaded s)) has = made_mark s.config s.book Settle has tt
made_renewed true now (Some (Admitted t)) has = tt

made_reseated : (seat : Seat) (node : Option Node) → IsMadeNode node → IsMadeNode (reseated seat node)
made_reseated seat None has = tt
made_reseated seat (Some (Loaded s)) has = has
made_reseated seat (Some (Admitted t)) has = tt

made_roused : (b : Bool) (how : Wake) (node : Option Node) → IsMadeNode node
    → IsMadeNode (if b then roused how node else node)
made_roused true how None has = tt
made_roused true how (Some (Loaded s)) has = has
made_roused true how (Some (Admitted t)) has = tt
made_roused false how any has = has

-- the row of a tick: only seats ask, and the slot that is served is the one to serve
module _ (h : Hierarchy) (asking : ℕ → Bool) (masks : ℕ → ℕ) (path : Option Path) (a : IsAsking h asking masks)
    (m : MayRun h asking masks path) (k : ℕ) (s : Scheduler) (n : h.nodes k ≡ Some (Loaded s)) where
  row_seats : (hop : Option Hop) (slot : ℕ) → SlotAsks (row_by (masks k) hop).mask slot
      → terms_at s.book slot ≢ None
  row_seats hop slot asks none =
      let off : slot_asks (masks k) slot ≡ false =
      a.free k slot (ap (λ x. terms_at (book_of x) slot) n ∙ none) in
      let bit : SlotAsks (masks k) slot = subst (λ x. SlotAsks x slot) (mask_by (masks k) hop) asks in
      let on = eq-eqb _ 1 bit in cc

  row_serves : (hop : Option Hop) → hop_at (hops_of path) k ≡ hop → (slot : ℕ)
      → (row_by (masks k) hop).to ≡ Some slot → Serves s.config s.book (row_by (masks k) hop).mask slot
  row_serves None e slot is = absurd (cc)
  row_serves (Some hop) e slot is =
      let same : hop.slot ≡ slot = cc in
      subst (Serves s.config s.book (masks k)) same (path_goes h asking masks path m k hop s e n).serves

row_allowed : (h : Hierarchy) (asking : ℕ → Bool) (masks : ℕ → ℕ) (path : Option Path)
    → IsAsking h asking masks → MayRun h asking masks path → (k : ℕ) (s : Scheduler)
    → h.nodes k ≡ Some (Loaded s) → (hop : Option Hop) → hop_at (hops_of path) k ≡ hop
    → IsRow s.config s.book (row_by (masks k) hop)
row_allowed h asking masks path a m k s n hop e = record {
  seats = row_seats h asking masks path a m k s n hop;
  serves = row_serves h asking masks path a m k s n hop e;
}

made_ticked : (h : Hierarchy) (asking : ℕ → Bool) (masks : ℕ → ℕ) (path : Option Path)
    → IsAsking h asking masks → MayRun h asking masks path → (k : ℕ) (node : Option Node) → h.nodes k ≡ node
    → IsMadeNode node → IsMadeNode (ticked (masks k) (hop_at (hops_of path) k) node)
made_ticked h asking masks path a m k None n has = tt
made_ticked h asking masks path a m k (Some (Loaded s)) n has =
    made_row s.config s.book (row_by (masks k) (hop_at (hops_of path) k)) has
    (row_allowed h asking masks path a m k s n (hop_at (hops_of path) k) refl)
made_ticked h asking masks path a m k (Some (Admitted t)) n has = tt

lone_each : (seat : Seat) (seats : List Seat) → seats ≡ seat ∷ [] → OneEach seats
lone_each seat seats is port other one two e f same =
    (lone_port seat one port (sym (ap (λ xs. slice_get xs port) is) ∙ e)).first
    ∙ sym (lone_port seat two other (sym (ap (λ xs. slice_get xs other) is) ∙ f)).first

-- a command
seats_apart : (h : Hierarchy) (rank : ℕ → ℕ) (k : ℕ) → IsSound h rank → Apart (seats_of (h.nodes k))
seats_apart h rank k sound port other one two e f same = (sound.alone k k port other one two e f same).port_same

seats_have : (h : Hierarchy) (rank : ℕ → ℕ) (k c : ℕ) → IsSound h rank
    → Have (seats_of (h.nodes k)) c (book_of (h.nodes c))
seats_have h rank k c sound port seat slot e at none =
    let sat = subst (SitsAt h rank k port seat) at (sound.sits k port seat e) in
    let has = sits_on (book_of (h.nodes c)) slot sat.from seat.terms sat.sits in
    cc

may_mark : (h : Hierarchy) (gone : List Seat) (seat : Seat) (c slot : ℕ) (s : Scheduler)
    → h.nodes c ≡ Some (Loaded s) → MayTake h gone seat → seat.place ≡ At c slot
    → MayBeTaken s.config s.book gone c slot seat.terms
may_mark h gone seat c slot s e take at =
    let m = may_sit h gone seat seat.place c slot at take.free in
    let same : m.scheduler ≡ s = (let there = m.there in cc) in
    subst (λ (x : Scheduler). MayBeTaken x.config x.book gone c slot seat.terms) same
    (record { range = take.in_range.terms; fits = m.fits; free = m.free })

module _ (h : Hierarchy) (rank : ℕ → ℕ) (sound : IsSound h rank) (k : ℕ) (node : Option Node) (below : ℕ → Bool)
    (take : (port : ℕ) (seat : Seat) → slice_get (seats_of node) port ≡ Some seat
    → MayTake h (seats_of (h.nodes k)) seat) (one : OneEach (seats_of node))
    (good : IsMadeNode node) (has : AllMade h) where
  abbrev es : ℕ → List Event
  es c = leavings (seats_of (h.nodes k)) c ++ seatings (seats_of node) c

  abbrev inner : ℕ → Option Node
  inner c = if c == k then node else marked (es c) (h.nodes c)

  makes : (c : ℕ) (s : Scheduler) → h.nodes c ≡ Some (Loaded s) → IsMade s.config s.book
      → IsMade s.config (with_marks s.book (es c))
  makes c s e made =
      made-marks s.config s.book (seats_of (h.nodes k)) (seats_of node) c (seats_apart h rank k sound)
      (subst (λ x. Have (seats_of (h.nodes k)) c (book_of x)) e (seats_have h rank k c sound))
      (seats_on (seats_of node) c one)
      (λ port seat slot f at. may_mark h (seats_of (h.nodes k)) seat c slot s e (take port seat f) at) made

  at_node : (c : ℕ) → (c ≡ k) ⊎ (c ≢ k) → IsMadeNode (inner c)
  at_node c (inl e) = subst IsMadeNode (sym (at_same c k node (marked (es c) (h.nodes c)) e)) good
  at_node c (inr ne) = subst IsMadeNode (sym (at_other c k node (marked (es c) (h.nodes c)) ne))
      (made_marked (es c) (h.nodes c) (λ s e. makes c s e) (has c))

  effect_made : AllMade (effect h k node below)
  effect_made = λ c. made_renewed (below c) h.now (inner c) (at_node c (cases_eq c k))

pub step_made : (h : Hierarchy) (rank : ℕ → ℕ) (step : Step) → IsSound h rank → Can h step → AllMade h
    → AllMade (after h step)
step_made h rank Refuse sound can has = has
step_made h rank (Load k name config spare_ticks spare_marks seats) sound can has =
    effect_made h rank sound k (Some (Loaded (loaded h.now name config spare_ticks spare_marks seats))) nobody
    (λ port seat e. subst (λ (gone : List Seat). MayTake h gone seat)
    (sym (ap seats_of can.0.new.unused)) (can.0.places.take port seat e)) can.0.places.apart
    (made_new config (empty_book h.now spare_ticks spare_marks) can.0.kind can.0.in_range refl refl) has
step_made h rank (Admit k name seat) sound can has =
    effect_made h rank sound k (Some (Admitted (admitted h.now name seat))) nobody
    (λ port one e. subst (λ (gone : List Seat). MayTake h gone one)
    (sym (ap seats_of can.new.unused)) (can.places.take port one e)) can.places.apart tt has
step_made h rank (End k) sound can has = effect_made h rank sound k None nobody (λ port seat e. absurd (cc))
    (λ port other one two e f same. cc) tt has
step_made h rank (Unload k) sound can has = effect_made h rank sound k None nobody (λ port seat e. absurd (cc))
    (λ port other one two e f same. cc) tt has
step_made h rank (Move k seat below) sound can has =
    let seats = seats-reseated seat seat.place (h.nodes k) can.0.sort in
    effect_made h rank sound k (reseated seat (h.nodes k)) below
    (λ port one e. subst (λ (x : Seat). MayTake h (seats_of (h.nodes k)) x)
    (lone_port seat one port (sym (ap (λ xs. slice_get xs port) seats) ∙ e)).same can.0.take)
    (lone_each seat (seats_of (reseated seat (h.nodes k))) seats)
    (made_reseated seat (h.nodes k) (has k)) has
step_made h rank (Rouse k burst) sound can has =
    λ c. made_roused (c == k) (wake_by burst h.now) (h.nodes c) (has c)
step_made h rank (Block k) sound can has = λ c. made_roused (c == k) Asleep (h.nodes c) (has c)
step_made h rank (Elapse asking masks path) sound can has =
    λ c. made_ticked h asking masks path can.0 can.1 c (h.nodes c) refl (has c)

pub start_made : AllMade start
start_made = λ k. tt

-- whole runs
pub run_made : (steps : List Step) (h : Hierarchy) → Kept h → IsLegal h steps → AllMade h
    → AllMade (state h steps)
run_made [] h k legal has = has
run_made (step ∷ steps) h k legal has = run_made steps (after h step) (step_keeps h step k legal.0)
    legal.1 (step_made h k.rank step k.sound legal.0 has)

pub legal_made : (steps : List Step) → IsLegal start steps → AllMade (state start steps)
legal_made steps legal = run_made steps start start_kept legal start_made

-- what is no scheduler has a book in which nothing is written
pub node_discipline : (node : Option Node) → IsMadeNode node → KeepsDiscipline (config_of node) (book_of node)
node_discipline None has = discipline-unwritten Cpu (empty_book 0 0 0) refl
node_discipline (Some (Loaded s)) has = discipline_made s.config s.book has
node_discipline (Some (Admitted t)) has = discipline-unwritten Cpu (empty_book 0 0 0) refl

pub made_at : (h : Hierarchy) (k : ℕ) (s : Scheduler) → AllMade h → h.nodes k ≡ Some (Loaded s)
    → IsMade s.config s.book
made_at h k s has there = subst IsMadeNode there (has k)
