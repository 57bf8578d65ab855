-- In every slot that is taken sits a port of a node, and there are finitely many nodes.
use Rattle.std.proofs.Common.{◌≡◌, ◌≢◌, ℕ, zero, suc, inl, inr, ◌+◌, ◌≤◌, ◌⊎◌, List, [], ◌∷◌, ◌++◌, slice_get}
use Rattle.std.proofs.Common.{Option, Some, None, Bool, true, false, if◌then◌else◌, ◌==◌, refl, sym, ap, ◌∙◌}
use Rattle.std.proofs.Common.{subst, arith, fold, cond}
use Rattle.std.proofs.lemmas.Bool.{cases_eq, eq-eqb, ne_eqb}
use Rattle.std.proofs.lemmas.List.Sums.{fold-append}
use Rattle.hls_chron.specs.declared.book.Event.{Event}
use Rattle.hls_chron.specs.declared.book.Event.TheVariants as events
use Rattle.hls_chron.specs.declared.plain.Terms.{Terms}
use Rattle.hls_chron.specs.Seats.{terms_after, terms_at}
use Rattle.hls_chron.proofs.BookLaws.{terms_at-mark, terms_at-row}
use Rattle.hls_machine.specs.Ledgers.{empty_book}
use Rattle.hls_machine.specs.Hierarchy.{Hierarchy, Node, Loaded, Admitted, Wake, Asleep, Place, Processor, At}
use Rattle.hls_machine.specs.Hierarchy.{Seat, start, seats_of, seat_of, book_of}
use Rattle.hls_machine.specs.Steps.{Hop, hop_at, hops_of, row_by, seating_at, leaving_at, seatings, leavings}
use Rattle.hls_machine.specs.Steps.{marked, renewed, reseated, roused, ticked, effect, with_wake, elapsed}
use Rattle.hls_machine.specs.Steps.{nobody, Step, Refuse, Load, Admit, End, Unload, Move, Rouse, Block, Elapse}
use Rattle.hls_machine.specs.Steps.{after, loaded, admitted, wake_by}
use Rattle.hls_machine.specs.Linked.{book_at, SitsBelow, SitsAt}
use Rattle.hls_machine.proofs.Marks.{terms_at-marks}
use Rattle.hls_machine.proofs.Nodes.{seats-marked, seats-renewed, seats-roused, book-roused, book-reseated}
use Rattle.hls_machine.proofs.Kept.{IsSound, at_same, at_other}
use Rattle.hls_machine.proofs.Admissions.{leave_less}
use Rattle.hls_machine.proofs.Elapses.{seats-ticked}
use Rattle.hls_machine.proofs.Absent.{absent_step}

-- a port of a node sits at a slot
pub record HasSitter (nodes : ℕ → Option Node) (p slot : ℕ) : Type 0 where
  pub node : ℕ
  pub port : ℕ
  pub seat : Seat
  pub sits : seat_of (nodes node) port ≡ Some seat
  pub at_place : seat.place ≡ At p slot

abbrev pub HasSitters : Hierarchy → Type 0
HasSitters h = (p slot : ℕ) (terms : Terms) → terms_at (book_of (h.nodes p)) slot ≡ Some terms
    → HasSitter h.nodes p slot

-- who sits at a slot after these seats are taken has one of them, or sat there before
pub record IsTaken (seats : List Seat) (k slot : ℕ) : Type 0 where
  pub port : ℕ
  pub seat : Seat
  pub sits : slice_get seats port ≡ Some seat
  pub at_place : seat.place ≡ At k slot

abbrev IsTakenOr : (seats : List Seat) → (k slot : ℕ) → (before : Option Terms) → Terms → Type 0
IsTakenOr seats k slot before terms = IsTaken seats k slot ⊎ (before ≡ Some terms)

taken_later : (seat : Seat) (seats : List Seat) (k slot : ℕ) → IsTaken seats k slot
    → IsTaken (seat ∷ seats) k slot
taken_later seat seats k slot t =
    record { port = suc t.port; seat = t.seat; sits = t.sits; at_place = t.at_place }

one_taken : (k slot : ℕ) (terms : Terms) (place : Place) (before : Option Terms) (last : Terms)
    → fold (terms_after slot) before (seating_at k terms place) ≡ Some last → (place ≡ At k slot)
    ⊎ (before ≡ Some last)
one_taken k slot terms Processor before last e = inr e
one_taken k slot terms (At p s) before last e = elim (cases_eq p k) [
  | inr ne ↦ inr (rw (ne_eqb p k ne) at e)
  | inl is ↦ elim (cases_eq s slot)
      [ inl a ↦ inl (rw (is, a) refl) | inr a ↦ inr (rw (eq-eqb p k is, ne_eqb s slot a) at e) ]
]

pub seatings_taken : (seats : List Seat) (k slot : ℕ) (before : Option Terms) (last : Terms)
    → fold (terms_after slot) before (seatings seats k) ≡ Some last → IsTakenOr seats k slot before last
seatings_taken [] k slot before last e = inr e
seatings_taken (seat ∷ seats) k slot before last e =
    elim (seatings_taken seats k slot (fold (terms_after slot) before (seating_at k seat.terms seat.place))
    last (sym (fold-append (terms_after slot) before (seating_at k seat.terms seat.place) (seatings seats k))
    ∙ e)) [
      | inl t ↦ inl (taken_later seat seats k slot t)
      | inr old ↦ elim (one_taken k slot seat.terms seat.place before last old) [
        | inl here ↦ inl (record { port = 0; seat = seat; sits = refl; at_place = here })
        | inr old ↦ inr old
      ]
    ]

-- who still sits at a slot after these seats are left had none of them
leaving_here : (k slot : ℕ) (place : Place) (before : Option Terms) → place ≡ At k slot
    → fold (terms_after slot) before (leaving_at k place) ≡ None
leaving_here k slot Processor before e = cc
leaving_here k slot (At p s) before e = let a : p ≡ k = cc in let b : s ≡ slot = cc in
    rw (eq-eqb p k a, eq-eqb s slot b) refl

pub leave_gone : (seats : List Seat) (k slot : ℕ) (before : Option Terms) (last : Terms)
    → fold (terms_after slot) before (leavings seats k) ≡ Some last → (port : ℕ) (seat : Seat)
    → slice_get seats port ≡ Some seat → seat.place ≢ At k slot
leave_gone [] k slot before last e port seat f here = cc
leave_gone (s ∷ seats) k slot before last e zero seat f here =
    let same : s ≡ seat = cc in
    let none = leaving_here k slot s.place before (ap (λ (x : Seat). x.place) same ∙ here) in
    let rest : fold (terms_after slot) (fold (terms_after slot) before (leaving_at k s.place))
    (leavings seats k) ≡ Some last =
    sym (fold-append (terms_after slot) before (leaving_at k s.place) (leavings seats k)) ∙ e in
    let some = leave_less seats k slot (fold (terms_after slot) before (leaving_at k s.place)) last rest in
    cc
leave_gone (s ∷ seats) k slot before last e (suc port) seat f here =
    leave_gone seats k slot (fold (terms_after slot) before (leaving_at k s.place)) last
    (sym (fold-append (terms_after slot) before (leaving_at k s.place) (leavings seats k)) ∙ e) port seat
    f here

-- books of nodes
free_empty : (now spare_ticks spare_marks slot : ℕ) (terms : Terms)
    → terms_at (empty_book now spare_ticks spare_marks) slot ≡ Some terms → ⊥
unfolding terms_at
free_empty now spare_ticks spare_marks slot terms e = cc

terms-renewed : (b : Bool) (now : ℕ) (node : Option Node) (slot : ℕ)
    → terms_at (book_of (renewed b now node)) slot ≡ terms_at (book_of node) slot
terms-renewed false now any slot = refl
terms-renewed true now None slot = refl
terms-renewed true now (Some (Loaded s)) slot = terms_at-mark s.book events.Settle slot
terms-renewed true now (Some (Admitted t)) slot = refl

terms-marked : (es : List Event) (node : Option Node) (slot : ℕ) (terms : Terms)
    → terms_at (book_of (marked es node)) slot ≡ Some terms
    → fold (terms_after slot) (terms_at (book_of node) slot) es ≡ Some terms
terms-marked es None slot terms e = absurd (free_empty 0 0 0 slot terms e)
terms-marked es (Some (Loaded s)) slot terms e = sym (terms_at-marks s.book slot es) ∙ e
terms-marked es (Some (Admitted t)) slot terms e = absurd (free_empty 0 0 0 slot terms e)

terms-ticked : (mask : ℕ) (hop : Option Hop) (node : Option Node) (slot : ℕ)
    → terms_at (book_of (ticked mask hop node)) slot ≡ terms_at (book_of node) slot
terms-ticked mask hop None slot = refl
terms-ticked mask hop (Some (Loaded s)) slot = terms_at-row s.book (row_by mask hop) slot
terms-ticked mask hop (Some (Admitted t)) slot = refl

-- a command: whoever has a seat of the new node's book sat on the old one, where it has any
module _ (h : Hierarchy) (rank : ℕ → ℕ) (sound : IsSound h rank) (had : HasSitters h) (k : ℕ)
    (node : Option Node) (below : ℕ → Bool)
    (same : (slot : ℕ) (terms : Terms) → terms_at (book_of node) slot ≡ Some terms
    → terms_at (book_at h k) slot ≡ Some terms) where
  abbrev made : Hierarchy
  made = effect h k node below

  abbrev es : ℕ → List Event
  es c = leavings (seats_of (h.nodes k)) c ++ seatings (seats_of node) c

  abbrev inner : ℕ → Option Node
  inner c = if c == k then node else marked (es c) (h.nodes c)

  stays : (p slot : ℕ) (s : HasSitter h.nodes p slot) → s.node ≢ k → HasSitter made.nodes p slot
  stays p slot s ne = record {
    node = s.node;
    port = s.port;
    seat = s.seat;
    sits = ap (λ seats. slice_get seats s.port)
        (seats-renewed (below s.node) h.now (inner s.node)
        ∙ ap seats_of (at_other s.node k node (marked (es s.node) (h.nodes s.node)) ne)
        ∙ seats-marked (es s.node) (h.nodes s.node)) ∙ s.sits;
    at_place = s.at_place;
  }

  taken : (p slot : ℕ) → IsTaken (seats_of node) p slot → HasSitter made.nodes p slot
  taken p slot t = record {
    node = k;
    port = t.port;
    seat = t.seat;
    sits = ap (λ seats. slice_get seats t.port)
        (seats-renewed (below k) h.now (inner k)
        ∙ ap seats_of (at_same k k node (marked (es k) (h.nodes k)) refl)) ∙ t.sits;
    at_place = t.at_place;
  }

  -- nobody sits on itself
  not_itself : (slot : ℕ) (s : HasSitter h.nodes k slot) → s.node ≢ k
  not_itself slot s e =
      let sits : SitsBelow h rank s.node s.port s.seat k slot =
      subst (SitsAt h rank s.node s.port s.seat) s.at_place (sound.sits s.node s.port s.seat s.sits) in
      let lt = sits.below in
      let eq : rank s.node ≡ rank k = ap rank e in
      omega (arith, lt, eq)

  on_node : (slot : ℕ) (terms : Terms) → terms_at (book_of node) slot ≡ Some terms
      → HasSitter made.nodes k slot
  on_node slot terms e = let s = had k slot terms (same slot terms e) in stays k slot s (not_itself slot s)

  elsewhere : (p slot : ℕ) (terms : Terms) → terms_at (book_of (marked (es p) (h.nodes p))) slot ≡ Some terms
      → HasSitter made.nodes p slot
  elsewhere p slot terms e =
      let gone = seats_of (h.nodes k) in
      let left = fold (terms_after slot) (terms_at (book_at h p) slot) (leavings gone p) in
      let all = sym
      (fold-append (terms_after slot) (terms_at (book_at h p) slot) (leavings gone p)
      (seatings (seats_of node) p)) ∙ terms-marked (es p) (h.nodes p) slot terms e in
      elim (seatings_taken (seats_of node) p slot left terms all) [
        | inl t ↦ taken p slot t
        | inr old ↦
            let s = had p slot terms (leave_less gone p slot (terms_at (book_at h p) slot) terms old) in
            stays p slot s
            (λ e. leave_gone gone p slot (terms_at (book_at h p) slot) terms old s.port s.seat
            (sym (ap (λ n. seat_of (h.nodes n) s.port) e) ∙ s.sits) s.at_place)
      ]

  pub effect_sitters : HasSitters (effect h k node below)
  effect_sitters p slot terms e =
      let was : terms_at (book_of (inner p)) slot ≡ Some terms =
      sym (terms-renewed (below p) h.now (inner p) slot) ∙ e in
      elim (cases_eq p k) [
        | inl is ↦ subst (λ n. HasSitter made.nodes n slot) (sym is)
            (on_node slot terms
            (ap (λ n. terms_at (book_of n) slot) (sym (at_same p k node (marked (es p) (h.nodes p)) is))
            ∙ was))
        | inr ne ↦ elsewhere p slot terms
            (ap (λ n. terms_at (book_of n) slot) (sym (at_other p k node (marked (es p) (h.nodes p)) ne))
            ∙ was)
      ]

-- where seats and books stay, so do those who sit
same_sitters : (h g : Hierarchy) → ((k : ℕ) → seats_of (g.nodes k) ≡ seats_of (h.nodes k))
    → ((k slot : ℕ) → terms_at (book_of (g.nodes k)) slot ≡ terms_at (book_of (h.nodes k)) slot)
    → HasSitters h → HasSitters g
same_sitters h g seats terms_same had p slot terms e =
    let s = had p slot terms (sym (terms_same p slot) ∙ e) in
    record {
      node = s.node;
      port = s.port;
      seat = s.seat;
      sits = ap (λ xs. slice_get xs s.port) (seats s.node)
          ∙ s.sits;
      at_place = s.at_place;
    }

roused_sitters : (h : Hierarchy) (k : ℕ) (how : Wake) → HasSitters h → HasSitters (with_wake h k how)
roused_sitters h k how had = same_sitters h (with_wake h k how)
    (λ c. elim (c == k) as (λ b. seats_of (cond b (roused how (h.nodes c)) (h.nodes c)) ≡ seats_of
    (h.nodes c)) [ true ↦ seats-roused how (h.nodes c) | false ↦ refl ])
    (λ c slot. elim
    (c == k) as (λ b. terms_at (book_of (cond b (roused how (h.nodes c)) (h.nodes c))) slot ≡ terms_at
    (book_of (h.nodes c)) slot)
    [ true ↦ ap (λ b. terms_at b slot) (book-roused how (h.nodes c)) | false ↦ refl ]) had

pub step_sitters : (h : Hierarchy) (rank : ℕ → ℕ) (step : Step) → IsSound h rank → HasSitters h
    → HasSitters (after h step)
step_sitters h rank Refuse sound had = had
step_sitters h rank (Load k name config spare_ticks spare_marks seats) sound had =
    effect_sitters h rank sound had k (Some (Loaded (loaded h.now name config spare_ticks spare_marks seats)))
    nobody (λ slot terms e. absurd (free_empty h.now spare_ticks spare_marks slot terms e))
step_sitters h rank (Admit k name seat) sound had =
    effect_sitters h rank sound had k (Some (Admitted (admitted h.now name seat))) nobody
    (λ slot terms e. absurd (free_empty 0 0 0 slot terms e))
step_sitters h rank (End k) sound had =
    effect_sitters h rank sound had k None nobody (λ slot terms e. absurd (free_empty 0 0 0 slot terms e))
step_sitters h rank (Unload k) sound had =
    effect_sitters h rank sound had k None nobody (λ slot terms e. absurd (free_empty 0 0 0 slot terms e))
step_sitters h rank (Move k seat below) sound had =
    effect_sitters h rank sound had k (reseated seat (h.nodes k)) below
    (λ slot terms e. sym (ap (λ b. terms_at b slot) (book-reseated seat (h.nodes k))) ∙ e)
step_sitters h rank (Rouse k burst) sound had = roused_sitters h k (wake_by burst h.now) had
step_sitters h rank (Block k) sound had = roused_sitters h k Asleep had
step_sitters h rank (Elapse asking masks path) sound had =
    same_sitters h (elapsed h asking masks path)
    (λ c. seats-ticked (masks c) (hop_at (hops_of path) c) (h.nodes c))
    (λ c slot. terms-ticked (masks c) (hop_at (hops_of path) c) (h.nodes c) slot) had

pub start_sitters : HasSitters start
start_sitters p slot terms e = absurd (free_empty 0 0 0 slot terms e)

-- no node has a number from a count on
pub record IsFinite (h : Hierarchy) : Type 0 where
  pub count : ℕ
  pub none : (k : ℕ) → count ≤ k → h.nodes k ≡ None

pub step_finite : (h : Hierarchy) (step : Step) → IsFinite h → IsFinite (after h step)
step_finite h (Load k name config spare_ticks spare_marks seats) f =
    record {
      count = f.count + k + 1;
      none =
          λ c le. absent_step h c (Load k name config spare_ticks spare_marks seats) (λ e. omega arith)
          (f.none c (omega arith));
    }
step_finite h (Admit k name seat) f =
    record {
      count = f.count + k + 1;
      none = λ c le. absent_step h c (Admit k name seat) (λ e. omega arith)
          (f.none c (omega arith));
    }
step_finite h Refuse f = f
step_finite h (End k) f =
    record { count = f.count; none = λ c le. absent_step h c (End k) (λ m. m) (f.none c le) }
step_finite h (Unload k) f =
    record { count = f.count; none = λ c le. absent_step h c (Unload k) (λ m. m) (f.none c le) }
step_finite h (Move k seat below) f =
    record { count = f.count; none = λ c le. absent_step h c (Move k seat below) (λ m. m) (f.none c le) }
step_finite h (Rouse k burst) f =
    record { count = f.count; none = λ c le. absent_step h c (Rouse k burst) (λ m. m) (f.none c le) }
step_finite h (Block k) f =
    record { count = f.count; none = λ c le. absent_step h c (Block k) (λ m. m) (f.none c le) }
step_finite h (Elapse asking masks path) f =
    record {
      count = f.count;
      none = λ c le. absent_step h c (Elapse asking masks path) (λ m. m) (f.none c le);
    }
