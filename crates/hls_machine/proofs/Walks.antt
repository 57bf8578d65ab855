-- A slot is served exactly where what sits there is given the tick.
use Rattle.std.proofs.Common.{◌≡◌, ℕ, inl, inr, ◌<◌, ◌≢◌, ◌⊎◌, List, [], ◌∷◌, Option, Some, None, Bool, true}
use Rattle.std.proofs.Common.{false, ◌==◌, refl, sym, ap, ◌∙◌, subst, arith}
use Rattle.std.proofs.lemmas.Bool.{cases_eq, eq-eqb, eqb-true}
use Rattle.hls_chron.specs.Seats.{is_slot}
use Rattle.hls_machine.specs.Hierarchy.{Hierarchy, Node, Loaded, Admitted, Scheduler, Place, Processor, At}
use Rattle.hls_machine.specs.Hierarchy.{Seat, seat_of, is_just}
use Rattle.hls_machine.specs.Steps.{Hop, hop_at}
use Rattle.hls_machine.specs.Legal.{Walk, Enters, Ends}
use Rattle.hls_machine.specs.Linked.{SitsBelow, SitsAt}
use Rattle.hls_machine.proofs.Seatings.{lone_port}
use Rattle.hls_machine.proofs.Kept.{IsSeat, IsSound, at_same, at_other}

abbrev pub slot_by : Option Hop → Option ℕ
slot_by None = None
slot_by (Some hop) = Some hop.slot

abbrev pub given_by : Option Hop → ℕ → Bool
given_by None port = false
given_by (Some hop) port = hop.port == port

-- the path goes on through this slot
abbrev pub passes : List Hop → (p slot : ℕ) → Bool
passes hops p slot = is_slot (slot_by (hop_at hops p)) slot

-- the path comes through this port of c
abbrev pub comes : List Hop → (thread : Option ℕ) → (c : ℕ) → Option Node → (port : ℕ) → Bool
comes hops thread c None port = false
comes hops thread c (Some (Loaded s)) port = given_by (hop_at hops c) port
comes hops thread c (Some (Admitted x)) port = is_just thread c

-- hops of other nodes do not matter
passes_later : (hop : Hop) (hops : List Hop) (p slot : ℕ) → hop.node ≢ p
    → passes (hop ∷ hops) p slot ≡ passes hops p slot
passes_later hop hops p slot ne =
    ap (λ o. is_slot (slot_by o) slot) (at_other hop.node p (Some hop) (hop_at hops p) ne)

comes_later : (hop : Hop) (hops : List Hop) (thread : Option ℕ) (c : ℕ) (node : Option Node) (port : ℕ)
    → hop.node ≢ c → comes (hop ∷ hops) thread c node port ≡ comes hops thread c node port
comes_later hop hops thread c None port ne = refl
comes_later hop hops thread c (Some (Loaded s)) port ne =
    ap (λ o. given_by o port) (at_other hop.node c (Some hop) (hop_at hops c) ne)
comes_later hop hops thread c (Some (Admitted x)) port ne = refl

-- a hop that matters
passes_here : (hop : Hop) (hops : List Hop) (p slot : ℕ) → hop.node ≡ p
    → passes (hop ∷ hops) p slot ≡ (hop.slot == slot)
passes_here hop hops p slot e =
    ap (λ o. is_slot (slot_by o) slot) (at_same hop.node p (Some hop) (hop_at hops p) e)

comes_here : (hop : Hop) (hops : List Hop) (thread : Option ℕ) (c : ℕ) (node : Option Node) (s : Scheduler)
    (port : ℕ) → hop.node ≡ c → node ≡ Some (Loaded s)
    → comes (hop ∷ hops) thread c node port ≡ (hop.port == port)
comes_here hop hops thread c any s port e is = ap (λ n. comes (hop ∷ hops) thread c n port) is
    ∙ ap (λ o. given_by o port) (at_same hop.node c (Some hop) (hop_at hops c) e)

pub bool_iff : (a b : Bool) → (a ≡ true → b ≡ true) → (b ≡ true → a ≡ true) → a ≡ b
bool_iff true b f g = sym (f refl)
bool_iff false true f g = g refl
bool_iff false false f g = refl

module _ (h : Hierarchy) (rank : ℕ → ℕ) (sound : IsSound h rank) (masks : ℕ → ℕ) where
  enters_seat : (place : Place) (hop : Hop) (e : Enters h masks place hop)
      → seat_of (h.nodes hop.node) hop.port ≡ Some e.seat
  enters_seat place hop e = ap (λ n. seat_of n hop.port) e.there ∙ e.port

  ends_seat : (place : Place) (thread : ℕ) (e : Ends h place thread)
      → seat_of (h.nodes thread) 0 ≡ Some e.thread.seat
  ends_seat place thread e = ap (λ n. seat_of n 0) e.there

  -- levels rise along a path
  enters_rank : (q s : ℕ) (hop : Hop) → Enters h masks (At q s) hop → rank q < rank hop.node
  enters_rank q s hop e = let sits : SitsBelow h rank hop.node hop.port e.seat q s =
      subst (SitsAt h rank hop.node hop.port e.seat) e.at_place
      (sound.sits hop.node hop.port e.seat (enters_seat (At q s) hop e)) in sits.below

  walk_rank : (hops : List Hop) (thread q s p slot : ℕ) → Walk h masks (At q s) hops thread
      → passes hops p slot ≡ true → rank q < rank p
  walk_rank [] thread q s p slot w on = cc
  walk_rank (hop ∷ hops) thread q s p slot w on =
      let first : rank q < rank hop.node = enters_rank q s hop w.0 in
      elim (cases_eq hop.node p) [
        | inl e ↦ let same : rank hop.node ≡ rank p = ap rank e in omega arith
        | inr ne ↦ let rest : rank hop.node < rank p =
            walk_rank hops thread hop.node hop.slot p slot w.1 (sym (passes_later hop hops p slot ne) ∙ on) in
            omega arith
      ]

  -- what a path enters at a place is what sits there
  next : (hops : List Hop) (thread c port : ℕ) (seat : Seat) (place : Place) → Walk h masks place hops thread
      → seat_of (h.nodes c) port ≡ Some seat → seat.place ≡ place
      → comes hops (Some thread) c (h.nodes c) port ≡ true
  next [] thread c port seat place w e is =
      let one : IsSeat thread c 0 port =
      sound.alone thread c 0 port w.thread.seat seat (ends_seat place thread w) e (w.at_place ∙ sym is) in
      ap (λ n. comes [] (Some thread) c n port) (ap h.nodes (sym one.node) ∙ w.there)
      ∙ eq-eqb thread c one.node
  next (hop ∷ hops) thread c port seat place w e is =
      let one : IsSeat hop.node c hop.port port =
      sound.alone hop.node c hop.port port w.0.seat seat (enters_seat place hop w.0) e
      (w.0.at_place ∙ sym is) in
      comes_here hop hops (Some thread) c (h.nodes c) w.0.scheduler port one.node
      (ap h.nodes (sym one.node) ∙ w.0.there) ∙ eq-eqb hop.port port one.port_same

  down : (place : Place) (hops : List Hop) (thread c port : ℕ) (seat : Seat) (p slot : ℕ)
      → Walk h masks place hops thread → seat_of (h.nodes c) port ≡ Some seat → seat.place ≡ At p slot
      → rank p < rank c → passes hops p slot ≡ true → comes hops (Some thread) c (h.nodes c) port ≡ true
  down place [] thread c port seat p slot w e is lt on = cc
  down place (hop ∷ hops) thread c port seat p slot w e is lt on = elim (cases_eq hop.node p) [
    | inl here ↦
        let slots : hop.slot ≡ slot = eqb-true hop.slot slot (sym (passes_here hop hops p slot here) ∙ on) in
        let apart : hop.node ≢ c = λ same. let one = ap rank here in let two = ap rank same in
        omega (arith, one, two, lt) in
        comes_later hop hops (Some thread) c (h.nodes c) port apart
        ∙ next hops thread c port seat (At hop.node hop.slot) w.1 e (is ∙ (rw (here, slots) refl))
    | inr ne ↦
        let later : passes hops p slot ≡ true = sym (passes_later hop hops p slot ne) ∙ on in
        let apart : hop.node ≢ c = λ same. let one = ap rank same in let two =
        walk_rank hops thread hop.node hop.slot p slot w.1 later in omega (arith, one, two, lt) in
        comes_later hop hops (Some thread) c (h.nodes c) port apart
        ∙ down (At hop.node hop.slot) hops thread c port seat p slot w.1 e is lt later
  ]

  up : (place : Place) (hops : List Hop) (thread c port : ℕ) (seat : Seat) (p slot : ℕ)
      → Walk h masks place hops thread → seat_of (h.nodes c) port ≡ Some seat → seat.place ≡ At p slot
      → comes hops (Some thread) c (h.nodes c) port ≡ true → (place ≡ At p slot) ⊎ (passes hops p slot ≡ true)
  up place [] thread c port seat p slot w e is on = inl (ends_at (h.nodes c) refl)
    where
      ends_at : (node : Option Node) → h.nodes c ≡ node → place ≡ At p slot
      ends_at None n = let no = ap (λ n. comes [] (Some thread) c n port) n in cc
      ends_at (Some (Loaded s)) n = let no = ap (λ n. comes [] (Some thread) c n port) n in cc
      ends_at (Some (Admitted x)) n =
          let is_c : thread ≡ c = eqb-true thread c (sym (ap (λ n. comes [] (Some thread) c n port) n) ∙ on)
          in
          let first : seat_of (h.nodes c) 0 ≡ Some w.thread.seat = ap (λ k. seat_of (h.nodes k) 0) (sym is_c)
          ∙ ends_seat place thread w in
          let lone : port ≡ 0 = (lone_port x.seat seat port (ap (λ n. seat_of n port) (sym n) ∙ e)).first in
          let mine : seat_of (h.nodes c) 0 ≡ Some seat = rw (← lone) e in
          let same : w.thread.seat ≡ seat = cc in
          sym w.at_place ∙ ap (λ (y : Seat). y.place) same ∙ is
  up place (hop ∷ hops) thread c port seat p slot w e is on = elim (cases_eq hop.node c) [
    | inl here ↦
        let ports : hop.port ≡ port =
        eqb-true hop.port port
        (sym (comes_here hop hops (Some thread) c (h.nodes c) w.0.scheduler port here
        (ap h.nodes (sym here) ∙ w.0.there)) ∙ on) in
        let one : seat_of (h.nodes c) port ≡ Some w.0.seat =
        rw (← here, ← ports) (enters_seat place hop w.0) in
        let same : w.0.seat ≡ seat = cc in
        inl (sym w.0.at_place ∙ ap (λ (x : Seat). x.place) same ∙ is)
    | inr ne ↦ elim
        (up (At hop.node hop.slot) hops thread c port seat p slot w.1 e is
        (sym (comes_later hop hops (Some thread) c (h.nodes c) port ne) ∙ on)) [
          | inl at_place ↦ let node : hop.node ≡ p = cc in let slots : hop.slot ≡ slot = cc in
              inr (passes_here hop hops p slot node ∙ eq-eqb hop.slot slot slots)
          | inr later ↦
              let apart : hop.node ≢ p = λ same. let one = ap rank same in let two =
              walk_rank hops thread hop.node hop.slot p slot w.1 later in omega (arith, one, two) in
              inr (passes_later hop hops p slot apart ∙ later)
        ]
  ]

  -- a tick with a path serves a slot exactly where it gives itself to the port that sits there
  pub linked_tick : (hops : List Hop) (thread c port : ℕ) (seat : Seat) (p slot : ℕ)
      → Walk h masks Processor hops thread → seat_of (h.nodes c) port ≡ Some seat → seat.place ≡ At p slot
      → rank p < rank c → passes hops p slot ≡ comes hops (Some thread) c (h.nodes c) port
  linked_tick hops thread c port seat p slot w e is lt =
      bool_iff (passes hops p slot) (comes hops (Some thread) c (h.nodes c) port)
      (down Processor hops thread c port seat p slot w e is lt)
      (λ on. elim (up Processor hops thread c port seat p slot w e is on)
      [ inl at_cpu ↦ cc | inr passed ↦ passed ])

  -- and is given to the root
  pub root_comes : (hops : List Hop) (thread c port : ℕ) (seat : Seat) → Walk h masks Processor hops thread
      → seat_of (h.nodes c) port ≡ Some seat → seat.place ≡ Processor
      → comes hops (Some thread) c (h.nodes c) port ≡ true
  root_comes hops thread c port seat w e is = next hops thread c port seat Processor w e is
