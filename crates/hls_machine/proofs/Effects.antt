-- A command's effect keeps what is to be kept.
use Rattle.std.proofs.Common.{◌≡◌, ℕ, inl, inr, ◌+◌, ◌<◌, ◌≤◌, ◌≢◌, List, ◌++◌, ◌||◌, slice_get, Option, Some}
use Rattle.std.proofs.Common.{Bool, true, false, if◌then◌else◌, ◌==◌, refl, sym, ap, ◌∙◌, subst, arith, fold}
use Rattle.std.proofs.lemmas.List.Sums.{fold-append}
use Rattle.std.proofs.lemmas.Bool.{cases_eq, cases_Bool, eq-eqb, ne_eqb}
use Rattle.hls_chron.specs.declared.book.Event.{Event}
use Rattle.hls_chron.specs.Ledger.{now_of}
use Rattle.hls_kinds.specs.declared.tenant.Tenant.TheVariants.{Sits}
use Rattle.hls_kinds.specs.Tenants.{tenant_after, tenant_at}
use Rattle.hls_machine.specs.Derived.{Follows}
use Rattle.hls_machine.specs.Hierarchy.{Hierarchy, Node, Loaded, Place, Processor, At, Seat, seats_of, seat_of}
use Rattle.hls_machine.specs.Hierarchy.{book_of, config_of, since_of, haves_of}
use Rattle.hls_machine.specs.Steps.{marked, renewed, seatings, leavings, effect, root_without}
use Rattle.hls_machine.specs.Legal.{MayTakeAt, NotBelow}
use Rattle.hls_machine.specs.Linked.{book_at, config_at, SitsBelow, SitsAt}
use Rattle.hls_machine.proofs.Marks.{tenant_at-marks}
use Rattle.hls_machine.proofs.Nodes.{IsUpTo, IsCurrent, Grown, grown_marked, grown_renewed, grown_then}
use Rattle.hls_machine.proofs.Nodes.{seats-marked, seats-renewed, since-renewed, tenant-marked, tenant-renewed}
use Rattle.hls_machine.proofs.Seatings.{Elsewhere, Apart, seatings_off, seatings_here, leavings_off}
use Rattle.hls_machine.proofs.Takings.{above, above_each, root_takes, root_keeps, root_stays, taken_not_free}
use Rattle.hls_machine.proofs.Takings.{may_sit, may_root}
use Rattle.hls_machine.proofs.Kept.{Alone, IsSound, follows_along, sits_kept, sits_fresh, reigns_kept}
use Rattle.hls_machine.proofs.Kept.{reigns_fresh}
use Rattle.hls_machine.proofs.Kept.{at_same, at_other}

-- a seat of the new node may be taken, and is not below it
pub record OwedSeat (h : Hierarchy) (k : ℕ) (below : ℕ → Bool) (seat : Seat) : Type 0 where
  pub take : MayTakeAt h (seats_of (h.nodes k)) seat seat.place
  pub off : NotBelow below seat.place

-- where somebody sits on the node: its accounts go on, it is settled, and its seats are derived anew
pub record OwedRider (h : Hierarchy) (k : ℕ) (node : Option Node) (below : ℕ → Bool) (seat : Seat) : Type 0
  where
    pub grown : Grown h.now h.past k (h.nodes k) node
    pub book : book_of node ≡ book_at h k
    pub settles : below k ≡ true
    pub derived : Follows (config_at h k) seat.terms (haves_of node) seat.kept

-- what a command owes, for its new node and for those who sit on the old one
pub record Owed (h : Hierarchy) (rank : ℕ → ℕ) (k : ℕ) (node : Option Node) (below : ℕ → Bool) : Type 0 where
  pub current : IsCurrent h.now node
  pub starts : (port : ℕ) (seat : Seat) → seat_of node port ≡ Some seat
      → since_of (renewed (below k) h.now node) ≡ h.now
  pub seats : (port : ℕ) (seat : Seat) → seat_of node port ≡ Some seat → OwedSeat h k below seat
  pub apart : Apart (seats_of node)
  pub not_on_it : (port : ℕ) (seat : Seat) (slot : ℕ) → seat_of node port ≡ Some seat → seat.place ≡ At k slot
      → ⊥
  pub down : (c port : ℕ) (seat : Seat) (p slot : ℕ) → seat_of (h.nodes c) port ≡ Some seat
      → seat.place ≡ At p slot → below p ≡ true → below c ≡ true
  pub riders : (c port : ℕ) (seat : Seat) (slot since : ℕ) → seat_of (h.nodes c) port ≡ Some seat
      → seat.place ≡ At k slot → tenant_at (book_at h k) slot ≡ Sits seat.terms since
      → OwedRider h k node below seat

-- a slot is had on these terms, since no later than a tick
pub record HadBy (h : Hierarchy) (node : Option Node) (slot latest : ℕ) (seat : Seat) : Type 0 where
  pub from : ℕ
  pub sits : tenant_at (book_of node) slot ≡ Sits seat.terms from
  pub in_time : from ≤ latest

module _ (h : Hierarchy) (rank : ℕ → ℕ) (sound : IsSound h rank) (k : ℕ) (node : Option Node)
    (below : ℕ → Bool)
    (owed : Owed h rank k node below) where
  abbrev gone : List Seat
  gone = seats_of (h.nodes k)

  abbrev taken : List Seat
  taken = seats_of node

  abbrev events : ℕ → List Event
  events c = leavings gone c ++ seatings taken c

  abbrev inner : ℕ → Option Node
  inner c = if c == k then node else marked (events c) (h.nodes c)

  abbrev nodes : ℕ → Option Node
  nodes c = renewed (below c) h.now (inner c)

  abbrev made : Hierarchy
  made = effect h k node below

  abbrev pub rank_after : ℕ → ℕ
  rank_after c = if below c || (c == k) then rank c + above rank taken else rank c

  same : (c : ℕ) → c ≡ k → inner c ≡ node
  same c e = at_same c k node (marked (events c) (h.nodes c)) e

  other : (c : ℕ) → c ≢ k → inner c ≡ marked (events c) (h.nodes c)
  other c ne = at_other c k node (marked (events c) (h.nodes c)) ne

  inner_current : (c : ℕ) → IsCurrent h.now (inner c)
  inner_current c = elim (cases_eq c k) [
    | inl e ↦ subst (IsCurrent h.now) (sym (same c e)) owed.current
    | inr ne ↦ subst (IsCurrent h.now) (sym (other c ne))
        (grown_marked h.now h.past c (events c) (h.nodes c) (sound.current c)).current
  ]

  settle : (c : ℕ) → Grown h.now h.past c (inner c) (nodes c)
  settle c = grown_renewed h.now h.past c (below c) (inner c) (inner_current c)

  grown : (c : ℕ) → c ≢ k → Grown h.now h.past c (h.nodes c) (nodes c)
  grown c ne = grown_then h.now h.past c (h.nodes c) (inner c) (nodes c)
      (subst (Grown h.now h.past c (h.nodes c)) (sym (other c ne))
      (grown_marked h.now h.past c (events c) (h.nodes c) (sound.current c))) (settle c)

  new_seats : (c : ℕ) → c ≡ k → seats_of (nodes c) ≡ taken
  new_seats c is = seats-renewed (below c) h.now (inner c) ∙ ap seats_of (same c is)

  old_seats : (c : ℕ) → c ≢ k → seats_of (nodes c) ≡ seats_of (h.nodes c)
  old_seats c ne = seats-renewed (below c) h.now (inner c) ∙ ap seats_of (other c ne)
      ∙ seats-marked (events c) (h.nodes c)

  new_seat : (c port : ℕ) (seat : Seat) → c ≡ k → seat_of (nodes c) port ≡ Some seat
      → slice_get taken port ≡ Some seat
  new_seat c port seat is e = sym (ap (λ seats. slice_get seats port) (new_seats c is)) ∙ e

  old_seat : (c port : ℕ) (seat : Seat) → c ≢ k → seat_of (nodes c) port ≡ Some seat
      → seat_of (h.nodes c) port ≡ Some seat
  old_seat c port seat ne e = sym (ap (λ seats. slice_get seats port) (old_seats c ne)) ∙ e

  -- another's seat is not where one leaves, nor where one is taken
  not_gone : (c port q : ℕ) (seat two : Seat) (place : Place) → c ≢ k → seat_of (h.nodes c) port ≡ Some seat
      → seat.place ≡ place → slice_get gone q ≡ Some two → two.place ≢ place
  not_gone c port q seat two place ne e is f at_place =
      ne (sound.alone c k port q seat two e f (is ∙ sym at_place)).node

  not_taken : (c port q : ℕ) (seat two : Seat) (place : Place) → c ≢ k → seat_of (h.nodes c) port ≡ Some seat
      → seat.place ≡ place → SitsAt h rank c port seat place → slice_get taken q ≡ Some two
      → two.place ≢ place
  not_taken c port q seat two Processor ne e is r f at_place = let m =
      may_root h gone two two.place at_place (owed.seats q two f).take in let free = m.free in let mine =
      r.root in cc
  not_taken c port q seat two (At p slot) ne e is s f at_place =
      taken_not_free h gone two p slot s.from seat.terms s.sits
      (λ a b g. not_gone c port a seat b (At p slot) ne e is g)
      (may_sit h gone two two.place p slot at_place (owed.seats q two f).take)

  alone : Alone nodes
  alone c d port q one two e f same_place = elim (cases_eq c k) [
    | inl a ↦ elim (cases_eq d k) [
      | inl b ↦ record {
        node = a ∙ sym b;
        port_same =
            owed.apart port q one two (new_seat c port one a e) (new_seat d q two b f) same_place;
      }
      | inr b ↦ let g = old_seat d q two b f in
          absurd (not_taken d q port two one two.place b g refl (sound.sits d q two g)
          (new_seat c port one a e)
          same_place)
    ]
    | inr a ↦ let g = old_seat c port one a e in elim (cases_eq d k) [
      | inl b ↦ absurd
          (not_taken c port q one two one.place a g refl (sound.sits c port one g) (new_seat d q two b f)
          (sym same_place))
      | inr b ↦ sound.alone c d port q one two g (old_seat d q two b f) same_place
    ]
  ]

  -- an old seat's slot, before the settling
  module _ (c port : ℕ) (seat : Seat) (p slot : ℕ) (ne : c ≢ k) (e : seat_of (h.nodes c) port ≡ Some seat)
      (is : seat.place ≡ At p slot) (s : SitsBelow h rank c port seat p slot) where
    away_gone : Elsewhere gone p slot
    away_gone q two f = not_gone c port q seat two (At p slot) ne e is f

    away_taken : Elsewhere taken p slot
    away_taken q two f = not_taken c port q seat two (At p slot) ne e is s f

    rides : p ≡ k → OwedRider h k node below seat
    rides a = owed.riders c port seat slot s.from e (is ∙ ap (λ n. At n slot) a)
        (sym (ap (λ n. tenant_at (book_at h n) slot) a) ∙ s.sits)

    parent_grown : Grown h.now h.past p (h.nodes p) (nodes p)
    parent_grown = elim (cases_eq p k) [
      | inl a ↦ grown_then h.now h.past p (h.nodes p) (inner p) (nodes p)
          (subst (Grown h.now h.past p (h.nodes p)) (sym (same p a))
          (subst (λ (n : ℕ). Grown h.now h.past n (h.nodes n) node) (sym a) (rides a).grown)) (settle p)
      | inr b ↦ grown p b
    ]

    inner_tenant : tenant_at (book_of (inner p)) slot ≡ Sits seat.terms s.from
    inner_tenant = elim (cases_eq p k) [
      | inl a ↦ ap (λ n. tenant_at (book_of n) slot) (same p a) ∙ ap (λ b. tenant_at b slot) (rides a).book
          ∙ sym (ap (λ n. tenant_at (book_at h n) slot) a) ∙ s.sits
      | inr b ↦
          let now = now_of (book_at h p) in
          let was = tenant_at (book_at h p) slot in
          ap (λ n. tenant_at (book_of n) slot) (other p b)
          ∙ tenant-marked (events p) (h.nodes p) slot s.from seat.terms s.sits
          ∙ fold-append (tenant_after slot now) was (leavings gone p) (seatings taken p)
          ∙ seatings_off taken p slot now (fold (tenant_after slot now) was (leavings gone p)) away_taken
          ∙ leavings_off gone p slot now was away_gone
          ∙ s.sits
    ]

    child_starts : below c ≡ true → since_of (nodes c) ≡ h.now
    child_starts b = ap (λ x. since_of (renewed x h.now (inner c))) b
        ∙ since-renewed h.now port (inner c) seat (inner_current c)
        (ap (λ seats. slice_get seats port) (ap seats_of (other c ne) ∙ seats-marked (events c) (h.nodes c))
        ∙ e)

    still_had : HadBy h (nodes p) slot (since_of (nodes c)) seat
    still_had = elim (cases_Bool (below p)) [
      | inl b ↦
          let child = child_starts (owed.down c port seat p slot e is b) in
          record {
            from = h.now;
            sits = ap (λ x. tenant_at (book_of (renewed x h.now (inner p))) slot) b
                ∙ tenant-renewed h.now (inner p) slot s.from seat.terms (inner_current p) inner_tenant;
            in_time = omega (arith, child);
          }
      | inr b ↦ record {
        from = s.from;
        sits = ap (λ x. tenant_at (book_of (renewed x h.now (inner p))) slot) b ∙ inner_tenant;
        in_time = omega (arith, s.since, (grown c ne).since);
      }
    ]

    child_rank : rank_after c ≡ (if below c then rank c + above rank taken else rank c)
    child_rank =
        elim (below c) as
        (λ b. (if b || (c == k) then rank c + above rank taken else rank c) ≡ (if b then rank c + above rank
        taken else rank c)) [ true ↦ refl | false ↦ rw (ne_eqb c k ne) refl ]

    lower : rank_after p < rank_after c
    lower = rw child_rank (elim (cases_Bool (below p)) [
      | inl b ↦ let d = owed.down c port seat p slot e is b in let lt = s.below in rw (b, d) (omega arith)
      | inr b ↦
          let off : p ≢ k = λ a. let on = (rides a).settles in let at_p = ap below a in cc in
          let lt = s.below in
          elim (cases_Bool (below c))
          [ inl d ↦ rw (b, ne_eqb p k off, d) (omega arith) | inr d ↦ rw (b, ne_eqb p k off, d) lt ]
    ])

    derived : Follows (config_at h p) seat.terms (haves_of (nodes p)) seat.kept
    derived = elim (cases_eq p k) [
      | inl a ↦ follows_along (config_at h k) (config_at h p) seat.terms node (nodes p) seat.kept
          (ap (config_at h) a) (new_seats p a) (rides a).derived
      | inr b ↦ follows_along (config_at h p) (config_at h p) seat.terms (h.nodes p) (nodes p) seat.kept refl
          (old_seats p b) s.derived
    ]

    stays_seated : SitsBelow made rank_after c port seat p slot
    stays_seated = sits_kept h made rank rank_after c port seat p slot still_had.from s parent_grown
        (grown c ne) lower still_had.sits still_had.in_time derived

  old_sits : (c port : ℕ) (seat : Seat) (place : Place) → c ≢ k → seat_of (h.nodes c) port ≡ Some seat
      → seat.place ≡ place → SitsAt h rank c port seat place → SitsAt made rank_after c port seat place
  old_sits c port seat Processor ne e is r =
      reigns_kept h made c port seat r (grown c ne)
      (root_keeps k taken (root_without gone h.root)
      (λ q two f. not_taken c port q seat two Processor ne e is r f)
      ∙ root_stays gone h.root (λ q two f. not_gone c port q seat two Processor ne e is f) ∙ r.root)
  old_sits c port seat (At p slot) ne e is s = stays_seated c port seat p slot ne e is s

  fresh : (c port : ℕ) (seat : Seat) → c ≡ k → slice_get taken port ≡ Some seat → since_of (nodes c) ≡ h.now
  fresh c port seat e f = ap (λ n. since_of (renewed (below c) h.now n)) (same c e)
      ∙ ap (λ n. since_of (renewed (below n) h.now node)) e ∙ owed.starts port seat f

  new_sits : (c port : ℕ) (seat : Seat) (place : Place) → c ≡ k → slice_get taken port ≡ Some seat
      → seat.place ≡ place → MayTakeAt h gone seat place → NotBelow below place
      → SitsAt made rank_after c port seat place
  new_sits c port seat Processor e f is m off = reigns_fresh h made c port seat (fresh c port seat e f)
      (root_takes k taken (root_without gone h.root) port seat f is ∙ ap (λ n. Some n) (sym e)) m.derived
  new_sits c port seat (At p slot) e f is m off =
      let parent : p ≢ k = λ a. owed.not_on_it port seat slot f (is ∙ ap (λ n. At n slot) a) in
      let s = m.scheduler in
      let there : nodes p ≡ marked (events p) (Some (Loaded s)) = ap (λ x. renewed x h.now (inner p)) off
      ∙ other p parent ∙ ap (marked (events p)) m.there in
      let is_now : IsUpTo h.now s = subst (IsCurrent h.now) m.there (sound.current p) in
      let now = now_of s.book in
      let was = tenant_at s.book slot in
      let sits : tenant_at (book_of (nodes p)) slot ≡ Sits seat.terms now =
      ap (λ n. tenant_at (book_of n) slot) there
      ∙ tenant_at-marks s.book slot (events p)
      ∙ fold-append (tenant_after slot now) was (leavings gone p) (seatings taken p)
      ∙ seatings_here taken p slot now port seat (fold (tenant_after slot now) was (leavings gone p))
      owed.apart f is in
      let level : rank p < above rank taken = above_each rank taken port seat p slot f is in
      let high : rank_after c ≡ rank c + above rank taken =
      elim (below c) as (λ b. (if b || (c == k) then rank c + above rank taken else rank c) ≡ rank
      c + above rank taken) [ true ↦ refl | false ↦ rw (eq-eqb c k e) refl ] in
      let low : rank_after p ≡ rank p = rw (off, ne_eqb p k parent) refl in
      sits_fresh h made rank_after c port seat p slot (fresh c port seat e f)
      ((grown p parent).clock ∙ ap (λ n. now_of (book_of n)) m.there ∙ is_now.clock)
      (omega (arith, level, high, low))
      (sits ∙ ap (λ n. Sits seat.terms n) is_now.clock)
      (follows_along s.config (config_of (nodes p)) seat.terms (h.nodes p) (nodes p) seat.kept
      (ap config_of there) (old_seats p parent) m.derived)

  pub effect_sound : IsSound (effect h k node below) rank_after
  effect_sound = record {
    current = λ c. (settle c).current;
    sits = λ c port seat e. elim (cases_eq c k) [
      | inl is ↦ let f = new_seat c port seat is e in let m = owed.seats port seat f in
          new_sits c port seat seat.place is f refl m.take m.off
      | inr ne ↦ let f = old_seat c port seat ne e in
          old_sits c port seat seat.place ne f refl (sound.sits c port seat f)
    ];
    alone = alone;
  }
