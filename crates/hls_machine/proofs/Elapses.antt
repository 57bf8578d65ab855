-- A tick keeps what is to be kept.
use Rattle.std.proofs.Common.{◌≡◌, ℕ, inl, inr, ◌+◌, ◌<◌, ◌⊎◌, [], slice_get, Option, Some, None, Bool, false}
use Rattle.std.proofs.Common.{◌==◌, is_some, ◌&&◌, refl, sym, ap, ◌∙◌, arith}
use Rattle.std.proofs.lemmas.Bool.{cases_lt}
use Rattle.hls_chron.specs.declared.plain.Terms.{Terms}
use Rattle.hls_chron.specs.Ledger.{now_of, with_row}
use Rattle.hls_chron.specs.Seats.{is_slot, asked, served}
use Rattle.hls_chron.proofs.BookLaws.{now_of-row, dated-row}
use Rattle.hls_kinds.specs.declared.tenant.Tenant.TheVariants.{Sits}
use Rattle.hls_kinds.specs.Tenants.{tenant_at}
use Rattle.hls_kinds.specs.Asks.{asks, slot_asks}
use Rattle.hls_book.specs.Promise.{asked_by, given}
use Rattle.hls_machine.specs.Hierarchy.{Hierarchy, Node, Loaded, Admitted, Tick, Place, Processor, At, Seat}
use Rattle.hls_machine.specs.Hierarchy.{seats_of, seat_of, book_of, config_of, since_of, asking_of, given_of}
use Rattle.hls_machine.specs.Hierarchy.{is_just}
use Rattle.hls_machine.specs.Steps.{Hop, Path, hop_at, hops_of, thread_of, row_by, ticked, elapsed}
use Rattle.hls_machine.specs.Legal.{asks_now, IsAsking, MayRun, root_asks}
use Rattle.hls_machine.specs.Linked.{asking_at, given_at, book_at, config_at, SitsAt}
use Rattle.hls_kinds.proofs.MarkLaws.{tenant_at-row, settled_at-row}
use Rattle.hls_machine.proofs.Marks.{asked-row, served-row, given-row, asked_by-row, asked-now, served-now}
use Rattle.hls_machine.proofs.Marks.{given-now, asked_by-now, ports-row}
use Rattle.hls_machine.proofs.Nodes.{IsCurrent, nobody_sits}
use Rattle.hls_machine.proofs.Kept.{IsSound, follows_along, at_same, at_other}
use Rattle.hls_machine.proofs.Walks.{slot_by, given_by, passes, comes, linked_tick, root_comes}
use Rattle.hls_machine.proofs.Hops.{row_port}

-- node by node
pub seats-ticked : (mask : ℕ) (hop : Option Hop) (node : Option Node)
    → seats_of (ticked mask hop node) ≡ seats_of node
seats-ticked mask hop None = refl
seats-ticked mask hop (Some (Loaded s)) = refl
seats-ticked mask hop (Some (Admitted t)) = refl

config-ticked : (mask : ℕ) (hop : Option Hop) (node : Option Node)
    → config_of (ticked mask hop node) ≡ config_of node
config-ticked mask hop None = refl
config-ticked mask hop (Some (Loaded s)) = refl
config-ticked mask hop (Some (Admitted t)) = refl

since-ticked : (mask : ℕ) (hop : Option Hop) (node : Option Node)
    → since_of (ticked mask hop node) ≡ since_of node
since-ticked mask hop None = refl
since-ticked mask hop (Some (Loaded s)) = settled_at-row s.book (row_by mask hop)
since-ticked mask hop (Some (Admitted t)) = refl

tenant-ticked : (mask : ℕ) (hop : Option Hop) (node : Option Node) (slot : ℕ)
    → tenant_at (book_of (ticked mask hop node)) slot ≡ tenant_at (book_of node) slot
tenant-ticked mask hop None slot = refl
tenant-ticked mask hop (Some (Loaded s)) slot = tenant_at-row s.book (row_by mask hop) slot
tenant-ticked mask hop (Some (Admitted t)) slot = refl

-- what a scheduler's book tells of an earlier tick, and of this one
asked-before : (now mask : ℕ) (hop : Option Hop) (node : Option Node) (slot t : ℕ) → IsCurrent now node
    → t < now → asked (book_of (ticked mask hop node)) slot t ≡ asked (book_of node) slot t
asked-before now mask hop None slot t c lt = refl
asked-before now mask hop (Some (Loaded s)) slot t c lt =
    asked-row s.book (row_by mask hop) slot t (omega (arith, c.clock))
asked-before now mask hop (Some (Admitted x)) slot t c lt = refl

served-before : (now mask : ℕ) (hop : Option Hop) (node : Option Node) (slot t : ℕ) → IsCurrent now node
    → t < now → served (book_of (ticked mask hop node)) slot t ≡ served (book_of node) slot t
served-before now mask hop None slot t c lt = refl
served-before now mask hop (Some (Loaded s)) slot t c lt =
    served-row s.book (row_by mask hop) slot t (omega (arith, c.clock))
served-before now mask hop (Some (Admitted x)) slot t c lt = refl

to_by : (mask : ℕ) (hop : Option Hop) → (row_by mask hop).to ≡ slot_by hop
to_by mask None = refl
to_by mask (Some hop) = refl

pub mask_by : (mask : ℕ) (hop : Option Hop) → (row_by mask hop).mask ≡ mask
mask_by mask None = refl
mask_by mask (Some hop) = refl

come_by : (mask : ℕ) (hop : Option Hop) (port : ℕ)
    → (is_some (row_by mask hop).to && (row_by mask hop).port == port) ≡ given_by hop port
come_by mask None port = refl
come_by mask (Some hop) port = refl

asked-this : (now mask : ℕ) (hop : Option Hop) (node : Option Node) (slot since : ℕ) (terms : Terms)
    → IsCurrent now node → tenant_at (book_of node) slot ≡ Sits terms since
    → asked (book_of (ticked mask hop node)) slot now ≡ slot_asks mask slot
asked-this now mask hop None slot since terms c e = absurd (nobody_sits 0 0 0 slot since terms e)
asked-this now mask hop (Some (Loaded s)) slot since terms c e =
    let row = row_by mask hop in
    ap (λ t. asked (with_row s.book row) slot t) (sym c.clock) ∙ asked-now s.book row slot
    ∙ ap (λ m. slot_asks m slot) (mask_by mask hop)
asked-this now mask hop (Some (Admitted x)) slot since terms c e =
    absurd (nobody_sits 0 0 0 slot since terms e)

served-this : (now mask : ℕ) (hop : Option Hop) (node : Option Node) (slot since : ℕ) (terms : Terms)
    → IsCurrent now node → tenant_at (book_of node) slot ≡ Sits terms since
    → served (book_of (ticked mask hop node)) slot now ≡ is_slot (slot_by hop) slot
served-this now mask hop None slot since terms c e = absurd (nobody_sits 0 0 0 slot since terms e)
served-this now mask hop (Some (Loaded s)) slot since terms c e =
    let row = row_by mask hop in
    ap (λ t. served (with_row s.book row) slot t) (sym c.clock) ∙ served-now s.book row slot
    ∙ ap (λ o. is_slot o slot) (to_by mask hop)
served-this now mask hop (Some (Admitted x)) slot since terms c e =
    absurd (nobody_sits 0 0 0 slot since terms e)

clock-ticked : (now mask : ℕ) (hop : Option Hop) (node : Option Node) (slot since : ℕ) (terms : Terms)
    → IsCurrent now node → tenant_at (book_of node) slot ≡ Sits terms since
    → now_of (book_of (ticked mask hop node)) ≡ now + 1
clock-ticked now mask hop None slot since terms c e = absurd (nobody_sits 0 0 0 slot since terms e)
clock-ticked now mask hop (Some (Loaded s)) slot since terms c e = now_of-row s.book (row_by mask hop)
    ∙ ap (λ n. n + 1) c.clock
clock-ticked now mask hop (Some (Admitted x)) slot since terms c e =
    absurd (nobody_sits 0 0 0 slot since terms e)

comes_idle : (c port : ℕ) (node : Option Node) → comes [] None c node port ≡ false
comes_idle c port None = refl
comes_idle c port (Some (Loaded s)) = refl
comes_idle c port (Some (Admitted x)) = refl

module _ (h : Hierarchy) (rank : ℕ → ℕ) (sound : IsSound h rank) (asking : ℕ → Bool) (masks : ℕ → ℕ)
    (path : Option Path) (asks_so : IsAsking h asking masks) (may : MayRun h asking masks path) where
  abbrev made : Hierarchy
  made = elapsed h asking masks path

  abbrev tick : Tick
  tick = record { asking = asking; to = thread_of path }

  abbrev hop : ℕ → Option Hop
  hop c = hop_at (hops_of path) c

  past_same : (t : ℕ) → t < h.now → made.past t ≡ h.past t
  past_same t lt = at_other t h.now tick (h.past t) (λ e. omega arith)

  past_now : made.past h.now ≡ tick
  past_now = at_same h.now h.now tick (h.past h.now) refl

  current-ticked : (c : ℕ) (node : Option Node) → h.nodes c ≡ node → IsCurrent h.now node
      → IsCurrent (h.now + 1) (ticked (masks c) (hop c) node)
  current-ticked c None e cur = tt
  current-ticked c (Some (Loaded s)) e cur =
      let row = row_by (masks c) (hop c) in
      record {
        clock = now_of-row s.book row ∙ ap (λ n. n + 1) cur.clock;
        dated = dated-row s.book row cur.dated;
        settled = rw (settled_at-row s.book row) (omega (arith, cur.settled));
        seats = cur.seats;
        ports = ports-row s.config s.book row cur.ports
            (row_port h asking masks path may c s e cur.seats (hop c) refl);
      }
  current-ticked c (Some (Admitted t)) e cur = omega (arith, cur)

  asking-before : (c : ℕ) (node : Option Node) (t : ℕ) → IsCurrent h.now node → t < h.now
      → asking_of made.past c (ticked (masks c) (hop c) node) t ≡ asking_of h.past c node t
  asking-before c None t cur lt = refl
  asking-before c (Some (Loaded s)) t cur lt = asked_by-row s.config s.book (row_by (masks c) (hop c)) t
      (omega (arith, cur.clock))
  asking-before c (Some (Admitted x)) t cur lt = ap (λ (w : Tick). w.asking c) (past_same t lt)

  given-before : (c port : ℕ) (node : Option Node) (t : ℕ) → IsCurrent h.now node → t < h.now
      → given_of made.past c (ticked (masks c) (hop c) node) port t ≡ given_of h.past c node port t
  given-before c port None t cur lt = refl
  given-before c port (Some (Loaded s)) t cur lt =
      given-row s.book (row_by (masks c) (hop c)) port t (omega (arith, cur.clock))
  given-before c port (Some (Admitted x)) t cur lt = ap (λ (w : Tick). is_just w.to c) (past_same t lt)

  asking-this : (c : ℕ) (node : Option Node) → IsCurrent h.now node → asking c ≡ asks_now h c (masks c) node
      → asking_of made.past c (ticked (masks c) (hop c) node) h.now ≡ asking c
  asking-this c None cur e = sym e
  asking-this c (Some (Loaded s)) cur e =
      let row = row_by (masks c) (hop c) in
      ap (λ t. asked_by s.config (with_row s.book row) t) (sym cur.clock)
      ∙ asked_by-now s.config s.book row cur.dated
      ∙ ap (λ m. asks s.config s.book m) (mask_by (masks c) (hop c)) ∙ sym e
  asking-this c (Some (Admitted x)) cur e = ap (λ (w : Tick). w.asking c) past_now

  given-this : (c port : ℕ) (node : Option Node) → IsCurrent h.now node
      → given_of made.past c (ticked (masks c) (hop c) node) port h.now ≡ comes (hops_of path)
      (thread_of path) c node port
  given-this c port None cur = refl
  given-this c port (Some (Loaded s)) cur =
      let row = row_by (masks c) (hop c) in
      ap (λ t. given (with_row s.book row) port t) (sym cur.clock) ∙ given-now s.book row port
      ∙ come_by (masks c) (hop c) port
  given-this c port (Some (Admitted x)) cur = ap (λ (w : Tick). is_just w.to c) past_now

  link : (some : Option Path) → MayRun h asking masks some → (c port : ℕ) (seat : Seat) (p slot : ℕ)
      → seat_of (h.nodes c) port ≡ Some seat → seat.place ≡ At p slot → rank p < rank c
      → passes (hops_of some) p slot ≡ comes (hops_of some) (thread_of some) c (h.nodes c) port
  link None m c port seat p slot e is lt = sym (comes_idle c port (h.nodes c))
  link (Some w) m c port seat p slot e is lt = linked_tick h rank sound masks w.hops w.thread c port seat p
      slot
      m.1 e is lt

  root_link : (some : Option Path) → MayRun h asking masks some → (c port : ℕ) (seat : Seat)
      → seat_of (h.nodes c) port ≡ Some seat → seat.place ≡ Processor → h.root ≡ Some c
      → asking c ≡ comes (hops_of some) (thread_of some) c (h.nodes c) port
  root_link None m c port seat e is r = sym (ap (λ o. root_asks o asking) r) ∙ m
      ∙ sym (comes_idle c port (h.nodes c))
  root_link (Some w) m c port seat e is r = sym (ap (λ o. root_asks o asking) r) ∙ m.0
      ∙ sym (root_comes h rank sound masks w.hops w.thread c port seat m.1 e is)

  was : (c port : ℕ) (seat : Seat) → seat_of (made.nodes c) port ≡ Some seat
      → seat_of (h.nodes c) port ≡ Some seat
  was c port seat e = sym (ap (λ seats. slice_get seats port) (seats-ticked (masks c) (hop c) (h.nodes c)))
      ∙ e

  now_or_before : (t : ℕ) → t < h.now + 1 → (t < h.now) ⊎ (t ≡ h.now)
  now_or_before t lt = elim (cases_lt t h.now) [ inl a ↦ inl a | inr b ↦ inr (omega arith) ]

  -- the accounts of c tell the same of earlier ticks, and of this one what was chosen
  asking_old : (c t : ℕ) → t < h.now → asking_at made c t ≡ asking_at h c t
  asking_old c t early = asking-before c (h.nodes c) t (sound.current c) early

  given_old : (c port t : ℕ) → t < h.now → given_at made c port t ≡ given_at h c port t
  given_old c port t early = given-before c port (h.nodes c) t (sound.current c) early

  asking_new : (c t : ℕ) → t ≡ h.now → asking_at made c t ≡ asking c
  asking_new c t now = ap (λ x. asking_at made c x) now
      ∙ asking-this c (h.nodes c) (sound.current c) (asks_so.nodes c)

  given_new : (c port t : ℕ) → t ≡ h.now
      → given_at made c port t ≡ comes (hops_of path) (thread_of path) c (h.nodes c) port
  given_new c port t now = ap (λ x. given_at made c port x) now
      ∙ given-this c port (h.nodes c) (sound.current c)

  sits_at : (c port : ℕ) (seat : Seat) (place : Place) → seat_of (h.nodes c) port ≡ Some seat
      → seat.place ≡ place → SitsAt h rank c port seat place → SitsAt made rank c port seat place
  sits_at c port seat Processor e is r = record {
    root = r.root;
    gives = λ t a b. elim (now_or_before t b) [
      | inl early ↦ asking_old c t early
          ∙ r.gives t (omega (arith, since-ticked (masks c) (hop c) (h.nodes c))) early
          ∙ sym (given_old c port t early)
      | inr now ↦ asking_new c t now ∙ root_link path may c port seat e is r.root
          ∙ sym (given_new c port t now)
    ];
    derived = r.derived;
  }
  sits_at c port seat (At p slot) e is s = record {
    below = s.below;
    now = clock-ticked h.now (masks p) (hop p) (h.nodes p) slot s.from seat.terms (sound.current p) s.sits;
    from = s.from;
    sits = tenant-ticked (masks p) (hop p) (h.nodes p) slot ∙ s.sits;
    since = omega (arith, s.since, since-ticked (masks c) (hop c) (h.nodes c));
    asks = λ t a b. elim (now_or_before t b) [
      | inl early ↦ asked-before h.now (masks p) (hop p) (h.nodes p) slot t (sound.current p) early
          ∙ s.asks t (omega (arith, since-ticked (masks c) (hop c) (h.nodes c))) early
          ∙ sym (asking_old c t early)
      | inr now ↦ ap (λ x. asked (book_at made p) slot x) now
          ∙ asked-this h.now (masks p) (hop p) (h.nodes p) slot s.from seat.terms (sound.current p) s.sits
          ∙ asks_so.seats c port seat p slot e is ∙ sym (asking_new c t now)
    ];
    gives = λ t a b. elim (now_or_before t b) [
      | inl early ↦ served-before h.now (masks p) (hop p) (h.nodes p) slot t (sound.current p) early
          ∙ s.gives t (omega (arith, since-ticked (masks c) (hop c) (h.nodes c))) early
          ∙ sym (given_old c port t early)
      | inr now ↦ ap (λ x. served (book_at made p) slot x) now
          ∙ served-this h.now (masks p) (hop p) (h.nodes p) slot s.from seat.terms (sound.current p) s.sits
          ∙ link path may c port seat p slot e is s.below ∙ sym (given_new c port t now)
    ];
    derived = follows_along (config_at h p) (config_at made p) seat.terms (h.nodes p) (made.nodes p) seat.kept
        (config-ticked (masks p) (hop p) (h.nodes p)) (seats-ticked (masks p) (hop p) (h.nodes p)) s.derived;
  }

  pub elapsed_sound : IsSound (elapsed h asking masks path) rank
  elapsed_sound = record {
    current = λ c. current-ticked c (h.nodes c) refl (sound.current c);
    sits = λ c port seat e. let f = was c port seat e in
        sits_at c port seat seat.place f refl (sound.sits c port seat f);
    alone = λ c d port q one two e f same_place. sound.alone c d port q one two (was c port one e)
        (was d q two f) same_place;
  }
