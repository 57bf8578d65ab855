-- Who asks can be told in every hierarchy of a legal run, and a tick can elapse.
use Rattle.std.proofs.Common.{◌≡◌, ◌≢◌, ℕ, zero, suc, inl, inr, ◌+◌, ◌<◌, ◌≤◌, ◌^◌, ◌==◌, ◌⊎◌, List, [], ◌∷◌}
use Rattle.std.proofs.Common.{◌++◌, slice_get, Option, Some, None, Bool, true, false, if◌then◌else◌, cond}
use Rattle.std.proofs.Common.{refl, sym, ap, ◌∙◌, subst, arith}
use Rattle.std.specs.Prelude.{bit_or}
use Rattle.std.specs.Int.{bit_at}
use Rattle.std.proofs.lemmas.Bool.{cases_eq, cases_lt, cases_Bool}
use Rattle.std.proofs.lemmas.Nat.Bits.{bit_at-zero, bit_at_or, bit_at-pow_same, bit_at-pow_other}
use Rattle.hls_chron.specs.declared.plain.Terms.{Terms}
use Rattle.hls_chron.specs.Seats.{most_seats, terms_at}
use Rattle.hls_kinds.specs.Asks.{asks, slot_asks}
use Rattle.hls_kinds.proofs.MarkLaws.{sits_on}
use Rattle.hls_kinds.specs.Fits.{HasSeats}
use Rattle.hls_book.proofs.AdmissionLaws.{admission-unwritten}
use Rattle.hls_chron.specs.declared.plain.Config.TheVariants.{Cpu}
use Rattle.hls_machine.specs.Ledgers.{empty_book}
use Rattle.hls_machine.specs.Hierarchy.{Hierarchy, Node, Loaded, Admitted, Scheduler, Wake, Asleep, Place}
use Rattle.hls_machine.specs.Hierarchy.{Processor, At, Seat, start, seats_of, seat_of, book_of, config_of}
use Rattle.hls_machine.specs.Steps.{Hop, Path, hop_at, hops_of, marked, reseated, roused, seatings, leavings}
use Rattle.hls_machine.specs.Steps.{root_with, root_without, is_processor, effect, with_wake, elapsed, nobody}
use Rattle.hls_machine.specs.Steps.{loaded, admitted, wake_by, Step, Refuse, Load, Admit, End, Unload, Move}
use Rattle.hls_machine.specs.Steps.{Rouse, Block, Elapse, after, state}
use Rattle.hls_machine.specs.Legal.{IsAsking, Walk, MayRun, root_asks, asks_now, Can, IsLegal}
use Rattle.hls_machine.specs.Linked.{SitsBelow, SitsAt}
use Rattle.hls_machine.proofs.Nodes.{seats-marked, seats-renewed, seats-roused}
use Rattle.hls_machine.proofs.Seatings.{lone_port}
use Rattle.hls_machine.proofs.Kept.{IsSound, at_same, at_other}
use Rattle.hls_machine.proofs.Elapses.{seats-ticked}
use Rattle.hls_book.proofs.Books.{range_made, admission_made}
use Rattle.hls_machine.proofs.Books.{IsMadeNode, AllMade, made_at, step_made, start_made}
use Rattle.hls_machine.proofs.Readings.{serves-asking}
use Rattle.hls_machine.proofs.Runs.{Kept, step_keeps, start_kept}
use Rattle.hls_machine.proofs.Sitters.{HasSitters, IsFinite, step_sitters, step_finite, start_sitters}
use Rattle.hls_machine.proofs.Unique.{most_rank, rank_below}
use Rattle.hls_kinds.proofs.Choices.{OnlySeats, serves_some}

-- the mask of the slots below n at which a test is true
pub mask_of : (ℕ → Bool) → ℕ → ℕ
mask_of f zero = 0
mask_of f (suc n) = if f n then bit_or (mask_of f n) (2 ^ n) else mask_of f n

pub mask_outside : (f : ℕ → Bool) (n i : ℕ) → n ≤ i → bit_at (mask_of f n) i ≡ 0
unfolding mask_of
mask_outside f zero i le = bit_at-zero i
mask_outside f (suc n) i le =
    let old = mask_outside f n i (omega (arith, le)) in
    elim (f n) as (λ b. bit_at (if b then bit_or (mask_of f n) (2 ^ n) else mask_of f n) i ≡ 0) [
      | true ↦ (let both = bit_at_or (mask_of f n) (2 ^ n) i in let other =
          bit_at-pow_other n i (λ e. omega (arith, e, le)) in omega (arith, both, other, old))
      | false ↦ old
    ]

abbrev bit : Bool → ℕ
bit true = 1
bit false = 0

pub mask_inside : (f : ℕ → Bool) (n i : ℕ) → i < n → bit_at (mask_of f n) i ≡ bit (f i)
unfolding mask_of
mask_inside f zero i lt = absurd (omega (arith, lt))
mask_inside f (suc n) i lt = elim (cases_eq i n) [
  | inl e ↦
      let out = mask_outside f n i (omega (arith, e)) in
      let here : f i ≡ f n = ap f e in
      rw here (elim (f n) as
      (λ b. bit_at (if b then bit_or (mask_of f n) (2 ^ n) else mask_of f n) i ≡ bit b) [
        | true ↦ (let both = bit_at_or (mask_of f n) (2 ^ n) i in let same : bit_at (2 ^ n) i ≡ 1 =
            ap (bit_at (2 ^ n)) e ∙ bit_at-pow_same n in omega (arith, both, same, out))
        | false ↦ out
      ])
  | inr ne ↦
      let old = mask_inside f n i (omega (arith, lt, ne)) in
      elim (f n) as (λ b. bit_at (if b then bit_or (mask_of f n) (2 ^ n) else mask_of f n) i ≡ bit (f i)) [
        | true ↦ (let both = bit_at_or (mask_of f n) (2 ^ n) i in let other = bit_at-pow_other n i ne in
            omega (arith, both, other, old))
        | false ↦ old
      ]
]

bit_tested : (b : Bool) (n : ℕ) → n ≡ bit b → (n == 1) ≡ b
bit_tested true n e = rw e refl
bit_tested false n e = rw e refl

-- the root is there
pub record SitsFirst (nodes : ℕ → Option Node) (root : ℕ) : Type 0 where
  pub port : ℕ
  pub seat : Seat
  pub sits : seat_of (nodes root) port ≡ Some seat
  pub at_place : seat.place ≡ Processor

abbrev pub HasRoot : Hierarchy → Type 0
HasRoot h = (root : ℕ) → h.root ≡ Some root → SitsFirst h.nodes root

record IsTakenFirst (seats : List Seat) : Type 0 where
  pub port : ℕ
  pub seat : Seat
  pub sits : slice_get seats port ≡ Some seat
  pub at_place : seat.place ≡ Processor

first_later : (seat : Seat) (seats : List Seat) → IsTakenFirst seats → IsTakenFirst (seat ∷ seats)
first_later seat seats t = record { port = suc t.port; seat = t.seat; sits = t.sits; at_place = t.at_place }

root_taken : (k : ℕ) (seats : List Seat) (root : Option ℕ) (r : ℕ) → root_with k seats root ≡ Some r
    → ((r ≡ k) × IsTakenFirst seats) ⊎ (root ≡ Some r)
root_taken k [] root r e = inr e
root_taken k (seat ∷ seats) root r e =
    elim seat.place as (λ place. seat.place ≡ place
    → cond (is_processor place) (Some k) (root_with k seats root) ≡ Some r
    → ((r ≡ k) × IsTakenFirst (seat ∷ seats)) ⊎ (root ≡ Some r)) [
      | Processor ↦
          λ is f. inl (
            let same : k ≡ r = cc in
                sym same,
            record { port = 0; seat = seat; sits = refl; at_place = is },
          )
      | At p slot ↦
          λ is f. elim (root_taken k seats root r f)
          [ inl t ↦ inl (t.0, first_later seat seats t.1) | inr old ↦ inr old ]
    ] refl e

root_had : (seats : List Seat) (root : Option ℕ) (r : ℕ) → root_without seats root ≡ Some r → root ≡ Some r
root_had [] root r e = e
root_had (seat ∷ seats) root r e =
    elim seat.place as (λ place. cond (is_processor place) None (root_without seats root) ≡ Some r
    → root ≡ Some r) [
      | Processor ↦ λ f. absurd (cc)
      | At p slot ↦ λ f. root_had seats root r f
    ] e

not_first : (s : Seat) (seats : List Seat) (seat : Seat) (port p slot : ℕ) → s.place ≡ At p slot
    → slice_get (s ∷ seats) port ≡ Some seat → seat.place ≡ Processor
    → ((q : ℕ) → slice_get seats q ≡ Some seat → ⊥) → ⊥
not_first s seats seat zero p slot is f here later = let same : s ≡ seat = cc in
    let place : seat.place ≡ At p slot = sym (ap (λ (x : Seat). x.place) same) ∙ is in cc
not_first s seats seat (suc port) p slot is f here later = later port f

root_not_gone : (seats : List Seat) (root : Option ℕ) (r : ℕ) → root_without seats root ≡ Some r
    → (port : ℕ) (seat : Seat) → slice_get seats port ≡ Some seat → seat.place ≢ Processor
root_not_gone [] root r e port seat f here = cc
root_not_gone (s ∷ seats) root r e port seat f here =
    elim s.place as (λ place. s.place ≡ place
    → cond (is_processor place) None (root_without seats root) ≡ Some r → ⊥) [
      | Processor ↦ λ is g. cc
      | At p slot ↦
          λ is g. not_first s seats seat port p slot is f here
          (λ q k. root_not_gone seats root r g q seat k here)
    ] refl e

module _ (h : Hierarchy) (had : HasRoot h) (k : ℕ) (node : Option Node) (below : ℕ → Bool) where
  abbrev made : Hierarchy
  made = effect h k node below

  abbrev es : ℕ → List Rattle.hls_chron.specs.declared.book.Event.Event
  es c = leavings (seats_of (h.nodes k)) c ++ seatings (seats_of node) c

  abbrev inner : ℕ → Option Node
  inner c = if c == k then node else marked (es c) (h.nodes c)

  pub effect_root : HasRoot (effect h k node below)
  effect_root r e = elim (root_taken k (seats_of node) (root_without (seats_of (h.nodes k)) h.root) r e) [
    | inl t ↦
        let own = t.1 in
        let seats : seats_of (made.nodes r) ≡ seats_of node = seats-renewed (below r) h.now (inner r)
        ∙ ap seats_of (at_same r k node (marked (es r) (h.nodes r)) t.0) in
        record {
          port = own.port;
          seat = own.seat;
          sits = ap (λ xs. slice_get xs own.port) seats
              ∙ own.sits;
          at_place = own.at_place;
        }
    | inr left ↦
        let s = had r (root_had (seats_of (h.nodes k)) h.root r left) in
        let ne : r ≢ k = λ is. root_not_gone (seats_of (h.nodes k)) h.root r left s.port s.seat
        (sym (ap (λ n. seat_of (h.nodes n) s.port) is) ∙ s.sits) s.at_place in
        let seats : seats_of (made.nodes r) ≡ seats_of (h.nodes r) = seats-renewed (below r) h.now (inner r)
        ∙ ap seats_of (at_other r k node (marked (es r) (h.nodes r)) ne)
        ∙ seats-marked (es r) (h.nodes r) in
        record {
          port = s.port;
          seat = s.seat;
          sits = ap (λ xs. slice_get xs s.port) seats
              ∙ s.sits;
          at_place = s.at_place;
        }
  ]

same_root : (h g : Hierarchy) → g.root ≡ h.root → ((k : ℕ) → seats_of (g.nodes k) ≡ seats_of (h.nodes k))
    → HasRoot h → HasRoot g
same_root h g root seats had r e =
    let s = had r (sym root ∙ e) in
    record {
      port = s.port;
      seat = s.seat;
      sits = ap (λ xs. slice_get xs s.port) (seats r)
          ∙ s.sits;
      at_place = s.at_place;
    }

roused_root : (h : Hierarchy) (k : ℕ) (how : Wake) → HasRoot h → HasRoot (with_wake h k how)
roused_root h k how had =
    same_root h (with_wake h k how) refl
    (λ c. elim (c == k) as (λ b. seats_of (cond b (roused how (h.nodes c)) (h.nodes c)) ≡ seats_of
    (h.nodes c)) [ true ↦ seats-roused how (h.nodes c) | false ↦ refl ]) had

step_root : (h : Hierarchy) (step : Step) → HasRoot h → HasRoot (after h step)
step_root h Refuse had = had
step_root h (Load k name config spare_ticks spare_marks seats) had =
    effect_root h had k (Some (Loaded (loaded h.now name config spare_ticks spare_marks seats))) nobody
step_root h (Admit k name seat) had = effect_root h had k (Some (Admitted (admitted h.now name seat))) nobody
step_root h (End k) had = effect_root h had k None nobody
step_root h (Unload k) had = effect_root h had k None nobody
step_root h (Move k seat below) had = effect_root h had k (reseated seat (h.nodes k)) below
step_root h (Rouse k burst) had = roused_root h k (wake_by burst h.now) had
step_root h (Block k) had = roused_root h k Asleep had
step_root h (Elapse asking masks path) had =
    same_root h (elapsed h asking masks path) refl
    (λ c. seats-ticked (masks c) (hop_at (hops_of path) c) (h.nodes c)) had

-- what is no scheduler has a book with no seats
node_seats : (node : Option Node) → IsMadeNode node → HasSeats (config_of node) (book_of node)
node_seats None _ = (admission-unwritten Cpu (empty_book 0 0 0) refl refl).seats
node_seats (Some (Loaded s)) made = (admission_made s.config s.book made).seats
node_seats (Some (Admitted t)) _ = (admission-unwritten Cpu (empty_book 0 0 0) refl refl).seats

-- what a tick goes by
pub record CanGo (h : Hierarchy) : Type 0 where
  pub kept : Kept h
  pub made : AllMade h
  pub sitters : HasSitters h
  pub finite : IsFinite h
  pub root : HasRoot h

module _ (h : Hierarchy) (go : CanGo h) where
  abbrev rank : ℕ → ℕ
  rank = go.kept.rank

  abbrev sound : IsSound h rank
  sound = go.kept.sound

  abbrev top : ℕ
  top = most_rank rank go.finite.count

  absent_high : (k : ℕ) → top ≤ rank k → h.nodes k ≡ None
  absent_high k le = go.finite.none k (elim (cases_lt k go.finite.count) [
    | inl lt ↦ absurd (let high = rank_below rank go.finite.count k lt in omega (arith, high, le))
    | inr ge ↦ ge
  ])

  -- who sits at a slot asks
  sitter_by : (asking : ℕ → Bool) (k slot : ℕ) (terms : Option Terms)
      → terms_at (book_of (h.nodes k)) slot ≡ terms → Bool
  sitter_by asking k slot None e = false
  sitter_by asking k slot (Some terms) e = asking (go.sitters k slot terms e).node

  abbrev sitter_asks : (asking : ℕ → Bool) → (k slot : ℕ) → Bool
  sitter_asks asking k slot = sitter_by asking k slot (terms_at (book_of (h.nodes k)) slot) refl

  abbrev mask_at : (asking : ℕ → Bool) → (k : ℕ) → ℕ
  mask_at asking k = mask_of (sitter_asks asking k) (most_seats (config_of (h.nodes k)))

  asks_at : ℕ → ℕ → Bool
  asks_at zero k = false
  asks_at (suc n) k = asks_now h k (mask_at (asks_at n) k) (h.nodes k)

  sitter_same : (one two : ℕ → Bool) (k slot : ℕ) → ((c : ℕ) → rank k < rank c → one c ≡ two c)
      → (terms : Option Terms) (e : terms_at (book_of (h.nodes k)) slot ≡ terms)
      → sitter_by one k slot terms e ≡ sitter_by two k slot terms e
  unfolding sitter_by
  sitter_same one two k slot same None e = refl
  sitter_same one two k slot same (Some terms) e =
      let s = go.sitters k slot terms e in
      let sits : SitsBelow h rank s.node s.port s.seat k slot =
      subst (SitsAt h rank s.node s.port s.seat) s.at_place (sound.sits s.node s.port s.seat s.sits) in
      same s.node sits.below

  mask_same_at : (one two : ℕ → Bool) (k : ℕ) → ((c : ℕ) → rank k < rank c → one c ≡ two c)
      → mask_at one k ≡ mask_at two k
  mask_same_at one two k same = ap (λ (f : ℕ → Bool). mask_of f (most_seats (config_of (h.nodes k))))
      (λ i slot. sitter_same one two k slot same (terms_at (book_of (h.nodes k)) slot) refl i)

  stable : (n k : ℕ) → top ≤ rank k + n → asks_at n k ≡ asks_at (suc n) k
  unfolding asks_at
  stable zero k le = sym (ap (asks_now h k (mask_at (λ c. false) k)) (absent_high k (omega (arith, le))))
  stable (suc n) k le =
      ap (λ m. asks_now h k m (h.nodes k))
      (mask_same_at (asks_at n) (asks_at (suc n)) k (λ c lt. stable n c (omega (arith, le, lt))))

  asking : ℕ → Bool
  asking k = asks_at top k

  masks : ℕ → ℕ
  masks k = mask_at asking k

  seats_kept : (k : ℕ) → HasSeats (config_of (h.nodes k)) (book_of (h.nodes k))
  seats_kept k = node_seats (h.nodes k) (go.made k)

  sitter_is : (k slot c port : ℕ) (seat : Seat) → seat_of (h.nodes c) port ≡ Some seat
      → seat.place ≡ At k slot
      → (m : Terms) (terms : Option Terms) (e : terms_at (book_of (h.nodes k)) slot ≡ terms) → terms ≡ Some m
      → sitter_by asking k slot terms e ≡ asking c
  unfolding sitter_by
  sitter_is k slot c port seat f at_place m None e is = absurd (cc)
  sitter_is k slot c port seat f at_place m (Some terms) e is =
      let s = go.sitters k slot terms e in
      ap asking (sound.alone s.node c s.port port s.seat seat s.sits f (s.at_place ∙ sym at_place)).node

  sitter_none : (k slot : ℕ) (terms : Option Terms) (e : terms_at (book_of (h.nodes k)) slot ≡ terms)
      → terms ≡ None → sitter_by asking k slot terms e ≡ false
  unfolding sitter_by
  sitter_none k slot None e is = refl
  sitter_none k slot (Some terms) e is = absurd (cc)

  asking_is : IsAsking h asking masks
  unfolding asking masks asks_at
  asking_is = record {
    nodes = λ k. stable top k (omega arith);
    seats = λ c port seat p slot f at_place.
        let sits : SitsBelow h rank c port seat p slot =
        subst (SitsAt h rank c port seat) at_place (sound.sits c port seat f) in
        let terms = sits_on (book_of (h.nodes p)) slot sits.from seat.terms sits.sits in
        let seats = seats_kept p in
        let lt = seats.within slot seat.terms terms in
        bit_tested (sitter_asks asking p slot) _
        (mask_inside (sitter_asks asking p) (most_seats (config_of (h.nodes p))) slot lt)
        ∙ sitter_is p slot c port seat f at_place seat.terms (terms_at (book_of (h.nodes p)) slot) refl terms;
    free = λ p slot none. elim (cases_lt slot (most_seats (config_of (h.nodes p)))) [
      | inl lt ↦ bit_tested (sitter_asks asking p slot) _
          (mask_inside (sitter_asks asking p) (most_seats (config_of (h.nodes p))) slot lt)
          ∙ sitter_none p slot (terms_at (book_of (h.nodes p)) slot) refl none
      | inr ge ↦ bit_tested false _
          (mask_outside (sitter_asks asking p) (most_seats (config_of (h.nodes p))) slot ge)
    ];
  }

  -- down from one that asks
  record Goes (place : Place) : Type 0 where
    pub hops : List Hop
    pub thread : ℕ
    pub walk : Walk h masks place hops thread

  only_seats : (k : ℕ) (s : Scheduler) → h.nodes k ≡ Some (Loaded s) → OnlySeats s.book (masks k)
  only_seats k s e slot on none = let off =
      asking_is.free k slot (ap (λ n. terms_at (book_of n) slot) e ∙ none) in cc

  goes_by : (n c port : ℕ) (seat : Seat) (place : Place)
      → ((d q : ℕ) (other : Seat) (slot : ℕ) → seat_of (h.nodes d) q ≡ Some other → other.place ≡ At c slot
      → asking d ≡ true → Goes (At c slot)) → seat_of (h.nodes c) port ≡ Some seat → seat.place ≡ place
      → asking c ≡ true → (node : Option Node) → h.nodes c ≡ node → Goes place
  goes_by n c port seat place down f is on None e =
      absurd (let off = sym on ∙ asking_is.nodes c ∙ ap (asks_now h c (masks c)) e in cc)
  goes_by n c port seat place down f is on (Some (Admitted t)) e =
      let lone = lone_port t.seat seat port (sym (ap (λ n. seat_of n port) e) ∙ f) in
      record {
        hops = [];
        thread = c;
        walk = record {
          thread = t;
          there = e;
          at_place = ap (λ (x : Seat). x.place) lone.same ∙ is;
          ready = sym (ap (asks_now h c (masks c)) e) ∙ sym (asking_is.nodes c) ∙ on;
        };
      }
  goes_by n c port seat place down f is on (Some (Loaded s)) e =
      let asks_so : asks s.config s.book (masks c) ≡ true = sym (ap (asks_now h c (masks c)) e)
      ∙ sym (asking_is.nodes c) ∙ on in
      let made = made_at h c s go.made e in
      let kept = admission_made s.config s.book made in
      let range = range_made s.config s.book made in
      let serves = serves_some s.config s.book (masks c) range kept.seats (only_seats c s e) asks_so in
      let slot = serves.0 in
      let slot_on : slot_asks (masks c) slot ≡ true = serves-asking s.config s.book (masks c) slot serves.1 in
      let rest : Goes (At c slot) = under slot slot_on (terms_at (book_of (h.nodes c)) slot) refl in
      record {
        hops = record { node = c; port = port; slot = slot } ∷ rest.hops;
        thread = rest.thread;
        walk = (
          record {
            scheduler = s;
            seat = seat;
            there = e;
            port = sym (ap (λ n. seat_of n port) e)
                ∙ f;
            at_place = is;
            serves = serves.1;
          },
          rest.walk,
        );
      }
    where
      under : (slot : ℕ) → slot_asks (masks c) slot ≡ true → (terms : Option Terms)
          → terms_at (book_of (h.nodes c)) slot ≡ terms → Goes (At c slot)
      under slot slot_on None none = absurd (let off = asking_is.free c slot none in cc)
      under slot slot_on (Some terms) there =
          let s = go.sitters c slot terms there in
          down s.node s.port s.seat slot s.sits s.at_place
          (sym (asking_is.seats s.node s.port s.seat c slot s.sits s.at_place) ∙ slot_on)

  goes : (n c port : ℕ) (seat : Seat) (place : Place) → top ≤ rank c + n
      → seat_of (h.nodes c) port ≡ Some seat → seat.place ≡ place → asking c ≡ true → Goes place
  goes zero c port seat place le f is on =
      absurd (let none = absent_high c (omega (arith, le)) in let off = sym on ∙ asking_is.nodes c
      ∙ ap (asks_now h c (masks c)) none in cc)
  goes (suc n) c port seat place le f is on = goes_by n c port seat place (λ d q other slot g at_place on_too.
      let sits : SitsBelow h rank d q other c slot =
      subst (SitsAt h rank d q other) at_place (sound.sits d q other g) in
      let lower = sits.below in
      goes n d q other (At c slot) (omega (arith, le, lower)) g at_place on_too) f is on (h.nodes c) refl

  record Elapses : Type 0 where
    pub path : Option Path
    pub may : MayRun h asking masks path

  root_goes : (root : Option ℕ) → h.root ≡ root → Elapses
  root_goes None e = record { path = None; may = ap (λ r. root_asks r asking) e }
  root_goes (Some r) e = elim (cases_Bool (asking r)) [
    | inr off ↦ record { path = None; may = ap (λ o. root_asks o asking) e ∙ off }
    | inl on ↦
        let s = go.root r e in
        let down = goes top r s.port s.seat Processor (omega arith) s.sits s.at_place on in
        record {
          path = Some (record { hops = down.hops; thread = down.thread });
          may =
              (ap (λ o. root_asks o asking) e ∙ on, down.walk);
        }
  ]

  pub elapses : (asks_so : ℕ → Bool) × (slots : ℕ → ℕ) × (path : Option Path)
      × Can h (Elapse asks_so slots path)
  elapses = let e = root_goes h.root refl in (asking, masks, e.path, (asking_is, e.may))

-- along a run
pub run_goes : (steps : List Step) (h : Hierarchy) → CanGo h → IsLegal h steps → CanGo (state h steps)
run_goes [] h go legal = go
run_goes (step ∷ steps) h go legal = run_goes steps (after h step) (record {
  kept = step_keeps h step go.kept legal.0;
  made = step_made h go.kept.rank step go.kept.sound legal.0 go.made;
  sitters = step_sitters h go.kept.rank step go.kept.sound go.sitters;
  finite = step_finite h step go.finite;
  root = step_root h step go.root;
}) legal.1

pub start_goes : CanGo start
start_goes =
    record {
      kept = start_kept;
      made = start_made;
      sitters = start_sitters;
      finite =
          record { count = 0; none = λ k le. refl };
      root = λ r e. cc;
    }

pub run_elapses : (steps : List Step) → IsLegal start steps → (asking : ℕ → Bool) × (masks : ℕ → ℕ)
    × (path : Option Path) × Can (state start steps) (Elapse asking masks path)
run_elapses steps legal = elapses (state start steps) (run_goes steps start start_goes legal)
