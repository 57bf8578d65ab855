-- What a step chooses is determined: the slot to serve, the path, who asks, what is below, and the free
-- slot.
use Rattle.std.proofs.Common.{◌≡◌, ℕ, zero, suc, inl, inr, ◌+◌, ◌<◌, ◌≤◌, max, List, [], ◌∷◌, Option}
use Rattle.std.proofs.Common.{Some, None, Bool, refl, sym, ap, ◌∙◌, subst, arith}
use Rattle.std.specs.Int.{bit_at}
use Rattle.std.proofs.lemmas.Bool.{cases_eq, cases_lt, eq-eqb, eqb-true}
use Rattle.std.proofs.lemmas.Nat.Bits.{same_from_bits, bit_at-lt}
use Rattle.hls_chron.specs.declared.plain.Terms.{Terms}
use Rattle.hls_chron.specs.Seats.{terms_at}
use Rattle.hls_kinds.specs.Asks.{slot_asks}
use Rattle.hls_kinds.specs.Discipline.{Serves}
use Rattle.hls_kinds.specs.Room.{IsFree}
use Rattle.hls_machine.specs.Ledgers.{with_marks}
use Rattle.hls_machine.specs.Hierarchy.{Hierarchy, Loaded, Admitted, Scheduler, Place, Processor, At, Seat}
use Rattle.hls_machine.specs.Hierarchy.{seat_of, book_of}
use Rattle.hls_machine.specs.Steps.{Hop, Path, leavings}
use Rattle.hls_machine.specs.Legal.{Walk, Enters, Ends, IsAsking, MayRun, MaySit, MayTakeAt, IsBelow, asks_now}
use Rattle.hls_machine.specs.Legal.{scheduler_at}
use Rattle.hls_machine.specs.Linked.{SitsBelow, SitsAt}
use Rattle.hls_machine.specs.Alike.{IsAlikeSeat}
use Rattle.hls_machine.proofs.Kept.{IsSound}
use Rattle.hls_machine.proofs.Walks.{bool_iff}
use Rattle.hls_book.proofs.Books.{admission_made}
use Rattle.hls_book.proofs.Vacancies.{free_one}
use Rattle.hls_machine.proofs.Books.{AllMade, made_at}
use Rattle.hls_machine.proofs.Readings.{under_below, below_rank}
use Rattle.hls_machine.proofs.Sitters.{HasSitters, IsFinite}
use Rattle.hls_kinds.proofs.Choices.{serves_one}

-- the path
record SameWalk (hops others : List Hop) (thread rival : ℕ) : Type 0 where
  pub hops_same : hops ≡ others
  pub thread_same : thread ≡ rival

hop_same : (a b : Hop) → a.node ≡ b.node → a.port ≡ b.port → a.slot ≡ b.slot → a ≡ b
hop_same a b e f g = λ i. record { node = e i; port = f i; slot = g i }

module _ (h : Hierarchy) (rank : ℕ → ℕ) (sound : IsSound h rank) (made : AllMade h) (masks : ℕ → ℕ) where
  enters_one : (place : Place) (a b : Hop) → Enters h masks place a → Enters h masks place b → a ≡ b
  enters_one place a b f g =
      let mine : seat_of (h.nodes a.node) a.port ≡ Some f.seat = ap (λ n. seat_of n a.port) f.there
      ∙ f.port in
      let theirs : seat_of (h.nodes b.node) b.port ≡ Some g.seat = ap (λ n. seat_of n b.port) g.there
      ∙ g.port in
      let same = sound.alone a.node b.node a.port b.port f.seat g.seat mine theirs
      (f.at_place ∙ sym g.at_place) in
      let s = f.scheduler in
      let one : s ≡ g.scheduler =
      (let x : Some (Loaded s) ≡ Some (Loaded g.scheduler) = sym f.there ∙ ap h.nodes same.node
      ∙ g.there in cc) in
      let serves : Serves s.config s.book (masks a.node) b.slot =
      subst (λ (n : ℕ). Serves s.config s.book (masks n) b.slot) (sym same.node)
      (subst (λ (x : Scheduler). Serves x.config x.book (masks b.node) b.slot) (sym one) g.serves) in
      let seats = admission_made s.config s.book (made_at h a.node s made f.there) in
      hop_same a b same.node same.port_same
      (serves_one s.config s.book (masks a.node) a.slot b.slot seats.seats f.serves serves)

  ends_enters : (place : Place) (k : ℕ) (hop : Hop) → Ends h place k → Enters h masks place hop → ⊥
  ends_enters place k hop f g =
      let mine : seat_of (h.nodes k) 0 ≡ Some f.thread.seat = ap (λ n. seat_of n 0) f.there in
      let theirs : seat_of (h.nodes hop.node) hop.port ≡ Some g.seat = ap (λ n. seat_of n hop.port) g.there
      ∙ g.port in
      let same = sound.alone k hop.node 0 hop.port f.thread.seat g.seat mine theirs
      (f.at_place ∙ sym g.at_place) in
      let x : Some (Admitted f.thread) ≡ Some (Loaded g.scheduler) = sym f.there ∙ ap h.nodes same.node
      ∙ g.there in
      cc

  ends_one : (place : Place) (k c : ℕ) → Ends h place k → Ends h place c → k ≡ c
  ends_one place k c f g =
      let mine : seat_of (h.nodes k) 0 ≡ Some f.thread.seat = ap (λ n. seat_of n 0) f.there in
      let theirs : seat_of (h.nodes c) 0 ≡ Some g.thread.seat = ap (λ n. seat_of n 0) g.there in
      (sound.alone k c 0 0 f.thread.seat g.thread.seat mine theirs (f.at_place ∙ sym g.at_place)).node

  walk_one : (hops others : List Hop) (thread rival : ℕ) (place : Place) → Walk h masks place hops thread
      → Walk h masks place others rival → SameWalk hops others thread rival
  walk_one [] [] thread rival place f g =
      record { hops_same = refl; thread_same = ends_one place thread rival f g }
  walk_one [] (hop ∷ others) thread rival place f g = absurd (ends_enters place thread hop f g.0)
  walk_one (hop ∷ hops) [] thread rival place f g = absurd (ends_enters place rival hop g f.0)
  walk_one (hop ∷ hops) (other ∷ others) thread rival place f g =
      let same = enters_one place hop other f.0 g.0 in
      let rest = walk_one hops others thread rival (At hop.node hop.slot) f.1
      (subst (λ (x : Hop). Walk h masks (At x.node x.slot) others rival) (sym same) g.1) in
      record { hops_same = λ i. same i ∷ rest.hops_same i; thread_same = rest.thread_same }

  pub path_one : (asking : ℕ → Bool) (path other : Option Path) → MayRun h asking masks path
      → MayRun h asking masks other → path ≡ other
  path_one asking None None f g = refl
  path_one asking None (Some other) f g = absurd (let no_path = sym f ∙ g.0 in cc)
  path_one asking (Some path) None f g = absurd (let no_path = sym g ∙ f.0 in cc)
  path_one asking (Some path) (Some other) f g =
      let same = walk_one path.hops other.hops path.thread other.thread Processor f.1 g.1 in
      λ i. Some (record { hops = same.hops_same i; thread = same.thread_same i })

-- numbers with the same bits are the same
bit_same : (a b slot : ℕ) → slot_asks a slot ≡ slot_asks b slot → bit_at a slot ≡ bit_at b slot
bit_same a b slot e =
    let one = bit_at-lt a slot in
    let two = bit_at-lt b slot in
    elim (cases_eq (bit_at a slot) 1) [
      | inl on ↦ on ∙ sym (eqb-true (bit_at b slot) 1 (sym e ∙ eq-eqb (bit_at a slot) 1 on))
      | inr off ↦ elim (cases_eq (bit_at b slot) 1) [
        | inl on ↦ absurd (off (eqb-true (bit_at a slot) 1 (e ∙ eq-eqb (bit_at b slot) 1 on)))
        | inr none ↦ omega (arith, one, two, off, none)
      ]
    ]

mask_same : (a b : ℕ) → ((slot : ℕ) → slot_asks a slot ≡ slot_asks b slot) → a ≡ b
mask_same a b same = same_from_bits a b (λ i. bit_same a b i (same i))

-- who asks: from the highest rank down
pub most_rank : (ℕ → ℕ) → ℕ → ℕ
most_rank rank zero = 0
most_rank rank (suc n) = max (most_rank rank n) (rank n + 1)

pub rank_below : (rank : ℕ → ℕ) (n k : ℕ) → k < n → rank k < most_rank rank n
unfolding most_rank
rank_below rank zero k lt = absurd (omega arith)
rank_below rank (suc n) k lt = elim (cases_eq k n) [
  | inl e ↦ let same = ap rank e in omega (arith, same)
  | inr ne ↦ let rest = rank_below rank n k (omega (arith, ne)) in omega (arith, rest)
]

module _ (h : Hierarchy) (rank : ℕ → ℕ) (sound : IsSound h rank) (sitters : HasSitters h)
    (finite : IsFinite h) (asking other : ℕ → Bool) (masks slots : ℕ → ℕ) (one : IsAsking h asking masks)
    (two : IsAsking h other slots) where
  abbrev AreSame : ℕ → Type 0
  AreSame n = (k : ℕ) → most_rank rank finite.count ≤ rank k + n → asking k ≡ other k

  slot_same : (k slot : ℕ) → ((c : ℕ) → rank k < rank c → asking c ≡ other c) → (terms : Option Terms)
      → terms_at (book_of (h.nodes k)) slot ≡ terms → slot_asks (masks k) slot ≡ slot_asks (slots k) slot
  slot_same k slot higher None e = one.free k slot e ∙ sym (two.free k slot e)
  slot_same k slot higher (Some terms) e =
      let s = sitters k slot terms e in
      let sits : SitsBelow h rank s.node s.port s.seat k slot =
      subst (SitsAt h rank s.node s.port s.seat) s.at_place (sound.sits s.node s.port s.seat s.sits) in
      one.seats s.node s.port s.seat k slot s.sits s.at_place ∙ higher s.node sits.below
      ∙ sym (two.seats s.node s.port s.seat k slot s.sits s.at_place)

  masks_by : (k : ℕ) → ((c : ℕ) → rank k < rank c → asking c ≡ other c) → masks k ≡ slots k
  masks_by k higher =
      mask_same (masks k) (slots k)
      (λ slot. slot_same k slot higher (terms_at (book_of (h.nodes k)) slot) refl)

  absent_same : (k : ℕ) → h.nodes k ≡ None → asking k ≡ other k
  absent_same k none = one.nodes k ∙ ap (asks_now h k (masks k)) none
      ∙ sym (two.nodes k ∙ ap (asks_now h k (slots k)) none)

  asking_by : (n : ℕ) → AreSame n
  asking_by zero k le = absent_same k (finite.none k (elim (cases_lt k finite.count) [
    | inl lt ↦ absurd (let high = rank_below rank finite.count k lt in omega (arith, high, le))
    | inr ge ↦ ge
  ]))
  asking_by (suc n) k le =
      one.nodes k ∙ ap (λ m. asks_now h k m (h.nodes k))
      (masks_by k (λ c lt. asking_by n c (omega (arith, le, lt)))) ∙ sym (two.nodes k)

  pub asking_one : (k : ℕ) → asking k ≡ other k
  asking_one k = asking_by (most_rank rank finite.count) k (omega arith)

  pub masks_one : (k : ℕ) → masks k ≡ slots k
  masks_one k = masks_by k (λ c lt. asking_one c)

-- what is below
pub below_one : (h : Hierarchy) (rank : ℕ → ℕ) → IsSound h rank → (k : ℕ) (below other : ℕ → Bool)
    → IsBelow h k below → IsBelow h k other → (c : ℕ) → below c ≡ other c
below_one h rank sound k below other one two c = bool_iff (below c) (other c)
    (λ on. let under = below_rank h rank sound k below one (rank c + 1) c (omega arith) on in
    under_below h k other two under.0 c under.1)
    (λ on. let under = below_rank h rank sound k other two (rank c + 1) c (omega arith) on in
    under_below h k below one under.0 c under.1)

-- the free slot
place_one : (h : Hierarchy) (left : List Seat) (seat other : Seat) (here there : Place)
    → scheduler_at here ≡ scheduler_at there → MayTakeAt h left seat here → MayTakeAt h left other there
    → here ≡ there
place_one h left seat other Processor Processor same f g = refl
place_one h left seat other Processor (At q at) same f g = cc
place_one h left seat other (At p slot) Processor same f g = cc
place_one h left seat other (At p slot) (At q at) same f g =
    let node : p ≡ q = cc in
    let theirs : MaySit h left other p at = subst (λ (n : ℕ). MaySit h left other n at) (sym node) g in
    let one : theirs.scheduler ≡ f.scheduler = (let x = sym theirs.there ∙ f.there in cc) in
    let free : IsFree f.scheduler.config (with_marks f.scheduler.book (leavings left p)) at =
    subst (λ (s : Scheduler). IsFree s.config (with_marks s.book (leavings left p)) at) one theirs.free in
    let slots : slot ≡ at = free_one f.scheduler.config (with_marks f.scheduler.book (leavings left p)) slot
    at f.free free in
    λ i. At (node i) (slots i)

pub seat_one : (h : Hierarchy) (left : List Seat) (seat other : Seat) → IsAlikeSeat seat other
    → MayTakeAt h left seat seat.place → MayTakeAt h left other other.place → seat ≡ other
seat_one h left seat other alike f g =
    let place = place_one h left seat other seat.place other.place alike.parent f g in
    λ i. record { place = place i; terms = alike.terms i; kept = alike.kept i }
