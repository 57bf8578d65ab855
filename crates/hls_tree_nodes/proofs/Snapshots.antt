-- Snapshots that differ in what was told.
use Rattle.std.proofs.Common.{◌≡◌, ◌≢◌, inl, inr, ℕ, zero, suc, ◌+◌, ◌<◌, ◌≤◌, Bool, List, [], ◌∷◌, Option, Some, None}
use Rattle.std.proofs.Common.{refl, sym, ap, ◌∙◌, subst, arith, slice_get, max}
use Rattle.std.specs.Prelude.{option_map}
use Rattle.std.proofs.lemmas.Bool.{cases_eq}
use Rattle.hls_chron.specs.Seats.{terms_at}
use Rattle.hls_kinds.specs.Asks.{slot_asks}
use Rattle.hls_machine.specs.Ledgers.{empty_book}
use Rattle.hls_machine.specs.Hierarchy.{Seat, Place, Processor, At}
use Rattle.hls_tree_nodes.specs.Shown.{Post, What, Scheduler, Thread, Shown, ToldIn, ToldWhat, bare_in}
use Rattle.hls_tree_nodes.specs.Shown.{bare_what, book_in, book_bare, level_in, seats_in, place_in, mask_in}
use Rattle.hls_tree_nodes.specs.Shown.{Bare, SchedulerNode, ThreadNode, most_bare, most_in}
use Rattle.hls_tree_nodes.specs.Shown.{grant_in, asks_in, ready_in, PostedIn, on_post}
use Rattle.hls_tree_nodes.specs.Shown.{post_revoked, IsPosted}
use Rattle.hls_tree_nodes.specs.TreeOf.{IsAlike, IsLaid, IsRanked, level_at, level_over}

abbrev pub Nodes : Type 0
Nodes = ℕ → Option Shown

-- what holds of one number and of each other holds of all
pub one_of : (Q : ℕ → Type 0) (p : ℕ) → Q p → ((k : ℕ) → k ≢ p → Q k) → (k : ℕ) → Q k
one_of Q p here others k = elim (cases_eq k p) [ inl e ↦ subst Q (sym e) here | inr ne ↦ others k ne ]

pub empty_terms : (slot : ℕ) → terms_at (empty_book 0 0 0) slot ≡ None
unfolding terms_at
empty_terms slot = refl

-- what a telling leaves of a scheduler
pub record IsChanged (slot : ℕ) (asks : Bool) (old new : Option Shown) : Type 0 where
  pub level : level_in new ≡ level_in old
  pub seats : seats_in new ≡ seats_in old
  pub node : bare_in new ≡ bare_in old
  pub ready : ready_in new ≡ ready_in old
  pub grant : grant_in new ≡ grant_in old
  pub posted : PostedIn new
  pub here : slot_asks (mask_in new) slot ≡ asks
  pub others : (k : ℕ) → k ≢ slot → slot_asks (mask_in new) k ≡ slot_asks (mask_in old) k

changed_what : (slot : ℕ) (asks : Bool) (old new : What) (name : List ℕ) (level : ℕ) (seats : List Seat)
    (other : List ℕ) (top : ℕ) (ports : List Seat) → ToldWhat slot asks old new
    → other ≡ name → top ≡ level → ports ≡ seats
    → terms_at (book_bare (Some (bare_what name seats old))) slot ≢ None
    → IsChanged slot asks (Some (record { name = name; level = level; seats = seats; what = old }))
    (Some (record { name = other; level = top; seats = ports; what = new }))
changed_what slot asks (Scheduler old) (Scheduler new) name level seats other top ports t n l p taken = record {
  level = l;
  seats = p;
  node = rw (n, p, t.config, t.book) refl;
  ready = refl;
  grant = t.grant;
  posted = t.posted;
  here = t.here;
  others = t.others;
}
changed_what slot asks (Scheduler old) (Thread r) name level seats other top ports t n l p taken = absurd t
changed_what slot asks (Thread r) (Scheduler new) name level seats other top ports t n l p taken = absurd t
changed_what slot asks (Thread r) (Thread q) name level seats other top ports t n l p taken =
    absurd (taken (empty_terms slot))

pub changed : (slot : ℕ) (asks : Bool) (old new : Option Shown) → ToldIn slot asks old new
    → terms_at (book_in old) slot ≢ None → IsChanged slot asks old new
changed slot asks None None t taken = absurd (taken (empty_terms slot))
changed slot asks None (Some new) t taken = absurd t
changed slot asks (Some old) None t taken = absurd t
changed slot asks (Some old) (Some new) t taken =
    changed_what slot asks old.what new.what old.name old.level old.seats new.name new.level new.seats t.what t.name
    t.level
    t.seats taken

pub alike_refl : (s : Nodes) → IsAlike s s
alike_refl s = record { levels = λ k. refl; seats = λ k. refl; nodes = λ k. refl; ready = λ k. refl }

pub alike_then : (a b c : Nodes) → IsAlike a b → IsAlike b c → IsAlike a c
alike_then a b c x y = record {
  levels = λ k. y.levels k ∙ x.levels k;
  seats = λ k. y.seats k ∙ x.seats k;
  nodes = λ k. y.nodes k ∙ x.nodes k;
  ready = λ k. y.ready k ∙ x.ready k;
}

pub alike_places : (old new : Nodes) → IsAlike old new → (c port : ℕ)
    → place_in (new c) port ≡ place_in (old c) port
alike_places old new a c port =
    ap (λ (seats : List Seat). option_map (λ (seat : Seat). seat.place) (slice_get seats port)) (a.seats c)

pub alike_books : (old new : Nodes) → IsAlike old new → (p : ℕ) → book_in (new p) ≡ book_in (old p)
alike_books old new a p = ap book_bare (a.nodes p)

places_by : (old new : Option Shown) (port : ℕ) → seats_in new ≡ seats_in old → place_in new port ≡ place_in old port
places_by old new port e =
    ap (λ (seats : List Seat). option_map (λ (seat : Seat). seat.place) (slice_get seats port)) e

-- levels over seats, by the levels of the schedulers that they are on
pub level_at_same : (old new : Nodes) (place other : Place) → other ≡ place
    → ((p slot : ℕ) → place ≡ At p slot → level_in (new p) ≡ level_in (old p)) → level_at new place ≡ level_at old place
level_at_same old new Processor other e same = refl
level_at_same old new (At p slot) other e same = ap (λ n. n + 1) (same p slot refl)

pub level_over_same : (old new : Nodes) (seats : List Seat)
    → ((port p slot : ℕ) → option_map (λ (seat : Seat). seat.place) (slice_get seats port) ≡ Some (At p slot)
    → level_in (new p) ≡ level_in (old p)) → level_over new seats ≡ level_over old seats
level_over_same old new [] same = refl
level_over_same old new (seat ∷ seats) same =
    let first = level_at_same old new seat.place seat.place refl
    (λ p slot e. same 0 p slot (ap (λ (x : Place). Some x) e)) in
    let rest = level_over_same old new seats (λ port p slot e. same (suc port) p slot e) in
    ap (λ n. max n (level_over new seats)) first ∙ ap (max (level_at old seat.place)) rest

-- a node is above the schedulers that it sits on
over_each : (s : Nodes) (seats : List Seat) (port : ℕ) (place : Place)
    → option_map (λ (seat : Seat). seat.place) (slice_get seats port) ≡ Some place
    → level_at s place ≤ level_over s seats
over_each s [] port place e = cc
over_each s (seat ∷ seats) zero place e =
    let same : seat.place ≡ place = cc in
    let levels : level_at s seat.place ≡ level_at s place = ap (level_at s) same in
    omega (arith, levels)
over_each s (seat ∷ seats) (suc port) place e =
    let rest : level_at s place ≤ level_over s seats = over_each s seats port place e in
    omega (arith, rest)

pub floor : (s : Nodes) → IsRanked s → (c port : ℕ) (place : Place) → place_in (s c) port ≡ Some place
    → level_at s place ≤ level_in (s c)
floor s r c port place e =
    let over : level_at s place ≤ level_over s (seats_in (s c)) = over_each s (seats_in (s c)) port place e in
    let is : level_in (s c) ≡ level_over s (seats_in (s c)) = r.exact c in
    omega (arith, over, is)

pub rise : (s : Nodes) → IsRanked s → (c port p slot : ℕ) → place_in (s c) port ≡ Some (At p slot)
    → level_in (s p) < level_in (s c)
rise s r c port p slot e = let f : level_in (s p) + 1 ≤ level_in (s c) = floor s r c port (At p slot) e in omega
    (arith, f)

at_positive : (s : Nodes) (place : Place) → 0 < level_at s place
at_positive s Processor = omega arith
at_positive s (At p slot) = omega arith

-- and one who sits somewhere has a level from 1 on
pub positive : (s : Nodes) → IsRanked s → (c port : ℕ) (place : Place) → place_in (s c) port ≡ Some place
    → 0 < level_in (s c)
positive s r c port place e =
    let f : level_at s place ≤ level_in (s c) = floor s r c port place e in
    let p : 0 < level_at s place = at_positive s place in
    omega (arith, f, p)

over_positive : (s : Nodes) (seats : List Seat) → seats ≢ [] → 0 < level_over s seats
over_positive s [] ne = absurd (ne refl)
over_positive s (seat ∷ seats) ne =
    let first : 0 < level_at s seat.place = at_positive s seat.place in
    omega (arith, first)

-- so has each node that is there
pub raised : (s : Nodes) → IsRanked s → (c : ℕ) → 0 < most_in (s c) → 0 < level_in (s c)
raised s r c there =
    let over : 0 < level_over s (seats_in (s c)) = over_positive s (seats_in (s c)) (r.some c there) in
    let is : level_in (s c) ≡ level_over s (seats_in (s c)) = r.exact c in
    omega (arith, over, is)

most_limit : (b : Option Bare) → most_bare b ≤ 9
most_limit None = omega arith
most_limit (Some (SchedulerNode s)) = omega arith
most_limit (Some (ThreadNode name seats)) = omega arith

pub below_ten : (s : Nodes) → IsRanked s → (c : ℕ) → level_in (s c) ≤ 9
below_ten s r c =
    let few : level_in (s c) ≤ most_in (s c) = r.few c in
    let most : most_in (s c) ≤ 9 = most_limit (bare_in (s c)) in
    omega (arith, few, most)

pub ranked_by : (old new : Nodes) → ((k : ℕ) → level_in (new k) ≡ level_in (old k))
    → ((k : ℕ) → seats_in (new k) ≡ seats_in (old k)) → ((k : ℕ) → most_in (new k) ≡ most_in (old k))
    → IsRanked old → IsRanked new
ranked_by old new levels seats most r = record {
  exact = λ c. levels c ∙ r.exact c ∙ ap (level_over old) (sym (seats c))
      ∙ sym (level_over_same old new (seats_in (new c)) (λ port p slot e. levels p));
  within = λ c port p slot e. r.within c port p slot (sym (places_by (old c) (new c) port (seats c)) ∙ e);
  few = λ c. rw (levels c, most c) (r.few c);
  some = λ c there none. r.some c (subst (λ n. 0 < n) (most c) there) (sym (seats c) ∙ none);
  ports = λ c. rw (seats c) (r.ports c);
  apart = λ c port other p slot next e k. r.apart c port other p slot next
      (sym (places_by (old c) (new c) port (seats c)) ∙ e) (sym (places_by (old c) (new c) other (seats c)) ∙ k);
  small = λ c port place e. r.small c port place (sym (places_by (old c) (new c) port (seats c)) ∙ e);
}

pub ranked_alike : (old new : Nodes) → IsAlike old new → IsRanked old → IsRanked new
ranked_alike old new a r = ranked_by old new a.levels a.seats (λ k. ap most_bare (a.nodes k)) r

pub laid_alike : (old new : Nodes) → IsAlike old new → IsLaid old → IsLaid new
laid_alike old new a l = record {
  ranked = ranked_alike old new a l.ranked;
  alone = λ c d port other place e k. l.alone c d port other place (sym (alike_places old new a c port) ∙ e)
      (sym (alike_places old new a d other) ∙ k);
  taken = λ c port p slot e none. l.taken c port p slot (sym (alike_places old new a c port) ∙ e)
      (ap (λ b. terms_at b slot) (sym (alike_books old new a p)) ∙ none);
  sitters = λ p slot taken.
      let w = l.sitters p slot (λ none. taken (ap (λ b. terms_at b slot) (alike_books old new a p) ∙ none)) in
      record { node = w.node; port = w.port; sits = alike_places old new a w.node w.port ∙ w.sits };
}

pub changed_alike : (p slot : ℕ) (asks : Bool) (old new : Nodes) → IsChanged slot asks (old p) (new p)
    → ((k : ℕ) → k ≢ p → new k ≡ old k) → IsAlike old new
changed_alike p slot asks old new c others = record {
  levels = one_of (λ k. level_in (new k) ≡ level_in (old k)) p c.level (λ k ne. ap level_in (others k ne));
  seats = one_of (λ k. seats_in (new k) ≡ seats_in (old k)) p c.seats (λ k ne. ap seats_in (others k ne));
  nodes = one_of (λ k. bare_in (new k) ≡ bare_in (old k)) p c.node (λ k ne. ap bare_in (others k ne));
  ready = one_of (λ k. ready_in (new k) ≡ ready_in (old k)) p c.ready (λ k ne. ap ready_in (others k ne));
}

-- a node of which the processor was taken back
pub record IsRevoked (o : Option Shown) : Type 0 where
  pub level : level_in (on_post post_revoked o) ≡ level_in o
  pub seats : seats_in (on_post post_revoked o) ≡ seats_in o
  pub node : bare_in (on_post post_revoked o) ≡ bare_in o
  pub ready : ready_in (on_post post_revoked o) ≡ ready_in o
  pub grant : grant_in (on_post post_revoked o) ≡ None
  pub mask : mask_in (on_post post_revoked o) ≡ mask_in o
  pub asks : asks_in (on_post post_revoked o) ≡ asks_in o
  pub posted : PostedIn o → PostedIn (on_post post_revoked o)

posted_revoked : (post : Post) → IsPosted post → IsPosted (post_revoked post)
posted_revoked post x = record {
  configured = x.configured;
  mask = x.mask;
  granted = refl;
  ranges = x.ranges;
  config = x.config;
  only = x.only;
}

revoked_what : (name : List ℕ) (level : ℕ) (seats : List Seat) (w : What)
    → IsRevoked (Some (record { name = name; level = level; seats = seats; what = w }))
revoked_what name level seats (Scheduler post) = record {
  level = refl;
  seats = refl;
  node = refl;
  ready = refl;
  grant = refl;
  mask = refl;
  asks = refl;
  posted = posted_revoked post;
}
revoked_what name level seats (Thread r) = record {
  level = refl;
  seats = refl;
  node = refl;
  ready = refl;
  grant = refl;
  mask = refl;
  asks = refl;
  posted = λ x. x;
}

pub revoked : (o : Option Shown) → IsRevoked o
revoked None = record {
  level = refl;
  seats = refl;
  node = refl;
  ready = refl;
  grant = refl;
  mask = refl;
  asks = refl;
  posted = λ x. x;
}
revoked (Some s) = revoked_what s.name s.level s.seats s.what

pub revoked_alike : (old new : Nodes) → ((k : ℕ) → new k ≡ on_post post_revoked (old k)) → IsAlike old new
revoked_alike old new e = record {
  levels = λ k. ap level_in (e k) ∙ (revoked (old k)).level;
  seats = λ k. ap seats_in (e k) ∙ (revoked (old k)).seats;
  nodes = λ k. ap bare_in (e k) ∙ (revoked (old k)).node;
  ready = λ k. ap ready_in (e k) ∙ (revoked (old k)).ready;
}
