-- A new node may have another number in a twin.
use Rattle.std.proofs.Common.{◌≡◌, ◌≢◌, ℕ, suc, ◌<◌, ◌==◌, inl, inr, List, [], ◌∷◌, length, Option}
use Rattle.std.proofs.Common.{Some, None, true, refl, sym, ap, ◌∙◌, subst, arith, map, slice_get}
use Rattle.std.proofs.Common.{if◌then◌else◌}
use Rattle.std.specs.Prelude.{option_map, Contains}
use Rattle.std.proofs.lemmas.Bool.{cases_eq}
use Rattle.hls_machine.specs.Hierarchy.{Hierarchy, Node, Loaded, Admitted, Place, Processor, At, Seat, SeatHolder}
use Rattle.hls_machine.specs.Hierarchy.{seats_of, seat_of, book_of}
use Rattle.hls_machine.specs.Steps.{is_thread, is_scheduler}
use Rattle.hls_machine.specs.Linked.{SitsBelow, SitsAt}
use Rattle.hls_machine.specs.Lists.{IsListed}
use Rattle.hls_kinds.specs.declared.tenant.Tenant.TheVariants.{Sits}
use Rattle.hls_kinds.specs.Tenants.{tenant_at}
use Rattle.hls_machine.proofs.Kept.{at_same, at_other}
use Rattle.hls_machine.proofs.Listings.{contains_first, contains_later}
use Rattle.hls_machine.proofs.Nodes.{nobody_sits}
use Rattle.hls_machine.proofs.Solutions.{CanGo}
use Rattle.hls_legal.proofs.Twins.{Renaming, same_number, place_to, seat_to, holder_to}
use Rattle.hls_legal.proofs.Twins.{TwinNode, NodeServedAlike, Twin, none-twin}

-- two numbers exchanged
abbrev pub swap : (a b n : ℕ) → ℕ
swap a b n = if n == a then b else if n == b then a else n

swap-first : (a b n : ℕ) → n ≡ a → swap a b n ≡ b
swap-first a b n e = at_same n a b (if n == b then a else n) e

swap-second : (a b n : ℕ) → n ≡ b → swap a b n ≡ a
swap-second a b n e = elim (cases_eq n a) [
  | inl same ↦ swap-first a b n same ∙ sym e ∙ same
  | inr ne ↦ at_other n a b (if n == b then a else n) ne ∙ at_same n b a n e
]

swap-other : (a b n : ℕ) → n ≢ a → n ≢ b → swap a b n ≡ n
swap-other a b n ne off = at_other n a b (if n == b then a else n) ne ∙ at_other n b a n off

pub swap-twice : (a b n : ℕ) → swap a b (swap a b n) ≡ n
swap-twice a b n = elim (cases_eq n a) [
  | inl e ↦ ap (swap a b) (swap-first a b n e) ∙ swap-second a b b refl ∙ sym e
  | inr ne ↦ elim (cases_eq n b) [
    | inl e ↦ ap (swap a b) (swap-second a b n e) ∙ swap-first a b a refl ∙ sym e
    | inr off ↦ ap (swap a b) (swap-other a b n ne off) ∙ swap-other a b n ne off
  ]
]

-- k goes to c
abbrev pub renumbered : Renaming → (k c : ℕ) → Renaming
renumbered r k c = record {
  to = λ n. swap (r.to k) c (r.to n);
  back = λ n. r.back (swap (r.to k) c n);
  there = λ n. ap r.back (swap-twice (r.to k) c (r.to n)) ∙ r.there n;
  home = λ n. ap (swap (r.to k) c) (r.home (swap (r.to k) c n)) ∙ swap-twice (r.to k) c n;
}

pub renumbered_to : (r : Renaming) (k c : ℕ) → (renumbered r k c).to k ≡ c
renumbered_to r k c = swap-first (r.to k) c (r.to k) refl

map_at : {A B : Type 0} (f g : A → B) (xs : List A) → ((i : ℕ) (x : A) → slice_get xs i ≡ Some x → f x ≡ g x)
    → map f xs ≡ map g xs
map_at f g [] same = refl
map_at f g (x ∷ xs) same = λ i. same 0 x refl i ∷ map_at f g xs (λ n y e. same (suc n) y e) i

map_in : {A B : Type 0} (f g : A → B) (xs : List A) → ((x : A) → Contains xs x → f x ≡ g x) → map f xs ≡ map g xs
map_in f g [] same = refl
map_in f g (x ∷ xs) same =
    λ i. same x (contains_first x xs) i ∷ map_in f g xs (λ y has. same y (contains_later x xs y has)) i

module _ (r : Renaming) (h g : Hierarchy) (twin : Twin r h g) (go : CanGo h) (listed : IsListed h) (k c : ℕ)
    (unused : h.nodes k ≡ None) (free : g.nodes c ≡ None) where
  abbrev new : Renaming
  new = renumbered r k c

  abbrev rank : ℕ → ℕ
  rank = go.kept.rank

  -- who is there keeps its number
  live : (n : ℕ) (node : Node) → h.nodes n ≡ Some node → new.to n ≡ r.to n
  live n node there = swap-other (r.to k) c (r.to n)
      (λ e. (let same = same_number r n k e in let none = ap h.nodes same ∙ unused in cc))
      (λ e. absurd (no_twin (subst (TwinNode r (h.nodes n)) (ap g.nodes e ∙ free) (twin.nodes n))))
    where
      no_twin : TwinNode r (h.nodes n) None → ⊥
      no_twin t = none_some node (subst (λ x. TwinNode r x None) there t)
        where
          none_some : (any : Node) → TwinNode r (Some any) None → ⊥
          none_some (Loaded s) t = t
          none_some (Admitted x) t = t

  -- who is not there has no twin
  nowhere : (n : ℕ) → h.nodes n ≡ None → g.nodes (new.to n) ≡ None
  nowhere n none = elim (cases_eq (r.to n) (r.to k)) [
    | inl e ↦ ap g.nodes (swap-first (r.to k) c (r.to n) e) ∙ free
    | inr ne ↦ elim (cases_eq (r.to n) c) [
      | inl e ↦ ap g.nodes (swap-second (r.to k) c (r.to n) e)
          ∙ none-twin r (g.nodes (r.to k)) (subst (λ x. TwinNode r x (g.nodes (r.to k))) unused (twin.nodes k))
      | inr off ↦ ap g.nodes (swap-other (r.to k) c (r.to n) ne off)
          ∙ none-twin r (g.nodes (r.to n)) (subst (λ x. TwinNode r x (g.nodes (r.to n))) none (twin.nodes n))
    ]
  ]

  -- a scheduler on which somebody sits is there
  parent_by : (d port p slot : ℕ) (seat : Seat) → SitsBelow h rank d port seat p slot → (any : Option Node)
      → h.nodes p ≡ any → new.to p ≡ r.to p
  parent_by d port p slot seat sits None e =
      absurd (nobody_sits 0 0 0 slot sits.from seat.terms
      (subst (λ (n : Option Node). tenant_at (book_of n) slot ≡ Sits seat.terms sits.from) e sits.sits))
  parent_by d port p slot seat sits (Some node) e = live p node e

  place_same : (d port : ℕ) (seat : Seat) (place : Place) → SitsAt h rank d port seat place
      → place_to new place ≡ place_to r place
  place_same d port seat Processor sits = refl
  place_same d port seat (At p slot) sits =
      ap (λ n. At n slot) (parent_by d port p slot seat sits (h.nodes p) refl)

  seat_same : (d port : ℕ) (seat : Seat) → seat_of (h.nodes d) port ≡ Some seat → seat_to new seat ≡ seat_to r seat
  seat_same d port seat sits = λ i. record {
    place = place_same d port seat seat.place (go.kept.sound.sits d port seat sits) i;
    terms = seat.terms;
    kept = seat.kept;
  }

  node_same : (n : ℕ) (a b : Option Node) → h.nodes n ≡ a → TwinNode r a b → TwinNode new a b
  node_same n None None e t = tt
  node_same n (Some (Loaded s)) (Some (Loaded t)) e like = record {
    name = like.name;
    config = like.config;
    book = like.book;
    ports = map_at (seat_to new) (seat_to r) s.ports
        (λ port seat at. seat_same n port seat (ap (λ x. seat_of x port) e ∙ at)) ∙ like.ports;
  }
  node_same n (Some (Admitted x)) (Some (Admitted y)) e like = record {
    name = like.name;
    seat = seat_same n 0 x.seat (ap (λ z. seat_of z 0) e) ∙ like.seat;
    wake = like.wake;
  }
  node_same n None (Some b) e like = absurd like
  node_same n (Some (Loaded s)) None e like = absurd like
  node_same n (Some (Loaded s)) (Some (Admitted y)) e like = absurd like
  node_same n (Some (Admitted x)) None e like = absurd like
  node_same n (Some (Admitted x)) (Some (Loaded t)) e like = absurd like

  nodes_by : (n : ℕ) (any : Option Node) → h.nodes n ≡ any → TwinNode new (h.nodes n) (g.nodes (new.to n))
  nodes_by n None e =
      subst (λ x. TwinNode new x (g.nodes (new.to n))) (sym e)
      (subst (TwinNode new None) (sym (nowhere n e)) tt)
  nodes_by n (Some node) e =
      subst (λ m. TwinNode new (h.nodes n) (g.nodes m)) (sym (live n node e))
      (node_same n (h.nodes n) (g.nodes (r.to n)) refl (twin.nodes n))

  served_by : (n : ℕ) (any : Option Node) → h.nodes n ≡ any → NodeServedAlike h g n (new.to n) (h.nodes n)
  served_by n None e = subst (NodeServedAlike h g n (new.to n)) (sym e) tt
  served_by n (Some node) e =
      subst (λ m. NodeServedAlike h g n m (h.nodes n)) (sym (live n node e)) (twin.serves n)

  scheduler_live : (n : ℕ) (any : Option Node) → h.nodes n ≡ any → is_scheduler any ≡ true → new.to n ≡ r.to n
  scheduler_live n None e is = absurd (cc)
  scheduler_live n (Some node) e is = live n node e

  thread_live : (n : ℕ) (any : Option Node) → h.nodes n ≡ any → is_thread any ≡ true → new.to n ≡ r.to n
  thread_live n None e is = absurd (cc)
  thread_live n (Some node) e is = live n node e

  holder_live : (s : SeatHolder) (any : Option Node) → h.nodes s.node ≡ any → s.port < length (seats_of any)
      → new.to s.node ≡ r.to s.node
  holder_live s None e lt = absurd (omega (arith, lt))
  holder_live s (Some node) e lt = live s.node node e

  root_by : (o : Option ℕ) → h.root ≡ o → option_map new.to o ≡ option_map r.to o
  root_by None e = refl
  root_by (Some n) e =
      let first = go.root n e in
      ap (λ m. Some m) (root_live n first.port first.seat first.sits (h.nodes n) refl)
    where
      root_live : (n port : ℕ) (seat : Seat) → seat_of (h.nodes n) port ≡ Some seat → (any : Option Node)
          → h.nodes n ≡ any → new.to n ≡ r.to n
      root_live n port seat sits None f = absurd (let none = sym sits ∙ ap (λ x. seat_of x port) f in cc)
      root_live n port seat sits (Some node) f = live n node f

  pub twin_renumbered : Twin new h g
  twin_renumbered = record {
    now = twin.now;
    nodes = λ n. nodes_by n (h.nodes n) refl;
    root = root_by h.root refl ∙ twin.root;
    schedulers = map_in new.to r.to h.schedulers
        (λ n has. scheduler_live n (h.nodes n) refl (listed.schedulers.only n has)) ∙ twin.schedulers;
    threads = map_in new.to r.to h.threads
        (λ n has. thread_live n (h.nodes n) refl (listed.threads.only n has)) ∙ twin.threads;
    seats = map_in (holder_to new) (holder_to r) h.seats (λ s has. (λ i. record {
      node = holder_live s (h.nodes s.node) refl ((listed.sitters s).0 has) i;
      port = s.port;
    })) ∙ twin.seats;
    serves = λ n. served_by n (h.nodes n) refl;
  }
