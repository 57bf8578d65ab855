-- Every stay so far is kept.
use Rattle.std.proofs.Common.{◌≡◌, ℕ, inl, inr, ◌<◌, ◌≤◌, List, [], ◌∷◌, ◌++◌, ◌||◌, Option, Some}
use Rattle.std.proofs.Common.{None, Bool, true, false, if◌then◌else◌, ◌==◌, slice_get, refl, sym, ap, ◌∙◌}
use Rattle.std.proofs.Common.{subst, arith}
use Rattle.std.specs.Prelude.{map}
use Rattle.std.specs.List.{AllByRecursion}
use Rattle.std.proofs.lemmas.List.Elements.{All-from_recursion}
use Rattle.std.proofs.lemmas.Bool.{cases_eq, cases_Bool, ne_eqb}
use Rattle.hls_guarantee.specs.declared.Guarantee.{Guarantee}
use Rattle.hls_guarantee.specs.Supply.{Supplies}
use Rattle.hls_guarantee.proofs.Promises.{satisfies-agree, keeps_cap-agree, supplies-agree}
use Rattle.hls_machine.specs.Hierarchy.{Hierarchy, Node, Loaded, Admitted, Thread, Tick, Wake, Stay, seats_of}
use Rattle.hls_machine.specs.Hierarchy.{seat_of, since_of, asking_of, given_of, was_served, had_asked, is_just}
use Rattle.hls_machine.specs.Steps.{Path, thread_of, hop_at, hops_of, marked, renewed, roused, seatings}
use Rattle.hls_machine.specs.Steps.{leavings, closed, ended, stay_of, opened, nodes_after, effect, with_wake}
use Rattle.hls_machine.specs.Steps.{elapsed, ticked, is_thread, listed}
use Rattle.hls_machine.specs.Linked.{IsSupplied, since_at, asking_at, given_at}
use Rattle.hls_machine.specs.Supplied.{end_of, IsKeptUntil, IsKept, KeepsStays}
use Rattle.hls_machine.proofs.Nodes.{seats-renewed}
use Rattle.hls_machine.proofs.Kept.{at_same, at_other}
use Rattle.hls_machine.proofs.Effects.{Owed}

-- a stay that is open: its thread is there
pub record IsOpen (h : Hierarchy) (stay : Stay) : Type 0 where
  pub thread : Thread
  pub there : h.nodes stay.thread ≡ Some (Admitted thread)
  pub keeps : thread.seat.kept ≡ stay.kept
  pub begun : thread.stay ≡ stay.since

-- a stay that ended before a tick
pub record IsEnded (h : Hierarchy) (stay : Stay) (until : ℕ) : Type 0 where
  pub past : until ≤ h.now
  pub kept : IsKeptUntil h.past stay until

abbrev pub StandsBy : Hierarchy → Stay → Option ℕ → Type 0
StandsBy h stay None = IsOpen h stay
StandsBy h stay (Some until) = IsEnded h stay until

abbrev pub Stands : Hierarchy → Stay → Type 0
Stands h stay = StandsBy h stay stay.until

each_append : (P : Stay → Type 0) (xs ys : List Stay) → AllByRecursion P xs → AllByRecursion P ys
    → AllByRecursion P (xs ++ ys)
each_append P [] ys f g = g
each_append P (x ∷ xs) ys f g = (f.0, each_append P xs ys f.1 g)

each_map : (P Q : Stay → Type 0) (change : Stay → Stay) (xs : List Stay) → ((x : Stay) → P x → Q (change x))
    → AllByRecursion P xs → AllByRecursion Q (map change xs)
each_map P Q change [] up f = tt
each_map P Q change (x ∷ xs) up f = (up x f.0, each_map P Q change xs up f.1)

each_same : (P Q : Stay → Type 0) (xs : List Stay) → ((x : Stay) → P x → Q x) → AllByRecursion P xs
    → AllByRecursion Q xs
each_same P Q [] up f = tt
each_same P Q (x ∷ xs) up f = (up x f.0, each_same P Q xs up f.1)

-- of an open stay, by what its thread was supplied
open_kept : (h : Hierarchy) (stay : Stay) → IsSupplied h → IsOpen h stay → IsKeptUntil h.past stay h.now
open_kept h stay supply open_now =
    let k = stay.thread in
    let x = open_now.thread in
    let held = supply k 0 x.seat (ap (λ n. seat_of n 0) open_now.there) in
    let asks : (t : ℕ) → asking_at h k t ≡ had_asked h.past k t =
    λ t. ap (λ n. asking_of h.past k n t) open_now.there in
    let gives : (t : ℕ) → given_at h k 0 t ≡ was_served h.past k t =
    λ t. ap (λ n. given_of h.past k n 0 t) open_now.there in
    let since : since_at h k ≡ stay.since = ap since_of open_now.there ∙ open_now.begun in
    let kept : Supplies stay.kept (was_served h.past k) (had_asked h.past k) stay.since h.now =
    subst (λ (g : Guarantee). Supplies g (was_served h.past k) (had_asked h.past k) stay.since h.now)
    open_now.keeps
    (supplies-agree x.seat.kept (given_at h k 0) (was_served h.past k) (asking_at h k)
    (had_asked h.past k) (since_at h k) h.now stay.since (omega arith) (λ t a b. gives t)
    (λ t a b. asks t) held) in
    record { windows = kept.met; cap = kept.capped }

-- what was stays
kept_later : (past later : ℕ → Tick) (stay : Stay) (until : ℕ) → ((t : ℕ) → t < until → later t ≡ past t)
    → IsKeptUntil past stay until → IsKeptUntil later stay until
kept_later past later stay until same k =
    let k_served : (t : ℕ) → t < until → was_served past stay.thread t ≡ was_served later stay.thread t =
    λ t lt. ap (λ (w : Tick). is_just w.to stay.thread) (sym (same t lt)) in
    let k_asked : (t : ℕ) → t < until → had_asked past stay.thread t ≡ had_asked later stay.thread t =
    λ t lt. ap (λ (w : Tick). w.asking stay.thread) (sym (same t lt)) in
    record {
      windows = λ i j a b all. satisfies-agree stay.kept (was_served past stay.thread)
          (was_served later stay.thread) i j (λ t x y. k_served t (omega arith))
          (k.windows i j a b (λ t x y. k_asked t (omega arith) ∙ all t x y));
      cap = keeps_cap-agree stay.kept (was_served past stay.thread) (was_served later stay.thread) stay.since
          until (λ t x y. k_served t y) k.cap;
    }

stands_kept : (h : Hierarchy) (stay : Stay) (until : Option ℕ) → IsSupplied h → StandsBy h stay until
    → IsKeptUntil h.past stay (end_of h.now until)
stands_kept h stay None supply s = open_kept h stay supply s
stands_kept h stay (Some until) supply s = s.kept

pub stays_kept : (h : Hierarchy) → IsSupplied h → AllByRecursion (Stands h) h.stays → KeepsStays h
stays_kept h supply each =
    All-from_recursion (IsKept h) h.stays
    (each_same (Stands h) (IsKept h) h.stays (λ stay s. stands_kept h stay stay.until supply s) each)

-- a wake or a block
roused_there : (k c : ℕ) (how : Wake) (node : Option Node) (t : Thread) → node ≡ Some (Admitted t)
    → (b : Bool)
    → (if b then roused how node else node) ≡ Some (Admitted (record t { wake = if b then how else t.wake }))
roused_there k c how any t e true = ap (roused how) e
roused_there k c how any t e false = e

stands_roused : (h : Hierarchy) (k : ℕ) (how : Wake) (stay : Stay) (until : Option ℕ) → StandsBy h stay until
    → StandsBy (with_wake h k how) stay until
stands_roused h k how stay None s = record {
  thread = record s.thread { wake = if stay.thread == k then how else s.thread.wake };
  there = roused_there k stay.thread how (h.nodes stay.thread) s.thread s.there (stay.thread == k);
  keeps = s.keeps;
  begun = s.begun;
}
stands_roused h k how stay (Some until) s = record { past = s.past; kept = s.kept }

pub roused_stays : (h : Hierarchy) (k : ℕ) (how : Wake) → AllByRecursion (Stands h) h.stays
    → AllByRecursion (Stands (with_wake h k how)) h.stays
roused_stays h k how each = each_same (Stands h) (Stands (with_wake h k how)) h.stays
    (λ stay s. stands_roused h k how stay stay.until s) each

-- a tick
stands_elapsed : (h : Hierarchy) (asking : ℕ → Bool) (masks : ℕ → ℕ) (path : Option Path) (stay : Stay)
    (until : Option ℕ) → StandsBy h stay until → StandsBy (elapsed h asking masks path) stay until
stands_elapsed h asking masks path stay None s = record {
  thread = s.thread;
  there = ap (ticked (masks stay.thread) (hop_at (hops_of path) stay.thread)) s.there;
  keeps = s.keeps;
  begun = s.begun;
}
stands_elapsed h asking masks path stay (Some until) s = record {
  past = omega (arith, s.past);
  kept = kept_later h.past (elapsed h asking masks path).past stay until
      (λ t lt. at_other t h.now (record { asking = asking; to = thread_of path }) (h.past t)
      (λ e. let le = s.past in omega arith)) s.kept;
}

pub elapsed_stays : (h : Hierarchy) (asking : ℕ → Bool) (masks : ℕ → ℕ) (path : Option Path)
    → AllByRecursion (Stands h) h.stays → AllByRecursion (Stands (elapsed h asking masks path)) h.stays
elapsed_stays h asking masks path each = each_same (Stands h) (Stands (elapsed h asking masks path)) h.stays
    (λ stay s. stands_elapsed h asking masks path stay stay.until s) each

-- a command
module _ (h : Hierarchy) (rank : ℕ → ℕ) (k : ℕ) (node : Option Node) (below : ℕ → Bool)
    (owed : Owed h rank k node below) where
  abbrev made : Hierarchy
  made = effect h k node below

  abbrev begins : ℕ → Bool
  begins c = below c || c == k

  abbrev inner : ℕ → Option Node
  inner c = if c == k then node else marked (leavings (seats_of (h.nodes k)) c ++ seatings (seats_of node) c)
      (h.nodes c)

  or_false : (a b : Bool) → (a || b) ≡ false → (a ≡ false) × (b ≡ false)
  or_false true b e = absurd (cc)
  or_false false b e = (refl, e)

  or_true : (a b : Bool) → (a || b) ≡ true → a ≡ false → b ≡ true
  or_true true b e f = absurd (cc)
  or_true false b e f = e

  -- a thread that begins no stay is as it was
  thread_same : (c : ℕ) (t : Thread) → begins c ≡ false → h.nodes c ≡ Some (Admitted t)
      → nodes_after h k node below c ≡ Some (Admitted t)
  thread_same c t off e =
      let neither = or_false (below c) (c == k) off in
      ap (λ b. renewed b h.now (inner c)) neither.0
      ∙ ap (λ b. if b then node else marked (leavings (seats_of (h.nodes k)) c ++ seatings (seats_of node) c)
      (h.nodes c)) neither.1
      ∙ ap (marked (leavings (seats_of (h.nodes k)) c ++ seatings (seats_of node) c)) e

  closed_stands : IsSupplied h → (stay : Stay) (until : Option ℕ) → StandsBy h stay until → (b : Bool)
      → begins stay.thread ≡ b
      → StandsBy made (record stay { until = ended b h.now until }) (ended b h.now until)
  closed_stands supply stay None s true e =
      record {
        past = omega arith;
        kept = let kept = open_kept h stay supply s in
            record { windows = kept.windows; cap = kept.cap };
      }
  closed_stands supply stay None s false e =
      record {
        thread = s.thread;
        there = thread_same stay.thread s.thread e s.there;
        keeps = s.keeps;
        begun =
            s.begun;
      }
  closed_stands supply stay (Some until) s true e =
      record { past = s.past; kept = let kept = s.kept in record { windows = kept.windows; cap = kept.cap } }
  closed_stands supply stay (Some until) s false e =
      record { past = s.past; kept = let kept = s.kept in record { windows = kept.windows; cap = kept.cap } }

  -- and a thread that begins one begins it now
  renewed_now : (c : ℕ) (any : Option Node) (t : Thread) → renewed true h.now any ≡ Some (Admitted t)
      → t.stay ≡ h.now
  renewed_now c None t e = cc
  renewed_now c (Some (Loaded s)) t e = cc
  renewed_now c (Some (Admitted x)) t e = let same : record x { stay = h.now } ≡ t = cc in
      sym (ap (λ (y : Thread). y.stay) same)

  named_now : (c : ℕ) (t : Thread) → c ≡ k → nodes_after h k node below c ≡ Some (Admitted t) → t.stay ≡ h.now
  named_now c t is e =
      let there : renewed (below k) h.now node ≡ Some (Admitted t) =
      sym (ap (λ n. renewed (below n) h.now node) is)
      ∙ ap (renewed (below c) h.now)
      (sym (at_same c k node
      (marked (leavings (seats_of (h.nodes k)) c ++ seatings (seats_of node) c) (h.nodes c)) is)) ∙ e in
      let seat : seat_of node 0 ≡ Some t.seat =
      sym (ap (λ seats. slice_get seats 0) (seats-renewed (below k) h.now node))
      ∙ ap (λ n. seat_of n 0) there in
      sym (ap since_of there) ∙ owed.starts 0 t.seat seat

  pub begun_now : (c : ℕ) (t : Thread) → begins c ≡ true → nodes_after h k node below c ≡ Some (Admitted t)
      → t.stay ≡ h.now
  begun_now c t on e = elim (cases_eq c k) [
    | inl is ↦ named_now c t is e
    | inr ne ↦ elim (cases_Bool (below c)) [
      | inl b ↦ renewed_now c (inner c) t (sym (ap (λ x. renewed x h.now (inner c)) b) ∙ e)
      | inr b ↦ let yes = or_true (below c) (c == k) on b in let no = ne_eqb c k ne in cc
    ]
  ]

  stay_stands : (c : ℕ) → begins c ≡ true → (any : Option Node) → nodes_after h k node below c ≡ any
      → AllByRecursion (Stands made) (stay_of h.now c any)
  stay_stands c on None e = tt
  stay_stands c on (Some (Loaded s)) e = tt
  stay_stands c on (Some (Admitted t)) e =
      (record { thread = t; there = e; keeps = refl; begun = begun_now c t on e }, tt)

  one_opened : (c : ℕ) (b : Bool) → begins c ≡ b
      → AllByRecursion (Stands made) (if b then stay_of h.now c (nodes_after h k node below c) else [])
  one_opened c true e = stay_stands c e (nodes_after h k node below c) refl
  one_opened c false e = tt

  opened_stand : (threads : List ℕ)
      → AllByRecursion (Stands made) (opened h.now (nodes_after h k node below) begins threads)
  opened_stand [] = tt
  opened_stand (c ∷ threads) =
      each_append (Stands made) (if begins c then stay_of h.now c (nodes_after h k node below c) else [])
      (opened h.now (nodes_after h k node below) begins threads) (one_opened c (begins c) refl)
      (opened_stand threads)

  pub effect_stays : IsSupplied h → AllByRecursion (Stands h) h.stays
      → AllByRecursion (Stands (effect h k node below)) (effect h k node below).stays
  effect_stays supply each =
      let threads = listed (is_thread (h.nodes k)) (is_thread node) k h.threads in
      each_append (Stands made) (map (λ (stay : Stay). closed (begins stay.thread) h.now stay) h.stays)
      (opened h.now (nodes_after h k node below) begins threads)
      (each_map (Stands h) (Stands made) (λ (stay : Stay). closed (begins stay.thread) h.now stay) h.stays
      (λ stay s. closed_stands supply stay stay.until s (begins stay.thread) refl) each)
      (opened_stand threads)
