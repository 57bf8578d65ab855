-- Hierarchies in which threads are ready as flags say.
use Rattle.std.proofs.Common.{◌≡◌, ◌≢◌, ℕ, inl, inr, ◌⊎◌, ◌==◌, Bool, true, false, cond, refl, sym, ap, ◌∙◌, subst}
use Rattle.std.specs.Prelude.{Option, Some, None}
use Rattle.std.proofs.Math.Path.{fun_ext}
use Rattle.std.proofs.lemmas.Bool.{cases_eq, eq-eqb, ne_eqb}
use Rattle.hls_sched.specs.Seen.{Seen}
use Rattle.hls_machine.specs.Hierarchy.{Hierarchy, Stay, Thread, Node, Loaded, Admitted, Wake, is_ready, was_served}
use Rattle.hls_machine.specs.Steps.{roused, with_wake}
use Rattle.hls_machine.specs.Legal.{IsThread}
use Rattle.hls_tree_nodes.specs.Shown.{bare}
use Rattle.hls_tree.specs.Trees.{IsTreeOf, IsReadyOf, IsPorted, ready_of}
use Rattle.hls_tree.specs.declared.tree.Tree.{Tree}
use Rattle.hls_core_stays.specs.Tallies.{AreStays, IsTally}
use Rattle.hls_core_stays.specs.Changes.{Releases, MayRelease, flagged, flag_wake}
use Rattle.hls_core_stays.specs.Inside.Renewals.{IsRousing, MayNote}
use Rattle.hls_core_stays.specs.declared.stays.Stays.{Stays}
use Rattle.hls_core_stays.specs.declared.tally.Tally.{Tally}
use Rattle.hls_core_stays.proofs.Follows.{has_open}

-- ---- threads

flag_ready : (serves : ℕ → Bool) (now : ℕ) (b : Bool) → is_ready serves now (flag_wake b) ≡ b
flag_ready serves now true = refl
flag_ready serves now false = refl

-- a thread that is ready as a flag says was there with some wake
pub record WasThere (node : Option Node) (t : Thread) (b : Bool) : Type 0 where
  pub was : Thread
  pub there : node ≡ Some (Admitted was)
  pub wake : t.wake ≡ flag_wake b

pub was_there : (b : Bool) (node : Option Node) (t : Thread) → roused (flag_wake b) node ≡ Some (Admitted t)
    → WasThere node t b
was_there b None t e = absurd (cc)
was_there b (Some (Loaded s)) t e = absurd (cc)
was_there b (Some (Admitted was)) t e =
    let same : record was { wake = flag_wake b } ≡ t = cc in
    record { was = was; there = refl; wake = ap (λ (x : Thread). x.wake) (sym same) }

pub was_ready : (serves : ℕ → Bool) (now : ℕ) (b : Bool) (how : Wake) → how ≡ flag_wake b
    → is_ready serves now how ≡ b
was_ready serves now b how is = ap (is_ready serves now) is ∙ flag_ready serves now b

thread_still : (b : Bool) (node : Option Node) → IsThread node → IsThread (roused (flag_wake b) node)
thread_still b node x = record {
  thread = record x.thread { wake = flag_wake b };
  there = ap (roused (flag_wake b)) x.there;
}

-- ---- hierarchies

roused_twice : (one other : Wake) (node : Option Node) → roused one (roused other node) ≡ roused one node
roused_twice one other None = refl
roused_twice one other (Some (Loaded s)) = refl
roused_twice one other (Some (Admitted t)) = refl

-- one flag more is a wake more
flagged_one : (h : Hierarchy) (flag new : ℕ → Bool) (k : ℕ) → ((c : ℕ) → c ≢ k → new c ≡ flag c)
    → with_wake (flagged flag h) k (flag_wake (new k)) ≡ flagged new h
flagged_one h flag new k others =
    ap (λ (nodes : ℕ → Option Node). record h { nodes = nodes }) (fun_ext (λ c. by c (cases_eq c k)))
  where
    by : (c : ℕ) → (c ≡ k) ⊎ (c ≢ k)
        → cond (c == k) (roused (flag_wake (new k)) (roused (flag_wake (flag c)) (h.nodes c)))
        (roused (flag_wake (flag c)) (h.nodes c))
        ≡ roused (flag_wake (new c)) (h.nodes c)
    by c (inl same) =
        ap (λ b. cond b (roused (flag_wake (new k)) (roused (flag_wake (flag c)) (h.nodes c)))
        (roused (flag_wake (flag c)) (h.nodes c))) (eq-eqb c k same)
        ∙ roused_twice (flag_wake (new k)) (flag_wake (flag c)) (h.nodes c)
        ∙ ap (λ n. roused (flag_wake (new n)) (h.nodes c)) (sym same)
    by c (inr other) =
        ap (λ b. cond b (roused (flag_wake (new k)) (roused (flag_wake (flag c)) (h.nodes c)))
        (roused (flag_wake (flag c)) (h.nodes c))) (ne_eqb c k other)
        ∙ ap (λ b. roused (flag_wake b) (h.nodes c)) (sym (others c other))

bare_still : (how : Wake) (node : Option Node) → bare (roused how node) ≡ bare node
bare_still how None = refl
bare_still how (Some (Loaded s)) = refl
bare_still how (Some (Admitted t)) = refl

ported_still : (how : Wake) (node : Option Node) → IsPorted node → IsPorted (roused how node)
ported_still how None is = is
ported_still how (Some (Loaded s)) is = is
ported_still how (Some (Admitted t)) is = is

-- V and P are what the checker knows a box by
module _ {V : Type 0} {P : V → Type 0} (seen : (x : V) × P x → Seen) where
  -- a tree is of nodes but for wakes
  tree_flagged : (t : Tree V P) (flag : ℕ → Bool) (h : Hierarchy) → IsTreeOf seen t h
      → IsTreeOf seen t (flagged flag h)
  tree_flagged t flag h is = record {
    of = record {
      now = is.of.now;
      root_is = is.of.root_is;
      nodes = λ k. bare_still (flag_wake (flag k)) (h.nodes k) ∙ is.of.nodes k;
      ranked = is.of.ranked;
      posted = is.of.posted;
      room = is.of.room;
      within = is.of.within;
    };
    named = is.named;
    schedulers = is.schedulers;
    threads = is.threads;
    seats = is.seats;
    counts = is.counts;
    told = is.told;
    ported = λ k. ported_still (flag_wake (flag k)) (h.nodes k) (is.ported k);
    known = is.known;
    late = is.late;
    quiet = is.quiet;
    clock = is.clock;
  }

  ready_flagged : (t : Tree V P) (h : Hierarchy) → IsReadyOf seen t (flagged (ready_of seen t) h)
  ready_flagged t h k x e =
      let was = was_there (ready_of seen t k) (h.nodes k) x e in
      was_ready (was_served h.past k) h.now (ready_of seen t k) x.wake was.wake

  released : (s : Stays) (t : Tree V P) (k : ℕ) (h : Hierarchy) (flag : ℕ → Bool) → Releases seen s t k h flag
      → IsRousing seen s t (flagged flag h) k (flag_wake (ready_of seen t k))
  released s t k h flag x =
      let one = flagged_one h flag (ready_of seen t) k x.others in
      record {
        are = x.stays;
        has = has_open h k x.listed x.thread;
        thread = thread_still (flag k) (h.nodes k) x.thread;
        tree = subst (IsTreeOf seen t) (sym one) (tree_flagged t (ready_of seen t) h x.tree);
        ready = subst (IsReadyOf seen t) (sym one) (ready_flagged t h);
      }

  pub may_release : (s : Stays) (t : Tree V P) (k : ℕ) → MayRelease seen s t k → MayNote seen s t k
  may_release s t k may = record {
    h = flagged may.flag may.h;
    how = flag_wake (ready_of seen t k);
    rousing = released s t k may.h may.flag may.releases;
  }

  pub release_noted : (s new : Stays) (t : Tree V P) (k : ℕ)
      → ((h : Hierarchy) (how : Wake) → IsRousing seen s t h k how → AreStays new (with_wake h k how))
      → (h : Hierarchy) (flag : ℕ → Bool) → Releases seen s t k h flag
      → AreStays new (flagged (ready_of seen t) h)
  release_noted s new t k noted h flag x =
      subst (AreStays new) (flagged_one h flag (ready_of seen t) k x.others)
      (noted (flagged flag h) (flag_wake (ready_of seen t k)) (released s t k h flag x))

-- ---- where flags say what wakes say

unflagged_tally : (h : Hierarchy) (flag : ℕ → Bool) (stay : Stay) (tally : Tally)
    → ((k : ℕ) (t : Thread) → h.nodes k ≡ Some (Admitted t) → is_ready (was_served h.past k) h.now t.wake ≡ flag k)
    → IsTally (flagged flag h) stay tally → IsTally h stay tally
unflagged_tally h flag stay tally says is = record {
  thread = is.thread;
  name = is.name;
  kept = is.kept;
  since = is.since;
  until = is.until;
  ready = is.ready;
  served = is.served;
  noted = λ open_yet. record {
    is = λ t there.
        (let k = stay.thread in
        (is.noted open_yet).is (record t { wake = flag_wake (flag k) }) (ap (roused (flag_wake (flag k))) there)
        ∙ flag_ready (was_served h.past k) h.now (flag k) ∙ sym (says k t there));
    early = (is.noted open_yet).early;
  };
  early = is.early;
  past = is.past;
}

pub unflagged : (s : Stays) (h : Hierarchy) (flag : ℕ → Bool)
    → ((k : ℕ) (t : Thread) → h.nodes k ≡ Some (Admitted t) → is_ready (was_served h.past k) h.now t.wake ≡ flag k)
    → AreStays s (flagged flag h) → AreStays s h
unflagged s h flag says are = record {
  kept = are.kept;
  are = record {
    many = are.are.many;
    each = λ at stay tally e f. unflagged_tally h flag stay tally says (are.are.each at stay tally e f);
    single = are.are.single;
    idle = are.are.idle;
  };
  all = are.all;
}
