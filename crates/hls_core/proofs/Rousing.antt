-- Threads are made ready, one after the other, whose wakes have a release in a tick.
use Rattle.std.proofs.Common.{◌≡◌, ◌≢◌, ℕ, inl, inr, ◌⊎◌, ◌+◌, ◌<◌, ◌≤◌, length, Bool, true, false, cond}
use Rattle.std.proofs.Common.{refl, sym, ap, ◌∙◌, subst, arith}
use Rattle.std.specs.Prelude.{Option, Some, None, slice_get}
use Rattle.std.proofs.lemmas.Bool.{cases_eq, cases_lt}
use Rattle.std.proofs.lemmas.Option.{slice_get_within, slice_get-get_or, get_or_from_slice_get}
use Rattle.hls_sched.specs.Seen.{Seen}
use Rattle.hls_machine.specs.Hierarchy.{Hierarchy, Node, Thread, Loaded, Admitted}
use Rattle.hls_machine.specs.Steps.{is_thread}
use Rattle.hls_machine.specs.Legal.{IsThread}
use Rattle.hls_machine.specs.Lists.{IsListed}
use Rattle.hls_tree.specs.Trees.{IsTreeOf, Stands, Any, ready_of}
use Rattle.hls_tree.specs.declared.tree.Tree.{Tree}
use Rattle.hls_core_stays.specs.Tallies.{AreStays}
use Rattle.hls_core_stays.specs.Changes.{flagged, Releases, MayRelease}
use Rattle.hls_core_stays.specs.declared.stays.Stays.{Stays}
use Rattle.hls_core.specs.Begun.{is_due}
use Rattle.hls_core.specs.Bursts.{next_in}
use Rattle.hls_core.specs.declared.bursts.Bursts.{Bursts}

is_thread_by : (node : Option Node) → is_thread node ≡ true → IsThread node
is_thread_by None is = absurd (cc)
is_thread_by (Some (Loaded s)) is = absurd (cc)
is_thread_by (Some (Admitted t)) is = record { thread = t; there = refl }

listed_thread : (h : Hierarchy) (at k : ℕ) → IsListed h → slice_get h.threads at ≡ Some k → IsThread (h.nodes k)
listed_thread h at k listed e =
    is_thread_by (h.nodes k)
    (listed.threads.only k (at, slice_get_within h.threads at k e, get_or_from_slice_get h.threads at k k e))

place_in : (h : Hierarchy) (k : ℕ) (t : Thread) → IsListed h → h.nodes k ≡ Some (Admitted t)
    → (at : ℕ) × (slice_get h.threads at ≡ Some k)
place_in h k t listed there =
    let c = listed.threads.all k (ap is_thread there) in
    (c.0, slice_get-get_or h.threads c.0 k c.1 ∙ ap (λ n. Some n) c.2)

-- a flag after a release, or without one
abbrev pub flag_by : (due flag : Bool) → Bool
flag_by due flag = cond due true flag

-- a release that comes twice is one
flag_twice : (due now old : Bool) → (now ≡ old) ⊎ (now ≡ flag_by due old) → flag_by due now ≡ flag_by due old
flag_twice true now old which = refl
flag_twice false now old (inl same) = same
flag_twice false now old (inr same) = same

-- V and P are what the checker knows a box by
module _ {V : Type 0} {P : V → Type 0} (seen : (x : V) × P x → Seen) (bursts : Bursts) (tick : ℕ) where
  abbrev pub due : (k : ℕ) → Bool
  due k = is_due tick (next_in bursts k)

  -- the threads before a place of the list are ready that have a release, and the flags of others are as they were
  pub record AreRoused (old now : Tree V P) (upto : ℕ) : Type 0 where
    pub tree : (h : Hierarchy) → IsTreeOf seen old h → IsTreeOf seen now h
    pub each : (k : ℕ) → (ready_of seen now k ≡ ready_of seen old k)
        ⊎ (ready_of seen now k ≡ flag_by (due k) (ready_of seen old k))
    pub done : (h : Hierarchy) (i k : ℕ) → IsTreeOf seen old h → i < upto → slice_get h.threads i ≡ Some k
        → ready_of seen now k ≡ flag_by (due k) (ready_of seen old k)
    pub horizon : now.horizon ≡ old.horizon

  -- the stays follow the flags
  abbrev pub StaysFollow : (old now : Tree V P) → (was is : Stays) → Type 0
  StaysFollow old now was is = (h : Hierarchy) → IsTreeOf seen old h → IsListed h
      → AreStays was (flagged (ready_of seen old) h) → AreStays is (flagged (ready_of seen now) h)

  pub roused_none : (t : Tree V P) → AreRoused t t 0
  roused_none t = record {
    tree = λ h tree. tree;
    each = λ k. inl refl;
    done = λ h i k tree lt e. absurd (omega (arith, lt));
    horizon = refl;
  }

  pub roused_more : (old now new : Tree V P) (at id : ℕ) → AreRoused old now at
      → ((h : Hierarchy) → IsTreeOf seen now h → slice_get h.threads at ≡ Some id)
      → ((h : Hierarchy) → IsTreeOf seen now h → IsTreeOf seen new h)
      → ready_of seen new id ≡ flag_by (due id) (ready_of seen now id)
      → ((k : ℕ) → k ≢ id → ready_of seen new k ≡ ready_of seen now k) → new.horizon ≡ now.horizon
      → AreRoused old new (at + 1)
  roused_more old now new at id are there tree here others horizon = record {
    tree = λ h is. tree h (are.tree h is);
    each = λ k. each k (cases_eq k id);
    done = λ h i k is lt e. done h i k is lt e (cases_eq k id);
    horizon = horizon ∙ are.horizon;
  }
    where
      at_id : ready_of seen new id ≡ flag_by (due id) (ready_of seen old id)
      at_id = here ∙ flag_twice (due id) (ready_of seen now id) (ready_of seen old id) (are.each id)

      is_id : (k : ℕ) → k ≡ id → ready_of seen new k ≡ flag_by (due k) (ready_of seen old k)
      is_id k same =
          subst (λ n. ready_of seen new n ≡ flag_by (due n) (ready_of seen old n)) (sym same) at_id

      each : (k : ℕ) → (k ≡ id) ⊎ (k ≢ id) → (ready_of seen new k ≡ ready_of seen old k)
          ⊎ (ready_of seen new k ≡ flag_by (due k) (ready_of seen old k))
      each k (inl same) = inr (is_id k same)
      each k (inr other) = elim (are.each k) [
        | inl was ↦ inl (others k other ∙ was)
        | inr was ↦ inr (others k other ∙ was)
      ]

      done : (h : Hierarchy) (i k : ℕ) → IsTreeOf seen old h → i < at + 1 → slice_get h.threads i ≡ Some k
          → (k ≡ id) ⊎ (k ≢ id) → ready_of seen new k ≡ flag_by (due k) (ready_of seen old k)
      done h i k is lt e (inl same) = is_id k same
      done h i k is lt e (inr other) = elim (cases_lt i at) [
        | inl less ↦ others k other ∙ are.done h i k is less e
        | inr last ↦
            let same : i ≡ at = omega (arith, lt, last) in
            let found : Some k ≡ Some id = sym e ∙ ap (slice_get h.threads) same ∙ there h (are.tree h is) in
            absurd (other (let alike : k ≡ id = cc in alike))
      ]

  pub follow_more : (old now new : Tree V P) (was mid is : Stays) (at id : ℕ) → AreRoused old now at
      → ((h : Hierarchy) → IsTreeOf seen now h → slice_get h.threads at ≡ Some id)
      → ((h : Hierarchy) → IsTreeOf seen now h → IsListed h → IsThread (h.nodes id)
      → AreStays mid (flagged (ready_of seen now) h) → AreStays is (flagged (ready_of seen new) h))
      → StaysFollow old now was mid → StaysFollow old new was is
  follow_more old now new was mid is at id are there noted follow h tree listed stays =
      let here = are.tree h tree in
      noted h here listed (listed_thread h at id listed (there h here)) (follow h tree listed stays)

  pub roused_all : (old now : Tree V P) (upto : ℕ) → AreRoused old now upto
      → ((h : Hierarchy) → IsTreeOf seen old h → length h.threads ≤ upto) → (h : Hierarchy) → IsTreeOf seen old h
      → IsListed h → (k : ℕ) (t : Thread) → h.nodes k ≡ Some (Admitted t)
      → ready_of seen now k ≡ flag_by (due k) (ready_of seen old k)
  roused_all old now upto are whole h tree listed k t there =
      let place = place_in h k t listed there in
      let lt = slice_get_within h.threads place.0 k place.1 in
      let few = whole h tree in are.done h place.0 k tree (omega (arith, lt, few)) place.1

  pub any_stands : (t : Tree V P) (stays : Stays)
      → Stands seen t (λ h. AreStays stays (flagged (ready_of seen t) h)) → Stands seen t Any
  any_stands t stays x = record { h = x.h; tree = x.tree; seated = x.seated; listed = x.listed; is = tt }

  pub place_stands : (old now : Tree V P) (stays : Stays) (at many : ℕ)
      → Stands seen old (λ h. AreStays stays (flagged (ready_of seen old) h)) → AreRoused old now at → at < many
      → ((h : Hierarchy) → IsTreeOf seen old h → many ≡ length h.threads)
      → Stands seen now (λ h. at < length h.threads)
  place_stands old now stays at many x are lt count = record {
    h = x.h;
    tree = are.tree x.h x.tree;
    seated = x.seated;
    listed = x.listed;
    is = (let all = count x.h x.tree in omega (arith, lt, all));
  }

  pub rouse_stands : (old now : Tree V P) (was is : Stays) (at id : ℕ)
      → Stands seen old (λ h. AreStays was (flagged (ready_of seen old) h)) → AreRoused old now at
      → ((h : Hierarchy) → IsTreeOf seen now h → slice_get h.threads at ≡ Some id) → StaysFollow old now was is
      → Stands seen now (λ h. IsThread (h.nodes id) × AreStays is (flagged (ready_of seen now) h))
  rouse_stands old now was is at id x are there follow = record {
    h = x.h;
    tree = are.tree x.h x.tree;
    seated = x.seated;
    listed = x.listed;
    is = (
      listed_thread x.h at id x.listed (there x.h (are.tree x.h x.tree)),
      follow x.h x.tree x.listed x.is,
    );
  }

-- ---- one of them

module _ {V : Type 0} {P : V → Type 0} (seen : (x : V) × P x → Seen) (old new : Tree V P) (was : Stays) (id : ℕ) where
  pub thread_stands : Stands seen old (λ h. IsThread (h.nodes id) × AreStays was (flagged (ready_of seen old) h))
      → Stands seen old (λ h. IsThread (h.nodes id))
  thread_stands x = record { h = x.h; tree = x.tree; seated = x.seated; listed = x.listed; is = x.is.0 }

  releases : ((h : Hierarchy) → IsTreeOf seen old h → IsTreeOf seen new h)
      → ((k : ℕ) → k ≢ id → ready_of seen new k ≡ ready_of seen old k) → (h : Hierarchy) → IsTreeOf seen old h
      → IsListed h → IsThread (h.nodes id) → AreStays was (flagged (ready_of seen old) h)
      → Releases seen was new id h (ready_of seen old)
  releases tree others h is listed thread stays = record {
    stays = stays;
    listed = listed;
    thread = thread;
    tree = tree h is;
    others = others;
  }

  pub may_release : Stands seen old (λ h. IsThread (h.nodes id) × AreStays was (flagged (ready_of seen old) h))
      → ((h : Hierarchy) → IsTreeOf seen old h → IsTreeOf seen new h)
      → ((k : ℕ) → k ≢ id → ready_of seen new k ≡ ready_of seen old k) → MayRelease seen was new id
  may_release x tree others = record {
    h = x.h;
    flag = ready_of seen old;
    releases = releases tree others x.h x.tree x.listed x.is.0 x.is.1;
  }

  pub one_follows : (is : Stays) → ((h : Hierarchy) → IsTreeOf seen old h → IsTreeOf seen new h)
      → ((k : ℕ) → k ≢ id → ready_of seen new k ≡ ready_of seen old k)
      → ((h : Hierarchy) (flag : ℕ → Bool) → Releases seen was new id h flag
      → AreStays is (flagged (ready_of seen new) h)) → (h : Hierarchy) → IsTreeOf seen old h → IsListed h
      → IsThread (h.nodes id) → AreStays was (flagged (ready_of seen old) h)
      → AreStays is (flagged (ready_of seen new) h)
  one_follows is tree others noted h of listed thread stays =
      noted h (ready_of seen old) (releases tree others h of listed thread stays)
