-- The thread that was admitted last.
use Rattle.std.proofs.Common.{◌≡◌, ℕ, ◌-◌, List, [], ◌∷◌, ◌++◌, length, sym, ap, ◌∙◌, subst, arith}
use Rattle.std.specs.Prelude.{Bool, true, Some, slice_get}
use Rattle.std.proofs.lemmas.List.{length-append}
use Rattle.hls_sched.specs.Seen.{Seen}
use Rattle.hls_machine.specs.Hierarchy.{Hierarchy, Stay}
use Rattle.hls_machine.specs.Legal.{IsThread}
use Rattle.hls_machine.specs.Steps.{stay_of}
use Rattle.hls_tree.specs.Trees.{IsTreeOf, IsReadyOf, Stands, ready_of}
use Rattle.hls_tree.specs.declared.tree.Tree.{Tree}
use Rattle.hls_core_stays.specs.Tallies.{AreTallies, IsNoted}
use Rattle.hls_core_stays.specs.Inside.Steps.{HasNone}
use Rattle.hls_core_stays.specs.declared.stays.Stays.{Stays}
use Rattle.hls_core_stays.proofs.Lists.{get_seam, contains_at}
use Rattle.hls_core_stays.proofs.Follows.{thread_is}

-- V and P are what the checker knows a box by
pub last_thread : {V : Type 0} {P : V → Type 0} (seen : (x : V) × P x → Seen) (t : Tree V P) (at k : ℕ)
    (x : Stands seen t (λ h. (k : ℕ) × (front : List ℕ) × (h.threads ≡ front ++ k ∷ [])))
    → slice_get x.h.threads at ≡ Some k → Stands seen t (λ h. IsThread (h.nodes k))
last_thread seen t at k x e = record {
  h = x.h;
  tree = x.tree;
  seated = x.seated;
  listed = x.listed;
  is = thread_is (x.h.nodes k) (x.listed.threads.only k (contains_at x.h.threads at k e));
}

same_some : (x y : ℕ) → Some x ≡ Some y → x ≡ y
same_some x y e = cc

pub last_is : (threads front : List ℕ) (k c at : ℕ) → threads ≡ front ++ k ∷ [] → at ≡ length threads - 1
    → slice_get threads at ≡ Some c → c ≡ k
last_is threads front k c at is last e =
    let long = ap length is ∙ length-append front (k ∷ []) in
    let at_end : at ≡ length front = omega (arith, last, long) in
    same_some c k (sym e ∙ ap (λ l. slice_get l at) is ∙ ap (slice_get (front ++ k ∷ [])) at_end ∙ get_seam front k)

pub begin_at : (new : Stays) (h : Hierarchy) (stays : List Stay) (c k : ℕ) → c ≡ k
    → (IsThread (h.nodes c) → HasNone stays c → AreTallies new h (stays ++ stay_of h.now c (h.nodes c)))
    → IsThread (h.nodes k) → HasNone stays k → AreTallies new h (stays ++ stay_of h.now k (h.nodes k))
begin_at new h stays c k same =
    subst (λ n. (IsThread (h.nodes c) → HasNone stays c → AreTallies new h (stays ++ stay_of h.now c (h.nodes c)))
    → IsThread (h.nodes n) → HasNone stays n → AreTallies new h (stays ++ stay_of h.now n (h.nodes n))) same
    (λ opened thread none. opened thread none)

-- a thread whose flag is set is ready from now on
pub noted_ready : {V : Type 0} {P : V → Type 0} (seen : (x : V) × P x → Seen) (t : Tree V P) (id now : ℕ)
    (flag : Bool) → flag ≡ ready_of seen t id → flag ≡ true → ((h : Hierarchy) → IsTreeOf seen t h → now ≡ h.now)
    → (h : Hierarchy) → IsTreeOf seen t h → IsReadyOf seen t h → IsNoted h id (Some now)
noted_ready seen t id now flag is on at_now h tree ready = record {
  is = λ x there. sym (ready id x there ∙ sym is ∙ on);
  early = λ tick e.
      (let same = same_some now tick e in
      let here = at_now h tree in omega (arith, same, here));
}
