-- What stays that are renewed, and threads that are woken or blocked, leave of tallies.
use Rattle.std.specs.Prelude.{◌≡◌, ℕ, ◌+◌, List, [], ◌∷◌, ◌++◌, Some, true, length, option_map, slice_get}
use Rattle.hls_sched.specs.Seen.{Seen}
use Rattle.hls_machine.specs.Hierarchy.{Hierarchy, Seat, Stay, Wake, name_of, seat_of}
use Rattle.hls_machine.specs.Legal.{IsThread}
use Rattle.hls_machine.specs.Steps.{stay_of, with_wake}
use Rattle.hls_tree.specs.Trees.{IsTreeOf, IsReadyOf}
use Rattle.hls_tree.specs.declared.tree.Tree.{Tree}
use Rattle.hls_core_stays.specs.Tallies.{AreTallies, AreStays, lasting}
use Rattle.hls_core_stays.specs.Inside.Steps.{HasOpen, fresh_at, without}
use Rattle.hls_core_stays.specs.declared.stays.Stays.{Stays}
use Rattle.hls_core_stays.specs.declared.tally.Tally.{Tally}

-- the stay of a thread ends, and another begins
abbrev pub renewed_one : Hierarchy → List Stay → (k : ℕ) → List Stay
renewed_one h stays k = without h.now k stays ++ stay_of h.now k (h.nodes k)

abbrev pub renewed_all : Hierarchy → List Stay → (threads : List ℕ) → List Stay
renewed_all h stays [] = stays
renewed_all h stays (k ∷ threads) = renewed_all h (renewed_one h stays k) threads

-- a list without repetitions
abbrev pub IsApart : List ℕ → Type 0
IsApart ks = (i j k : ℕ) → slice_get ks i ≡ Some k → slice_get ks j ≡ Some k → i ≡ j

-- a thread has an open stay, with the name and the guarantee that the thread has
pub record HasAlike (h : Hierarchy) (stays : List Stay) (k : ℕ) : Type 0 where
  pub has : HasOpen stays k
  pub thread : IsThread (h.nodes k)
  pub name : has.stay.name ≡ thread.thread.name
  pub kept : has.stay.kept ≡ thread.thread.seat.kept

-- each of these threads is there and has an open stay with its name and guarantee, and they are different
pub record AreRenewable (s : Stays) (h : Hierarchy) (stays : List Stay) (threads : List ℕ) : Type 0 where
  pub are : AreTallies s h stays
  pub apart : IsApart threads
  pub each : (i k : ℕ) → slice_get threads i ≡ Some k → HasAlike h stays k

-- the tallies are those of these stays, but for some that ended in the tick in which they began
pub record AreInAll (s : Stays) (h : Hierarchy) (stays : List Stay) : Type 0 where
  pub kept : List Stay
  pub are : AreTallies s h kept
  pub all : lasting kept ≡ lasting stays

-- the last tallies are those of open stays of these threads, in their order, that began at this tick
pub record AreRenewed (s : Stays) (threads : List ℕ) (now : ℕ) : Type 0 where
  pub first : ℕ
  pub many : first + length threads ≡ length s.tallies.items
  pub fresh : (i k : ℕ) → slice_get threads i ≡ Some k → fresh_at s.tallies.items (first + i) k now ≡ true

-- V and P are what the checker knows a box by
module _ {V : Type 0} {P : V → Type 0} where
  -- the tally at a place has the name and the guarantee of a thread
  pub record IsLike (seen : (x : V) × P x → Seen) (s : Stays) (t : Tree V P) (k at : ℕ) : Type 0 where
    pub tally : Tally
    pub there : slice_get s.tallies.items at ≡ Some tally
    pub name : (h : Hierarchy) → IsTreeOf seen t h → name_of (h.nodes k) ≡ Some tally.name
    pub kept : (h : Hierarchy) → IsTreeOf seen t h
        → option_map (λ (seat : Seat). seat.kept) (seat_of (h.nodes k) 0) ≡ Some tally.kept

  -- a thread with an open stay was woken or blocked, after which the tree is
  pub record IsRousing (seen : (x : V) × P x → Seen) (s : Stays) (t : Tree V P) (h : Hierarchy) (k : ℕ) (how : Wake)
      : Type 0 where
    pub are : AreStays s h
    pub has : HasOpen h.stays k
    pub thread : IsThread (h.nodes k)
    pub tree : IsTreeOf seen t (with_wake h k how)
    pub ready : IsReadyOf seen t (with_wake h k how)

  pub record MayNote (seen : (x : V) × P x → Seen) (s : Stays) (t : Tree V P) (k : ℕ) : Type 0 where
    pub h : Hierarchy
    pub how : Wake
    pub rousing : IsRousing seen s t h k how
