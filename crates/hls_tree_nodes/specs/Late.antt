-- Which nodes are behind, and what calls leave of that.
use Rattle.std.specs.Prelude.{◌≡◌, ℕ, ◌<◌, true, false, Option, Some, None, List, slice_get}
use Rattle.std.specs.declared.dyn_box.DynBox.{DynBox}
use Rattle.std.specs.declared.alloc.Global.{Global}
use Rattle.hls_sched.specs.Seen.{Seen}
use Rattle.hls_tree_nodes.specs.Shown.{asks_in}
use Rattle.hls_tree_nodes.specs.Behind.{LagsIn, behind_at}
use Rattle.hls_tree_nodes.specs.Views.{stored_at}
use Rattle.hls_tree_nodes.specs.Known.{has_bit}
use Rattle.hls_tree_nodes.specs.declared.known.Known.{Known}
use Rattle.hls_tree_nodes.specs.declared.nodes.Nodes.{Nodes}

-- V and P are what the checker knows a box by
module _ {V : Type 0} {P : V → Type 0} where
  -- whoever is behind may be; where nobody may, no place says so
  pub record IsLate (seen : DynBox V Global P → Seen) (nodes : Nodes V P) : Type 0 where
    pub lags : nodes.behind ≡ true → (k : ℕ) → LagsIn nodes.tick (stored_at seen nodes.slab k)
    pub off : nodes.behind ≡ false → nodes.quiet ≡ 0

  -- the scheduler at a place of the list that is quiet is behind, and asks as it told
  abbrev pub AreBehind : (DynBox V Global P → Seen) → Nodes V P → (schedulers : List ℕ) → Type 0
  AreBehind seen nodes schedulers = (at c : ℕ) → at < 64 → has_bit nodes.quiet at ≡ true
      → slice_get schedulers at ≡ Some c → behind_at (stored_at seen nodes.slab c) ≡ Some at

  pub record IsQuiet (seen : DynBox V Global P → Seen) (nodes : Nodes V P) (schedulers : List ℕ) (voices : ℕ)
      : Type 0 where
    pub behind : nodes.behind ≡ true
    pub there : AreBehind seen nodes schedulers
    pub asks : (at c : ℕ) → at < 64 → has_bit nodes.quiet at ≡ true → slice_get schedulers at ≡ Some c
        → asks_in (stored_at seen nodes.slab c) ≡ has_bit voices at

  -- where nothing is known, nobody is
  abbrev pub AreQuiet : (DynBox V Global P → Seen) → Nodes V P → (schedulers : List ℕ) → Option Known → Type 0
  AreQuiet seen nodes schedulers None = nodes.behind ≡ false
  AreQuiet seen nodes schedulers (Some known) = IsQuiet seen nodes schedulers known.voices

  -- Whoever was behind still may be, or has caught up. No tick has passed, and who is quiet was so before and asks as
  -- it did.
  pub record StaysLate (seen : DynBox V Global P → Seen) (old new : Nodes V P) : Type 0 where
    pub late : IsLate seen new
    pub behind : new.behind ≡ old.behind
    pub tick : new.tick ≡ old.tick
    pub bits : (at : ℕ) → at < 64 → has_bit new.quiet at ≡ true → has_bit old.quiet at ≡ true
    pub there : (at c : ℕ) → at < 64 → has_bit new.quiet at ≡ true → behind_at (stored_at seen old.slab c) ≡ Some at
        → behind_at (stored_at seen new.slab c) ≡ Some at
    pub asks : (at c : ℕ) → at < 64 → has_bit new.quiet at ≡ true → behind_at (stored_at seen old.slab c) ≡ Some at
        → asks_in (stored_at seen new.slab c) ≡ asks_in (stored_at seen old.slab c)

  -- no tick has passed
  pub record IsSameClock (old new : Nodes V P) : Type 0 where
    pub behind : new.behind ≡ old.behind
    pub tick : new.tick ≡ old.tick
