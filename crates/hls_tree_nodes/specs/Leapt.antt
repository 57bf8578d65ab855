-- What many ticks, one after the other, leave of nodes, and for how many they stand.
use Rattle.std.specs.Prelude.{◌≡◌, ◌≢◌, ℕ, zero, suc, ◌+◌, ◌<◌, Bool, Option, Some, None, IfSome}
use Rattle.hls_machine.specs.Hierarchy.{Hierarchy, Thread, Admitted, is_ready, was_served}
use Rattle.hls_machine.specs.Steps.{Path, Elapse, after, elapsed, hop_at, hops_of}
use Rattle.hls_kinds.specs.Discipline.{Serves}
use Rattle.hls_kinds.specs.Stands.{always}
use Rattle.hls_sched.specs.Seen.{Seen, config_of, seen_asks, leapt}
use Rattle.hls_sched.specs.Stands.{seen_stands}
use Rattle.hls_tree_nodes.specs.Shown.{Post, What, Scheduler, Shown, on_post, ServesIn}
use Rattle.hls_tree_nodes.specs.Shown as shown

-- a station after n ticks
abbrev pub post_leapt : ℕ → Option ℕ → Post → Post
post_leapt n choice post = record post { unit = leapt n choice post.unit }

-- the nodes after n ticks
abbrev pub nodes_by : (ℕ → Option Shown) → (choices : ℕ → Option ℕ) → ℕ → ℕ → Option Shown
nodes_by s choices n k = on_post (post_leapt n (choices k)) (s k)

-- A box asks in each of the next n ticks as it does in the present one, and its choice, where it is the slot to serve,
-- stays so; where the box is granted, it is.
pub record StandsLate (n : ℕ) (choice : Option ℕ) (s : Seen) : Type 0 where
  pub asks : (k : ℕ) → k < n → seen_asks (leapt k choice s) ≡ seen_asks s
  pub stays : IfSome choice (Serves (config_of s) s.book s.mask) → (k : ℕ) → k < n
      → IfSome choice (Serves (config_of s) (leapt k choice s).book s.mask)
  pub serves : s.grant ≢ None → (k : ℕ) → k < n → IfSome choice (Serves (config_of s) (leapt k choice s).book s.mask)

abbrev pub StandsWhat : ℕ → Option ℕ → What → Type 0
StandsWhat n choice (Scheduler post) = StandsLate n choice post.unit
StandsWhat n choice (shown.Thread ready) = Unit {0}

abbrev pub StandsIn : ℕ → Option ℕ → Option Shown → Type 0
StandsIn n choice None = Unit {0}
StandsIn n choice (Some s) = StandsWhat n choice s.what

-- for how many ticks a node stands, a thread always
abbrev pub stands_what : Option ℕ → What → ℕ
stands_what choice (Scheduler post) = seen_stands choice post.unit
stands_what choice (shown.Thread ready) = always

abbrev pub stands_in : Option ℕ → Option Shown → ℕ
stands_in choice None = always
stands_in choice (Some s) = stands_what choice s.what

-- one of these nodes stands for just so many ticks
pub record StandsJust (s : ℕ → Option Shown) (choices : ℕ → Option ℕ) (n : ℕ) : Type 0 where
  pub node : ℕ
  pub is : stands_in (choices node) (s node) ≡ n

-- a hierarchy after n such ticks
abbrev pub later : Hierarchy → (asking : ℕ → Bool) → (slots : ℕ → ℕ) → Option Path → ℕ → Hierarchy
later h asking slots path zero = h
later h asking slots path (suc n) = after (later h asking slots path n) (Elapse asking slots path)

-- In each of n ticks but the last one a slot to serve is the choice, on the path, and who is ready stays so.
pub record MayLeap (s : ℕ → Option Shown) (choices : ℕ → Option ℕ) (h : Hierarchy) (asking : ℕ → Bool) (slots : ℕ → ℕ)
    (path : Option Path) (n : ℕ) : Type 0 where
  pub one : (j k slot : ℕ) → suc j < n → hop_at (hops_of path) k ≢ None → ServesIn (nodes_by s choices j k) slot
      → choices k ≡ Some slot
  pub ready : (j k : ℕ) (t : Thread) → suc j < n → (later h asking slots path j).nodes k ≡ Some (Admitted t)
      → is_ready (was_served (elapsed (later h asking slots path j) asking slots path).past k)
      ((later h asking slots path j).now + 1) t.wake
      ≡ is_ready (was_served (later h asking slots path j).past k) (later h asking slots path j).now t.wake
