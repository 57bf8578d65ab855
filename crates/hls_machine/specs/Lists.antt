-- What the lists of a hierarchy hold: its schedulers, its threads, its seats and the open stays. And its
-- names.
use Rattle.std.specs.Prelude.{◌≡◌, ◌≢◌, ◌<◌, ◌↔◌, ℕ, List, length, Some, None, Bool, true, Contains, AllPairs}
use Rattle.hls_machine.specs.Hierarchy.{Hierarchy, Thread, Admitted, Stay, SeatHolder, name_of, seats_of}
use Rattle.hls_machine.specs.Steps.{is_scheduler, is_thread}

-- the list has the numbers at which the test is true, each once
pub record Lists (order : List ℕ) (test : ℕ → Bool) : Type 0 where
  pub all : (k : ℕ) → test k ≡ true → Contains order k
  pub only : (k : ℕ) → Contains order k → test k ≡ true
  pub once : AllPairs (λ (k c : ℕ). k ≢ c) order

-- the stay that a thread has begun
abbrev pub open_stay : (k : ℕ) → Thread → Stay
open_stay k t = record { thread = k; name = t.name; kept = t.seat.kept; since = t.stay; until = None }

-- the lists are of what is there, each thread has its stay, and no two nodes have one name
pub record IsListed (h : Hierarchy) : Type 0 where
  pub schedulers : Lists h.schedulers (λ k. is_scheduler (h.nodes k))
  pub threads : Lists h.threads (λ k. is_thread (h.nodes k))
  pub sitters : (s : SeatHolder) → Contains h.seats s ↔ s.port < length (seats_of (h.nodes s.node))
  pub stays : (k : ℕ) (thread : Thread) → h.nodes k ≡ Some (Admitted thread)
      → Contains h.stays (open_stay k thread)
  pub names : (k c : ℕ) (name : List ℕ) → name_of (h.nodes k) ≡ Some name → name_of (h.nodes c) ≡ Some name
      → k ≡ c
