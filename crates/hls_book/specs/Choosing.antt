-- A tick, after its replenishments: whom it serves, and what it leaves of the servers.
use Rattle.std.specs.Prelude.{◌≡◌, ◌≢◌, ℕ, ◌≤◌, ◌<◌, true, Option, Some}
use Rattle.hls_book.specs.declared.server.Server.{Server}
use Rattle.hls_book.specs.Servers.{charged}

-- the tick serves this slot, which asks and has budget
pub record IsHit (n : ℕ) (servers : ℕ → Server) (to : Option ℕ) (slot : ℕ) : Type 0 where
  pub to_it : to ≡ Some slot
  pub within : slot < n
  pub asks : (servers slot).asked ≡ true
  pub left : 0 < (servers slot).budget

-- where a seat asks with budget, the tick serves one of no later deadline
pub record IsChosen (n : ℕ) (servers : ℕ → Server) (to : Option ℕ) : Type 0 where
  pub first : (rival : ℕ) → rival < n → (servers rival).asked ≡ true → 0 < (servers rival).budget
      → (slot : ℕ) × IsHit n servers to slot × ((servers slot).deadline ≤ (servers rival).deadline)

-- the servers after it
pub record IsTick (amid : ℕ → Server) (to : Option ℕ) (after : ℕ → Server) : Type 0 where
  pub other : (slot : ℕ) → to ≢ Some slot → after slot ≡ amid slot
  pub one : (slot : ℕ) → to ≡ Some slot → after slot ≡ charged (amid slot)
