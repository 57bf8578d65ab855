-- What the book of a scheduler promises to each seat, from what the scheduler itself is given.
use Rattle.std.specs.Prelude.{◌≡◌, ℕ, Bool, true, ◌&&◌, ◌==◌, is_some}
use Rattle.hls_chron.specs.declared.plain.Config.{Config}
use Rattle.hls_chron.specs.declared.plain.Terms.{Terms}
use Rattle.hls_chron.specs.Ledger.{Ledger, now_of, row_at, before}
use Rattle.hls_chron.specs.Seats.{asked, served}
use Rattle.hls_kinds.specs.declared.tenant.Tenant.TheVariants.{Sits}
use Rattle.hls_kinds.specs.Tenants.{tenant_at, settled_at}
use Rattle.hls_kinds.specs.Asks.{asks}
use Rattle.hls_guarantee.specs.declared.Guarantee.{Guarantee}
use Rattle.hls_guarantee.specs.Supply.{Supplies}
use Rattle.hls_chron.specs.Kinds.{IsPort}
use Rattle.hls_guarantee.specs.Steps.{LendsThrough}

-- in tick t the scheduler was given the processor through this port
unfoldable pub given : Ledger → (port : ℕ) → ℕ → Bool
given b port t = is_some (row_at b t).to && (row_at b t).port == port

-- in tick t the scheduler asked
unfoldable pub asked_by : Config → Ledger → ℕ → Bool
asked_by config b t = asks config (before t b) (row_at b t).mask

-- it was given the processor through ports that it has
abbrev pub HasPorts : Config → Ledger → Type 0
HasPorts config b = (t : ℕ) → is_some (row_at b t).to ≡ true → IsPort config (row_at b t).port

-- Where a port has supplied g since the start or the last settling, and the step through the scheduler lends h
-- of g to the terms of a seat, the seat has been supplied with h since then, or since its seating if that is
-- later.
pub record KeepsPromise (config : Config) (b : Ledger) : Type 0 where
  pub kept : HasPorts config b → (slot since port : ℕ) (terms : Terms) (g h : Guarantee)
      → tenant_at b slot ≡ Sits terms since → LendsThrough config terms port g h
      → Supplies g (given b port) (asked_by config b) (settled_at b) (now_of b)
      → Supplies h (served b slot) (asked b slot) since (now_of b)
