-- What part of the ticks of its scheduler a seat of round robin has.
use Rattle.hls_chron.specs.Ranges.{most_slots}
use Rattle.std.specs.Prelude.{◌≡◌, ℕ, ◌+◌, ◌*◌, ◌≤◌, ◌<◌, Bool, false}
use Rattle.hls_frac.specs.declared.Frac.{Frac}
use Rattle.hls_chron.specs.declared.plain.Config.TheVariants.{Rr}
use Rattle.hls_chron.specs.declared.plain.Terms.TheVariants.{Turn}
use Rattle.hls_chron.specs.Ledger.{Ledger, now_of}
use Rattle.hls_chron.specs.Seats.{asked, served}
use Rattle.hls_kinds.specs.declared.tenant.Tenant.TheVariants.{Sits}
use Rattle.hls_kinds.specs.Tenants.{tenant_at, settled_at}
use Rattle.hls_guarantee.specs.declared.Guarantee.{Guarantee}
use Rattle.hls_guarantee.specs.declared.Guarantee.TheVariants.{All, Resc, Psbe}
use Rattle.hls_guarantee.specs.Steps.{IsTurnShare}
use Rattle.hls_guarantee.specs.Supply.{Supplies}
use Rattle.hls_book.specs.Promise.{given, asked_by}
use Rattle.hls_book.specs.Runs.{given_ticks, served_ticks, ticks_of_others}
use Rattle.hls_book_turns.specs.Runs.{AsksForTurns}
use Rattle.hls_book_turns.specs.Waits.{delay}

-- The seat asks from tick i to tick i + n.
pub record KeepsPart (quantum : ℕ) (b : Ledger) : Type 0 where
  -- others have at most 31 ticks for each of its own, and 31 quanta
  pub others : (i n slot : ℕ) → i + n < now_of b → AsksForTurns b slot i n
      → ticks_of_others b slot i (n + 1) ≤ 31 * (served_ticks b slot i (n + 1) + quantum)
  -- so of the ticks that the scheduler is given the seat has one in 32, all but 31 quanta
  pub part : (i n slot : ℕ) → i + n < now_of b → AsksForTurns b slot i n
      → given_ticks b i (n + 1) ≤ most_slots * served_ticks b slot i (n + 1) + 31 * quantum

-- where a port has supplied g since the start or the last settling, each seat has been supplied with h since then, or
-- since its seating if that is later
abbrev pub IsPassedOn : (quantum : ℕ) → Ledger → (g h : Guarantee) → Type 0
IsPassedOn quantum b g h =
    (slot since port : ℕ) → tenant_at b slot ≡ Sits Turn since
    → Supplies g (given b port) (asked_by (Rr quantum) b) (settled_at b) (now_of b)
    → Supplies h (served b slot) (asked b slot) since (now_of b)

pub record KeepsTurnPromise (quantum : ℕ) (b : Ledger) : Type 0 where
  -- of a share each seat has a 32nd part
  pub shares : (s d s' d' : Frac) → IsTurnShare quantum s d s' d' → IsPassedOn quantum b (Psbe s d) (Psbe s' d')
  -- of windows in which the scheduler has x ticks, it has its own that come with x given ones
  pub windows : (hard : Bool) (x y own : ℕ) → delay quantum own ≤ x
      → IsPassedOn quantum b (Resc hard x y) (Resc false own y)
  -- and of every tick, those that come with so many
  pub every : (own : ℕ) → IsPassedOn quantum b All (Resc false own (delay quantum own))
