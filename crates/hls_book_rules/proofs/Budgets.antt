-- Budgets go by their rules, since the server of a seat does.
use Rattle.std.proofs.Common.{◌≡◌, ℕ, suc, ◌+◌, ◌-◌, Bool, true, false, refl, sym, ap, ◌∙◌, arith}
use Rattle.std.specs.Prelude.{if◌then◌else◌}
use Rattle.hls_chron.specs.Parts.{all_parts}
use Rattle.hls_kinds.specs.declared.reservations.Reservation.{Reservation}
use Rattle.hls_kinds.specs.declared.reservations.Claim.{Claim}
use Rattle.hls_chron.specs.Ledger.{Ledger, now_of}
use Rattle.hls_chron.specs.Seats.{served}
use Rattle.hls_kinds.specs.Reservations.{deadline_after, budget_after, last_replenished}
use Rattle.hls_kinds.specs.Tenants.{asking}
use Rattle.hls_book.specs.declared.server.Server.{Server}
use Rattle.hls_book.specs.Servers.{charged, marked, renewed, replenished as replenished_by, is_due as is_due_by}
use Rattle.hls_kinds.specs.Reservations.{asked_before}
use Rattle.hls_book.specs.Recomputed.{server_before, server_within}
use Rattle.hls_book.proofs.Deadlines.{last-zero, within_is, before_is}
use Rattle.hls_kinds.specs.Reservations.{claim_within, claim_served, is_due, replenished}
use Rattle.hls_book_rules.specs.Budgets.{claim_before}
use Rattle.hls_book_rules.specs.Budgets.{KeepsBudgetRules, KeepsClaimRules}

abbrev claim_of : Server → Claim
claim_of server = record { deadline = server.deadline; budget = server.budget }

served_claim : (served : Bool) (server : Server)
    → claim_of (if served then charged server else server) ≡ claim_served served (claim_of server)
served_claim true server = refl
served_claim false server =
    let same : server.budget ≡ server.budget - 0 = omega arith in
    ap (λ (budget : ℕ). record { deadline = server.deadline; budget = budget }) same

set_anew : (due : Bool) (server : Server) (t : ℕ)
    → claim_of (if due then renewed server t else marked server true)
    ≡ (if due then record { deadline = t + server.y; budget = server.x } else claim_of server)
set_anew true server t = refl
set_anew false server t = refl

module _ (r : Reservation) (asks serves : ℕ → Bool) (n : ℕ) where
  abbrev server : Server
  server = server_before r asks serves n

  due_same : is_due_by all_parts server (r.since + n)
      ≡ is_due r (asked_before r asks n) (r.since + n) (claim_before r asks serves n)
  unfolding is_due_by
  due_same = refl

  within_by : (asking : Bool) → claim_of (replenished_by all_parts server asking (r.since + n))
      ≡ claim_within r asking (asked_before r asks n) (r.since + n) (claim_before r asks serves n)
  unfolding replenished_by
  within_by false = refl
  within_by true =
      set_anew (is_due_by all_parts server (r.since + n)) server (r.since + n)
      ∙ ap (λ (due : Bool). if due then replenished r (r.since + n) else claim_before r asks serves n) due_same

  goes_on : (serves (r.since + n) ≡ true → asks (r.since + n) ≡ true)
      → claim_before r asks serves (suc n)
      ≡ claim_served (serves (r.since + n))
      (claim_within r (asks (r.since + n)) (asked_before r asks n) (r.since + n) (claim_before r asks serves n))
  goes_on sure =
      ap claim_of (before_is r asks serves n sure)
      ∙ served_claim (serves (r.since + n)) (server_within r asks serves n)
      ∙ ap (λ (s : Server). claim_served (serves (r.since + n)) (claim_of s)) (sym (within_is r asks serves n))
      ∙ ap (claim_served (serves (r.since + n))) (within_by (asks (r.since + n)))

pub budget_rules : (r : Reservation) (asks serves : ℕ → Bool) (n : ℕ) → KeepsBudgetRules r asks serves n
budget_rules r asks serves n =
    let next : n + 1 ≡ suc n = omega arith in
    record {
      begins = rw (last-zero r asks serves) refl;
      goes_on = λ sure. rw next (goes_on r asks serves n sure);
    }

-- what the choice goes by, n ticks after the seating or settling
abbrev claim_at_tick : Reservation → (asks serves : ℕ → Bool) → (more now : ℕ) → Claim
claim_at_tick r asks serves more now =
    let last = last_replenished r asks serves more in
    record { deadline = deadline_after r last; budget = budget_after r serves last now }

within : (r : Reservation) (asks serves : ℕ → Bool) (n now more : ℕ) → r.since + n ≡ now → more ≡ suc n
    → claim_at_tick r asks serves more now
    ≡ claim_within r (asks now) (asked_before r asks n) now (claim_before r asks serves n)
within r asks serves n now more at next =
    rw (next, ← at) (ap claim_of (sym (within_is r asks serves n))
    ∙ within_by r asks serves n (asks (r.since + n)))

pub claim_rules : (b : Ledger) (mask slot : ℕ) (r : Reservation) → KeepsClaimRules b mask slot r
claim_rules b mask slot r = record {
  within = λ le.
      within r (asking b mask slot) (served b slot) (now_of b - r.since) (now_of b) (now_of b + 1 - r.since)
      (omega (arith, le)) (omega (arith, le));
}
