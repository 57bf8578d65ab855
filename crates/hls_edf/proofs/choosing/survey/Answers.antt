use Rattle.std.proofs.Common.{rules, ◌≡◌, ◌≤◌, ◌<◌, ◌+◌, ℕ, Option, true, false, arith, refl, sym, ap, ◌∙◌}
use Rattle.hls_box.proofs.LeastLaws.{best_below-zero, slot_below, slot_below-all}
use Rattle.hls_kinds.specs.Asks.{slot_asks}
use Rattle.hls_chron.specs.Ledger.{now_of}
use Rattle.hls_chron.specs.Parts.{all_parts}
use Rattle.hls_book.specs.declared.server.Server.{Server}
use Rattle.hls_book.specs.Servers.{replenished}
use Rattle.hls_edf.specs.declared.servers.Need.TheVariants.{Budget}
use Rattle.hls_edf.specs.Choice.{server_in, amid_in, deadline_asking}
use Rattle.hls_edf.specs.Inside.Outlook.{soonest_of, by_budget}
use Rattle.hls_edf.proofs.Candidates.{best_more, silent}
use Rattle.hls_edf.proofs.NextSlots.{best_below-up}
use Rattle.hls_edf.proofs.Outlooks.{soonest_none, soonest_step, soonest_up, funded_more, funded_up, key_by_budget}
use Rattle.hls_edf.proofs.Outlooks.{key_unfunded}
use Rattle.hls_edf.proofs.choosing.survey.Goals as goal

pub loop-slot-init : goal.loop-slot-init
loop-slot-init c =
    let servers = c.args.servers.now in
    let b = c.args.state.now.book in
    let mask = c.args.state.now.mask in
    let next = c.next_slot-slot in
    let keys : ℕ → Option ℕ = deadline_asking Budget servers b mask in
    let off : (slot : ℕ) → 0 ≤ slot → slot < next.result → slot_asks mask slot ≡ false =
    λ slot le lt. rw (← c.mask-mask.ensures) (next.ensures.silent slot le lt) in
    record {
      best = sym (best_below-zero keys)
          ∙ sym (best_below-up keys 0 next.result (omega arith)
          (λ slot le lt. silent Budget servers b mask slot (off slot le lt)));
      soonest = sym (soonest_none servers b mask)
          ∙ sym (soonest_up servers b mask 0 next.result (omega arith) off);
      funded = λ k lt none. silent Budget servers b mask k (off k (omega arith) lt);
      within = next.ensures.within;
      asks = rw (← c.mask-mask.ensures) next.ensures.asks;
    }

pub loop-slot-preserved : goal.loop-slot-preserved
loop-slot-preserved c =
    let servers = c.args.servers.now in
    let b = c.args.state.now.book in
    let mask = c.args.state.now.mask in
    let slot = c.loop-slot.slot in
    let next = c.next_slot-slot-in-loop-slot in
    let found = c.find-found in
    let keys : ℕ → Option ℕ = deadline_asking Budget servers b mask in
    let off : (k : ℕ) → slot + 1 ≤ k → k < next.result → slot_asks mask k ≡ false =
    λ k le lt. rw (← c.mask-mask.ensures) (next.ensures.silent k le lt) in
    let on : slot_asks mask slot ≡ true = c.loop-slot.invariant.asks c.loop-slot-test.true in
    let server : Server = replenished all_parts (server_in servers slot) true (now_of b) in
    let its : c.replenished.result ≡ server = search rules in
    let key : by_budget c.replenished.result ≡ keys slot =
    ap by_budget its ∙ key_by_budget servers b mask slot on in
    let deadline : c.replenished.result.deadline ≡ (amid_in servers b mask slot).deadline = rw (its, on) refl in
    record {
      best = best_more keys slot c.loop-slot.found.best found.result.best (by_budget c.replenished.result)
          c.loop-slot.invariant.best key found.ensures.best
          ∙ sym (best_below-up keys (slot + 1) next.result next.ensures.later
          (λ k le lt. silent Budget servers b mask k (off k le lt)));
      soonest = soonest_step servers b mask slot c.loop-slot.found.soonest found.result.soonest on
          c.loop-slot.invariant.soonest (rw (← deadline) found.ensures.soonest)
          ∙ sym (soonest_up servers b mask (slot + 1) next.result next.ensures.later off);
      funded = rw found.ensures.funded (funded_up keys _ (slot + 1) next.result
          (λ k le lt. silent Budget servers b mask k (off k le lt))
          (funded_more keys c.loop-slot.found.funded slot _
          (λ none. key_unfunded servers b mask slot on (rw its at none)) c.loop-slot.invariant.funded));
      within = next.ensures.within;
      asks = rw (← c.mask-mask.ensures) next.ensures.asks;
    }

pub returns-clause-best : goal.returns-clause-best
returns-clause-best c =
    let state = c.args.state.now in
    let keys : ℕ → Option ℕ = deadline_asking Budget c.args.servers.now state.book state.mask in
    let so_far : c.map.result ≡ slot_below keys c.loop-slot.slot = search rules in
    so_far ∙ slot_below-all keys c.loop-slot.slot
    (omega (arith, c.loop-slot.invariant.within, c.loop-slot-test.false))

pub returns-clause-soonest : goal.returns-clause-soonest
returns-clause-soonest c =
    let state = c.args.state.now in
    let end : c.loop-slot.slot ≡ 32 = omega (arith, c.loop-slot.invariant.within, c.loop-slot-test.false) in
    c.loop-slot.invariant.soonest ∙ ap (soonest_of c.args.servers.now state.book state.mask) end

pub returns-clause-funded : goal.returns-clause-funded
returns-clause-funded c = record {
  none = λ slot lt off. c.loop-slot.invariant.funded slot (omega (arith, lt, c.loop-slot-test.false)) off;
}
