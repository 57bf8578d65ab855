-- Slots that are due: of which it is not known up to which tick they are calm.
use Rattle.std.proofs.Common.{◌≡◌, ◌≢◌, ℕ, ◌<◌, List, sym, ◌∙◌, subst}
use Rattle.std.specs.Prelude.{is_some}
use Rattle.hls_chron.specs.Ledger.{Ledger}
use Rattle.hls_chron.specs.Seats.{terms_at}
use Rattle.hls_kinds.specs.Asks.{slot_asks, with_slot, without_slot}
use Rattle.hls_book.specs.declared.server.Server.{Server}
use Rattle.hls_edf.specs.declared.changes.Calm.{Calm}
use Rattle.hls_edf.specs.Choice.{server_in}
use Rattle.hls_edf.specs.Inside.Calm.{IsCalm, AreCalmBut}
use Rattle.hls_edf.proofs.Bits.{kept_bit, same_bit, other_slot}

module _ (c : Calm) (servers : List Server) (b : Ledger) (mask slot : ℕ)
    (are : AreCalmBut c servers b mask) where
  calm_as : (later k t : ℕ) → slot_asks later k ≡ slot_asks mask k
      → IsCalm (server_in servers k) (is_some (terms_at b k)) (slot_asks mask k) t
      → IsCalm (server_in servers k) (is_some (terms_at b k)) (slot_asks later k) t
  calm_as later k t same calm =
      subst (λ asks. IsCalm (server_in servers k) (is_some (terms_at b k)) asks t) (sym same) calm

  -- a slot begins to ask
  pub due_joined : AreCalmBut (record { until = c.until; due = with_slot slot c.due }) servers b (with_slot slot mask)
  due_joined = record {
    calm = λ k t lt before off.
        let other : k ≢ slot = other_slot c.due slot k off in
        calm_as (with_slot slot mask) k t (same_bit mask slot k other)
        (are.calm k t lt before (sym (same_bit c.due slot k other) ∙ off));
  }

  -- and one ceases to
  pub due_left : slot < 32
      → AreCalmBut (record { until = c.until; due = with_slot slot c.due }) servers b (without_slot slot mask)
  due_left within = record {
    calm = λ k t lt before off.
        let other : k ≢ slot = other_slot c.due slot k off in
        calm_as (without_slot slot mask) k t (kept_bit mask slot k within lt other)
        (are.calm k t lt before (sym (same_bit c.due slot k other) ∙ off));
  }
