-- What a mark and a row leave of the discipline.
use Rattle.std.proofs.Common.{◌≡◌, ◌≢◌, ℕ, ◌+◌, ◌<◌, ◌==◌, [], None, Some, true, arith, subst, inl, inr, refl}
use Rattle.std.proofs.Common.{sym, ap, ◌∙◌}
use Rattle.std.specs.Int.{bit_at}
use Rattle.std.proofs.lemmas.Nat.Bits.{bit_at-zero}
use Rattle.std.proofs.lemmas.Bool.{cases_lt}
use Rattle.hls_chron.specs.declared.book.TickRow.{TickRow}
use Rattle.hls_chron.specs.declared.book.Event.{Event}
use Rattle.hls_chron.specs.declared.plain.Kind.TheVariants as kinds
use Rattle.hls_chron.specs.declared.plain.Config.{Config}
use Rattle.hls_chron.specs.Kinds.{kind_of}
use Rattle.hls_chron.specs.Ledger.{Ledger, now_of, with_row, with_mark, row_at, before}
use Rattle.hls_chron.specs.Seats.{asked, served}
use Rattle.hls_chron.proofs.ConfigLaws.{by_kind, sharing_or_not}
use Rattle.hls_chron.proofs.CountLaws.{count-agree}
use Rattle.hls_kinds.specs.Asks.{asks}
use Rattle.hls_kinds.specs.Tenants.{tenant_at}
use Rattle.hls_kinds.specs.Shares.{AsksThroughout, KeepsSharesByWeight, KeepsShares}
use Rattle.hls_kinds.specs.Discipline.{Serves, KeepsDiscipline}
use Rattle.hls_chron.proofs.BookLaws.{now_of-row, row_at-mark, row_at-past, row_at-now, row_at-unwritten}
use Rattle.hls_chron.proofs.BookLaws.{before-mark, before-row}

-- what is said of a tick: it asked, and served the slot that it was to serve
pub record ServesInTick (config : Config) (b : Ledger) (mask slot : ℕ) : Type 0 where
  pub asked : asks config b mask ≡ true
  pub served : Serves config b mask slot

abbrev pub TickKept : Config → Ledger → ℕ → ℕ → Type 0
TickKept config b t slot =
    (row_at b t).to ≡ Some slot → ServesInTick config (before t b) (row_at b t).mask slot

pub from_ticks : (config : Config) (b : Ledger)
    → ((t slot : ℕ) → t < now_of b → TickKept config b t slot) → KeepsShares config b
    → KeepsDiscipline config b
from_ticks config b kept shares = record {
  asked = λ t slot lt is. (kept t slot lt is).asked;
  served = λ t slot lt is. (kept t slot lt is).served;
  shares = shares;
}

-- the shares of fair queueing
asked-mark : (b : Ledger) (event : Event) (slot t : ℕ) → asked (with_mark b event) slot t ≡ asked b slot t
unfolding asked
asked-mark b event slot t = rw (row_at-mark b event t) refl

served-mark : (b : Ledger) (event : Event) (slot t : ℕ) → served (with_mark b event) slot t ≡ served b slot t
unfolding served
served-mark b event slot t = rw (row_at-mark b event t) refl

throughout-mark : (b : Ledger) (event : Event) (slot weight i n : ℕ) → i + n < now_of b
    → AsksThroughout (with_mark b event) slot weight i n → AsksThroughout b slot weight i n
throughout-mark b event slot weight i n lt a = record {
  since = a.since;
  sits = ap (λ (before : Ledger). tenant_at before slot) (sym (before-mark b event (i + n) lt)) ∙ a.sits;
  early = a.early;
  asks = λ t from to. sym (asked-mark b event slot t) ∙ a.asks t from to;
}

-- the other kinds have no shares to keep
unshared : (config : Config) (b : Ledger) → kind_of config ≢ kinds.Sfq → KeepsShares config b
unshared config b =
    by_kind (λ config. kind_of config ≢ kinds.Sfq → KeepsShares config b) (λ ne. tt) (λ ne. tt) (λ ne. tt)
    (λ sharing ne. absurd (ne refl)) (λ quantum ne. tt) (λ frame ne. tt) (λ ports ne. tt) config

weights-mark : (quantum : ℕ) (b : Ledger) (event : Event) → KeepsSharesByWeight quantum b
    → KeepsSharesByWeight quantum (with_mark b event)
weights-mark quantum b event kept = λ i n slot other weight rival lt asks others.
    let one = count-agree (served (with_mark b event) slot) (served b slot) i (n + 1)
    (λ t _ _. served-mark b event slot t) in
    let two = count-agree (served (with_mark b event) other) (served b other) i (n + 1)
    (λ t _ _. served-mark b event other t) in
    rw (one, two) (kept i n slot other weight rival lt
    (throughout-mark b event slot weight i n lt asks) (throughout-mark b event other rival i n lt others))

shares-mark : (config : Config) (b : Ledger) (event : Event)
    → KeepsShares config b → KeepsShares config (with_mark b event)
shares-mark config b event =
    sharing_or_not (λ config. KeepsShares config b → KeepsShares config (with_mark b event))
    (λ sharing. weights-mark sharing.quantum b event) (λ config ne kept. unshared config (with_mark b event) ne) config

asked-unwritten : (b : Ledger) (slot t : ℕ) → b.rows ≡ [] → asked b slot t ≡ true → ⊥
unfolding asked
asked-unwritten b slot t unwritten is =
    let none = row_at-unwritten b t unwritten in
    let zero = bit_at-zero slot in
    let no : (bit_at 0 slot == 1) ≡ true = rw none at is in
    cc

shares-unwritten : (config : Config) (b : Ledger) → b.rows ≡ [] → KeepsShares config b
shares-unwritten config b unwritten =
    sharing_or_not (λ config. KeepsShares config b) (λ sharing i n slot other weight rival lt asks others.
    absurd (asked-unwritten b slot i unwritten (asks.asks i (omega arith) (omega arith))))
    (λ config. unshared config b) config

pub discipline-mark : (config : Config) (b : Ledger) (event : Event)
    → KeepsDiscipline config b → KeepsDiscipline config (with_mark b event)
discipline-mark config b event kept = from_ticks config (with_mark b event)
    (λ t slot lt. rw (row_at-mark b event t, before-mark b event t lt)
    (λ is. record { asked = kept.asked t slot lt is; served = kept.served t slot lt is }))
    (shares-mark config b event kept.shares)

pub discipline-row : (config : Config) (b : Ledger) (row : TickRow) → KeepsDiscipline config b
    → ((slot : ℕ) → row.to ≡ Some slot
    → ServesInTick config (before (now_of b) (with_row b row)) row.mask slot)
    → KeepsShares config (with_row b row)
    → KeepsDiscipline config (with_row b row)
discipline-row config b row kept now shares =
    from_ticks config (with_row b row) (λ t slot lt. elim (cases_lt t (now_of b)) [
      | inl past ↦ rw (row_at-past b row t past, before-row b row t past)
          (λ is. record { asked = kept.asked t slot past is; served = kept.served t slot past is })
      | inr late ↦
          let here : now_of b ≡ t = omega (arith, now_of-row b row) in
          let P : ℕ → Type 0 = λ t. TickKept config (with_row b row) t slot in
          subst P here (rw (row_at-now b row) (now slot))
    ]) shares

pub discipline-unwritten : (config : Config) (b : Ledger) → b.rows ≡ [] → KeepsDiscipline config b
discipline-unwritten config b unwritten = from_ticks config b
    (λ t slot lt is.
    absurd (let none = row_at-unwritten b t unwritten in let no : None ≡ Some slot = rw none at is in cc))
    (shares-unwritten config b unwritten)
