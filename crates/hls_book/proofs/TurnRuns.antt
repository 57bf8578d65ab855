-- What slots of a test had in any run of ticks in which a seat asks.
use Rattle.std.proofs.Common.{◌≡◌, ℕ, suc, ◌+◌, ◌*◌, ◌<◌, ◌≤◌, Bool, true, []}
use Rattle.std.proofs.Common.{sym, ap, ◌∙◌, arith, inl, inr}
use Rattle.std.proofs.Math.Logic.{∥∥₁_elim}
use Rattle.std.proofs.Props.{props}
use Rattle.std.specs.Prelude.{◌/◌, ◌==◌}
use Rattle.std.specs.Int.{bit_at}
use Rattle.std.proofs.lemmas.Bool.{cases_lt}
use Rattle.std.proofs.lemmas.Nat.Bits.{bit_at-zero}
use Rattle.hls_chron.specs.declared.book.TickRow.{TickRow}
use Rattle.hls_chron.specs.declared.book.Event.{Event}
use Rattle.hls_chron.specs.declared.plain.Config.TheVariants.{Rr}
use Rattle.hls_chron.specs.declared.plain.Terms.{Terms}
use Rattle.hls_chron.specs.Ledger.{Ledger, now_of, row_at, with_row, with_mark, before}
use Rattle.hls_chron.specs.Seats.{asked, served}
use Rattle.hls_chron.specs.Ticks.{count}
use Rattle.hls_chron.proofs.BookLaws.{now_of-row, row_at-unwritten, before-mark, before-row}
use Rattle.hls_chron.proofs.CountLaws.{count-none}
use Rattle.hls_kinds.specs.declared.tenant.Tenant.TheVariants.{Vacant, Sits}
use Rattle.hls_kinds.specs.Made.{IsMade, Making, IsRow, Begun, Marked, Ticked}
use Rattle.hls_kinds.specs.Tenants.{tenant_at, tenant_then}
use Rattle.hls_kinds.proofs.MarkLaws.{tenant_at-row, tenant_at-same, tenant_at-unmarked}
use Rattle.hls_kinds.proofs.Rooms.{before-last}
use Rattle.hls_book.proofs.Made.{admission_made}
use Rattle.hls_book.specs.Turns.{turn_of}
use Rattle.hls_book.proofs.Circle.{others}
use Rattle.hls_book.proofs.Rounds.{all_waits}
use Rattle.hls_book.proofs.TurnTicks.{Asking, AreSame, serves_theirs, own-same, theirs-same, asking-same, sat}
use Rattle.hls_book.proofs.TurnTicks.{below, same_asking, past_same, up_to_now}

abbrev pub IsPassed : (quantum : ℕ) → Ledger → (slot : ℕ) → (among : ℕ → Bool) → (i n : ℕ) → Type 0
IsPassed quantum b slot among i n =
    count (serves_theirs b among slot) i n ≤ others among slot * (quantum * (count (served b slot) i n / quantum + 1))

-- while a seat sits that sits now, and while one sat
pub record PassesOver (quantum : ℕ) (b : Ledger) : Type 0 where
  pub sits : (slot since i n : ℕ) (terms : Terms) (among : ℕ → Bool) → tenant_at b slot ≡ Sits terms since
      → since ≤ i → i + n ≤ now_of b → Asking b slot i n → IsPassed quantum b slot among i n
  pub sat : (slot since i n : ℕ) (terms : Terms) (among : ℕ → Bool) → i + n < now_of b
      → tenant_then b slot (i + n) ≡ Sits terms since → since ≤ i → Asking b slot i (suc n)
      → IsPassed quantum b slot among i (suc n)

passed_none : (quantum : ℕ) (b : Ledger) (slot i : ℕ) (among : ℕ → Bool) → IsPassed quantum b slot among i 0
passed_none quantum b slot i among = rw (count-none (serves_theirs b among slot) i) (omega arith)

passed-same : (quantum : ℕ) (a b : Ledger) (slot i n : ℕ) (among : ℕ → Bool) → AreSame a b i n
    → IsPassed quantum b slot among i n → IsPassed quantum a slot among i n
passed-same quantum a b slot i n among same passed =
    rw (own-same a b slot i n same, theirs-same a b among slot i n same) passed

passed-mark : (quantum : ℕ) (b : Ledger) (event : Event) (slot i n : ℕ) (among : ℕ → Bool)
    → IsPassed quantum b slot among i n → IsPassed quantum (with_mark b event) slot among i n
unfolding row_at served
passed-mark quantum b event slot i n among passed = passed

silent : (b : Ledger) (slot t : ℕ) → b.rows ≡ [] → asked b slot t ≡ true → ⊥
unfolding asked
silent b slot t unwritten is =
    let none = row_at-unwritten b t unwritten in
    let zero = bit_at-zero slot in
    let no : (bit_at 0 slot == 1) ≡ true = rw none at is in
    cc

module _ (quantum : ℕ) (some : 0 < quantum) where
  -- a run up to the present tick
  passed_now : (b : Ledger) (slot since i n : ℕ) (terms : Terms) (among : ℕ → Bool) → Making (Rr quantum) b
      → tenant_at b slot ≡ Sits terms since → since ≤ i → i + n ≡ now_of b → Asking b slot i n
      → IsPassed quantum b slot among i n
  passed_now b slot since i n terms among making sits early ends asks =
      all_waits quantum slot among some (below quantum some b slot since terms ∣ making ∣₁ sits) (turn_of quantum b)
      (count (served b slot) i n) (count (serves_theirs b among slot) i n)
      ((up_to_now quantum some b making).waits slot since i n terms among sits early ends asks)

  at_start : (b : Ledger) → b.rows ≡ [] → b.marks ≡ [] → PassesOver quantum b
  at_start b unwritten unmarked = record {
    sits = λ slot since i n terms among sits early ends asks.
        absurd (let no : Vacant ≡ Sits terms since = sym (tenant_at-unmarked b slot unmarked) ∙ sits in cc);
    sat = λ slot since i n terms among ends sits early asks.
        absurd (silent b slot i unwritten (asks i (omega arith) (omega arith)));
  }

  marked : (b : Ledger) (event : Event) → PassesOver quantum b → PassesOver quantum (with_mark b event)
  marked b event kept = record {
    sits = λ slot since i n terms among sits early ends asks. elim (sat b slot since terms event sits) [
      | inl now ↦
          let none : n ≡ 0 = omega (arith, now, early, ends) in
          rw none (passed_none quantum (with_mark b event) slot i among)
      | inr sits' ↦
          passed-mark quantum b event slot i n among
          (kept.sits slot since i n terms among sits' early ends (same_asking quantum some b event slot i n asks))
    ];
    sat = λ slot since i n terms among ends sits early asks.
        let sits' : tenant_then b slot (i + n) ≡ Sits terms since =
        sym (ap (λ (a : Ledger). tenant_at a slot) (before-mark b event (i + n) ends)) ∙ sits in
        passed-mark quantum b event slot i (suc n) among
        (kept.sat slot since i n terms among ends sits' early (same_asking quantum some b event slot i (suc n) asks));
  }

  ticked : (b : Ledger) (row : TickRow) → Making (Rr quantum) b → IsRow (Rr quantum) b row → PassesOver quantum b
      → PassesOver quantum (with_row b row)
  ticked b row making is kept = record {
    sits = λ slot since i n terms among sits early ends asks. elim (cases_lt (now_of b) (i + n)) [
      | inl now ↦
          passed_now (with_row b row) slot since i n terms among (Ticked b row making is) sits early
          (omega (arith, ends, now, now_of-row b row)) asks
      | inr past ↦
          let same = past_same quantum some b row i n past in
          passed-same quantum (with_row b row) b slot i n among same
          (kept.sits slot since i n terms among (sym (tenant_at-row b row slot) ∙ sits) early past
          (asking-same (with_row b row) b slot i n same asks))
    ];
    sat = λ slot since i n terms among ends sits early asks. elim (cases_lt (i + n) (now_of b)) [
      | inl past ↦
          let same = past_same quantum some b row i (suc n) (omega (arith, past)) in
          let sits' : tenant_then b slot (i + n) ≡ Sits terms since =
          sym (ap (λ (a : Ledger). tenant_at a slot) (before-row b row (i + n) past)) ∙ sits in
          passed-same quantum (with_row b row) b slot i (suc n) among same
          (kept.sat slot since i n terms among past sits' early
          (asking-same (with_row b row) b slot i (suc n) same asks))
      | inr now ↦
          let here : i + n ≡ now_of b = omega (arith, ends, now, now_of-row b row) in
          let last = before-last b row (admission_made (Rr quantum) b ∣ making ∣₁).dated in
          let sits' : tenant_at (with_row b row) slot ≡ Sits terms since =
          tenant_at-same (with_row b row) (before (now_of b) (with_row b row)) slot
          (sym (ap (λ (a : Ledger). a.marks) last))
          ∙ ap (λ (t : ℕ). tenant_then (with_row b row) slot t) (sym here) ∙ sits in
          passed_now (with_row b row) slot since i (suc n) terms among (Ticked b row making is) sits' early
          (omega (arith, here, now_of-row b row)) asks
    ];
  }

  passes_making : (b : Ledger) → Making (Rr quantum) b → PassesOver quantum b
  passes_making b (Begun _ kind range unwritten unmarked) = at_start b unwritten unmarked
  passes_making _ (Marked b event making may) = marked b event (passes_making b making)
  passes_making _ (Ticked b row making is) = ticked b row making is (passes_making b making)

  pub passes_over : (b : Ledger) → IsMade (Rr quantum) b → PassesOver quantum b
  passes_over b made = ∥∥₁_elim made (hlevel props) (passes_making b)
