-- Turns go by their rules.
use Rattle.std.proofs.Common.{◌≡◌, ◌≢◌, ◌⊎◌, ◌↔◌, ℕ, ◌+◌, ◌<◌, ◌≤◌, ◌%◌, Some, None, true, false, Bool}
use Rattle.std.proofs.Common.{refl, sym, ap, ◌∙◌, arith, inl, inr, length}
use Rattle.std.proofs.Props.{props}
use Rattle.std.proofs.Math.Logic.{∥∥₁_elim}
use Rattle.std.proofs.Math.Nat.{mod-lt, mod-add-mod, mod-eq_of_lt, mod_self, zero-mod}
use Rattle.std.specs.Prelude.{is_some, not, ◌&&◌, ◌||◌, ◌==◌, if◌then◌else◌}
use Rattle.std.specs.Int.{bit_at}
use Rattle.std.proofs.lemmas.Bool.{cases_eq, eq-eqb, ne_eqb, eqb-true}
use Rattle.hls_chron.specs.declared.book.TickRow.{TickRow}
use Rattle.hls_chron.specs.declared.book.Event.{Event}
use Rattle.hls_chron.specs.declared.book.Event.TheVariants.{Seat, Leave, Settle}
use Rattle.hls_chron.specs.declared.plain.Config.{Config}
use Rattle.hls_chron.specs.Ledger.{Ledger, now_of, with_row, with_mark}
use Rattle.hls_chron.specs.Seats.{SlotAsks, is_slot}
use Rattle.hls_chron.specs.Ticks.{one_if}
use Rattle.hls_chron.proofs.BookLaws.{now_of-row}
use Rattle.hls_kinds.specs.Made.{IsMade, Making, Begun, Marked, Ticked}
use Rattle.hls_kinds.specs.Tenants.{settled_at, left_at}
use Rattle.hls_kinds.specs.Turns.{turn_slot, turn_ticks, turn_goes_on}
use Rattle.hls_kinds.proofs.MarkLaws.{settled_at-mark, settled_at-row, settled_at-unmarked}
use Rattle.hls_book.proofs.TurnLaws.{left_at-mark, left_at-row, left_at-unmarked, slot-mark, ticks-mark}
use Rattle.hls_book.proofs.TurnLaws.{slot-settled, ticks-left, ticks-unbroken, ticks-broken, slot-served}
use Rattle.hls_book.proofs.TurnLaws.{slot-idle, ticks-other}
use Rattle.hls_book.specs.Turns.{had_of, turn_of, over, KeepsTurnRules}

-- ---- when a slot was left

-- not after the present tick, nor before the last settling
pub record IsLeft (b : Ledger) (slot : ℕ) : Type 0 where
  pub settled : settled_at b ≤ left_at b slot
  pub left : left_at b slot ≤ now_of b

pub left_marked : (b : Ledger) (event : Event) (slot : ℕ) → IsLeft b slot → IsLeft (with_mark b event) slot
left_marked b (Seat at terms) slot is = record {
  settled = rw (settled_at-mark b (Seat at terms), left_at-mark b (Seat at terms) slot) is.settled;
  left = rw (left_at-mark b (Seat at terms) slot) is.left;
}
left_marked b (Leave at) slot is = elim (cases_eq at slot) [
  | inl same ↦
      let here : left_at (with_mark b (Leave at)) slot ≡ now_of b =
      left_at-mark b (Leave at) slot ∙ rw (eq-eqb at slot same) refl in
      record {
        settled = omega (arith, here, settled_at-mark b (Leave at), is.settled, is.left);
        left = omega (arith, here);
      }
  | inr apart ↦
      let there : left_at (with_mark b (Leave at)) slot ≡ left_at b slot =
      left_at-mark b (Leave at) slot ∙ rw (ne_eqb at slot apart) refl in
      record {
        settled = omega (arith, there, settled_at-mark b (Leave at), is.settled);
        left = omega (arith, there, is.left);
      }
]
left_marked b Settle slot is = record {
  settled = omega (arith, settled_at-mark b Settle, left_at-mark b Settle slot);
  left = omega (arith, left_at-mark b Settle slot);
}

left_making : (config : Config) (b : Ledger) (slot : ℕ) → Making config b → IsLeft b slot
left_making config b slot (Begun _ kind range unwritten unmarked) =
    let none : length b.rows ≡ 0 = ap length unwritten in
    record {
      settled = omega (arith, settled_at-unmarked b unmarked, left_at-unmarked b slot unmarked);
      left = omega (arith, left_at-unmarked b slot unmarked, none);
    }
left_making config _ slot (Marked b event making may) =
    left_marked b event slot (left_making config b slot making)
left_making config _ slot (Ticked b row making is) =
    let before = left_making config b slot making in
    record {
      settled = rw (settled_at-row b row, left_at-row b row slot) before.settled;
      left = omega (arith, left_at-row b row slot, now_of-row b row, before.left);
    }

pub left_made : (config : Config) (b : Ledger) (slot : ℕ) → IsMade config b → IsLeft b slot
left_made config b slot made = ∥∥₁_elim made (hlevel props) (left_making config b slot)

-- ---- parts of a quantum

had_by : (quantum rest : ℕ) → ℕ
had_by quantum rest = if rest == 0 then quantum else rest

module _ (quantum : ℕ) (some : 0 < quantum) where
  pub had_none : had_of quantum 0 ≡ quantum
  had_none = rw (zero-mod quantum) refl

  had_rest : (ticks rest : ℕ) → ticks % quantum ≡ rest → 0 < rest → had_of quantum ticks ≡ rest
  had_rest ticks rest is more =
      let off : (rest == 0) ≡ false = ne_eqb rest 0 (omega (arith, more)) in
      rw (is, off) refl

  had_whole : (ticks : ℕ) → ticks % quantum ≡ 0 → had_of quantum ticks ≡ quantum
  had_whole ticks is = rw is refl

  pub next_rest : (ticks : ℕ) → (ticks + 1) % quantum ≡ (ticks % quantum + 1) % quantum
  next_rest ticks = sym (mod-add-mod ticks quantum 1)

  -- one tick more of a quantum that is not over, and the first of one
  had_more : (ticks : ℕ) → had_of quantum ticks < quantum → had_of quantum (ticks + 1) ≡ had_of quantum ticks + 1
  had_more ticks less = elim (cases_eq (ticks % quantum) 0) [
    | inl whole ↦ absurd (omega (arith, less, had_whole ticks whole))
    | inr rest ↦
        let had : had_of quantum ticks ≡ ticks % quantum =
        had_rest ticks (ticks % quantum) refl (omega (arith, rest)) in
        elim (cases_eq (ticks % quantum + 1) quantum) [
          | inl full ↦
              let none : (ticks + 1) % quantum ≡ 0 =
              next_rest ticks ∙ ap (λ n. n % quantum) full ∙ mod_self quantum in
              had_whole (ticks + 1) none ∙ sym full ∙ ap (λ n. n + 1) (sym had)
          | inr part ↦
              let within = mod-lt ticks some in
              let more : (ticks + 1) % quantum ≡ ticks % quantum + 1 =
              next_rest ticks ∙ mod-eq_of_lt (omega (arith, within, part)) in
              had_rest (ticks + 1) (ticks % quantum + 1) more (omega arith) ∙ ap (λ n. n + 1) (sym had)
        ]
  ]

  had_first : (ticks : ℕ) → ticks % quantum ≡ 0 → had_of quantum (ticks + 1) ≡ 1
  had_first ticks whole =
      let next : (ticks + 1) % quantum ≡ 1 % quantum = next_rest ticks ∙ ap (λ n. (n + 1) % quantum) whole in
      elim (cases_eq quantum 1) [
        | inl one ↦
            let none : 1 % quantum ≡ 0 = ap (λ n. 1 % n) one ∙ mod_self 1 in
            had_whole (ticks + 1) (next ∙ none) ∙ one
        | inr more ↦
            let rest : 1 % quantum ≡ 1 = mod-eq_of_lt (omega (arith, some, more)) in
            had_rest (ticks + 1) 1 (next ∙ rest) (omega arith)
      ]

  whole_of : (ticks : ℕ) → had_of quantum ticks ≡ quantum → ticks % quantum ≡ 0
  whole_of ticks all = elim (cases_eq (ticks % quantum) 0) [
    | inl whole ↦ whole
    | inr rest ↦
        let had = had_rest ticks (ticks % quantum) refl (omega (arith, rest)) in
        let within = mod-lt ticks some in
        absurd (omega (arith, had, all, within))
  ]

-- ---- ticks

pub turn_is : (quantum : ℕ) (b : Ledger) (slot had : ℕ) → turn_slot b ≡ slot
    → had_of quantum (turn_ticks b slot) ≡ had → turn_of quantum b ≡ record { slot = slot; had = had }
turn_is quantum b slot had is all =
    ap (λ (s : ℕ). record { slot = s; had = had_of quantum (turn_ticks b s) }) is
    ∙ ap (λ (h : ℕ). record { slot = slot; had = h }) all

and_parts : (x y : Bool) → (x && y) ≡ true → (x ≡ true) × (y ≡ true)
and_parts true y on = (refl, on)
and_parts false y on = absurd cc

rest_some : (rest : ℕ) → not (rest == 0) ≡ true → rest ≢ 0
rest_some rest on none = let same = eq-eqb rest 0 none in cc

pub unbroken : (row : TickRow) (slot : ℕ) → row.to ≡ Some slot → SlotAsks row.mask slot
    → ((is_some row.to && not (is_slot row.to slot)) || not (bit_at row.mask slot == 1)) ≡ false
unbroken row slot to asks = rw (to, asks, eq-eqb slot slot refl) refl

pub unbroken_idle : (row : TickRow) (slot : ℕ) → row.to ≡ None → SlotAsks row.mask slot
    → ((is_some row.to && not (is_slot row.to slot)) || not (bit_at row.mask slot == 1)) ≡ false
unbroken_idle row slot to asks = rw (to, asks) refl

pub broken : (row : TickRow) (slot : ℕ) → row.to ≡ None → (SlotAsks row.mask slot → ⊥)
    → ((is_some row.to && not (is_slot row.to slot)) || not (bit_at row.mask slot == 1)) ≡ true
broken row slot to silent = rw (to, ne_eqb (bit_at row.mask slot) 1 silent) refl

module _ (config : Config) (quantum : ℕ) (b : Ledger) (some : 0 < quantum) (made : IsMade config b) where
  left : (slot : ℕ) → left_at b slot ≤ now_of b
  left slot = (left_made config b slot made).left

  settled : settled_at b ≤ now_of b
  settled = let is = left_made config b 0 made in omega (arith, is.settled, is.left)

  goes : (mask : ℕ) → (turn_goes_on quantum b mask ≡ true)
      ↔ (SlotAsks mask (turn_slot b) × ((turn_of quantum b).had < quantum))
  goes mask = (
    λ on.
        let both = and_parts (bit_at mask (turn_slot b) == 1) (not (rest == 0)) on in
        (eqb-true (bit_at mask (turn_slot b)) 1 both.0, part_of (rest_some rest both.1)),
    λ is. rw (is.0, ne_eqb rest 0 (λ none. not_whole none is.1)) refl,
  )
    where
      rest : ℕ
      rest = turn_ticks b (turn_slot b) % quantum

      part_of : rest ≢ 0 → (turn_of quantum b).had < quantum
      part_of more =
          let had = had_rest quantum some (turn_ticks b (turn_slot b)) rest refl (omega (arith, more)) in
          let within = mod-lt (turn_ticks b (turn_slot b)) some in
          omega (arith, had, within)

      not_whole : rest ≡ 0 → (turn_of quantum b).had < quantum → ⊥
      not_whole none less =
          let all = had_whole quantum some (turn_ticks b (turn_slot b)) none in
          omega (arith, all, less)

  served_more : (row : TickRow) (slot : ℕ) → row.to ≡ Some slot → SlotAsks row.mask slot
      → turn_ticks (with_row b row) slot ≡ turn_ticks b slot + 1
  served_more row slot to asks =
      ticks-unbroken b row slot (left slot) (unbroken row slot to asks)
      ∙ (let one : one_if (is_slot row.to slot) ≡ 1 = rw (to, eq-eqb slot slot refl) refl in
      ap (λ n. turn_ticks b slot + n) one)

  goes_on : (row : TickRow) → row.to ≡ Some (turn_slot b) → SlotAsks row.mask (turn_slot b)
      → (turn_of quantum b).had < quantum
      → turn_of quantum (with_row b row) ≡ record { slot = turn_slot b; had = (turn_of quantum b).had + 1 }
  goes_on row to asks less =
      turn_is quantum (with_row b row) (turn_slot b) ((turn_of quantum b).had + 1)
      (slot-served b row (turn_slot b) settled to)
      (ap (had_of quantum) (served_more row (turn_slot b) to asks)
      ∙ had_more quantum some (turn_ticks b (turn_slot b)) less)

  -- at the beginning of a turn no part of a quantum is used
  whole : (slot : ℕ) → (slot ≢ turn_slot b) ⊎ ((turn_of quantum b).had ≡ quantum)
      → turn_ticks b slot % quantum ≡ 0
  whole slot either = elim (cases_eq slot (turn_slot b)) [
    | inl same ↦ elim either [
      | inl apart ↦ absurd (apart same)
      | inr all ↦ ap (λ s. turn_ticks b s % quantum) same
          ∙ whole_of quantum some (turn_ticks b (turn_slot b)) all
    ]
    | inr apart ↦
        let is = left_made config b slot made in
        ap (λ n. n % quantum) (ticks-other b slot is.settled is.left apart) ∙ zero-mod quantum
  ]

  begins : (row : TickRow) (slot : ℕ) → row.to ≡ Some slot → SlotAsks row.mask slot
      → (slot ≢ turn_slot b) ⊎ ((turn_of quantum b).had ≡ quantum)
      → turn_of quantum (with_row b row) ≡ record { slot = slot; had = 1 }
  begins row slot to asks either =
      turn_is quantum (with_row b row) slot 1 (slot-served b row slot settled to)
      (ap (had_of quantum) (served_more row slot to asks)
      ∙ had_first quantum some (turn_ticks b slot) (whole slot either))

  waits : (row : TickRow) → row.to ≡ None → SlotAsks row.mask (turn_slot b)
      → turn_of quantum (with_row b row) ≡ turn_of quantum b
  waits row to asks =
      turn_is quantum (with_row b row) (turn_slot b) (turn_of quantum b).had (slot-idle b row settled to)
      (ap (had_of quantum) (ticks-unbroken b row (turn_slot b) (left (turn_slot b))
      (unbroken_idle row (turn_slot b) to asks)
      ∙ (let none : one_if (is_slot row.to (turn_slot b)) ≡ 0 = rw to refl in
      omega (arith, none))))

  ends : (row : TickRow) → row.to ≡ None → (SlotAsks row.mask (turn_slot b) → ⊥)
      → turn_of quantum (with_row b row) ≡ over quantum (turn_of quantum b)
  ends row to silent =
      turn_is quantum (with_row b row) (turn_slot b) quantum (slot-idle b row settled to)
      (ap (had_of quantum) (ticks-broken b row (turn_slot b) (left (turn_slot b))
      (broken row (turn_slot b) to silent)) ∙ had_none quantum some)

  -- ---- marks

  leaves : turn_of quantum (with_mark b (Leave (turn_slot b))) ≡ over quantum (turn_of quantum b)
  leaves =
      let c = turn_slot b in
      let here : left_at (with_mark b (Leave c)) c ≡ now_of b =
      left_at-mark b (Leave c) c ∙ rw (eq-eqb c c refl) refl in
      turn_is quantum (with_mark b (Leave c)) c quantum (slot-mark b (Leave c) (settled_at-mark b (Leave c)))
      (ap (had_of quantum) (ticks-left (with_mark b (Leave c)) c here) ∙ had_none quantum some)

  kept : (event : Event) → settled_at (with_mark b event) ≡ settled_at b
      → left_at (with_mark b event) (turn_slot b) ≡ left_at b (turn_slot b)
      → turn_of quantum (with_mark b event) ≡ turn_of quantum b
  kept event same there =
      turn_is quantum (with_mark b event) (turn_slot b) (turn_of quantum b).had (slot-mark b event same)
      (ap (had_of quantum) (ticks-mark b event (turn_slot b) there))

  stays : (slot : ℕ) → slot ≢ turn_slot b → turn_of quantum (with_mark b (Leave slot)) ≡ turn_of quantum b
  stays slot apart =
      kept (Leave slot) (settled_at-mark b (Leave slot))
      (left_at-mark b (Leave slot) (turn_slot b) ∙ rw (ne_eqb slot (turn_slot b) apart) refl)

  settles : turn_of quantum (with_mark b Settle) ≡ record { slot = 31; had = quantum }
  settles =
      turn_is quantum (with_mark b Settle) 31 quantum
      (slot-settled (with_mark b Settle) (settled_at-mark b Settle))
      (ap (had_of quantum) (ticks-left (with_mark b Settle) 31 (left_at-mark b Settle 31))
      ∙ had_none quantum some)

  pub turn_rules : KeepsTurnRules quantum b
  turn_rules = record {
    goes = goes;
    goes_on = goes_on;
    begins = begins;
    waits = waits;
    ends = ends;
    left = leaves;
    stays = stays;
    seated = λ slot terms. kept (Seat slot terms) (settled_at-mark b (Seat slot terms))
        (left_at-mark b (Seat slot terms) (turn_slot b));
    settled = settles;
  }
