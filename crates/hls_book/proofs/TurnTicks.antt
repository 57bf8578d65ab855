-- What a seat has waited up to the present tick, as each mark and each row of its book leaves it.
use Rattle.std.proofs.Common.{◌≡◌, ◌≢◌, ◌⊎◌, ℕ, zero, suc, ◌+◌, ◌<◌, ◌≤◌, ◌%◌, Some, None, Bool, true, false}
use Rattle.std.proofs.Common.{refl, sym, ap, ◌∙◌, arith, inl, inr, length, subst}
use Rattle.std.proofs.Math.Nat.{mod-lt}
use Rattle.std.specs.Prelude.{Option, ◌==◌}
use Rattle.std.specs.Int.{bit_at}
use Rattle.std.proofs.lemmas.Bool.{cases_eq, cases_lt, eq-eqb, ne_eqb, eqb-true}
use Rattle.hls_chron.specs.declared.book.TickRow.{TickRow}
use Rattle.hls_chron.specs.declared.book.Event.{Event}
use Rattle.hls_chron.specs.declared.book.Event.TheVariants.{Seat, Leave, Settle}
use Rattle.hls_chron.specs.declared.plain.Config.TheVariants.{Rr}
use Rattle.hls_chron.specs.declared.plain.Terms.{Terms}
use Rattle.hls_chron.specs.Ledger.{Ledger, now_of, row_at, with_row, with_mark}
use Rattle.hls_chron.specs.Seats.{SlotAsks, asked, is_slot, served}
use Rattle.hls_chron.specs.Ticks.{one_if, count}
use Rattle.hls_chron.proofs.BookLaws.{now_of-row, row_at-past, row_at-now}
use Rattle.hls_chron.proofs.CountLaws.{count-agree, count-none, count-push}
use Rattle.hls_kinds.specs.declared.tenant.Tenant.{Tenant}
use Rattle.hls_kinds.specs.declared.tenant.Tenant.TheVariants.{Vacant, Sits, Left}
use Rattle.hls_kinds.specs.Asks.{slot_asks}
use Rattle.hls_kinds.specs.Discipline.{TakesTurn}
use Rattle.hls_kinds.specs.Made.{IsRow, IsMade, Making, Begun, Marked, Ticked}
use Rattle.hls_kinds.specs.Slots.{IsFirst}
use Rattle.hls_kinds.specs.Tenants.{after_leaving, after_settling, tenant_at}
use Rattle.hls_kinds.specs.Turns.{turn_slot, turn_ticks, turn_goes_on, turns_after}
use Rattle.hls_kinds.proofs.MarkLaws.{sits_on, tenant_at-mark, tenant_at-row, tenant_at-unmarked}
use Rattle.hls_kinds.proofs.MarkLaws.{settled_at-unmarked}
use Rattle.hls_book.proofs.TurnLaws.{slot-settled, slot-served, slot-idle}
use Rattle.hls_book.proofs.Made.{admission_made}
use Rattle.hls_book.specs.Turns.{Turn, had_of, turn_of, over, KeepsTurnRules}
use Rattle.hls_book.proofs.Turns.{turn_rules}
use Rattle.hls_book.proofs.Circle.{is_other}
use Rattle.hls_book.proofs.Rounds.{Waits, at_first, serves_on, waits_on, begins_own, begins_another, is_over}

abbrev pub Asking : Ledger → (slot i n : ℕ) → Type 0
Asking b slot i n = (t : ℕ) → i ≤ t → t < i + n → asked b slot t ≡ true

-- another slot of the test is served
abbrev pub is_theirs : (among : ℕ → Bool) (slot : ℕ) → Option ℕ → Bool
is_theirs among slot None = false
is_theirs among slot (Some s) = is_other among slot s

abbrev pub serves_theirs : Ledger → (among : ℕ → Bool) → (slot t : ℕ) → Bool
serves_theirs b among slot t = is_theirs among slot (row_at b t).to

-- books that have the same rows in these ticks
abbrev pub AreSame : (a b : Ledger) (i n : ℕ) → Type 0
AreSame a b i n = (t : ℕ) → i ≤ t → t < i + n → row_at a t ≡ row_at b t

pub own-same : (a b : Ledger) (slot i n : ℕ) → AreSame a b i n
    → count (served a slot) i n ≡ count (served b slot) i n
unfolding served
own-same a b slot i n same =
    count-agree (served a slot) (served b slot) i n (λ t ge lt. ap (λ (r : TickRow). is_slot r.to slot) (same t ge lt))

pub theirs-same : (a b : Ledger) (among : ℕ → Bool) (slot i n : ℕ) → AreSame a b i n
    → count (serves_theirs a among slot) i n ≡ count (serves_theirs b among slot) i n
theirs-same a b among slot i n same =
    count-agree (serves_theirs a among slot) (serves_theirs b among slot) i n
    (λ t ge lt. ap (λ (r : TickRow). is_theirs among slot r.to) (same t ge lt))

pub asking-same : (a b : Ledger) (slot i n : ℕ) → AreSame a b i n → Asking a slot i n → Asking b slot i n
unfolding asked
asking-same a b slot i n same asks =
    λ t ge lt. ap (λ (r : TickRow). bit_at r.mask slot == 1) (sym (same t ge lt)) ∙ asks t ge lt

-- the ticks before the last
pub asking-first : (b : Ledger) (slot i n : ℕ) → Asking b slot i (suc n) → Asking b slot i n
asking-first b slot i n asks = λ t ge lt. asks t ge (omega (arith, lt))

-- ---- who sits

abbrev since_of : Tenant → ℕ
since_of Vacant = 0
since_of (Sits terms since) = since
since_of (Left terms since at) = since

not_left : (tick since : ℕ) (terms : Terms) (tenant : Tenant) → after_leaving tick tenant ≡ Sits terms since → ⊥
not_left tick since terms Vacant is = cc
not_left tick since terms (Sits before from) is = cc
not_left tick since terms (Left before from at) is = cc

settled_now : (tick since : ℕ) (terms : Terms) (tenant : Tenant) → after_settling tick tenant ≡ Sits terms since
    → since ≡ tick
settled_now tick since terms Vacant is = absurd cc
settled_now tick since terms (Sits before from) is = sym (ap since_of is)
settled_now tick since terms (Left before from at) is = absurd cc

module _ (b : Ledger) (slot since : ℕ) (terms : Terms) where
  -- who sits after a mark sits since the present tick, or sat before it
  pub sat : (event : Event) → tenant_at (with_mark b event) slot ≡ Sits terms since
      → (since ≡ now_of b) ⊎ (tenant_at b slot ≡ Sits terms since)
  sat (Seat at new) sits = elim (cases_eq at slot) [
    | inl same ↦
        let is : Sits new (now_of b) ≡ Sits terms since =
        sym (tenant_at-mark b (Seat at new) slot ∙ rw (eq-eqb at slot same) refl) ∙ sits in
        inl (sym (ap since_of is))
    | inr apart ↦ inr (sym (tenant_at-mark b (Seat at new) slot ∙ rw (ne_eqb at slot apart) refl) ∙ sits)
  ]
  sat (Leave at) sits = elim (cases_eq at slot) [
    | inl same ↦ absurd (not_left (now_of b) since terms (tenant_at b slot)
        (sym (tenant_at-mark b (Leave at) slot ∙ rw (eq-eqb at slot same) refl) ∙ sits))
    | inr apart ↦ inr (sym (tenant_at-mark b (Leave at) slot ∙ rw (ne_eqb at slot apart) refl) ∙ sits)
  ]
  sat Settle sits =
      inl (settled_now (now_of b) since terms (tenant_at b slot) (sym (tenant_at-mark b Settle slot) ∙ sits))

  pub stayed : (at : ℕ) → tenant_at (with_mark b (Leave at)) slot ≡ Sits terms since → at ≢ slot
  stayed at sits same =
      not_left (now_of b) since terms (tenant_at b slot)
      (sym (tenant_at-mark b (Leave at) slot ∙ rw (eq-eqb at slot same) refl) ∙ sits)

-- ---- the turn

part : (quantum ticks : ℕ) → 0 < quantum → had_of quantum ticks ≤ quantum
part quantum ticks some = elim (cases_eq (ticks % quantum) 0) [
  | inl whole ↦ rw whole (omega arith)
  | inr rest ↦ rw (ne_eqb (ticks % quantum) 0 rest) (omega (arith, mod-lt ticks some))
]

moved : (quantum slot : ℕ) (among : ℕ → Bool) (turn turn' : Turn) (own own' theirs theirs' : ℕ) → turn ≡ turn'
    → own ≡ own' → theirs ≡ theirs' → Waits quantum slot among turn own theirs
    → Waits quantum slot among turn' own' theirs'
moved quantum slot among turn turn' own own' theirs theirs' t o h w = rw (← t, ← o, ← h) w

-- up to the present tick
pub record IsUpToNow (quantum : ℕ) (b : Ledger) : Type 0 where
  pub within : turn_slot b < 32
  pub waits : (slot since i n : ℕ) (terms : Terms) (among : ℕ → Bool) → tenant_at b slot ≡ Sits terms since
      → since ≤ i → i + n ≡ now_of b → Asking b slot i n
      → Waits quantum slot among (turn_of quantum b) (count (served b slot) i n)
      (count (serves_theirs b among slot) i n)

module _ (quantum : ℕ) (some : 0 < quantum) where
  pub below : (b : Ledger) (slot since : ℕ) (terms : Terms) → IsMade (Rr quantum) b
      → tenant_at b slot ≡ Sits terms since → slot < 32
  below b slot since terms made sits =
      (admission_made (Rr quantum) b made).seats.within slot terms (sits_on b slot since terms sits)

  from_now : (b : Ledger) (slot i : ℕ) (among : ℕ → Bool) → slot < 32 → turn_slot b < 32
      → Waits quantum slot among (turn_of quantum b) (count (served b slot) i 0)
      (count (serves_theirs b among slot) i 0)
  from_now b slot i among lt within =
      moved quantum slot among (turn_of quantum b) (turn_of quantum b) 0 (count (served b slot) i 0) 0
      (count (serves_theirs b among slot) i 0) refl (sym (count-none (served b slot) i))
      (sym (count-none (serves_theirs b among slot) i))
      (at_first quantum slot among some lt (turn_of quantum b) within
      (part quantum (turn_ticks b (turn_slot b)) some))

  -- ---- marks

  same_ticks : (b : Ledger) (event : Event) (slot i n : ℕ) (among : ℕ → Bool) (turn : Turn)
      → Waits quantum slot among turn (count (served b slot) i n) (count (serves_theirs b among slot) i n)
      → Waits quantum slot among turn (count (served (with_mark b event) slot) i n)
      (count (serves_theirs (with_mark b event) among slot) i n)
  unfolding row_at served
  same_ticks b event slot i n among turn w = w

  pub same_asking : (b : Ledger) (event : Event) (slot i n : ℕ) → Asking (with_mark b event) slot i n
      → Asking b slot i n
  unfolding row_at asked
  same_asking b event slot i n asks = asks

  turn_marked : (b : Ledger) (event : Event) (slot since : ℕ) (terms : Terms) (among : ℕ → Bool) (own theirs : ℕ)
      → slot < 32 → KeepsTurnRules quantum b → since < now_of b
      → tenant_at (with_mark b event) slot ≡ Sits terms since
      → Waits quantum slot among (turn_of quantum b) own theirs
      → Waits quantum slot among (turn_of quantum (with_mark b event)) own theirs
  turn_marked b (Seat at new) slot since terms among own theirs lt rules early sits w =
      subst (λ turn. Waits quantum slot among turn own theirs) (sym (rules.seated at new)) w
  turn_marked b (Leave at) slot since terms among own theirs lt rules early sits w =
      let apart = stayed b slot since terms at sits in
      elim (cases_eq at (turn_slot b)) [
        | inl same ↦
            let is : turn_of quantum (with_mark b (Leave at)) ≡ over quantum (turn_of quantum b) =
            ap (λ (s : ℕ). turn_of quantum (with_mark b (Leave s))) same ∙ rules.left in
            subst (λ turn. Waits quantum slot among turn own theirs) (sym is)
            (is_over quantum slot among some lt (turn_of quantum b) own theirs w (λ no. apart (same ∙ no)))
        | inr other ↦
            subst (λ turn. Waits quantum slot among turn own theirs) (sym (rules.stays at other)) w
      ]
  turn_marked b Settle slot since terms among own theirs lt rules early sits w =
      absurd (let now = settled_now (now_of b) since terms (tenant_at b slot)
      (sym (tenant_at-mark b Settle slot) ∙ sits) in omega (arith, now, early))

  within_marked : (b : Ledger) (event : Event) → KeepsTurnRules quantum b → turn_slot b < 32
      → turn_slot (with_mark b event) < 32
  within_marked b (Seat at new) rules lt = rw (ap (λ (t : Turn). t.slot) (rules.seated at new)) lt
  within_marked b (Leave at) rules lt = elim (cases_eq at (turn_slot b)) [
    | inl same ↦
        let is : turn_slot (with_mark b (Leave at)) ≡ turn_slot b =
        ap (λ (s : ℕ). turn_slot (with_mark b (Leave s))) same ∙ ap (λ (t : Turn). t.slot) rules.left in
        rw is lt
    | inr other ↦ rw (ap (λ (t : Turn). t.slot) (rules.stays at other)) lt
  ]
  within_marked b Settle rules lt = rw (ap (λ (t : Turn). t.slot) rules.settled) (omega arith)

  marked : (b : Ledger) (event : Event) → IsMade (Rr quantum) b → IsMade (Rr quantum) (with_mark b event)
      → IsUpToNow quantum b → IsUpToNow quantum (with_mark b event)
  marked b event made more up = record {
    within = within_marked b event (turn_rules (Rr quantum) quantum b some made) up.within;
    waits = λ slot since i n terms among sits early ends asks.
        let lt = below (with_mark b event) slot since terms more sits in
        elim (cases_lt since (now_of b)) [
          | inr now ↦
              let none : n ≡ 0 = omega (arith, now, early, ends) in
              rw none
              (from_now (with_mark b event) slot i among lt
              (within_marked b event (turn_rules (Rr quantum) quantum b some made) up.within))
          | inl past ↦ elim (sat b slot since terms event sits) [
            | inl here ↦ absurd (omega (arith, here, past))
            | inr sits' ↦
                turn_marked b event slot since terms among (count (served (with_mark b event) slot) i n)
                (count (serves_theirs (with_mark b event) among slot) i n) lt (turn_rules
                (Rr quantum) quantum b some made) past sits
                (same_ticks b event slot i n among (turn_of quantum b)
                (up.waits slot since i n terms among sits' early ends (same_asking b event slot i n asks)))
          ]
        ];
  }

  -- ---- rows

  module _ (b : Ledger) (row : TickRow) (made : IsMade (Rr quantum) b) (is : IsRow (Rr quantum) b row)
      (within : turn_slot b < 32) where
    abbrev c : ℕ
    c = turn_slot b

    rules : KeepsTurnRules quantum b
    rules = turn_rules (Rr quantum) quantum b some made

    takes : (s : ℕ) → row.to ≡ Some s → TakesTurn quantum b (turns_after (turn_slot b)) row.mask s
    takes s to = is.serves s to

    -- where the turn does not go on though its slot asks, its quantum is used up
    full : turn_goes_on quantum b row.mask ≡ false → SlotAsks row.mask c → (turn_of quantum b).had ≡ quantum
    full off asks =
        let less = part quantum (turn_ticks b c) some in
        elim (cases_lt (turn_of quantum b).had quantum) [
          | inl more ↦ absurd (
              let on = (rules.goes row.mask).1 (asks, more) in
              let clash : true ≡ false = sym on ∙ off in cc)
          | inr all ↦ omega (arith, less, all)
        ]

    served_below : (s : ℕ) → row.to ≡ Some s → (on : Bool) → turn_goes_on quantum b row.mask ≡ on → s < 32
    served_below s to true on = rw ((takes s to).goes_on on) within
    served_below s to false off = ((takes s to).passes off).within

    module _ (slot own theirs : ℕ) (among : ℕ → Bool) (lt : slot < 32) (asks : SlotAsks row.mask slot)
        (w : Waits quantum slot among (turn_of quantum b) own theirs) where
      -- what the tick adds
      abbrev Next : Option ℕ → Type 0
      Next to = Waits quantum slot among (turn_of quantum (with_row b row)) (own + one_if (is_slot to slot))
          (theirs + one_if (is_theirs among slot to))

      idle : row.to ≡ None → Next None
      idle to = elim (cases_eq (bit_at row.mask c) 1) [
        | inl on ↦ moved quantum slot among (turn_of quantum b) (turn_of quantum (with_row b row)) own (own + 0) theirs
            (theirs + 0) (sym (rules.waits row to on)) (omega arith) (omega arith) w
        | inr off ↦ moved quantum slot among (over quantum (turn_of quantum b)) (turn_of quantum (with_row b row)) own
            (own + 0) theirs (theirs + 0) (sym (rules.ends row to off)) (omega arith) (omega arith)
            (is_over quantum slot among some lt (turn_of quantum b) own theirs w
            (λ same. off (ap (λ (s : ℕ). bit_at row.mask s) same ∙ asks)))
      ]

      serves_own : (s : ℕ) → s ≡ slot
          → Waits quantum slot among (turn_of quantum (with_row b row)) (own + 1) theirs → Next (Some s)
      serves_own s same next = rw (eq-eqb s slot same) (
          moved quantum slot among (turn_of quantum (with_row b row)) (turn_of quantum (with_row b row)) (own + 1)
          (own + 1) theirs (theirs + 0) refl refl (omega arith) next)

      serves_other : (s : ℕ) → s ≢ slot
          → Waits quantum slot among (turn_of quantum (with_row b row)) own (theirs + one_if (among s))
          → Next (Some s)
      serves_other s apart next = rw (ne_eqb s slot apart) (
          moved quantum slot among (turn_of quantum (with_row b row)) (turn_of quantum (with_row b row)) own
          (own + 0) (theirs + one_if (among s)) (theirs + one_if (among s)) refl (omega arith) refl next)

      goes_on : (s : ℕ) → row.to ≡ Some s → turn_goes_on quantum b row.mask ≡ true → Next (Some s)
      goes_on s to on =
          let same = (takes s to).goes_on on in
          let going = (rules.goes row.mask).0 on in
          let turn = rules.goes_on row (to ∙ ap (λ (k : ℕ). Some k) same) going.0 going.1 in
          elim (cases_eq s slot) [
            | inl here ↦
                serves_own s here
                (subst (λ t. Waits quantum slot among t (own + 1) theirs) (sym turn)
                (serves_on quantum slot among some lt (turn_of quantum b) own theirs w (sym same ∙ here)))
            | inr apart ↦
                serves_other s apart
                (subst (λ t. Waits quantum slot among t own (theirs + one_if (among s))) (sym turn)
                (subst (λ k. Waits quantum slot among (record { slot = turn_slot b; had = (turn_of quantum b).had + 1 })
                own (theirs + one_if (among k))) (sym same)
                (waits_on quantum slot among some lt (turn_of quantum b) own theirs w (λ no. apart (same ∙ no))
                going.1)))
          ]

      passes : (s : ℕ) → row.to ≡ Some s → turn_goes_on quantum b row.mask ≡ false → Next (Some s)
      passes s to off =
          let first : IsFirst 32 (slot_asks row.mask) (turns_after c) s = (takes s to).passes off in
          let asks_s : SlotAsks row.mask s = eqb-true (bit_at row.mask s) 1 first.chosen in
          let either : (s ≢ c) ⊎ ((turn_of quantum b).had ≡ quantum) = (elim (cases_eq s c) [
            | inl same ↦ inr (full off (ap (λ (k : ℕ). bit_at row.mask k) (sym same) ∙ asks_s))
            | inr apart ↦ inl apart
          ]) in
          let turn = rules.begins row s to asks_s either in
          elim (cases_eq s slot) [
            | inl here ↦
                let one : turn_of quantum (with_row b row) ≡ record { slot = slot; had = 1 } =
                turn ∙ ap (λ (k : ℕ). record { slot = k; had = 1 }) here in
                serves_own s here
                (subst (λ t. Waits quantum slot among t (own + 1) theirs) (sym one)
                (begins_own quantum slot among some lt (turn_of quantum b) own theirs w))
            | inr apart ↦
                let before = first.least slot lt (eq-eqb (bit_at row.mask slot) 1 asks) in
                serves_other s apart
                (subst (λ t. Waits quantum slot among t own (theirs + one_if (among s))) (sym turn)
                (begins_another quantum slot among some lt (turn_of quantum b) own theirs w s within first.within apart
                before (λ same. full off (ap (λ (k : ℕ). bit_at row.mask k) same ∙ asks))))
          ]

      served_next : (s : ℕ) → row.to ≡ Some s → (on : Bool) → turn_goes_on quantum b row.mask ≡ on → Next (Some s)
      served_next s to true on = goes_on s to on
      served_next s to false off = passes s to off

      next : (to : Option ℕ) → row.to ≡ to → Next to
      next None to = idle to
      next (Some s) to = served_next s to (turn_goes_on quantum b row.mask) refl

    within_next : (to : Option ℕ) → row.to ≡ to → turn_slot (with_row b row) < 32
    within_next None to =
        let same = slot-idle b row (admission_made (Rr quantum) b made).stood.settled to in rw same within
    within_next (Some s) to =
        let same = slot-served b row s (admission_made (Rr quantum) b made).stood.settled to in
        rw same (served_below s to (turn_goes_on quantum b row.mask) refl)

  pub past_same : (b : Ledger) (row : TickRow) (i n : ℕ) → i + n ≤ now_of b → AreSame (with_row b row) b i n
  past_same b row i n le = λ t ge lt. row_at-past b row t (omega (arith, lt, le))

  -- the counts with the tick
  pub own_next : (b : Ledger) (row : TickRow) (slot i n : ℕ) → i + n ≡ now_of b
      → count (served (with_row b row) slot) i (suc n) ≡ count (served b slot) i n + one_if (is_slot row.to slot)
  unfolding served
  own_next b row slot i n ends =
      count-push (served (with_row b row) slot) i n
      ∙ (let before = own-same (with_row b row) b slot i n (past_same b row i n (omega (arith, ends))) in
      let here : row_at (with_row b row) (i + n) ≡ row =
      ap (row_at (with_row b row)) ends ∙ row_at-now b row in
      let last : one_if (served (with_row b row) slot (i + n)) ≡ one_if (is_slot row.to slot) =
      ap (λ (r : TickRow). one_if (is_slot r.to slot)) here in
      omega (arith, before, last))

  theirs_next : (b : Ledger) (row : TickRow) (among : ℕ → Bool) (slot i n : ℕ) → i + n ≡ now_of b
      → count (serves_theirs (with_row b row) among slot) i (suc n)
      ≡ count (serves_theirs b among slot) i n + one_if (is_theirs among slot row.to)
  theirs_next b row among slot i n ends =
      count-push (serves_theirs (with_row b row) among slot) i n
      ∙ (let before = theirs-same (with_row b row) b among slot i n (past_same b row i n (omega (arith, ends))) in
      let here : row_at (with_row b row) (i + n) ≡ row =
      ap (row_at (with_row b row)) ends ∙ row_at-now b row in
      let last : one_if (serves_theirs (with_row b row) among slot (i + n)) ≡ one_if (is_theirs among slot row.to) =
      ap (λ (r : TickRow). one_if (is_theirs among slot r.to)) here in
      omega (arith, before, last))

  asks_now : (b : Ledger) (row : TickRow) (slot : ℕ) → asked (with_row b row) slot (now_of b) ≡ true
      → SlotAsks row.mask slot
  unfolding asked
  asks_now b row slot is =
      eqb-true (bit_at row.mask slot) 1 (ap (λ (r : TickRow). bit_at r.mask slot == 1) (sym (row_at-now b row)) ∙ is)

  ticked_by : (b : Ledger) (row : TickRow) → IsMade (Rr quantum) b → IsRow (Rr quantum) b row → IsUpToNow quantum b
      → (slot since i n : ℕ) (terms : Terms) (among : ℕ → Bool) → tenant_at (with_row b row) slot ≡ Sits terms since
      → since ≤ i → i + n ≡ now_of (with_row b row) → Asking (with_row b row) slot i n
      → Waits quantum slot among (turn_of quantum (with_row b row)) (count (served (with_row b row) slot) i n)
      (count (serves_theirs (with_row b row) among slot) i n)
  ticked_by b row made is up slot since i zero terms among sits early ends asks =
      from_now (with_row b row) slot i among
      (below b slot since terms made (sym (tenant_at-row b row slot) ∙ sits))
      (within_next b row made is up.within row.to refl)
  ticked_by b row made is up slot since i (suc n) terms among sits early ends asks =
      let sits' : tenant_at b slot ≡ Sits terms since = sym (tenant_at-row b row slot) ∙ sits in
      let last : i + n ≡ now_of b = omega (arith, ends, now_of-row b row) in
      let same = past_same b row i n (omega (arith, last)) in
      let w = up.waits slot since i n terms among sits' early last
      (asking-same (with_row b row) b slot i n same (asking-first (with_row b row) slot i n asks)) in
      let now : SlotAsks row.mask slot =
      asks_now b row slot (asks (now_of b) (omega (arith, last)) (omega (arith, last))) in
      moved quantum slot among (turn_of quantum (with_row b row)) (turn_of quantum (with_row b row))
      (count (served b slot) i n + one_if (is_slot row.to slot)) (count (served (with_row b row) slot) i (suc n))
      (count (serves_theirs b among slot) i n + one_if (is_theirs among slot row.to))
      (count (serves_theirs (with_row b row) among slot) i (suc n)) refl (sym (own_next b row slot i n last))
      (sym (theirs_next b row among slot i n last))
      (next b row made is up.within slot (count (served b slot) i n) (count (serves_theirs b among slot) i n) among
      (below b slot since terms made sits') now w row.to refl)

  ticked : (b : Ledger) (row : TickRow) → IsMade (Rr quantum) b → IsRow (Rr quantum) b row → IsUpToNow quantum b
      → IsUpToNow quantum (with_row b row)
  ticked b row made is up = record {
    within = within_next b row made is up.within row.to refl;
    waits = ticked_by b row made is up;
  }

  pub up_to_now : (b : Ledger) → Making (Rr quantum) b → IsUpToNow quantum b
  up_to_now b (Begun _ kind range unwritten unmarked) = record {
    within =
        let none : length b.rows ≡ 0 = ap length unwritten in
        let now = settled_at-unmarked b unmarked in
        rw (slot-settled b (omega (arith, now, none))) (omega arith);
    waits = λ slot since i n terms among sits early ends asks.
        absurd (let no : Vacant ≡ Sits terms since = sym (tenant_at-unmarked b slot unmarked) ∙ sits in cc);
  }
  up_to_now _ (Marked b event making may) =
      marked b event ∣ making ∣₁ ∣ Marked b event making may ∣₁ (up_to_now b making)
  up_to_now _ (Ticked b row making is) = ticked b row ∣ making ∣₁ is (up_to_now b making)
