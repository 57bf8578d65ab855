-- The turn of fair queueing from tick to tick, by its book.
use Rattle.std.proofs.Common.{◌≡◌, ◌≢◌, ℕ, suc, ◌+◌, ◌-◌, ◌<◌, ◌≤◌, ◌%◌, refl, sym, ap, ◌∙◌, arith, inl, inr, [], ◌∷◌}
use Rattle.std.proofs.Common.{◌++◌, Bool, true, false, Some, None, add-one}
use Rattle.std.specs.Prelude.{Option, ◌⊎◌, ◌&&◌, not, nat_lt, nat_eq, ◌==◌}
use Rattle.std.specs.Int.{bit_at}
use Rattle.std.proofs.Math.Nat.{mod-lt, mod-eq_of_lt, mod_self, zero-mod}
use Rattle.std.proofs.lemmas.Bool.{cases_eq, cases_lt, eq-eqb, ne_eqb, le-ltb}
use Rattle.std.proofs.lemmas.Bool.Decides.{nat_tests}
use Rattle.std.proofs.lemmas.List.{take_more}
use Rattle.hls_chron.specs.Ledger.{Ledger, no_row, now_of, row_at, with_row, before}
use Rattle.hls_chron.specs.Seats.{SlotAsks, asked, is_slot, terms_at}
use Rattle.hls_chron.specs.Ticks.{one_if}
use Rattle.hls_kinds.specs.Tags.{share_in}
use Rattle.hls_kinds.specs.Tenants.{settled_at, left_at, tenant_then}
use Rattle.hls_kinds.specs.Turns.{turn_slot, turn_ticks, turn_goes_on}
use Rattle.hls_kinds.proofs.MarkLaws.{settled_at-row}
use Rattle.hls_book.specs.ShareBook.{KeepsLeavings}
use Rattle.hls_book.proofs.Nexts.{share_at, v_of}
use Rattle.hls_book.proofs.PromiseLaws.{asked-slot}
use Rattle.hls_book.proofs.ShareAgree.{start_before, now-before}
use Rattle.hls_book.proofs.Tags.{Clock, goes_on, one_more, who_after, had_after}
use Rattle.hls_book.proofs.TurnLaws.{left_at-row, slot-rows, ticks-rows, ticks-left, slot-served, slot-idle}
use Rattle.hls_book.proofs.TurnLaws.{ticks-unbroken, ticks-broken, ticks-other}
use Rattle.hls_book.proofs.Turns.{next_rest, unbroken, unbroken_idle, broken}

-- of a book, by tick: the slot of the turn, and how much of a quantum it has had
abbrev pub who_of : Ledger → ℕ → ℕ
who_of b t = turn_slot (before t b)

abbrev pub part_of : (quantum : ℕ) → Ledger → ℕ → ℕ
part_of quantum b t = turn_ticks (before t b) (who_of b t) % quantum

abbrev pub clock_of : (quantum : ℕ) → Ledger → ℕ → Clock
clock_of quantum b t = record { v = v_of quantum b t; who = who_of b t; had = part_of quantum b t }

abbrev pub asks_of : Ledger → (t slot : ℕ) → Bool
asks_of b t slot = asked b slot t

abbrev pub to_of : Ledger → ℕ → Option ℕ
to_of b t = (row_at b t).to

-- ---- whether a turn goes on

some_part : (n : ℕ) → nat_lt 0 n ≡ not (n == 0)
some_part n = elim (cases_eq n 0) [
  | inl none ↦ rw none refl
  | inr some ↦
      let lt : nat_lt 0 n ≡ true = grind (arith, nat_tests) in
      rw (lt, ne_eqb n 0 some) refl
]

and_turned : (x y : Bool) → (x && y) ≡ (y && x)
and_turned true true = refl
and_turned true false = refl
and_turned false true = refl
and_turned false false = refl

pub goes-is : (quantum : ℕ) (b : Ledger) (t : ℕ)
    → goes_on (clock_of quantum b t) (asks_of b t) ≡ turn_goes_on quantum (before t b) (row_at b t).mask
unfolding asked
goes-is quantum b t =
    and_turned (nat_lt 0 (part_of quantum b t)) (bit_at (row_at b t).mask (who_of b t) == 1)
    ∙ ap (λ (x : Bool). (bit_at (row_at b t).mask (who_of b t) == 1) && x) (some_part (part_of quantum b t))

-- one tick more of a quantum
more_of : (quantum ticks : ℕ) → 0 < quantum → (ticks + 1) % quantum ≡ one_more quantum (ticks % quantum)
unfolding one_more
more_of quantum ticks some = next_rest quantum some ticks ∙ elim (cases_eq (ticks % quantum + 1) quantum) [
  | inl full ↦
      let is : nat_eq (ticks % quantum + 1) quantum ≡ true = grind (arith, nat_tests) in
      rw is (ap (λ (n : ℕ). n % quantum) full ∙ mod_self quantum)
  | inr part ↦
      let is : nat_eq (ticks % quantum + 1) quantum ≡ false = grind (arith, nat_tests) in
      let within = mod-lt ticks some in
      rw is (mod-eq_of_lt (omega (arith, within, part)))
]

-- ---- the book before the next tick, but for the marks of that

rows_next : (b : Ledger) (t : ℕ) → b.start ≤ t → t < now_of b
    → (before (suc t) b).rows ≡ (before t b).rows ++ row_at b t ∷ []
unfolding before row_at
rows_next b t lo lt =
    let past : nat_lt t b.start ≡ false = le-ltb t b.start lo in
    let more : suc t - b.start ≡ (t - b.start) + 1 = omega (arith, lo) in
    rw (past, more) (take_more b.rows (t - b.start) no_row (omega (arith, lo, lt)))

-- what becomes of the turn: it is over, or as the tick leaves it, and then its slot is taken as before
abbrev pub TurnNext : (quantum : ℕ) → Ledger → ℕ → Type 0
TurnNext quantum b t =
    (part_of quantum b (suc t) ≡ 0)
    ⊎ ((part_of quantum b (suc t) ≡ had_after quantum (clock_of quantum b t) (asks_of b t) (to_of b t))
    × (who_of b (suc t) ≡ who_after (clock_of quantum b t) (to_of b t))
    × (share_at b (suc t) (who_of b (suc t)) ≡ share_at b t (who_of b (suc t))))

module _ (quantum : ℕ) (b : Ledger) (t : ℕ) (some : 0 < quantum) (kept : KeepsLeavings b) (lo : b.start ≤ t)
    (lt : t < now_of b)
    (seated : (slot : ℕ) → asked b slot t ≡ true → terms_at (before t b) slot ≢ None)
    (serves : (k : ℕ) → to_of b t ≡ Some k → asked b k t ≡ true)
    (stays : (k : ℕ) → to_of b t ≡ Some k → goes_on (clock_of quantum b t) (asks_of b t) ≡ true → k ≡ who_of b t)
  where
    abbrev old : Ledger
    old = before t b

    abbrev new : Ledger
    new = before (suc t) b

    abbrev mid : Ledger
    mid = with_row old (row_at b t)

    now_old : now_of old ≡ t
    now_old = now-before t b lo (omega (arith, lt))

    now_new : now_of new ≡ suc t
    now_new = now-before (suc t) b (omega (arith, lo)) (omega (arith, lt))

    start_new : new.start ≡ mid.start
    start_new = start_before (suc t) b ∙ sym (start_before t b)

    settled_old : settled_at old ≤ now_of old
    settled_old =
        let a = kept.settled t 0 (omega (arith, lt)) in
        let c = kept.left t 0 lo (omega (arith, lt)) in
        omega (arith, a, c, now_old)

    left_old : (slot : ℕ) → left_at old slot ≤ now_of old
    left_old slot = let c = kept.left t slot lo (omega (arith, lt)) in omega (arith, c, now_old)

    other_old : (slot : ℕ) → slot ≢ turn_slot old → turn_ticks old slot ≡ 0
    other_old slot apart =
        ticks-other old slot (kept.settled t slot (omega (arith, lt))) (left_old slot) apart

    over : part_of quantum b (suc t) ≡ 0 → TurnNext quantum b t
    over none = inl none

    over_ticks : turn_ticks new (turn_slot new) ≡ 0 → TurnNext quantum b t
    over_ticks none = inl (ap (λ (n : ℕ). n % quantum) none ∙ zero-mod quantum)

    -- the slot was not left in the next tick, so nothing was settled
    module _ (unleft : left_at new (turn_slot new) ≢ suc t) where
      left_new : left_at new (turn_slot new) ≡ left_at mid (turn_slot new)
      left_new =
          let e : before (t + 1) b ≡ new = ap (λ (z : ℕ). before z b) (add-one t) in
          let same = kept.leaves t (turn_slot new) lt
          (λ is. unleft (sym (ap (λ (m : Ledger). left_at m (turn_slot new)) e) ∙ is ∙ add-one t)) in
          sym (ap (λ (m : Ledger). left_at m (turn_slot new)) e) ∙ same
          ∙ sym (left_at-row old (row_at b t) (turn_slot new))

      settled_new : settled_at new ≡ settled_at mid
      settled_new =
          let e : before (t + 1) b ≡ new = ap (λ (z : ℕ). before z b) (add-one t) in
          let within = kept.settled (suc t) (turn_slot new) (omega (arith, lt)) in
          let early = left_old (turn_slot new) in
          let same : left_at mid (turn_slot new) ≡ left_at old (turn_slot new) =
          left_at-row old (row_at b t) (turn_slot new) in
          let before_it : settled_at new ≤ t = omega (arith, within, left_new, same, early, now_old) in
          let s : settled_at (before (t + 1) b) ≡ settled_at new = ap (λ (m : Ledger). settled_at m) e in
          sym s ∙ kept.settles t lt (λ is. omega (arith, s, is, before_it)) ∙ sym (settled_at-row old (row_at b t))

      slot_new : turn_slot new ≡ turn_slot mid
      slot_new = slot-rows new mid start_new (rows_next b t lo lt) settled_new

      ticks_new : turn_ticks new (turn_slot new) ≡ turn_ticks mid (turn_slot new)
      ticks_new = ticks-rows new mid (turn_slot new) start_new (rows_next b t lo lt) left_new

      taken : asked b (turn_slot new) t ≡ true
          → share_at b (suc t) (turn_slot new) ≡ share_at b t (turn_slot new)
      taken asks =
          let e : before (t + 1) b ≡ new = ap (λ (z : ℕ). before z b) (add-one t) in
          ap share_in (ap (tenant_then b (turn_slot new)) (sym (add-one t))
          ∙ kept.sits_on t (turn_slot new) lt
          (λ is. unleft (sym (ap (λ (m : Ledger). left_at m (turn_slot new)) e) ∙ is ∙ add-one t))
          (seated (turn_slot new) asks))

      asks_by : (slot : ℕ) → SlotAsks (row_at b t).mask slot → asked b slot t ≡ true
      unfolding asked
      asks_by slot on = eq-eqb (bit_at (row_at b t).mask slot) 1 on

      who_none : who_after (clock_of quantum b t) None ≡ turn_slot old
      unfolding who_after
      who_none = refl

      who_some : (k : ℕ) → who_after (clock_of quantum b t) (Some k) ≡ k
      unfolding who_after
      who_some k = refl

      idle_had : to_of b t ≡ None → asked b (turn_slot old) t ≡ true
          → had_after quantum (clock_of quantum b t) (asks_of b t) (to_of b t) ≡ part_of quantum b t
      unfolding had_after
      idle_had to asks = rw (to, asks) refl

      -- nobody is served
      idle : to_of b t ≡ None → TurnNext quantum b t
      idle to =
          let slot : turn_slot new ≡ turn_slot old = slot_new ∙ slot-idle old (row_at b t) settled_old to in
          let ticks : turn_ticks new (turn_slot new) ≡ turn_ticks mid (turn_slot old) =
          ticks_new ∙ ap (turn_ticks mid) slot in
          elim (cases_eq (bit_at (row_at b t).mask (turn_slot old)) 1) [
            | inr off ↦
                over_ticks (ticks ∙ ticks-broken old (row_at b t) (turn_slot old) (left_old (turn_slot old))
                (broken (row_at b t) (turn_slot old) to off))
            | inl on ↦
                let asks : asked b (turn_slot old) t ≡ true = asks_by (turn_slot old) on in
                let same : turn_ticks mid (turn_slot old) ≡ turn_ticks old (turn_slot old) =
                ticks-unbroken old (row_at b t) (turn_slot old) (left_old (turn_slot old))
                (unbroken_idle (row_at b t) (turn_slot old) to on)
                ∙ (let none : one_if (is_slot (row_at b t).to (turn_slot old)) ≡ 0 =
                ap (λ (o : Option ℕ). one_if (is_slot o (turn_slot old))) to in
                omega (arith, none)) in
                inr (
                  ap (λ (n : ℕ). n % quantum) (ticks ∙ same) ∙ sym (idle_had to asks),
                  slot ∙ sym (ap (who_after (clock_of quantum b t)) to ∙ who_none),
                  taken (ap (λ (s : ℕ). asked b s t) slot ∙ asks),
                )
          ]

      -- a turn that begins has had no part of a quantum
      none_had : (k : ℕ) → asked b k t ≡ true → goes_on (clock_of quantum b t) (asks_of b t) ≡ false
          → turn_ticks old k % quantum ≡ 0
      none_had k asks off = elim (cases_eq k (turn_slot old)) [
        | inr apart ↦ ap (λ (n : ℕ). n % quantum) (other_old k apart) ∙ zero-mod quantum
        | inl same ↦ elim (cases_lt 0 (part_of quantum b t)) [
          | inr none ↦ ap (λ (s : ℕ). turn_ticks old s % quantum) same ∙ omega (arith, none)
          | inl part ↦ absurd (
              let on : nat_lt 0 (part_of quantum b t) ≡ true = grind (arith, nat_tests) in
              let its : asked b (turn_slot old) t ≡ true = ap (λ (s : ℕ). asked b s t) (sym same) ∙ asks in
              let both : goes_on (clock_of quantum b t) (asks_of b t) ≡ true = rw (on, its) refl in
              let clash : true ≡ false = sym both ∙ off in cc)
        ]
      ]

      part_is : (k : ℕ) → to_of b t ≡ Some k → asked b k t ≡ true → (on : Bool)
          → goes_on (clock_of quantum b t) (asks_of b t) ≡ on
          → one_more quantum (turn_ticks old k % quantum)
          ≡ had_after quantum (clock_of quantum b t) (asks_of b t) (Some k)
      unfolding had_after
      part_is k to asks true on =
          rw on (ap (λ (s : ℕ). one_more quantum (turn_ticks old s % quantum)) (stays k to on))
      part_is k to asks false off = rw off (ap (one_more quantum) (none_had k asks off))

      -- a slot is served
      served : (k : ℕ) → to_of b t ≡ Some k → TurnNext quantum b t
      served k to =
          let slot : turn_slot new ≡ k = slot_new ∙ slot-served old (row_at b t) k settled_old to in
          let asks = serves k to in
          let more : turn_ticks mid k ≡ turn_ticks old k + 1 =
          ticks-unbroken old (row_at b t) k (left_old k) (unbroken (row_at b t) k to (asked-slot b k t asks))
          ∙ (let one : one_if (is_slot (row_at b t).to k) ≡ 1 =
          ap (λ (o : Option ℕ). one_if (is_slot o k)) to ∙ ap one_if (eq-eqb k k refl) in
          omega (arith, one)) in
          let part : part_of quantum b (suc t) ≡ one_more quantum (turn_ticks old k % quantum) =
          ap (λ (n : ℕ). n % quantum) (ticks_new ∙ ap (turn_ticks mid) slot ∙ more)
          ∙ more_of quantum (turn_ticks old k) some in
          inr (
            part ∙ part_is k to asks (goes_on (clock_of quantum b t) (asks_of b t)) refl
                ∙ sym (ap (had_after quantum (clock_of quantum b t) (asks_of b t)) to),
            slot ∙ sym (ap (who_after (clock_of quantum b t)) to ∙ who_some k),
            taken (ap (λ (s : ℕ). asked b s t) slot ∙ asks),
          )

      by_row : (to : Option ℕ) → to_of b t ≡ to → TurnNext quantum b t
      by_row None to = idle to
      by_row (Some k) to = served k to

    pub turn-next : TurnNext quantum b t
    turn-next = elim (cases_eq (left_at new (turn_slot new)) (suc t)) [
      | inl left ↦ over_ticks (ticks-left new (turn_slot new) (left ∙ sym now_new))
      | inr unleft ↦ by_row unleft (to_of b t) refl
    ]

-- at the start there is no turn
pub no-turn : (quantum : ℕ) (b : Ledger) → KeepsLeavings b → part_of quantum b b.start ≡ 0
no-turn quantum b kept =
    let s = turn_slot (before b.start b) in
    let begun = kept.begun b.start (omega arith) in
    let settled = kept.settled b.start s (omega arith) in
    let left = kept.left b.start s (omega arith) (omega arith) in
    let here : left_at (before b.start b) s ≡ now_of (before b.start b) =
    omega (arith, begun, settled, left, now-before b.start b (omega arith) (omega arith)) in
    ap (λ (n : ℕ). n % quantum) (ticks-left (before b.start b) s here) ∙ zero-mod quantum
