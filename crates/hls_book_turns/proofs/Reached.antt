-- A book in which each wait is as long as it may be: all slots are taken and ask in every tick, and are served in turn.
use Rattle.std.proofs.Common.{◌≡◌, ◌≢◌, ℕ, zero, suc, ◌+◌, ◌-◌, ◌*◌, ◌^◌, ◌<◌, ◌≤◌, ◌%◌, ◌/◌, [], Some, None}
use Rattle.std.proofs.Common.{true, false, refl, sym, ap, ◌∙◌, arith, inl, inr, length, add-one, subst}
use Rattle.std.specs.Prelude.{◌==◌}
use Rattle.std.proofs.lemmas.Bool.{cases_eq, cases_lt, eq-eqb, ne_eqb}
use Rattle.std.proofs.lemmas.Nat.Bits.{bit_at_ones, bit_at_ones_above}
use Rattle.hls_chron.specs.declared.book.TickRow.{TickRow}
use Rattle.hls_chron.specs.declared.book.Event.TheVariants.{Seat}
use Rattle.hls_chron.specs.declared.plain.Config.TheVariants.{Rr}
use Rattle.hls_chron.specs.declared.plain.Terms.TheVariants.{Turn as OnTurn}
use Rattle.hls_chron.specs.Ledger.{Ledger, now_of, with_row, with_mark, before}
use Rattle.hls_chron.specs.Ranges.{IsWithin}
use Rattle.hls_chron.specs.Seats.{SlotAsks, asked, served}
use Rattle.hls_chron.specs.Ticks.{one_if, count}
use Rattle.hls_chron.proofs.BookLaws.{now_of-row, row_at-past, row_at-now, before-row}
use Rattle.hls_chron.proofs.CountLaws.{count-none, count-le}
use Rattle.hls_kinds.specs.declared.tenant.Tenant.TheVariants.{Vacant, Sits}
use Rattle.hls_kinds.specs.Discipline.{TakesTurn}
use Rattle.hls_kinds.specs.Made.{IsAllowed, IsRow, IsMade}
use Rattle.hls_kinds.specs.Tenants.{settled_at, left_at, tenant_at, tenant_then}
use Rattle.hls_kinds.specs.Turns.{turn_slot, turns_after}
use Rattle.hls_kinds.proofs.MadeLaws.{made_new, made_mark, made_row}
use Rattle.hls_kinds.proofs.MarkLaws.{sits_on, tenant_at-mark, tenant_at-row, tenant_at-same, tenant_at-unmarked}
use Rattle.hls_kinds.proofs.MarkLaws.{settled_at-unmarked}
use Rattle.hls_kinds.proofs.Rooms.{before-last}
use Rattle.hls_kinds.proofs.TenantLaws.{seated_in, seated-terms}
use Rattle.hls_book.proofs.TurnLaws.{left_at-unmarked, slot-settled, ticks-left}
use Rattle.hls_book.proofs.Books.{admission_made}
use Rattle.hls_book.specs.Turns.{Turn, had_of, most_beside, turn_of}
use Rattle.hls_book.proofs.Turns.{turn_rules, turn_is, had_none}
use Rattle.hls_book_turns.specs.Reached.{WaitsLongest}
use Rattle.hls_book.proofs.TurnTicks.{own_next}

abbrev everyone : ℕ
everyone = 2 ^ 32 - 1

asks_too : (slot : ℕ) → slot < 32 → SlotAsks everyone slot
asks_too slot lt = bit_at_ones 32 slot lt

abbrev serving : ℕ → TickRow
serving s = record { mask = everyone; to = Some s; port = 0 }

module _ (quantum : ℕ) (range : IsWithin 1 100 quantum) where
  some : 0 < quantum
  some = omega (arith, range.0)

  -- ---- the seats

  record IsSeated (n : ℕ) (b : Ledger) : Type 0 where
    made : IsMade (Rr quantum) b
    begins : b.start ≡ 0
    unwritten : b.rows ≡ []
    taken : (slot : ℕ) → slot < n → tenant_at b slot ≡ Sits OnTurn 0
    free : (slot : ℕ) → n ≤ slot → tenant_at b slot ≡ Vacant
    turn : turn_of quantum b ≡ record { slot = 31; had = quantum }

  empty : Ledger
  empty = record { start = 0; rows = []; marks = []; spare_ticks = 0; spare_marks = 0 }

  first_turn : (b : Ledger) → b.rows ≡ [] → b.marks ≡ [] → turn_of quantum b ≡ record { slot = 31; had = quantum }
  first_turn b unwritten unmarked =
      let none : length b.rows ≡ 0 = ap length unwritten in
      let settled : settled_at b ≡ now_of b = omega (arith, settled_at-unmarked b unmarked, none) in
      let left : left_at b 31 ≡ now_of b = omega (arith, left_at-unmarked b 31 unmarked, none) in
      turn_is quantum b 31 quantum (slot-settled b settled)
      (ap (had_of quantum) (ticks-left b 31 left) ∙ had_none quantum some)

  nobody : IsSeated 0 empty
  unfolding empty
  nobody = record {
    made = made_new (Rr quantum) empty (λ is. cc) range refl refl;
    begins = refl;
    unwritten = refl;
    taken = λ slot lt. absurd (omega (arith, lt));
    free = λ slot ge. tenant_at-unmarked empty slot refl;
    turn = first_turn empty refl refl;
  }

  may_sit : (n : ℕ) (b : Ledger) → n < 32 → IsSeated n b → IsAllowed (Rr quantum) b (Seat n OnTurn)
  may_sit n b lt is = (
    tt,
    record {
      of_kind = refl;
      within = λ exceeds. exceeds;
      apart = λ priority same has. absurd cc;
      room = λ free asked lacks. absurd (omega (arith, lacks.asks, lacks.lacks));
    },
    record {
      within = lt;
      free = sym (seated-terms b n) ∙ ap seated_in (is.free n (omega arith));
      least = λ other less none.
          absurd (let no : Some OnTurn ≡ None = sym (sits_on b other 0 OnTurn (is.taken other less)) ∙ none in cc);
    },
  )

  one_sits : (n : ℕ) (b : Ledger) → n < 32 → IsSeated n b → IsSeated (suc n) (with_mark b (Seat n OnTurn))
  one_sits n b lt is =
      let now : now_of b ≡ 0 = omega (arith, is.begins, ap length is.unwritten) in
      record {
        made = made_mark (Rr quantum) b (Seat n OnTurn) is.made (may_sit n b lt is);
        begins = is.begins;
        unwritten = is.unwritten;
        taken = λ slot less. elim (cases_eq n slot) [
          | inl same ↦ tenant_at-mark b (Seat n OnTurn) slot ∙ rw (eq-eqb n slot same, now) refl
          | inr apart ↦ tenant_at-mark b (Seat n OnTurn) slot
              ∙ rw (ne_eqb n slot apart) (is.taken slot (omega (arith, less, apart)))
        ];
        free = λ slot more. tenant_at-mark b (Seat n OnTurn) slot
            ∙ rw (ne_eqb n slot (λ same. omega (arith, same, more))) (is.free slot (omega (arith, more)));
        turn = (turn_rules (Rr quantum) quantum b some is.made).seated n OnTurn ∙ is.turn;
      }

  all_sit : (n : ℕ) → n ≤ 32 → (b : Ledger) × IsSeated n b
  all_sit zero le = (empty, nobody)
  all_sit (suc n) le =
      let before = all_sit n (omega (arith, le)) in
      (with_mark before.0 (Seat n OnTurn), one_sits n before.0 (omega (arith, le)) before.1)

  -- ---- the ticks

  -- all sit and have asked in every tick, and it is this turn
  record IsOn (turn : Turn) (b : Ledger) : Type 0 where
    made : IsMade (Rr quantum) b
    begins : b.start ≡ 0
    sits : (slot : ℕ) → slot < 32 → tenant_at b slot ≡ Sits OnTurn 0
    sat : (slot t : ℕ) → slot < 32 → t < now_of b → tenant_then b slot t ≡ Sits OnTurn 0
    asks : (slot t : ℕ) → slot < 32 → t < now_of b → asked b slot t ≡ true
    turn_now : turn_of quantum b ≡ turn

  may_serve : (s : ℕ) (turn : Turn) (b : Ledger) → IsOn turn b
      → TakesTurn quantum b (turns_after (turn_slot b)) everyone s
      → IsRow (Rr quantum) b (serving s)
  may_serve s turn b is takes = record {
    seats = λ slot asks none. elim (cases_lt slot 32) [
      | inl lt ↦ let no : Some OnTurn ≡ None = sym (sits_on b slot 0 OnTurn (is.sits slot lt)) ∙ none in cc
      | inr ge ↦ omega (arith, asks, bit_at_ones_above 32 slot ge)
    ];
    serves = λ slot to. (let same : s ≡ slot = some_of to in rw (← same) takes);
  }
    where
      some_of : {k m : ℕ} → Some k ≡ Some m → k ≡ m
      some_of is = cc

  asked_past : (b : Ledger) (s slot t : ℕ) → t < now_of b
      → asked (with_row b (serving s)) slot t ≡ asked b slot t
  unfolding asked
  asked_past b s slot t past = rw (row_at-past b (serving s) t past) refl

  asked_now : (b : Ledger) (s slot : ℕ) → slot < 32 → asked (with_row b (serving s)) slot (now_of b) ≡ true
  unfolding asked
  asked_now b s slot lt = rw (row_at-now b (serving s), asks_too slot lt) refl

  one_on : (s : ℕ) (turn next : Turn) (b : Ledger) → IsOn turn b
      → TakesTurn quantum b (turns_after (turn_slot b)) everyone s
      → turn_of quantum (with_row b (serving s)) ≡ next → IsOn next (with_row b (serving s))
  one_on s turn next b is takes goes = record {
    made = made_row (Rr quantum) b (serving s) is.made (may_serve s turn b is takes);
    begins = is.begins;
    sits = λ slot lt. tenant_at-row b (serving s) slot ∙ is.sits slot lt;
    sat = λ slot t lt passed. elim (cases_lt t (now_of b)) [
      | inl past ↦ ap (λ (a : Ledger). tenant_at a slot) (before-row b (serving s) t past) ∙ is.sat slot t lt past
      | inr now ↦
          let here : t ≡ now_of b = omega (arith, now, passed, now_of-row b (serving s)) in
          let last = before-last b (serving s) (admission_made (Rr quantum) b is.made).dated in
          ap (λ (k : ℕ). tenant_then (with_row b (serving s)) slot k) here
          ∙ tenant_at-same (before (now_of b) (with_row b (serving s))) b slot (ap (λ (a : Ledger). a.marks) last)
          ∙ is.sits slot lt
    ];
    asks = λ slot t lt passed. elim (cases_lt t (now_of b)) [
      | inl past ↦ asked_past b s slot t past ∙ is.asks slot t lt past
      | inr now ↦
          let here : t ≡ now_of b = omega (arith, now, passed, now_of-row b (serving s)) in
          ap (asked (with_row b (serving s)) slot) here ∙ asked_now b s slot lt
    ];
    turn_now = goes;
  }

  -- the ticks of a slot, all in all
  abbrev total : Ledger → ℕ → ℕ
  total b slot = count (served b slot) 0 (now_of b)

  total_next : (b : Ledger) (s slot : ℕ) → b.start ≡ 0
      → total (with_row b (serving s)) slot ≡ total b slot + one_if (s == slot)
  total_next b s slot begins =
      ap (count (served (with_row b (serving s)) slot) 0) (now_of-row b (serving s) ∙ add-one (now_of b))
      ∙ own_next quantum some b (serving s) slot 0 (now_of b) (omega arith)

  total_here : (b : Ledger) (s : ℕ) → b.start ≡ 0 → total (with_row b (serving s)) s ≡ total b s + 1
  total_here b s begins = total_next b s s begins ∙ rw (eq-eqb s s refl) refl

  total_there : (b : Ledger) (s slot : ℕ) → b.start ≡ 0 → slot ≢ s
      → total (with_row b (serving s)) slot ≡ total b slot
  total_there b s slot begins apart =
      total_next b s slot begins ∙ rw (ne_eqb s slot (λ same. apart (sym same))) (omega arith)

  -- after so many whole rounds, slot s has had k ticks of its next turn, and those before it all of theirs
  record Stage (rounds s k : ℕ) (b : Ledger) : Type 0 where
    on : IsOn (record { slot = s; had = k }) b
    early : (slot : ℕ) → slot < s → total b slot ≡ (rounds + 1) * quantum
    here : total b s ≡ rounds * quantum + k
    later : (slot : ℕ) → s < slot → slot < 32 → total b slot ≡ rounds * quantum

  -- and after whole rounds alone
  record Round (rounds : ℕ) (b : Ledger) : Type 0 where
    on : IsOn (record { slot = 31; had = quantum }) b
    each : (slot : ℕ) → slot < 32 → total b slot ≡ rounds * quantum

  takes_on : (s k : ℕ) (b : Ledger) → IsOn (record { slot = s; had = k }) b → s < 32 → k < quantum
      → TakesTurn quantum b (turns_after (turn_slot b)) everyone s
  takes_on s k b is lt part = record {
    goes_on = λ _. sym (ap (λ (t : Turn). t.slot) is.turn_now);
    passes = λ off. absurd (
        let on = ((turn_rules (Rr quantum) quantum b some is.made).goes everyone).1
        (rw (ap (λ (t : Turn). t.slot) is.turn_now) (asks_too s lt), rw (ap (λ (t : Turn). t.had) is.turn_now) part) in
        let clash : true ≡ false = sym on ∙ off in cc);
  }

  takes_next : (c s : ℕ) (b : Ledger) → IsOn (record { slot = c; had = quantum }) b → c < 32 → s < 32
      → turns_after c s ≡ 0 → ((other : ℕ) → other < 32 → turns_after c other ≡ 0 → other ≡ s)
      → TakesTurn quantum b (turns_after (turn_slot b)) everyone s
  takes_next c s b is lt_c lt first one = record {
    goes_on = λ on. absurd (
        let going = ((turn_rules (Rr quantum) quantum b some is.made).goes everyone).0 on in
        omega (arith, going.1, ap (λ (t : Turn). t.had) is.turn_now));
    passes = λ off.
        rw (ap (λ (t : Turn). t.slot) is.turn_now) (record {
          within = lt;
          chosen = rw (asks_too s lt) refl;
          least = λ other below asks. omega (arith, first);
          first = λ other below asks same. let it = one other below (sym same ∙ first) in omega (arith, it);
        });
  }

  stage_on : (r s k : ℕ) (b : Ledger) → s < 32 → k < quantum → Stage r s k b
      → Stage r s (suc k) (with_row b (serving s))
  stage_on r s k b lt part is =
      let rules = turn_rules (Rr quantum) quantum b some is.on.made in
      let slot_is : turn_slot b ≡ s = ap (λ (t : Turn). t.slot) is.on.turn_now in
      let had_is : (turn_of quantum b).had ≡ k = ap (λ (t : Turn). t.had) is.on.turn_now in
      let to : Some s ≡ Some (turn_slot b) = ap (λ (n : ℕ). Some n) (sym slot_is) in
      let asks : SlotAsks everyone (turn_slot b) = rw slot_is (asks_too s lt) in
      let next : turn_of quantum (with_row b (serving s)) ≡ record { slot = s; had = suc k } =
      rules.goes_on (serving s) to asks (rw had_is part)
      ∙ ap (λ (t : Turn). record { slot = t.slot; had = t.had + 1 }) is.on.turn_now
      ∙ ap (λ (n : ℕ). record { slot = s; had = n }) (add-one k) in
      record {
        on = one_on s (record { slot = s; had = k }) (record { slot = s; had = suc k }) b is.on
            (takes_on s k b is.on lt part) next;
        early = λ slot less. total_there b s slot is.on.begins (λ same. omega (arith, same, less))
            ∙ is.early slot less;
        here = omega (arith, total_here b s is.on.begins, is.here);
        later = λ slot more within. total_there b s slot is.on.begins (λ same. omega (arith, same, more))
            ∙ is.later slot more within;
      }

  begins_with : (c s : ℕ) (b : Ledger) → IsOn (record { slot = c; had = quantum }) b → c < 32 → s < 32
      → turns_after c s ≡ 0 → ((other : ℕ) → other < 32 → turns_after c other ≡ 0 → other ≡ s)
      → IsOn (record { slot = s; had = 1 }) (with_row b (serving s))
  begins_with c s b is lt_c lt first one =
      one_on s (record { slot = c; had = quantum }) (record { slot = s; had = 1 }) b is
      (takes_next c s b is lt_c lt first one)
      ((turn_rules (Rr quantum) quantum b some is.made).begins (serving s) s refl (asks_too s lt)
      (inr (ap (λ (t : Turn). t.had) is.turn_now)))

  first_stage : (r : ℕ) (b : Ledger) → Round r b → Stage r 0 1 (with_row b (serving 0))
  first_stage r b is = record {
    on = begins_with 31 0 b is.on (omega arith) (omega arith) refl (λ other lt at. omega (arith, lt, at));
    early = λ slot less. absurd (omega (arith, less));
    here = omega (arith, total_here b 0 is.on.begins, is.each 0 (omega arith));
    later = λ slot more within. total_there b 0 slot is.on.begins (λ same. omega (arith, same, more))
        ∙ is.each slot within;
  }

  next_stage : (r s : ℕ) (b : Ledger) → suc s < 32 → Stage r s quantum b
      → Stage r (suc s) 1 (with_row b (serving (suc s)))
  next_stage r s b lt is = record {
    on = begins_with s (suc s) b is.on (omega (arith, lt)) lt (omega (arith, lt))
        (λ other below at. omega (arith, lt, below, at));
    early = λ slot less. elim (cases_eq slot s) [
      | inl same ↦
          let before : total b slot ≡ r * quantum + quantum = ap (total b) same ∙ is.here in
          omega (
            arith,
            total_there b (suc s) slot is.on.begins (λ no. omega (arith, no, less)),
            before,
          )
      | inr apart ↦ total_there b (suc s) slot is.on.begins (λ no. omega (arith, no, less))
          ∙ is.early slot (omega (arith, less, apart))
    ];
    here = omega (arith, total_here b (suc s) is.on.begins, is.later (suc s) (omega arith) lt);
    later = λ slot more within. total_there b (suc s) slot is.on.begins (λ same. omega (arith, same, more))
        ∙ is.later slot (omega (arith, more)) within;
  }

  round_done : (r : ℕ) (b : Ledger) → Stage r 31 quantum b → Round (suc r) b
  round_done r b is = record {
    on = is.on;
    each = λ slot lt. elim (cases_eq slot 31) [
      | inl same ↦ let here : total b slot ≡ r * quantum + quantum = ap (total b) same ∙ is.here in
          omega (arith, here)
      | inr apart ↦ omega (arith, is.early slot (omega (arith, lt, apart)))
    ];
  }

  -- ---- there are such books

  ticks_of : (r s k : ℕ) → s < 32 → k < quantum → (b : Ledger) × Stage r s 1 b → (b : Ledger) × Stage r s (suc k) b
  ticks_of r s zero lt part one = one
  ticks_of r s (suc k) lt part one =
      let before = ticks_of r s k lt (omega (arith, part)) one in
      (with_row before.0 (serving s), stage_on r s (suc k) before.0 lt part before.1)

  whole_turn : (r s : ℕ) → s < 32 → (b : Ledger) × Stage r s 1 b → (b : Ledger) × Stage r s quantum b
  whole_turn r s lt one =
      let all : suc (quantum - 1) ≡ quantum = omega (arith, some) in
      let done = ticks_of r s (quantum - 1) lt (omega (arith, some)) one in
      (done.0, subst (λ (k : ℕ). Stage r s k done.0) all done.1)

  turns_of : (r s : ℕ) → s < 32 → (b : Ledger) × Round r b → (b : Ledger) × Stage r s 1 b
  turns_of r zero lt round = (with_row round.0 (serving 0), first_stage r round.0 round.1)
  turns_of r (suc s) lt round =
      let before = whole_turn r s (omega (arith, lt)) (turns_of r s (omega (arith, lt)) round) in
      (with_row before.0 (serving (suc s)), next_stage r s before.0 lt before.1)

  rounds_of : (r : ℕ) → (b : Ledger) × Round r b
  rounds_of zero =
      let seated = all_sit 32 (omega arith) in
      let now : now_of seated.0 ≡ 0 = omega (arith, seated.1.begins, ap length seated.1.unwritten) in (
        seated.0,
        record {
          on = record {
            made = seated.1.made;
            begins = seated.1.begins;
            sits = seated.1.taken;
            sat = λ slot t lt passed. absurd (omega (arith, passed, now));
            asks = λ slot t lt passed. absurd (omega (arith, passed, now));
            turn_now = seated.1.turn;
          };
          each = λ slot lt.
              let none : total seated.0 slot ≡ 0 =
              ap (count (served seated.0 slot) 0) now ∙ count-none (served seated.0 slot) 0 in
              omega (arith, none);
        },
      )
  rounds_of (suc r) =
      let last = whole_turn r 31 (omega arith) (turns_of r 31 (omega arith) (rounds_of r)) in
      (last.0, round_done r last.0 last.1)

  finish : (own s : ℕ) (turn : Turn) (b : Ledger) → IsOn turn b → 1 ≤ total b s → total b 31 ≡ own
      → ((other : ℕ) → other < 31 → total b other ≡ most_beside quantum own) → WaitsLongest quantum own
  finish own s turn b is one has each =
      let pos : 1 ≤ now_of b = omega (arith, one, count-le (served b s) 0 (now_of b)) in
      let last : now_of b - 1 + 1 ≡ now_of b = omega (arith, pos) in
      record {
        book = b;
        made = is.made;
        n = now_of b - 1;
        last = last;
        asks = record {
          since = 0;
          sits = is.sat 31 (0 + (now_of b - 1)) (omega arith) (omega (arith, pos));
          early = omega arith;
          asks = λ t ge le. is.asks 31 t (omega arith) (omega (arith, le, pos));
        };
        has = ap (count (served b 31) 0) last ∙ has;
        others = λ other lt. ap (count (served b other) 0) last ∙ each other lt;
      }

  pub waits_longest : (own : ℕ) → WaitsLongest quantum own
  waits_longest own =
      let r : ℕ = own / quantum in
      let parts : own % quantum + own / quantum * quantum ≡ own = omega (arith, some) in
      let less : own % quantum < quantum = omega (arith, some) in
      elim (cases_eq (own % quantum) 0) [
        | inl none ↦
            let stage = whole_turn r 30 (omega arith) (turns_of r 30 (omega arith) (rounds_of r)) in
            finish own 30 (record { slot = 30; had = quantum }) stage.0 stage.1.on
            (omega (arith, stage.1.here, some))
            (omega (arith, stage.1.later 31 (omega arith) (omega arith), parts, none))
            (λ other lt. elim (cases_eq other 30) [
              | inl same ↦
                  let here : total stage.0 other ≡ r * quantum + quantum = ap (total stage.0) same ∙ stage.1.here in
                  omega (arith, here)
              | inr apart ↦ omega (arith, stage.1.early other (omega (arith, lt, apart)))
            ])
        | inr rest ↦
            let k : suc (own % quantum - 1) ≡ own % quantum = omega (arith, rest) in
            let stage = ticks_of r 31 (own % quantum - 1) (omega arith) (omega (arith, less))
            (turns_of r 31 (omega arith) (rounds_of r)) in
            finish own 31 (record { slot = 31; had = suc (own % quantum - 1) }) stage.0 stage.1.on
            (omega (arith, stage.1.here))
            (omega (arith, stage.1.here, parts, k))
            (λ other lt. omega (arith, stage.1.early other lt))
      ]
