-- A slot to serve stays so over ticks in which the scheduler is not granted, where it is of a kind that stands always
-- then.
use Rattle.std.proofs.Common.{◌≡◌, ◌≢◌, ℕ, zero, suc, ◌%◌, Bool, true, false, Option, Some, None, refl}
use Rattle.std.proofs.Common.{sym, ap, ◌∙◌, subst, arith, max, ◌-◌}
use Rattle.std.specs.Prelude.{not, ◌&&◌, ◌==◌, IfSome}
use Rattle.std.specs.Int.{bit_at}
use Rattle.std.proofs.lemmas.Bool.{eqb-true}
use Rattle.hls_chron.specs.declared.book.TickRow.{TickRow}
use Rattle.hls_chron.specs.declared.plain.Config.{Config}
use Rattle.hls_chron.specs.declared.plain.Config.TheVariants as configs
use Rattle.hls_chron.specs.declared.plain.Kind.TheVariants as kinds
use Rattle.hls_chron.specs.declared.plain.Sharing.{Sharing}
use Rattle.hls_chron.specs.declared.plain.Terms.{Terms}
use Rattle.hls_chron.specs.declared.plain.Terms.TheVariants as terms
use Rattle.hls_chron.specs.Kinds.{terms_kind, by_shares}
use Rattle.hls_chron.specs.Ledger.{Ledger, now_of, with_row, with_rows}
use Rattle.hls_chron.specs.Seats.{SlotAsks, terms_at}
use Rattle.hls_chron.proofs.BookLaws.{terms_at-row}
use Rattle.hls_chron.proofs.ConfigLaws.{by_kind}
use Rattle.hls_kinds.specs.Asks.{slot_asks}
use Rattle.hls_kinds.specs.Discipline.{Serves, HasLeastPriority, TakesTurn}
use Rattle.hls_kinds.specs.Made.{IsRow, IsMade}
use Rattle.hls_kinds.specs.Slots.{IsFirst}
use Rattle.hls_kinds.specs.Stands.{stands_idle}
use Rattle.hls_kinds.specs.Tags.{start_tag}
use Rattle.hls_kinds.specs.Turns.{turn_slot, turn_ticks, turn_goes_on, turns_after}
use Rattle.hls_kinds.proofs.MadeLaws.{made_row}
use Rattle.hls_book.proofs.Books.{shares_made}
use Rattle.hls_book.proofs.Bounds.{present-start}
use Rattle.hls_book.proofs.Nexts.{v_of, f_of}
use Rattle.hls_book.proofs.States.{time-idle, finish-unserved}
use Rattle.hls_book.proofs.TurnLaws.{slot-idle, ticks-unbroken}
use Rattle.hls_book.proofs.Turns.{left_made, unbroken_idle}
use Rattle.hls_sched.specs.Seen.{Seen, IsLawful, config_of, tick_row, leapt}
use Rattle.hls_sched.proofs.Leaps.{rows-none, rows-more}
use Rattle.hls_tree_nodes.specs.Shown.{Post}
use Rattle.hls_tree_nodes.specs.Behind.{late_book}
use Rattle.hls_tree_nodes.specs.declared.station.Lag.{Lag}

-- the row of a tick in which it is not granted
abbrev idle_row : (mask : ℕ) → TickRow
idle_row mask = tick_row mask None None

-- ---- priorities

least_stays : (b : Ledger) (row : TickRow) (mask slot : ℕ) → HasLeastPriority b mask slot
    → HasLeastPriority (with_row b row) mask slot
unfolding terms_at
least_stays b row mask slot is = record { asks = is.asks; seated = is.seated; least = is.least }

-- ---- turns

module _ (config : Config) (b : Ledger) (mask : ℕ) (made : IsMade config b) where
  slot_stays : turn_slot (with_row b (idle_row mask)) ≡ turn_slot b
  slot_stays =
      let is = left_made config b 0 made in
      slot-idle b (idle_row mask) (omega (arith, is.settled, is.left)) refl

  goes_by : (quantum : ℕ) (asks : Bool) → slot_asks mask (turn_slot b) ≡ asks
      → (asks && not (turn_ticks (with_row b (idle_row mask)) (turn_slot b) % quantum == 0))
      ≡ (asks && not (turn_ticks b (turn_slot b) % quantum == 0))
  goes_by quantum false is = refl
  goes_by quantum true is =
      let on : SlotAsks mask (turn_slot b) = eqb-true (bit_at mask (turn_slot b)) 1 is in
      let more = ticks-unbroken b (idle_row mask) (turn_slot b) (left_made config b (turn_slot b) made).left
      (unbroken_idle (idle_row mask) (turn_slot b) refl on) in
      let same : turn_ticks (with_row b (idle_row mask)) (turn_slot b) ≡ turn_ticks b (turn_slot b) =
      omega (arith, more) in
      ap (λ ticks. not (ticks % quantum == 0)) same

  goes_stays : (quantum : ℕ) → turn_goes_on quantum (with_row b (idle_row mask)) mask ≡ turn_goes_on quantum b mask
  goes_stays quantum =
      ap (λ slot. slot_asks mask slot && not (turn_ticks (with_row b (idle_row mask)) slot % quantum == 0)) slot_stays
      ∙ goes_by quantum (slot_asks mask (turn_slot b)) refl
      ∙ refl

  -- the slot of the turn, or the first one by keys that stay as they are where a slot asks
  takes_stays : (quantum : ℕ) (key later : ℕ → ℕ) (slot : ℕ)
      → ((at : ℕ) → slot_asks mask at ≡ true → later at ≡ key at) → TakesTurn quantum b key mask slot
      → TakesTurn quantum (with_row b (idle_row mask)) later mask slot
  takes_stays quantum key later slot same takes = record {
    goes_on = λ on. takes.goes_on (sym (goes_stays quantum) ∙ on) ∙ sym slot_stays;
    passes = λ off. first_by (takes.passes (sym (goes_stays quantum) ∙ off));
  }
    where
      first_by : IsFirst 32 (slot_asks mask) key slot → IsFirst 32 (slot_asks mask) later slot
      first_by is = record {
        within = is.within;
        chosen = is.chosen;
        least = λ at lt on.
            let mine = same slot is.chosen in
            let theirs = same at on in
            let le = is.least at lt on in omega (arith, mine, theirs, le);
        first = λ at lt on tie. is.first at lt on (sym (same slot is.chosen) ∙ tie ∙ same at on);
      }

-- ---- shares

weight_of : (taken : Option Terms) → taken ≢ None
    → ((its : Terms) → taken ≡ Some its → terms_kind its ≡ kinds.Sfq)
    → (weight : ℕ) × (taken ≡ Some (terms.Weight weight))
weight_of None seat kind = absurd (seat refl)
weight_of (Some (terms.Weight weight)) seat kind = (weight, refl)
weight_of (Some its) seat kind = let is = kind its refl in absurd cc

module _ (sharing : Sharing) (b : Ledger) (mask : ℕ) (made : IsMade (by_shares sharing) b)
    (seats : (at : ℕ) → SlotAsks mask at → terms_at b at ≢ None) where
  abbrev next : Ledger
  next = with_row b (idle_row mask)

  row_is : IsRow (by_shares sharing) b (idle_row mask)
  row_is = record { seats = seats; serves = λ slot to. absurd (let no : None ≡ Some slot = to in cc) }

  tag_stays : (at : ℕ) → slot_asks mask at ≡ true
      → start_tag sharing.quantum next (now_of next) at ≡ start_tag sharing.quantum b (now_of b) at
  tag_stays at on =
      let before = shares_made sharing b made in
      let after = shares_made sharing next (made_row (by_shares sharing) b (idle_row mask) made row_is) in
      let seat = weight_of (terms_at b at) (seats at (eqb-true (bit_at mask at) 1 on))
      (before.admission.seats.of_kind at) in
      present-start sharing next after at seat.0 (terms_at-row b (idle_row mask) at ∙ seat.1)
      ∙ ap (λ time. max time (f_of sharing.quantum next (now_of next) at))
      (time-idle sharing b (idle_row mask) before refl)
      ∙ ap (max (v_of sharing.quantum b (now_of b))) (finish-unserved sharing b (idle_row mask) before at refl)
      ∙ sym (present-start sharing b before at seat.0 seat.1)

-- ---- all

row_stays : (config : Config) → stands_idle config ≡ true → (b : Ledger) (mask slot : ℕ) → IsMade config b
    → ((at : ℕ) → SlotAsks mask at → terms_at b at ≢ None) → Serves config b mask slot
    → Serves config (with_row b (idle_row mask)) mask slot
row_stays =
    by_kind (λ config. stands_idle config ≡ true → (b : Ledger) (mask slot : ℕ) → IsMade config b
    → ((at : ℕ) → SlotAsks mask at → terms_at b at ≢ None) → Serves config b mask slot
    → Serves config (with_row b (idle_row mask)) mask slot)
    (λ idle b mask slot made seats serves. serves)
    (λ idle b mask slot made seats serves. least_stays b (idle_row mask) mask slot serves)
    (λ idle b mask slot made seats serves. absurd (let no : false ≡ true = idle in cc))
    (λ sharing idle b mask slot made seats serves. takes_stays (by_shares sharing) b mask made sharing.quantum
    (start_tag sharing.quantum b (now_of b)) _ slot (tag_stays sharing b mask made seats) serves)
    (λ quantum idle b mask slot made seats serves. takes_stays (configs.Rr quantum) b mask made quantum
    (turns_after (turn_slot b)) _ slot
    (λ at on. ap (λ turn. turns_after turn at) (slot_stays (configs.Rr quantum) b mask made)) serves)
    (λ frame idle b mask slot made seats serves. absurd (let no : false ≡ true = idle in cc))
    (λ ports idle b mask slot made seats serves. serves)

abbrev idle_for : (n : ℕ) → Seen → Seen
idle_for n s = record s { book = with_rows s.book (idle_row s.mask) n }

lawful_on : (s : Seen) → IsLawful s → IsLawful (record s { book = with_row s.book (idle_row s.mask) })
lawful_on s lawful = record {
  made = made_row (config_of s) s.book (idle_row s.mask) lawful.made (record {
    seats = lawful.seats;
    serves = λ at to. absurd (let no : None ≡ Some at = to in cc);
  });
  seats = λ at asks none. lawful.seats at asks (sym (terms_at-row s.book (idle_row s.mask) at) ∙ none);
}

lawful_for : (s : Seen) (n : ℕ) → IsLawful s → IsLawful (idle_for n s)
lawful_for s zero lawful =
    subst (λ (b : Ledger). IsLawful (record s { book = b })) (sym (rows-none s.book (idle_row s.mask))) lawful
lawful_for s (suc n) lawful =
    subst (λ (b : Ledger). IsLawful (record s { book = b })) (sym (rows-more s.book (idle_row s.mask) n))
    (lawful_on (idle_for n s) (lawful_for s n lawful))

serves_for : (s : Seen) (slot n : ℕ) → stands_idle (config_of s) ≡ true → IsLawful s
    → Serves (config_of s) s.book s.mask slot → Serves (config_of s) (idle_for n s).book s.mask slot
serves_for s slot zero idle lawful serves = rw (rows-none s.book (idle_row s.mask)) serves
serves_for s slot (suc n) idle lawful serves =
    let before = lawful_for s n lawful in
    rw (rows-more s.book (idle_row s.mask) n)
    (row_stays (config_of s) idle (idle_for n s).book s.mask slot before.made before.seats
    (serves_for s slot n idle lawful serves))

by_choice : (choice : Option ℕ) (s : Seen) (n : ℕ) → stands_idle (config_of s) ≡ true → IsLawful s
    → IfSome choice (Serves (config_of s) s.book s.mask)
    → IfSome choice (Serves (config_of s) (idle_for n s).book s.mask)
by_choice None s n idle lawful serves = tt
by_choice (Some slot) s n idle lawful serves = serves_for s slot n idle lawful serves

-- a choice that is the slot to serve is so after any number of ticks
pub idle_serves : (choice : Option ℕ) (s : Seen) (n : ℕ) → stands_idle (config_of s) ≡ true → s.grant ≡ None
    → IsLawful s → IfSome choice (Serves (config_of s) s.book s.mask)
    → IfSome choice (Serves (config_of s) (leapt n choice s).book s.mask)
idle_serves choice s n idle free lawful serves = rw free (by_choice choice s n idle lawful serves)

-- a box that is behind is lawful as it is shown
pub late_lawful : (t : ℕ) (lag : Lag) (post : Post) → IsLawful post.unit
    → IsLawful (record post.unit { book = late_book true t (Some lag) post.unit })
late_lawful t lag post lawful = lawful_for post.unit (t - lag.since) lawful
