-- The queue of the slots that ask, as calls change it.
use Rattle.std.proofs.Common.{◌≡◌, ◌≢◌, ℕ, ◌^◌, ◌<◌, ◌≤◌, zero, suc, List, Some, None, Bool, true, false}
use Rattle.std.proofs.Common.{refl, sym, ap, ap₂, ◌∙◌, arith, inl, inr, length, length-set, get_or, []}
use Rattle.std.proofs.Common.{get_or-set_same, get_or-set_other}
use Rattle.std.specs.Prelude.{Option, slice_set, replicate, if◌then◌else◌, is_some, IfSome, MatchOption, min, max}
use Rattle.std.specs.Prelude.{◌==◌, ◌&&◌}
use Rattle.std.specs.Int.{bit_at}
use Rattle.std.proofs.lemmas.Bool.{cases_eq, eqb-true, eq-eqb}
use Rattle.hls_chron.specs.Kinds.{quantum_of}
use Rattle.hls_chron.specs.declared.plain.Kind.TheVariants as kinds
use Rattle.hls_chron.specs.Ledger.{now_of}
use Rattle.hls_chron.specs.Seats.{SlotAsks}
use Rattle.hls_kinds.specs.Asks.{slot_asks}
use Rattle.hls_kinds.specs.Slots.{IsFirst}
use Rattle.hls_kinds.specs.Stands.{always, to_rivals, turn_end}
use Rattle.hls_kinds.specs.Tags.{start_tag}
use Rattle.hls_kinds.specs.Asks.{with_slot, without_slot}
use Rattle.hls_sched.specs.Seen.{Seen, IsConfigured, config_of, turned, leapt, tick_row}
use Rattle.hls_sched.proofs.Masks.{asks_with, still_asks_with, asks_without, still_asks_without, silent_without}
use Rattle.hls_sched.proofs.Masks.{within_width}
use Rattle.hls_box.specs.Inside.Sound.{IsSound}
use Rattle.hls_box.proofs.Sounds.{row_serves}
use Rattle.hls_box.proofs.Choosing.{IsRight, right_asks}
use Rattle.hls_box.specs.declared.turns.Turn.{Turn}
use Rattle.hls_box.specs.Turns.{goes_on_by, left_by}
use Rattle.hls_box.proofs.TurnLeaps.{had_few}
use Rattle.hls_box.specs.Keys.{has_key, key_at, key_or}
use Rattle.hls_box.proofs.LeastLaws.{least_first}
use Rattle.hls_order.specs.Order.{key_of, IsEmpty, IsLeast}
use Rattle.hls_order.proofs.Winning.{present_within}
use Rattle.hls_sfq.specs.declared.shares.FairSeat.{FairSeat}
use Rattle.hls_sfq.specs.Choice.{tag_of, tag_asking, first_of, choice_of}
use Rattle.hls_sfq.specs.Changes.{time_after, seats_after, served_seat, leapt_seat, time_leapt, seats_leapt, placed}
use Rattle.hls_sfq.specs.Changes.{start_or, step_of, rest_in}
use Rattle.hls_sfq.specs.Queue.{IsNext, IsQueue, QueuesTags}
use Rattle.hls_sfq.specs.Tags.{KeepsTags}
use Rattle.hls_sfq.proofs.TagLaws.{asks_tag}
use Rattle.hls_sfq.proofs.Calls as calls
use Rattle.hls_sfq.proofs.Choices.{untagged, silent_slot, same_tests}
use Rattle.hls_sfq.proofs.Rivals.{least_is, others_turned, rivals_same, ends_same, ends_now}

-- ---- the first of the queue is the choice

module _ (keys : List (Option ℕ)) (time : ℕ) (seats : List (Option FairSeat)) (mask : ℕ)
    (q : IsQueue keys time seats mask) where
  no_first : IsEmpty keys → (first : Option ℕ) → first ≡ first_of time seats mask
      → IfSome first (IsFirst 32 (has_key (tag_asking time seats mask)) (key_at (tag_asking time seats mask)))
      → first ≡ None
  no_first empty None is first = refl
  no_first empty (Some slot) is first =
      let none : has_key (tag_asking time seats mask) slot ≡ false =
      ap is_some (sym (q.tags slot first.within) ∙ empty slot) in
      absurd (let clash : true ≡ false = sym first.chosen ∙ none in cc)

  is_first : (slot : ℕ) → IsLeast keys slot
      → IsFirst 32 (has_key (tag_asking time seats mask)) (key_at (tag_asking time seats mask)) slot
  is_first slot l =
      let few : slot < 32 = let lt = present_within keys slot l.key l.present in let size = q.size in
      omega (arith, lt, size) in
      let mine : tag_asking time seats mask slot ≡ Some l.key = sym (q.tags slot few) ∙ l.present in
      record {
        within = few;
        chosen = ap is_some mine;
        least = λ other lt on.
            let its = has_some (tag_asking time seats mask other) on in
            let le = l.least other (key_at (tag_asking time seats mask) other) (q.tags other lt ∙ its) in
            let key = ap key_or mine in
            omega (arith, le, key);
        first = λ other lt on same.
            let its = has_some (tag_asking time seats mask other) on in
            let key = ap key_or mine in
            let alike : key_at (tag_asking time seats mask) other ≡ l.key = sym same ∙ key in
            l.first other (q.tags other lt ∙ its ∙ ap Some alike);
      }
    where
      has_some : (found : Option ℕ) → is_some found ≡ true → found ≡ Some (key_or found)
      has_some None on = absurd cc
      has_some (Some key) on = refl

  pub first_of_queue : (result : Option ℕ) → MatchOption result (IsEmpty keys) (IsLeast keys)
      → result ≡ first_of time seats mask
  first_of_queue None empty =
      sym (no_first empty (first_of time seats mask) refl (least_first (tag_asking time seats mask)))
  first_of_queue (Some slot) l = sym (least_is (tag_asking time seats mask) slot (is_first slot l))

pub least_below : (keys : List (Option ℕ)) (result : Option ℕ) → length keys ≡ 32
    → MatchOption result (IsEmpty keys) (IsLeast keys) → (slot : ℕ) → result ≡ Some slot → slot < 32
least_below keys None size empty slot is = cc
least_below keys (Some it) size l slot is =
    let within : it < length keys = present_within keys it l.key l.present in
    let same : it ≡ slot = cc in
    omega (arith, within, size, same)

pub some_below : (choice : Option ℕ) → ((slot : ℕ) → choice ≡ Some slot → slot < 32) → IfSome choice (λ slot. slot < 32)
some_below None below = record {}
some_below (Some slot) below = below slot refl

-- the choice, by whether the turn goes on
pub chosen_on : (time mask now : ℕ) (on : Bool) (seats : List (Option FairSeat)) (turn : Turn) → now ≡ mask
    → on ≡ goes_on_by now turn → on ≡ true → Some turn.slot ≡ choice_of turn time seats mask
chosen_on time mask now on seats turn same is on_is =
    ap (λ on. if on then Some turn.slot else first_of time seats mask)
    (sym on_is ∙ is ∙ ap (λ m. goes_on_by m turn) same)

pub chosen_off : (time mask now : ℕ) (on : Bool) (seats : List (Option FairSeat)) (turn : Turn) → now ≡ mask
    → on ≡ goes_on_by now turn → on ≡ false → (first : Option ℕ) → first ≡ first_of time seats mask
    → first ≡ choice_of turn time seats mask
chosen_off time mask now on seats turn same is off_is first first_is =
    first_is
    ∙ ap (λ on. if on then Some turn.slot else first_of time seats mask)
    (sym off_is ∙ is ∙ ap (λ m. goes_on_by m turn) same)

pub next_where : (keys : List (Option ℕ)) (mask now : ℕ) (turn : Turn) (next : Option ℕ) → IsNext keys turn now next
    → now ≡ mask → IsNext keys turn mask next
next_where keys mask now turn next is same = rw same at is

-- ---- an empty queue

none_in : (n k : ℕ) → key_of (replicate n None) k ≡ None
none_in zero k = refl
none_in (suc n) zero = refl
none_in (suc n) (suc k) = none_in n k

pub queue_new : (seats : List (Option FairSeat)) (mask : ℕ) → mask ≡ 0 → IsQueue (replicate 32 None) 0 seats mask
queue_new seats mask silent = record {
  size = refl;
  tags = λ slot lt. none_in 32 slot ∙ sym (ap (λ m. tag_asking 0 seats m slot) silent
      ∙ untagged 0 seats 0 slot (silent_slot slot));
}

and_off : (on : Bool) → false ≡ (on && false)
and_off true = refl
and_off false = refl

pub none_next : (mask : ℕ) → IsNext (replicate 32 None) (record { slot = 31; ticks = 0 }) mask None
none_next mask = λ time seats q.
    let off : false ≡ goes_on_by mask (record { slot = 31; ticks = 0 }) = and_off (slot_asks mask 31) in
    chosen_off time mask mask false seats (record { slot = 31; ticks = 0 }) refl off refl None
    (first_of_queue (replicate 32 None) time seats mask q None (λ slot. none_in 32 slot))

-- without places nothing is in order
pub none_blank : (mask : ℕ) → IsNext [] (record { slot = 31; ticks = 0 }) mask None
none_blank mask = λ time seats q. absurd (let no : 0 ≡ 32 = q.size in cc)

-- ---- one slot is placed anew

pub queue_placed : (keys : List (Option ℕ)) (time later : ℕ) (seats after : List (Option FairSeat)) (mask now slot : ℕ)
    (tag : Option ℕ) → IsQueue keys time seats mask → slot < 32 → tag ≡ tag_asking later after now slot
    → ((other : ℕ) → other < 32 → other ≢ slot
    → tag_asking time seats mask other ≡ tag_asking later after now other)
    → IsQueue (slice_set keys slot tag) later after now
queue_placed keys time later seats after mask now slot tag q few is same = record {
  size = length-set keys slot tag ∙ q.size;
  tags = λ other lt. elim (cases_eq other slot) [
    | inl here ↦ rw here (let size = q.size in get_or-set_same keys slot tag None (omega (arith, size, few)) ∙ is)
    | inr away ↦ get_or-set_other keys slot other tag None away ∙ q.tags other lt ∙ same other lt away
  ];
}

-- ---- who else asks

asks_by : (mask now slot : ℕ) → (SlotAsks mask slot → SlotAsks now slot) → (SlotAsks now slot → SlotAsks mask slot)
    → slot_asks mask slot ≡ slot_asks now slot
asks_by mask now slot there back =
    same_tests (slot_asks mask slot) (slot_asks now slot)
    (λ on. eq-eqb (bit_at now slot) 1 (there (eqb-true (bit_at mask slot) 1 on)))
    (λ on. eq-eqb (bit_at mask slot) 1 (back (eqb-true (bit_at now slot) 1 on)))

tag_by_mask : (time : ℕ) (seats : List (Option FairSeat)) (mask now slot : ℕ) → slot_asks mask slot ≡ slot_asks now slot
    → tag_asking time seats mask slot ≡ tag_asking time seats now slot
tag_by_mask time seats mask now slot same =
    ap (λ asks. if asks then tag_of time (get_or seats slot None) else None) same

pub others_with : (time : ℕ) (seats : List (Option FairSeat)) (mask slot other : ℕ) → other ≢ slot
    → tag_asking time seats mask other ≡ tag_asking time seats (with_slot slot mask) other
others_with time seats mask slot other away =
    tag_by_mask time seats mask (with_slot slot mask) other
    (asks_by mask (with_slot slot mask) other (still_asks_with mask slot other)
    (λ on. asks_with mask slot other on away))

pub others_without : (time : ℕ) (seats : List (Option FairSeat)) (mask slot other : ℕ) → slot < 32 → other < 32
    → other ≢ slot → tag_asking time seats mask other ≡ tag_asking time seats (without_slot slot mask) other
others_without time seats mask slot other few lt away =
    tag_by_mask time seats mask (without_slot slot mask) other
    (asks_by mask (without_slot slot mask) other (still_asks_without mask slot other few lt away)
    (asks_without mask slot other))

not_asking : (asks : Bool) → (asks ≡ true → ⊥) → asks ≡ false
not_asking true not = absurd (not refl)
not_asking false not = refl

pub none_without : (time : ℕ) (seats : List (Option FairSeat)) (mask slot : ℕ) → slot < 32
    → None ≡ tag_asking time seats (without_slot slot mask) slot
none_without time seats mask slot few =
    sym (untagged time seats (without_slot slot mask) slot (not_asking (slot_asks (without_slot slot mask) slot)
    (λ on. silent_without mask slot few (eqb-true (bit_at (without_slot slot mask) slot) 1 on))))

-- ---- after a tick, and after many

-- who is served is the first of the queue where no turn goes on
begins_first : (on : Bool) (time mask slot : ℕ) (seats : List (Option FairSeat)) (turn : Turn)
    → goes_on_by mask turn ≡ on → choice_of turn time seats mask ≡ Some slot → on ≡ false
    → first_of time seats mask ≡ Some slot
begins_first on time mask slot seats turn is chosen off =
    ap (λ on. if on then Some turn.slot else first_of time seats mask) (sym (is ∙ off)) ∙ chosen

served_turned : (keys : List (Option ℕ)) (on : Bool) (time later : ℕ) (seats after : List (Option FairSeat)) (mask : ℕ)
    (turn : Turn) (served choice : Option ℕ) → mask < 2 ^ 32 → IsQueue keys time seats mask
    → choice ≡ choice_of turn time seats mask
    → goes_on_by mask turn ≡ on → ((slot : ℕ) → served ≡ Some slot → choice ≡ Some slot)
    → ((slot : ℕ) → choice ≡ Some slot → SlotAsks mask slot) → later ≡ time_after on time seats served
    → after ≡ seats_after time seats served → IsQueue (placed keys served later after mask) later after mask
served_turned keys on time later seats after mask turn None choice width q chosen goes serves asks is_later is_after =
    rw (is_later, is_after) q
served_turned keys on time later seats after mask turn (Some slot) choice width q chosen goes serves asks is_later
    is_after =
    let picked = serves slot refl in
    let few = within_width mask slot width (asks slot picked) in
    queue_placed keys time later seats after mask mask slot (tag_asking later after mask slot) q few refl
    (λ other lt away.
    others_turned on time mask slot other seats (served_seat time (get_or seats slot None))
    (begins_first on time mask slot seats turn goes (sym chosen ∙ picked)) lt away
    ∙ ap₂ (λ l s. tag_asking l s mask other) (sym is_later) (sym is_after))

pub queue_turned : (s t : Seen) (keys new : List (Option ℕ)) (on : Bool) (time later : ℕ)
    (seats after : List (Option FairSeat)) (mask : ℕ) (turn : Turn) (served choice : Option ℕ) → IsSound kinds.Sfq s
    → IsQueue keys time seats s.mask → IsRight s choice → choice ≡ choice_of turn time seats s.mask
    → on ≡ goes_on_by mask turn
    → served ≡ (tick_row s.mask s.grant choice).to → later ≡ time_after on time seats served
    → after ≡ seats_after time seats served → t ≡ turned choice s → mask ≡ s.mask
    → new ≡ placed keys served later after mask → IsQueue new later after t.mask
queue_turned s t keys new on time later seats after mask turn served choice sound q right chosen goes to is_later
    is_after is same placed_is =
    let kept : t.mask ≡ s.mask = ap (λ (s : Seen). s.mask) is in
    rw (placed_is, same, kept) (served_turned keys on time later seats after s.mask turn served choice sound.width q
    chosen (ap (λ m. goes_on_by m turn) (sym same) ∙ sym goes)
    (λ slot serves. row_serves s.mask s.grant choice slot (sym to ∙ serves))
    (λ slot picked. right_asks s choice slot right picked) is_later is_after)

-- after many ticks, where the tags of the slots that were not served are as before
served_leapt : (keys : List (Option ℕ)) (time later n : ℕ) (seats after : List (Option FairSeat)) (mask : ℕ)
    (served : Option ℕ) → IsQueue keys time seats mask → IfSome served (λ slot. slot < 32)
    → ((slot : ℕ) → served ≡ Some slot → (other : ℕ) → other < 32 → other ≢ slot
    → tag_asking time seats mask other ≡ tag_asking later after mask other)
    → (served ≡ None → later ≡ time) → (served ≡ None → after ≡ seats)
    → IsQueue (placed keys served later after mask) later after mask
served_leapt keys time later n seats after mask None q within others idle_time idle_seats =
    rw (idle_time refl, idle_seats refl) q
served_leapt keys time later n seats after mask (Some slot) q within others idle_time idle_seats =
    queue_placed keys time later seats after mask mask slot (tag_asking later after mask slot) q within refl
    (others slot refl)

pub queue_leapt : (s t : Seen) (keys new : List (Option ℕ)) (quantum time later n : ℕ)
    (seats after : List (Option FairSeat)) (mask : ℕ) (turn : Turn) (served choice : Option ℕ)
    → IsQueue keys time seats s.mask → IfSome served (λ slot. slot < 32)
    → served ≡ (tick_row s.mask s.grant choice).to
    → ((slot : ℕ) → (tick_row s.mask s.grant choice).to ≡ Some slot → (other : ℕ) → other < 32 → other ≢ slot
    → tag_asking time seats s.mask other ≡ tag_asking later after s.mask other)
    → later ≡ time_leapt quantum turn time seats served n → after ≡ seats_leapt time seats served n
    → t ≡ leapt n choice s → mask ≡ s.mask → new ≡ placed keys served later after mask
    → IsQueue new later after t.mask
queue_leapt s t keys new quantum time later n seats after mask turn served choice q within to others is_later is_after
    is same placed_is =
    let kept : t.mask ≡ s.mask = ap (λ (s : Seen). s.mask) is in
    rw (placed_is, same, kept) (served_leapt keys time later n seats after s.mask served q within
    (λ slot serves. others slot (sym to ∙ serves))
    (λ none. is_later ∙ ap (λ served. time_leapt quantum turn time seats served n) none)
    (λ none. is_after ∙ ap (λ served. seats_leapt time seats served n) none))

-- ---- and the queue that is lent

asked_tag : (asks : Bool) (time : ℕ) (seat : Option FairSeat) (start : ℕ)
    → (asks ≡ true → (if asks then tag_of time seat else None) ≡ Some start)
    → (if asks then tag_of time seat else None) ≡ (if asks then Some start else None)
asked_tag true time seat start is = is refl
asked_tag false time seat start is = refl

pub queue_lent : (s : Seen) (keys : List (Option ℕ)) (time : ℕ) (seats : List (Option FairSeat)) → IsSound kinds.Sfq s
    → IsConfigured s → KeepsTags (quantum_of (config_of s)) s.book time seats → IsQueue keys time seats s.mask
    → QueuesTags (quantum_of (config_of s)) s.book s.mask keys
queue_lent s keys time seats sound configured held q slot lt =
    let quantum_is = calls.quantum_is s time seats sound held configured in
    q.tags slot lt
    ∙ asked_tag (slot_asks s.mask slot) time (get_or seats slot None)
    (start_tag (quantum_of (config_of s)) s.book (now_of s.book) slot)
    (λ on. asks_tag (calls.sharing s time seats sound held configured) s.book time seats
    (calls.made s time seats sound held configured) (calls.keeps s time seats sound held configured) s.mask slot lt
    (sound.seated slot (eqb-true (bit_at s.mask slot) 1 on)) on
    ∙ ap (λ quantum. Some (start_tag quantum s.book (now_of s.book) slot)) (sym quantum_is))

-- ---- for how many ticks the share goes on, by the queue

pub rest_by_queue : (keys : List (Option ℕ)) (quantum : ℕ) (turn : Turn) (time : ℕ) (seats : List (Option FairSeat))
    (mask now slot tag step ticks left end rest : ℕ) → IsQueue keys time seats mask → turn.ticks < quantum → now ≡ mask
    → (without_slot slot now == 0) ≡ false → tag ≡ start_or time (get_or seats slot None)
    → step ≡ step_of (get_or seats slot None) → ticks ≡ max 1 (to_rivals (key_of keys) slot tag step 32)
    → left ≡ left_by quantum turn slot → end ≡ turn_end quantum left ticks → rest ≡ min end always
    → rest ≡ rest_in quantum turn time seats mask slot
rest_by_queue keys quantum turn time seats mask now slot tag step ticks left end rest q few same others tag_is step_is
    ticks_is left_is end_is rest_is =
    let had = had_few quantum turn slot few in
    let some : 0 < left = omega (arith, left_is, had) in
    let ends : end ≡ turn_end quantum left (to_rivals (tag_asking time seats mask) slot tag step 32) =
    end_is ∙ ap (turn_end quantum left) ticks_is
    ∙ ends_same quantum left (to_rivals (key_of keys) slot tag step 32) some
    ∙ ap (turn_end quantum left) (rivals_same (key_of keys) (tag_asking time seats mask) slot tag step 32 q.tags) in
    let all : rest ≡ min always (turn_end quantum left (to_rivals (tag_asking time seats mask) slot tag step 32)) =
    omega (arith, rest_is, ends) in
    all
    ∙ rw (left_is, tag_is, step_is) refl
    ∙ ap (λ alone. if alone then always else min always (turn_end quantum (left_by quantum turn slot)
    (to_rivals (tag_asking time seats mask) slot (start_or time (get_or seats slot None))
    (step_of (get_or seats slot None)) 32))) (sym (ap (λ m. without_slot slot m == 0) (sym same) ∙ others))

-- the same where one of the others is before it at the end of its turn
pub rest_by_rival : (keys : List (Option ℕ)) (quantum : ℕ) (turn : Turn) (time : ℕ) (seats : List (Option FairSeat))
    (mask now slot tag step left : ℕ) → IsQueue keys time seats mask → turn.ticks < quantum → quantum ≤ 100
    → now ≡ mask → (without_slot slot now == 0) ≡ false → tag ≡ start_or time (get_or seats slot None)
    → step ≡ step_of (get_or seats slot None) → left ≡ left_by quantum turn slot
    → to_rivals (key_of keys) slot tag step 32 ≤ left → left ≡ rest_in quantum turn time seats mask slot
rest_by_rival keys quantum turn time seats mask now slot tag step left q few most same others tag_is step_is left_is
    passed =
    let had = had_few quantum turn slot few in
    let some : 0 < left = omega (arith, left_is, had) in
    let ticks = max 1 (to_rivals (key_of keys) slot tag step 32) in
    let ends = ends_now quantum left ticks (omega (arith, few)) (omega (arith, some, passed)) in
    rest_by_queue keys quantum turn time seats mask now slot tag step ticks left (turn_end quantum left ticks) left q
    few same others tag_is step_is refl left_is refl (omega (arith, ends, left_is, most))

-- the seats stay as many
pub length_after : (time : ℕ) (seats : List (Option FairSeat)) (slot : Option ℕ)
    → length (seats_after time seats slot) ≡ length seats
length_after time seats None = refl
length_after time seats (Some slot) = length-set seats slot (served_seat time (get_or seats slot None))

pub length_leapt : (time : ℕ) (seats : List (Option FairSeat)) (slot : Option ℕ) (n : ℕ)
    → length (seats_leapt time seats slot n) ≡ length seats
length_leapt time seats None n = refl
length_leapt time seats (Some slot) n = length-set seats slot (leapt_seat time n (get_or seats slot None))
