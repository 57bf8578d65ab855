-- The virtual time and the finish tags of the present tick, after a row and after a mark.
use Rattle.std.proofs.Common.{◌≡◌, ℕ, ◌+◌, ◌*◌, ◌<◌, suc, refl, sym, arith, ap, ◌∙◌, []}
use Rattle.std.proofs.Common.{Some, None}
use Rattle.std.proofs.Common.{true, false, length, add-one}
use Rattle.hls_chron.specs.declared.book.TickRow.{TickRow}
use Rattle.hls_chron.specs.declared.book.Event.{Event}
use Rattle.hls_chron.specs.declared.plain.Sharing.{Sharing}
use Rattle.hls_chron.specs.Ledger.{Ledger, now_of, with_row, with_mark, row_at, before}
use Rattle.hls_chron.specs.Seats.{asked, served, is_slot}
use Rattle.hls_chron.proofs.BookLaws.{now_of-row, row_at-mark, row_at-now, before-mark}
use Rattle.hls_kinds.specs.Tenants.{tenant_then, settled_at, left_at}
use Rattle.hls_kinds.specs.Turns.{turn_goes_on}
use Rattle.hls_kinds.proofs.Rooms.{roomless, before-last}
use Rattle.hls_kinds.specs.Tags.{tag_step, share_in, finish_by, start_tag}
use Rattle.hls_kinds.proofs.TagLaws.{since-then}
use Rattle.hls_book.specs.ShareBook.{KeepsShareBook}
use Rattle.hls_book.proofs.ShareAgree.{SameRows, SameUpTo, start_tag-same, time-same, finish-same}
use Rattle.hls_book.proofs.Nexts.{v_of, share_at, f_of, v-first, v-none, v-on, v-begun, f-fresh}
use Rattle.hls_book.proofs.Nexts.{f-served, f-unserved}
use Rattle.hls_book.proofs.ShareKeeping.{then_row, then_late, same_row, past_mark}

-- a book in which nothing is written
pub time-unwritten : (Q : ℕ) (b : Ledger) → b.rows ≡ [] → v_of Q b (now_of b) ≡ 0
time-unwritten Q b unwritten =
    let none : length b.rows ≡ 0 = ap length unwritten in
    let here : now_of b ≡ b.start = omega (arith, none) in ap (v_of Q b) here ∙ v-first Q b

-- books that say the same up to a tick have the same virtual time and finish tags in it
time_up_to : (Q : ℕ) (a b : Ledger) (t : ℕ) → SameUpTo a b t → v_of Q a t ≡ v_of Q b t
time_up_to Q a b t same =
    time-same Q a b (start_tag Q a) (start_tag Q b) t t same.before (omega arith)
    (λ z slot lt. start_tag-same Q a b t z slot same (omega (arith, lt)))

finish_up_to : (Q : ℕ) (a b : Ledger) (t slot : ℕ) → SameUpTo a b t → f_of Q a t slot ≡ f_of Q b t slot
finish_up_to Q a b t slot same =
    ap (λ tenant. finish_by Q a (start_tag Q a) (share_in tenant) slot t) (same.tenants t slot (omega arith))
    ∙ finish-same Q a b (start_tag Q a) (start_tag Q b) t t (share_at b t slot) slot same.before
    (since-then b slot t) (omega arith) (λ z k lt. start_tag-same Q a b t z k same (omega (arith, lt)))

served_by : (b : Ledger) (slot t : ℕ) → served b slot t ≡ is_slot (row_at b t).to slot
unfolding served
served_by b slot t = refl

goes_room : (Q : ℕ) (b : Ledger) (mask : ℕ) → turn_goes_on Q (roomless b) mask ≡ turn_goes_on Q b mask
unfolding asked served row_at settled_at left_at
goes_room Q b mask = refl

module _ (sharing : Sharing) (b : Ledger) (row : TickRow) (kept : KeepsShareBook sharing b) where
  abbrev Q : ℕ
  Q = sharing.quantum

  next_now : now_of (with_row b row) ≡ suc (now_of b)
  next_now = now_of-row b row ∙ add-one (now_of b)

  row_to : (row_at (with_row b row) (now_of b)).to ≡ row.to
  row_to = ap (λ (r : TickRow). r.to) (row_at-now b row)

  pub time-idle : row.to ≡ None → v_of Q (with_row b row) (now_of (with_row b row)) ≡ v_of Q b (now_of b)
  time-idle none =
      ap (v_of Q (with_row b row)) next_now
      ∙ v-none Q (with_row b row) (now_of b) (omega arith) (row_to ∙ none)
      ∙ time_up_to Q (with_row b row) b (now_of b) (same_row sharing b row kept)

  -- whether a turn goes on in the row
  row_goes : turn_goes_on Q (before (now_of b) (with_row b row)) (row_at (with_row b row) (now_of b)).mask
      ≡ turn_goes_on Q b row.mask
  row_goes =
      ap (λ (m : Ledger). turn_goes_on Q m (row_at (with_row b row) (now_of b)).mask)
      (before-last b row kept.admission.dated)
      ∙ ap (λ (r : TickRow). turn_goes_on Q (roomless b) r.mask) (row_at-now b row) ∙ goes_room Q b row.mask

  pub time-on : turn_goes_on Q b row.mask ≡ true
      → v_of Q (with_row b row) (now_of (with_row b row)) ≡ v_of Q b (now_of b)
  time-on on =
      ap (v_of Q (with_row b row)) next_now
      ∙ v-on Q (with_row b row) (now_of b) (omega arith) (row_goes ∙ on)
      ∙ time_up_to Q (with_row b row) b (now_of b) (same_row sharing b row kept)

  pub time-begins : (k : ℕ) → row.to ≡ Some k → turn_goes_on Q b row.mask ≡ false
      → v_of Q (with_row b row) (now_of (with_row b row)) ≡ start_tag Q b (now_of b) k
  time-begins k is off =
      ap (v_of Q (with_row b row)) next_now
      ∙ v-begun Q (with_row b row) (now_of b) k (omega arith) (row_to ∙ is) (row_goes ∙ off)
      ∙ start_tag-same Q (with_row b row) b (now_of b) (now_of b) k (same_row sharing b row kept) (omega arith)

  -- who sits goes on to sit
  sits_on_row : (slot : ℕ) → share_at (with_row b row) (suc (now_of b)) slot
      ≡ share_at (with_row b row) (now_of b) slot
  sits_on_row slot =
      ap share_in (then_row b row slot (suc (now_of b))
      ∙ ap (tenant_then b slot) (sym (add-one (now_of b))) ∙ then_late sharing b row kept slot
      ∙ sym (then_row b row slot (now_of b)))

  pub finish-unserved : (slot : ℕ) → is_slot row.to slot ≡ false
      → f_of Q (with_row b row) (now_of (with_row b row)) slot ≡ f_of Q b (now_of b) slot
  finish-unserved slot other =
      let miss : served (with_row b row) slot (now_of b) ≡ false =
      served_by (with_row b row) slot (now_of b) ∙ ap (λ to. is_slot to slot) row_to ∙ other in
      ap (λ t. f_of Q (with_row b row) t slot) next_now
      ∙ f-unserved Q (with_row b row) (now_of b) slot (sits_on_row slot) miss
      ∙ finish_up_to Q (with_row b row) b (now_of b) slot (same_row sharing b row kept)

  pub finish-served : (slot : ℕ) → is_slot row.to slot ≡ true
      → f_of Q (with_row b row) (now_of (with_row b row)) slot
      ≡ start_tag Q b (now_of b) slot + tag_step (share_at b (now_of b) slot).weight
  finish-served slot here =
      let hit : served (with_row b row) slot (now_of b) ≡ true =
      served_by (with_row b row) slot (now_of b) ∙ ap (λ to. is_slot to slot) row_to ∙ here in
      ap (λ t. f_of Q (with_row b row) t slot) next_now
      ∙ f-served Q (with_row b row) (now_of b) slot (sits_on_row slot) hit
      ∙ ap (λ s. s + tag_step (share_at (with_row b row) (now_of b) slot).weight)
      (start_tag-same Q (with_row b row) b (now_of b) (now_of b) slot (same_row sharing b row kept) (omega arith))
      ∙ ap (λ tenant. start_tag Q b (now_of b) slot + tag_step (share_in tenant).weight)
      (then_row b row slot (now_of b))

-- a mark of the present tick
module _ (sharing : Sharing) (b : Ledger) (event : Event) (kept : KeepsShareBook sharing b) where
  rows_mark : SameRows (with_mark b event) b (now_of b)
  rows_mark = record {
    start = refl;
    rows = λ z lt. row_at-mark b event z;
    befores = λ z lt. before-mark b event z lt;
  }

  tags_mark : (z slot : ℕ) → z < now_of b → start_tag sharing.quantum (with_mark b event) z slot
      ≡ start_tag sharing.quantum b z slot
  tags_mark z slot lt = start_tag-same sharing.quantum (with_mark b event) b z z slot (record {
    before = record {
      start = refl;
      rows = λ u below. row_at-mark b event u;
      befores = λ u below. before-mark b event u (omega (arith, lt, below));
    };
    tenants = λ u k le. past_mark sharing b event kept k u (omega (arith, le, lt));
  }) (omega arith)

  pub time-mark : v_of sharing.quantum (with_mark b event) (now_of b) ≡ v_of sharing.quantum b (now_of b)
  time-mark = time-same sharing.quantum (with_mark b event) b (start_tag sharing.quantum (with_mark b event))
      (start_tag sharing.quantum b) (now_of b)
      (now_of b)
      rows_mark (omega arith) tags_mark

  -- of a seat that goes on to sit
  pub finish-stays : (slot : ℕ) → share_at (with_mark b event) (now_of b) slot ≡ share_at b (now_of b) slot
      → f_of sharing.quantum (with_mark b event) (now_of b) slot ≡ f_of sharing.quantum b (now_of b) slot
  finish-stays slot same =
      ap (λ share. finish_by sharing.quantum (with_mark b event) (start_tag sharing.quantum (with_mark b event)) share
      slot (now_of b)) same
      ∙ finish-same sharing.quantum (with_mark b event) b (start_tag sharing.quantum (with_mark b event))
      (start_tag sharing.quantum b) (now_of b) (now_of b)
      (share_at b (now_of b) slot) slot rows_mark (since-then b slot (now_of b)) (omega arith) tags_mark

  -- of a seat that is seated or settled
  pub finish-begins : (slot : ℕ) → (share_at (with_mark b event) (now_of b) slot).since ≡ now_of b
      → f_of sharing.quantum (with_mark b event) (now_of b) slot
      ≡ v_of sharing.quantum b (now_of b) + sharing.quantum * tag_step
      (share_at (with_mark b event) (now_of b) slot).weight
  finish-begins slot new =
      f-fresh sharing.quantum (with_mark b event) (now_of b) slot new
      ∙ ap (λ v. v + sharing.quantum * tag_step (share_at (with_mark b event) (now_of b) slot).weight) time-mark
