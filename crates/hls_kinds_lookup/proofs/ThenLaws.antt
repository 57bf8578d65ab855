-- The turn in a book as it stood before a tick, by the rows of the book.
use Rattle.std.proofs.Common.{◌≡◌, ℕ, ◌+◌, ◌-◌, ◌<◌, ◌≤◌, Option, Some, None, length, min, refl, sym, ap, ◌∙◌}
use Rattle.std.proofs.Common.{arith, inl, inr, Bool, true, false, zero, suc, fold, filter, List, [], ◌∷◌}
use Rattle.std.specs.Prelude.{is_some, nat_le, if◌then◌else◌}
use Rattle.std.proofs.lemmas.Bool.{cases_lt, lt-ltb, le-ltb}
use Rattle.std.proofs.lemmas.List.{length-take, get_or-take}
use Rattle.hls_chron.specs.declared.book.TickRow.{TickRow}
use Rattle.hls_chron.specs.declared.book.Mark.{Mark}
use Rattle.hls_chron.specs.Ledger.{Ledger, no_row, now_of, before, row_at}
use Rattle.hls_chron.specs.Seats.{asked, served}
use Rattle.hls_chron.specs.Ticks.{count}
use Rattle.hls_chron.proofs.CountLaws.{count-agree}
use Rattle.hls_kinds.specs.Ticks.{last_of, next_or, after_last}
use Rattle.hls_kinds.specs.Tenants.{settled_after, settled_at, left_at}
use Rattle.hls_kinds.specs.Turns.{slot_served, slot_or_last, turn_slot, breaks_turn, turn_ticks}
use Rattle.hls_kinds.proofs.TagLaws.{last-within}

-- the last settling, one mark at a time
settle_one : (t : ℕ) (kept : Bool) (m : Mark) (rest : List Mark) (last : ℕ)
    → fold (λ last (m : Mark). settled_after m.tick last m.event) last (if kept then m ∷ rest else rest)
    ≡ fold (λ last (m : Mark). settled_after m.tick last m.event)
    (if kept then settled_after m.tick last m.event else last) rest
settle_one t true m rest last = refl
settle_one t false m rest last = refl

settle_each : (t : ℕ) (marks : List Mark) (last : ℕ)
    → fold (λ last (m : Mark). settled_after m.tick last m.event) last (filter (λ m. nat_le m.tick t) marks)
    ≡ fold (λ last (m : Mark). if nat_le m.tick t then settled_after m.tick last m.event else last) last marks
settle_each t [] last = refl
settle_each t (m ∷ marks) last =
    settle_one t (nat_le m.tick t) m (filter (λ m. nat_le m.tick t) marks) last
    ∙ settle_each t marks (if nat_le m.tick t then settled_after m.tick last m.event else last)

pub settled_fold : (t : ℕ) (b : Ledger) → settled_at (before t b)
    ≡ fold (λ last (m : Mark). if nat_le m.tick t then settled_after m.tick last m.event else last) b.start b.marks
unfolding settled_at before
settled_fold t b = settle_each t b.marks b.start

pub now-then : (t : ℕ) (b : Ledger) → now_of (before t b) ≡ b.start + min (t - b.start) (length b.rows)
unfolding before
now-then t b = ap (λ (n : ℕ). b.start + n) (length-take (t - b.start) b.rows)

-- its rows are those of the book
row_then : (t : ℕ) (b : Ledger) (z : ℕ) → z < now_of (before t b) → row_at (before t b) z ≡ row_at b z
unfolding row_at before
row_then t b z lt = elim (cases_lt z b.start) [
  | inl early ↦ rw (lt-ltb z b.start early) refl
  | inr late ↦
      let within = length-take (t - b.start) b.rows in
      rw (le-ltb z b.start late)
      (get_or-take (t - b.start) b.rows (z - b.start) no_row (omega (arith, lt, late, within)))
]

last-agree : (f g : ℕ → Bool) (i n : ℕ) → ((t : ℕ) → i ≤ t → t < i + n → f t ≡ g t)
    → last_of f i n ≡ last_of g i n
unfolding last_of
last-agree f g i zero same = refl
last-agree f g i (suc n) same =
    rw (
      same (i + n) (omega arith) (omega arith),
      last-agree f g i n (λ t from to. same t from (omega (arith, to))),
    ) refl

slot_same : (t : ℕ) (b : Ledger) (last : Option ℕ) → ((z : ℕ) → last ≡ Some z → z < now_of (before t b))
    → slot_served (before t b) last ≡ slot_served b last
slot_same t b None within = refl
slot_same t b (Some z) within = ap (λ (r : TickRow). r.to) (row_then t b z (within z refl))

pub slot-then : (t : ℕ) (b : Ledger) (since now : ℕ) → since ≡ settled_at (before t b) → now ≡ now_of (before t b)
    → slot_or_last (slot_served b (last_of (λ z. is_some (row_at b z).to) since (now - since)))
    ≡ turn_slot (before t b)
slot-then t b since now is_since is_now = rw (is_since, is_now) (
    let own : ℕ → Bool = λ z. is_some (row_at (before t b) z).to in
    let all : ℕ → Bool = λ z. is_some (row_at b z).to in
    let from = settled_at (before t b) in
    let same = last-agree own all from (now_of (before t b) - from)
    (λ z lo hi. ap (λ (r : TickRow). is_some r.to) (row_then t b z (omega (arith, lo, hi)))) in
    ap slot_or_last (sym (slot_same t b (last_of all from (now_of (before t b) - from))
    (λ z is. let within = last-within all from (now_of (before t b) - from) z is in omega (arith, within.0, within.1)))
    ∙ ap (slot_served (before t b)) (sym same)))

breaks_then : (t : ℕ) (b : Ledger) (slot z : ℕ) → z < now_of (before t b)
    → breaks_turn (before t b) slot z ≡ breaks_turn b slot z
unfolding asked served
breaks_then t b slot z lt = rw (row_then t b z lt) refl

served_then : (t : ℕ) (b : Ledger) (slot z : ℕ) → z < now_of (before t b)
    → served (before t b) slot z ≡ served b slot z
unfolding served
served_then t b slot z lt = rw (row_then t b z lt) refl

pub ticks-then : (t : ℕ) (b : Ledger) (slot since now : ℕ) → since ≡ left_at (before t b) slot
    → now ≡ now_of (before t b)
    → count (served b slot) (after_last (breaks_turn b slot) since (now - since))
    (now - after_last (breaks_turn b slot) since (now - since)) ≡ turn_ticks (before t b) slot
ticks-then t b slot since now is_since is_now = rw (is_since, is_now) (
    let from = left_at (before t b) slot in
    let until = now_of (before t b) in
    let same : after_last (breaks_turn (before t b) slot) from (until - from)
    ≡ after_last (breaks_turn b slot) from (until - from) =
    ap (next_or from) (last-agree (breaks_turn (before t b) slot) (breaks_turn b slot) from (until - from)
    (λ z lo hi. breaks_then t b slot z (omega (arith, lo, hi)))) in
    let begin = after_last (breaks_turn b slot) from (until - from) in
    sym (ap (λ (n : ℕ). count (served (before t b) slot) n (until - n)) same
    ∙ count-agree (served (before t b) slot) (served b slot) begin (until - begin)
    (λ z lo hi. served_then t b slot z (omega (arith, lo, hi)))))
