-- What a book of fair queueing keeps: start tags near the virtual time, the shares of seats, and its promise.
use Rattle.std.proofs.Common.{◌≡◌, ◌≢◌, ℕ, ◌+◌, ◌*◌, ◌-◌, ◌<◌, ◌≤◌, suc, zero, refl, sym, arith, ap, ◌∙◌, inl}
use Rattle.std.proofs.Common.{inr, subst}
use Rattle.std.proofs.Common.{true, false, add-one}
use Rattle.std.proofs.lemmas.Bool.{cases_lt, lt-ltb}
use Rattle.std.proofs.lemmas.Nat.Bits.{bit_at-zero}
use Rattle.hls_chron.specs.declared.plain.Terms.{Terms}
use Rattle.hls_chron.specs.declared.plain.Terms.TheVariants as terms
use Rattle.hls_chron.specs.declared.plain.Sharing.{Sharing}
use Rattle.hls_chron.specs.Ledger.{Ledger, no_row, now_of, row_at}
use Rattle.hls_chron.specs.Seats.{asked, served}
use Rattle.hls_chron.specs.Ticks.{count}
use Rattle.hls_kinds.specs.declared.tenant.Tenant.TheVariants.{Sits}
use Rattle.hls_kinds.specs.Tenants.{tenant_then}
use Rattle.hls_kinds.specs.Tags.{unit_tag, tag_step, share_in, time_by, start_tag}
use Rattle.hls_kinds.specs.Shares.{KeepsSharesByWeight}
use Rattle.hls_book.specs.ShareBook.{KeepsSittings, KeepsShareBook}
use Rattle.hls_book.proofs.Windows.{given_in, served_in, Passes, AsksOn}
use Rattle.hls_book.proofs.Nexts.{v_of, share_at, f_of}
use Rattle.hls_book.proofs.Rooms.{slot-at, taken-at}
use Rattle.hls_book.proofs.Follows.{tags_of, clock_of, asks_of, to_of, At, tag-taken, room-of, serves-at}
use Rattle.hls_book.proofs.Follows.{v-next, some_quantum}
use Rattle.hls_book.proofs.Follows.{tag-stays, churn-at, at-all}
use Rattle.hls_book.proofs.Shares.{differ}
use Rattle.hls_book.proofs.Spans.{share}

-- nobody asks before the start
row_early : (b : Ledger) (t : ℕ) → t < b.start → row_at b t ≡ no_row
unfolding row_at
row_early b t early = rw (lt-ltb t b.start early) refl

asked_early : (b : Ledger) (slot t : ℕ) → t < b.start → asked b slot t ≡ false
unfolding asked
asked_early b slot t early = rw (row_early b t early, bit_at-zero slot) refl

pub asked-started : (b : Ledger) (slot t : ℕ) → asked b slot t ≡ true → b.start ≤ t
asked-started b slot t asks = elim (cases_lt t b.start) [
  | inl early ↦ absurd (let off = asked_early b slot t early in let clash : true ≡ false =
      sym asks ∙ off in cc)
  | inr late ↦ late
]

-- who sits since an earlier tick sat in it
pub sat-since : (b : Ledger) (slot since t m : ℕ) (terms : Terms) → KeepsSittings b → t + m ≤ now_of b
    → since ≤ t
    → tenant_then b slot (t + m) ≡ Sits terms since → tenant_then b slot t ≡ Sits terms since
sat-since b slot since t zero terms kept le early sits =
    let e : t ≡ t + 0 = omega arith in ap (tenant_then b slot) e ∙ sits
sat-since b slot since t (suc m) terms kept le early sits =
    let e : (t + m) + 1 ≡ t + suc m = omega arith in
    let old : since ≢ (t + m) + 1 = λ new. omega (arith, new, early) in
    sat-since b slot since t m terms kept (omega (arith, le)) early
    (kept.next (t + m) slot since terms (omega (arith, le)) (ap (tenant_then b slot) e ∙ sits) old)

pub sat-at : (b : Ledger) (slot since t last : ℕ) (terms : Terms) → KeepsSittings b → t ≤ last
    → last ≤ now_of b
    → since ≤ t → tenant_then b slot last ≡ Sits terms since → tenant_then b slot t ≡ Sits terms since
sat-at b slot since t last terms kept le within early sits =
    let e : t + (last - t) ≡ last = omega (arith, le) in
    sat-since b slot since t (last - t) terms kept (omega (arith, e, within)) early
    (ap (tenant_then b slot) e ∙ sits)

module _ (sharing : Sharing) (b : Ledger) (kept : KeepsShareBook sharing b) where
  abbrev T : ℕ
  T = sharing.total

  abbrev M : ℕ
  M = sharing.most

  abbrev Q : ℕ
  Q = sharing.quantum

  all_at : (t : ℕ) → b.start ≤ t → t ≤ now_of b → At Q b t
  all_at t lo le = at-all sharing b kept t lo le

  -- the start tag of a seat is near the virtual time
  pub near-time : (slot since weight t : ℕ) → b.start ≤ t → t ≤ now_of b
      → tenant_then b slot t ≡ Sits (terms.Weight weight) since → 0 < weight
      → (time_by Q b (start_tag Q b) t ≤ start_tag Q b t slot)
      × (start_tag Q b t slot ≤ time_by Q b (start_tag Q b) t + Q * tag_step weight)
  near-time slot since weight t lo le sits heavy =
      let here = all_at t lo le in
      let w : (share_at b t slot).weight ≡ weight = ap (λ tenant. (share_in tenant).weight) sits in
      let some : 0 < (share_at b t slot).weight = omega (arith, w, heavy) in
      let below : slot < 32 = (
      let lt_most = slot-at sharing b kept t slot le some in omega (arith, lt_most, kept.range.1.1)) in
      let start = here.start slot some in
      let near : (tags_of Q b t slot).f ≤ v_of Q b t + Q * (tags_of Q b t slot).step = here.kept.near slot below in
      let f = tag-taken (share_at b t slot) (f_of Q b t slot) some in
      let step : Q * tag_step (share_at b t slot).weight ≡ Q * tag_step weight = ap (λ n. Q * tag_step n) w in
      (omega (arith, start), omega (arith, start, near, f, step))

  passes : (from until : ℕ) → b.start ≤ from → until ≤ now_of b
      → Passes Q unit_tag T M 32 from until (clock_of Q b) (tags_of Q b) (asks_of b) (to_of b)
  passes from until lo le = record {
    kept = λ t ge lt. (all_at t (omega (arith, lo, ge)) (omega (arith, lt, le))).kept;
    fits = λ t ge lt. room-of sharing b kept t (omega (arith, lt, le));
    serves = λ t k ge lt is. serves-at sharing b kept t k (omega (arith, lo, ge)) (omega (arith, lt, le))
        (all_at t (omega (arith, lo, ge)) (omega (arith, lt, le))) is;
    taken = λ t k ge lt below asks. taken-at sharing b kept t k (omega (arith, lt, le)) asks;
    v = λ t ge lt. v-next sharing b kept t (omega (arith, lo, ge)) (omega (arith, lt, le))
        (all_at t (omega (arith, lo, ge)) (omega (arith, lt, le)));
    churn = λ t ge lt. churn-at sharing b kept t (omega (arith, lo, ge)) (omega (arith, lt, le))
        (all_at t (omega (arith, lo, ge)) (omega (arith, lt, le)));
  }

  asks_on : (slot since weight from len : ℕ) → b.start ≤ from → from + suc len ≤ now_of b → since ≤ from
      → tenant_then b slot (from + len) ≡ Sits (terms.Weight weight) since
      → ((t : ℕ) → from ≤ t → t < from + suc len → asked b slot t ≡ true)
      → AsksOn from (from + suc len) slot (clock_of Q b) (tags_of Q b) (asks_of b) (to_of b)
  asks_on slot since weight from len lo le early sits on = record {
    ready = λ t ge lt. on t ge lt;
    stays = λ t ge lt.
        let later = sat-at b slot since (suc t) (from + len) (terms.Weight weight) kept.sittings
        (omega (arith, lt))
        (omega (arith, le)) (omega (arith, ge, early)) sits in
        let now = sat-at b slot since t (from + len) (terms.Weight weight) kept.sittings (omega (arith, lt))
        (omega (arith, le)) (omega (arith, ge, early)) sits in
        tag-stays sharing b kept t slot (omega (arith, lo, ge)) (omega (arith, lt, le))
        (all_at t (omega (arith, lo, ge)) (omega (arith, lt, le))) (ap share_in (later ∙ sym now));
  }

  weight_of : (slot since weight from len : ℕ) → from + suc len ≤ now_of b → since ≤ from
      → tenant_then b slot (from + len) ≡ Sits (terms.Weight weight) since → (tags_of Q b from slot).w ≡ weight
  weight_of slot since weight from len le early sits =
      ap (λ tenant. (share_in tenant).weight) (sat-at b slot since from (from + len) (terms.Weight weight)
      kept.sittings (omega arith) (omega (arith, le)) early sits)

  slot_below : (slot since weight from len : ℕ) → from + suc len ≤ now_of b → since ≤ from
      → tenant_then b slot (from + len) ≡ Sits (terms.Weight weight) since → asked b slot from ≡ true
      → slot < 32
  slot_below slot since weight from len le early sits asks =
      let some = taken-at sharing b kept from slot (omega (arith, le)) asks in
      let lt = slot-at sharing b kept from slot (omega (arith, le)) some in
      omega (arith, lt, kept.range.1.1)

  -- the share of a seat in a run of ticks in which it asks, of what is given to the scheduler
  pub has-share : (slot since weight from len : ℕ) → from + suc len ≤ now_of b → since ≤ from
      → tenant_then b slot (from + len) ≡ Sits (terms.Weight weight) since
      → ((t : ℕ) → from ≤ t → t < from + suc len → asked b slot t ≡ true)
      → weight * given_in (to_of b) from (suc len)
      ≤ T * served_in (to_of b) slot from (suc len) + (T - weight) * Q + weight * ((M - 1) * Q)
  has-share slot since weight from len le early sits on =
      let asks = on from (omega arith) (omega arith) in
      let lo = asked-started b slot from asks in
      let w = weight_of slot since weight from len le early sits in
      let h = share Q unit_tag T M 32 slot from len (clock_of Q b) (tags_of Q b) (asks_of b) (to_of b)
      (some_quantum sharing b kept)
      (omega arith) (slot_below slot since weight from len le early sits asks)
      (passes from (from + suc len) lo le) (asks_on slot since weight from len lo le early sits on) in
      subst (λ n. n * given_in (to_of b) from (suc len)
      ≤ T * served_in (to_of b) slot from (suc len) + (T - n) * Q + n * ((M - 1) * Q)) w h

  served_count : (slot from n : ℕ) → count (served b slot) from n ≡ served_in (to_of b) slot from n
  unfolding served
  served_count slot from n = refl

  -- two seats that ask side by side
  differ_by : (i n slot other weight rival since since' : ℕ) → i + suc n ≤ now_of b → since ≤ i → since' ≤ i
      → tenant_then b slot (i + n) ≡ Sits (terms.Weight weight) since
      → tenant_then b other (i + n) ≡ Sits (terms.Weight rival) since'
      → ((t : ℕ) → i ≤ t → t < i + suc n → asked b slot t ≡ true)
      → ((t : ℕ) → i ≤ t → t < i + suc n → asked b other t ≡ true)
      → count (served b slot) i (suc n) * rival ≤ count (served b other) i (suc n) * weight + Q * (weight + rival)
  differ_by i n slot other weight rival since since' le early early' sits sits' on on' =
      let asks = on i (omega arith) (omega arith) in
      let asks' = on' i (omega arith) (omega arith) in
      let lo = asked-started b slot i asks in
      let w = weight_of slot since weight i n le early sits in
      let u = weight_of other since' rival i n le early' sits' in
      let d = differ Q unit_tag T M 32 slot other i n (clock_of Q b) (tags_of Q b) (asks_of b) (to_of b)
      (some_quantum sharing b kept)
      (omega arith) (slot_below slot since weight i n le early sits asks)
      (slot_below other since' rival i n le early' sits' asks') (passes i (i + suc n) lo le)
      (asks_on slot since weight i n lo le early sits on) (asks_on other since' rival i n lo le early' sits'
      on') in
      let e = subst (λ x. served_in (to_of b) slot i (suc n) * (tags_of Q b i other).w
      ≤ served_in (to_of b) other i (suc n) * x + Q * (tags_of Q b i other).w + Q * x) w d in
      let f = subst (λ x. served_in (to_of b) slot i (suc n) * x
      ≤ served_in (to_of b) other i (suc n) * weight + Q * x + Q * weight) u e in
      rw (served_count slot i (suc n), served_count other i (suc n)) (omega (arith, f))

  pub keeps-shares : KeepsSharesByWeight Q b
  keeps-shares = λ i n slot other weight rival lt one two.
      let d = differ_by i n slot other weight rival one.since two.since (omega (arith, lt)) one.early
      two.early
      one.sits two.sits (λ t ge below. one.asks t ge (omega (arith, below)))
      (λ t ge below. two.asks t ge (omega (arith, below))) in
      rw (add-one n) d
