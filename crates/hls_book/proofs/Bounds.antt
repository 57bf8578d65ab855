-- What the laws of fair queueing say of a book, and that its tags are small.
use Rattle.std.proofs.Common.{◌≡◌, ℕ, ◌+◌, ◌*◌, ◌-◌, ◌<◌, ◌≤◌, suc, zero, refl, arith, ap, ◌∙◌}
use Rattle.std.proofs.Common.{Some, None, length, inl, inr}
use Rattle.std.specs.Prelude.{Option, max}
use Rattle.std.proofs.Math.Nat.{mul-le-mul_left, mul-le-mul_right}
use Rattle.std.proofs.lemmas.Bool.{cases_Bool}
use Rattle.hls_chron.specs.declared.plain.Sharing.{Sharing}
use Rattle.hls_chron.specs.declared.plain.Terms.TheVariants.{Weight}
use Rattle.hls_chron.specs.Kinds.{by_shares}
use Rattle.hls_chron.specs.Ranges.{IsWithin}
use Rattle.hls_chron.specs.Ledger.{Ledger, now_of, row_at, before}
use Rattle.hls_chron.specs.Seats.{terms_at}
use Rattle.hls_kinds.specs.declared.tenant.Tenant.TheVariants.{Sits}
use Rattle.hls_kinds.specs.Tenants.{tenant_then}
use Rattle.hls_kinds.specs.Tags.{unit_tag, tag_step, share_in, time_by, start_tag}
use Rattle.hls_kinds.specs.Discipline.{KeepsDiscipline}
use Rattle.hls_kinds.specs.Turns.{turn_goes_on}
use Rattle.hls_kinds.proofs.MarkLaws.{sits_on}
use Rattle.hls_kinds.proofs.ServingLaws.{serves-asks}
use Rattle.hls_kinds.specs.Room.{weight_in}
use Rattle.hls_book.specs.ShareBook.{KeepsShareBook}
use Rattle.hls_book.proofs.Nexts.{v_of, share_at, f_of, v-first, v-none, v-on, v-begun}
use Rattle.hls_book.proofs.Rooms.{weights-at, taken-at, steps-at, slot-at, weight-is, tenant-now}
use Rattle.hls_book.proofs.Follows.{tags_of, to_of, tag-taken, at-all, serves-at}
use Rattle.hls_book.proofs.ShareRuns.{near-time, keeps-shares}

step_small : (w step : ℕ) → 0 < w → w * step ≡ unit_tag → step ≤ unit_tag
step_small w step some whole =
    let least : 1 * step ≤ w * step = mul-le-mul_right step (let one : 1 ≤ w = omega (arith, some) in one) in
    omega (arith, least, whole)

module _ (sharing : Sharing) (b : Ledger) (kept : KeepsShareBook sharing b) where
  abbrev Q : ℕ
  Q = sharing.quantum

  seat_weight : (slot since weight t : ℕ) → t ≤ now_of b → tenant_then b slot t ≡ Sits (Weight weight) since
      → 0 < weight
  seat_weight slot since weight t le sits =
      let range = (weights-at sharing b kept t le).ranged slot weight
      (sits_on (before t b) slot since (Weight weight) sits) in
      omega (arith, range.0)

  pub near-virtual-time : (t slot weight since : ℕ) → b.start ≤ t → t ≤ now_of b
      → tenant_then b slot t ≡ Sits (Weight weight) since
      → IsWithin (time_by Q b (start_tag Q b) t) (time_by Q b (start_tag Q b) t + Q * tag_step weight)
      (start_tag Q b t slot)
  near-virtual-time t slot weight since lo le sits =
      near-time sharing b kept slot since weight t lo le sits (seat_weight slot since weight t le sits)

  -- the start tag of a slot with a seat is at most a quantum of units past the virtual time
  tag_near : (t slot : ℕ) → b.start ≤ t → t ≤ now_of b → 0 < (share_at b t slot).weight
      → start_tag Q b t slot ≤ v_of Q b t + Q * unit_tag
  tag_near t slot lo le some =
      let here = at-all sharing b kept t lo le in
      let below : slot < 32 = (
      let lt_most = slot-at sharing b kept t slot le some in omega (arith, lt_most, kept.range.1.1)) in
      let near : (tags_of Q b t slot).f ≤ v_of Q b t + Q * (tags_of Q b t slot).step = here.kept.near slot below in
      let f = tag-taken (share_at b t slot) (f_of Q b t slot) some in
      let small : Q * tag_step (share_at b t slot).weight ≤ Q * unit_tag = mul-le-mul_left Q
      (step_small (share_at b t slot).weight (tag_step (share_at b t slot).weight) some
      (steps-at sharing b kept t slot le some)) in
      omega (arith, here.start slot some, near, f, small)

  time_grows : (t : ℕ) (to : Option ℕ) → b.start ≤ t → t < now_of b → to_of b t ≡ to
      → v_of Q b (suc t) ≤ v_of Q b t + Q * unit_tag
  time_grows t None lo lt is = omega (arith, v-none Q b t lo is)
  time_grows t (Some k) lo lt is =
      let here = at-all sharing b kept t lo (omega (arith, lt)) in
      let serves = serves-at sharing b kept t k lo lt here is in
      let near = tag_near t k lo (omega (arith, lt)) (taken-at sharing b kept t k lt serves.ready) in
      elim (cases_Bool (turn_goes_on Q (before t b) (row_at b t).mask)) [
        | inl on ↦ omega (arith, v-on Q b t lo on)
        | inr off ↦ omega (arith, v-begun Q b t k lo is off, near)
      ]

  time_by_ticks : (n : ℕ) → b.start + n ≤ now_of b → v_of Q b (b.start + n) ≤ n * (Q * unit_tag)
  time_by_ticks zero le =
      let e : b.start + 0 ≡ b.start = omega arith in
      let first = ap (v_of Q b) e ∙ v-first Q b in omega (arith, first)
  time_by_ticks (suc n) le =
      let e : b.start + suc n ≡ suc (b.start + n) = omega arith in
      let same = ap (v_of Q b) e in
      let more = time_grows (b.start + n) (to_of b (b.start + n)) (omega arith) (omega (arith, le)) refl in
      omega (arith, same, more, time_by_ticks n (omega (arith, le)))

  pub tags-small : (t slot weight since : ℕ) → b.start ≤ t → t ≤ now_of b
      → tenant_then b slot t ≡ Sits (Weight weight) since → start_tag Q b t slot ≤ (t - b.start + 1) * (Q * unit_tag)
  tags-small t slot weight since lo le sits =
      let e : b.start + (t - b.start) ≡ t = omega (arith, lo) in
      let time = time_by_ticks (t - b.start) (omega (arith, e, le)) in
      let same = ap (v_of Q b) e in
      let w : (share_at b t slot).weight ≡ weight = ap (λ tenant. (share_in tenant).weight) sits in
      let near = tag_near t slot lo le (omega (arith, w, seat_weight slot since weight t le sits)) in
      omega (arith, time, same, near)

  pub keeps-discipline : KeepsDiscipline (by_shares sharing) b
  keeps-discipline = record {
    asked = λ t slot lt is.
        serves-asks (by_shares sharing) (before t b) (row_at b t).mask slot (kept.served t slot lt is);
    served = λ t slot lt is. kept.served t slot lt is;
    shares = keeps-shares sharing b kept;
  }

  -- at the present tick
  pub seat-share : (slot weight : ℕ) → terms_at b slot ≡ Some (Weight weight)
      → (share_at b (now_of b) slot).weight ≡ weight
  seat-share slot weight is =
      ap (λ tenant. (share_in tenant).weight) (tenant-now b slot kept.admission.dated)
      ∙ weight-is b slot ∙ ap weight_in is

  present_heavy : (slot weight : ℕ) → terms_at b slot ≡ Some (Weight weight)
      → 0 < (share_at b (now_of b) slot).weight
  present_heavy slot weight is =
      let range = kept.weights.ranged slot weight is in
      let same = seat-share slot weight is in omega (arith, range.0, same)

  pub present-start : (slot weight : ℕ) → terms_at b slot ≡ Some (Weight weight)
      → start_tag Q b (now_of b) slot ≡ max (v_of Q b (now_of b)) (f_of Q b (now_of b) slot)
  present-start slot weight is =
      (at-all sharing b kept (now_of b) (omega arith) (omega arith)).start slot (present_heavy slot weight is)

  pub present-small : v_of Q b (now_of b) ≤ length b.rows * (Q * unit_tag)
  present-small = time_by_ticks (length b.rows) (omega arith)

  pub finish-small : (slot weight : ℕ) → terms_at b slot ≡ Some (Weight weight)
      → f_of Q b (now_of b) slot ≤ v_of Q b (now_of b) + Q * unit_tag
  finish-small slot weight is =
      let near = tag_near (now_of b) slot (omega arith) (omega arith) (present_heavy slot weight is) in
      let start = present-start slot weight is in omega (arith, near, start)
