-- The share of a seat that begins level, over a run of ticks in which it asks: what the other seats have before it is a
-- tick each and their share.
use Rattle.std.proofs.Common.{◌≡◌, ℕ, ◌+◌, ◌*◌, ◌-◌, ◌<◌, ◌≤◌, suc, refl, sym, arith, ap, ◌∙◌, true, subst}
use Rattle.std.specs.Prelude.{max, nat_lt}
use Rattle.std.proofs.Math.Nat.{mul-le-mul_left, mul-le-mul_right, mul-add}
use Rattle.std.proofs.lemmas.Bool.{cases_lt}
use Rattle.std.proofs.lemmas.Bool.Decides.{nat_tests}
use Rattle.std.proofs.Common.{inl, inr}
use Rattle.hls_chron.specs.declared.plain.Sharing.{Sharing}
use Rattle.hls_chron.specs.declared.plain.Terms.TheVariants.{Weight}
use Rattle.hls_chron.specs.Ledger.{Ledger, now_of}
use Rattle.hls_chron.specs.Seats.{asked}
use Rattle.hls_chron.specs.Ticks.{one_if}
use Rattle.hls_kinds.specs.declared.tenant.Tenant.TheVariants.{Sits}
use Rattle.hls_kinds.specs.Tags.{unit_tag, share_in, time_by, start_tag}
use Rattle.hls_kinds.specs.Tenants.{tenant_then}
use Rattle.hls_kinds.proofs.Sums.{sum-le, sum-mul, sum-at}
use Rattle.hls_book.specs.ShareBook.{KeepsShareBook}
use Rattle.hls_book.proofs.Atoms.{ahead-most, ahead-free, together}
use Rattle.hls_book.proofs.Follows.{At, tags_of, clock_of, asks_of, to_of, at-all, room-of, serves-at, v-next}
use Rattle.hls_book.proofs.Follows.{tag-taken, tag-stays, churn-at, some_quantum}
use Rattle.hls_book.proofs.Nexts.{v_of, share_at, f_of}
use Rattle.hls_book.proofs.Rooms.{slot-at, taken-at}
use Rattle.hls_book.proofs.ShareRuns.{asked-started, sat-at}
use Rattle.hls_book.proofs.Spans.{after_v, after_tags, span-ahead, span-own, any-tags}
use Rattle.hls_book.proofs.Tags.{Tag, seats, ahead, ahead_in}
use Rattle.hls_book.proofs.Windows.{given_in, served_in, Passes, AsksOn}

-- no seat has more ahead of it than a quantum's steps of its weight
seat_ahead : (Q V v : ℕ) (tag : Tag) → (0 < tag.w → tag.w * tag.step ≡ V)
    → ahead Q v tag ≤ one_if (nat_lt 0 tag.w) * (Q * V)
seat_ahead Q V v tag step = elim (cases_lt 0 tag.w) [
  | inl some ↦
      let is : nat_lt 0 tag.w ≡ true = grind (arith, nat_tests) in
      let whole : tag.w * (Q * tag.step) ≡ Q * V = rw (← (step some)) (omega arith) in
      let less = ahead-most Q v tag in
      rw is (omega (arith, less, whole))
  | inr none ↦ let free = ahead-free Q v tag (omega (arith, none)) in omega (arith, free)
]

all_ahead : (Q V v n M : ℕ) (tags : ℕ → Tag) → seats tags n ≤ M
    → ((k : ℕ) → k < n → 0 < (tags k).w → (tags k).w * (tags k).step ≡ V) → ahead_in Q v tags n ≤ M * (Q * V)
all_ahead Q V v n M tags few steps =
    let each = sum-le (λ k. ahead Q v (tags k)) (λ k. one_if (nat_lt 0 (tags k).w) * (Q * V)) n
    (λ k lt. seat_ahead Q V v (tags k) (steps k lt)) in
    let all = sum-mul (λ k. one_if (nat_lt 0 (tags k).w)) (Q * V) n in
    let most : seats tags n * (Q * V) ≤ M * (Q * V) = mul-le-mul_right (Q * V) few in
    omega (arith, each, all, most)

-- what is ahead of a seat tells its start tag
own_ahead : (Q v w step f : ℕ) → f ≤ v + Q * step
    → ahead Q v (record { w = w; step = step; f = f }) + w * max v f ≡ w * (Q * step) + w * v
unfolding ahead
own_ahead Q v w step f near =
    let same : Q * step - (f - v) + max v f ≡ Q * step + v = omega (arith, near) in
    sym (mul-add w (Q * step - (f - v)) (max v f)) ∙ ap (λ n. w * n) same ∙ mul-add w (Q * step) v

same_seat : (Q v w w' step step' m a : ℕ) → w ≡ w' → step ≡ step' → a + w * m ≡ w * (Q * step) + w * v
    → a + w' * m ≡ w' * (Q * step') + w' * v
same_seat Q v w w' step step' m a e f h = rw (← e, ← f) h

-- p and q are what is ahead of all seats before the run and after it, and o what is ahead of the seat after it
level_arith : (Q V T M v v' w step N G p q o s : ℕ) → 0 < V → w ≤ T → 0 < M → w * step ≡ V → v ≤ v'
    → V * G + q + T * v ≤ p + T * v' → p ≤ M * (Q * V) → o ≤ q → s ≡ v + N * step
    → o + w * s ≡ w * (Q * step) + w * v' → v' ≤ s → w * G ≤ T * N + w * ((M - 1) * Q)
level_arith Q V T M v v' w step N G p q o s some less seat whole up all first part start last below =
    let seats : M * (Q * V) ≡ (M - 1) * Q * V + Q * V = (
    let e : M ≡ (M - 1) + 1 = omega (arith, seat) in ap (λ n. n * (Q * V)) e ∙ omega arith) in
    let ticks : w * (N * step) ≡ N * V = rw (← whole) (omega arith) in
    let steps : w * (Q * step) ≡ Q * V = rw (← whole) (omega arith) in
    let own : w * s ≡ w * v + N * V = ap (λ n. w * n) start ∙ mul-add w v (N * step) ∙ rw ticks refl in
    let grow : w * v' ≤ w * v + (N + 0) * V = (
    let m : w * v' ≤ w * s = mul-le-mul_left w below in omega (arith, m, own)) in
    let sum : V * G + w * v' + T * v ≤ N * V + (M - 1) * Q * V + T * v' + w * v =
    omega (arith, all, first, part, last, own, steps, seats) in
    let share = together 0 T V ((M - 1) * Q) v v' w N G some less up grow sum in
    omega (arith, share)

module _ (sharing : Sharing) (b : Ledger) (kept : KeepsShareBook sharing b) where
  abbrev T : ℕ
  T = sharing.total

  abbrev M : ℕ
  M = sharing.most

  abbrev Q : ℕ
  Q = sharing.quantum

  at : (t : ℕ) → b.start ≤ t → t ≤ now_of b → At Q b t
  at t lo le = at-all sharing b kept t lo le

  -- the ticks of the run, and the seat in it
  passes : (from until : ℕ) → b.start ≤ from → until ≤ now_of b
      → Passes Q unit_tag T M 32 from until (clock_of Q b) (tags_of Q b) (asks_of b) (to_of b)
  passes from until lo le = record {
    kept = λ t ge lt. (at t (omega (arith, lo, ge)) (omega (arith, lt, le))).kept;
    fits = λ t ge lt. room-of sharing b kept t (omega (arith, lt, le));
    serves = λ t k ge lt is. serves-at sharing b kept t k (omega (arith, lo, ge)) (omega (arith, lt, le))
        (at t (omega (arith, lo, ge)) (omega (arith, lt, le))) is;
    taken = λ t k ge lt below asks. taken-at sharing b kept t k (omega (arith, lt, le)) asks;
    v = λ t ge lt. v-next sharing b kept t (omega (arith, lo, ge)) (omega (arith, lt, le))
        (at t (omega (arith, lo, ge)) (omega (arith, lt, le)));
    churn = λ t ge lt. churn-at sharing b kept t (omega (arith, lo, ge)) (omega (arith, lt, le))
        (at t (omega (arith, lo, ge)) (omega (arith, lt, le)));
  }

  asks_on : (slot since weight from len : ℕ) → b.start ≤ from → from + suc len ≤ now_of b → since ≤ from
      → tenant_then b slot (from + len) ≡ Sits (Weight weight) since
      → ((t : ℕ) → from ≤ t → t < from + suc len → asked b slot t ≡ true)
      → AsksOn from (from + suc len) slot (clock_of Q b) (tags_of Q b) (asks_of b) (to_of b)
  asks_on slot since weight from len lo le early sits on = record {
    ready = λ t ge lt. on t ge lt;
    stays = λ t ge lt.
        let later = sat-at b slot since (suc t) (from + len) (Weight weight) kept.sittings (omega (arith, lt))
        (omega (arith, le)) (omega (arith, ge, early)) sits in
        let now = sat-at b slot since t (from + len) (Weight weight) kept.sittings (omega (arith, lt))
        (omega (arith, le)) (omega (arith, ge, early)) sits in
        tag-stays sharing b kept t slot (omega (arith, lo, ge)) (omega (arith, lt, le))
        (at t (omega (arith, lo, ge)) (omega (arith, lt, le))) (ap share_in (later ∙ sym now));
  }

  module _ (slot since weight from len : ℕ) (le : from + suc len ≤ now_of b) (early : since ≤ from)
      (sits : tenant_then b slot (from + len) ≡ Sits (Weight weight) since)
      (on : (t : ℕ) → from ≤ t → t < from + suc len → asked b slot t ≡ true)
      (level : start_tag Q b from slot ≡ time_by Q b (start_tag Q b) from) where
    asks : asked b slot from ≡ true
    asks = on from (omega arith) (omega arith)

    lo : b.start ≤ from
    lo = asked-started b slot from asks

    some : 0 < (share_at b from slot).weight
    some = taken-at sharing b kept from slot (omega (arith, le)) asks

    below : slot < 32
    below = let lt = slot-at sharing b kept from slot (omega (arith, le)) some in omega (arith, lt, kept.range.1.1)

    pass : Passes Q unit_tag T M 32 from (from + suc len) (clock_of Q b) (tags_of Q b) (asks_of b) (to_of b)
    pass = passes from (from + suc len) lo le

    first : At Q b from
    first = at from lo (omega (arith, le))

    starts_level : max (v_of Q b from) (tags_of Q b from slot).f ≡ v_of Q b from
    starts_level =
        ap (max (v_of Q b from)) (tag-taken (share_at b from slot) (f_of Q b from slot) some)
        ∙ sym (first.start slot some) ∙ level

    weighs : (tags_of Q b from slot).w ≡ weight
    weighs =
        ap (λ tenant. (share_in tenant).weight) (sat-at b slot since from (from + len) (Weight weight) kept.sittings
        (omega arith) (omega (arith, le)) early sits)

    whole : (tags_of Q b from slot).w * (tags_of Q b from slot).step ≡ unit_tag
    whole = first.kept.steps slot below some

    fits : (tags_of Q b from slot).w ≤ T
    fits =
        let one = sum-at (λ k. (tags_of Q b from k).w) 32 slot below in
        omega (arith, one, (room-of sharing b kept from (omega (arith, le))).weight)

    pub level_share : weight * given_in (to_of b) from (suc len)
        ≤ T * served_in (to_of b) slot from (suc len) + weight * ((M - 1) * Q)
    level_share =
        let on = asks_on slot since weight from len lo le early sits on in
        let last = at (from + len) (omega (arith, lo)) (omega (arith, le)) in
        let some_ticks = some_quantum sharing b kept in
        let all = span-ahead Q unit_tag T M 32 from len (clock_of Q b) (tags_of Q b) (asks_of b) (to_of b) some_ticks
        pass in
        let own = span-own Q unit_tag T M 32 slot from len (clock_of Q b) (tags_of Q b) (asks_of b) (to_of b)
        some_ticks below pass on in
        let tags = any-tags Q unit_tag 32 (clock_of Q b (from + len)) (tags_of Q b (from + len)) (asks_of b (from
        + len))
        (to_of b (from + len)) some_ticks last.kept
        (λ k is. pass.serves (from + len) k (omega arith) (omega arith) is) in
        let v' : ℕ = after_v (clock_of Q b) (tags_of Q b) (asks_of b) (to_of b) (from + len) in
        let tag' : Tag = after_tags (clock_of Q b) (tags_of Q b) (to_of b) (from + len) slot in
        let w : ℕ = (tags_of Q b from slot).w in
        let step : ℕ = (tags_of Q b from slot).step in
        let room = room-of sharing b kept from (omega (arith, le)) in
        let first_all = all_ahead Q unit_tag (v_of Q b from) 32 M (tags_of Q b from) room.count
        (λ k lt. first.kept.steps k lt) in
        let part = sum-at (λ k. ahead Q v' (after_tags (clock_of Q b) (tags_of Q b) (to_of b) (from
        + len) k)) 32 slot below
        in
        let near : tag'.f ≤ v' + Q * tag'.step = (let n = tags.near slot below in omega (arith, n)) in
        let tells = own_ahead Q v' tag'.w tag'.step tag'.f near in
        let told : ahead Q v' tag' + w * max v' tag'.f ≡ w * (Q * step) + w * v' =
        same_seat Q v' tag'.w w tag'.step step (max v' tag'.f) (ahead Q v' tag') own.w own.step tells in
        let start : max v' tag'.f ≡ v_of Q b from + served_in (to_of b) slot from (suc len) * step =
        own.start ∙ ap (λ n. n + served_in (to_of b) slot from (suc len) * step) starts_level in
        let one = level_arith Q unit_tag T M (v_of Q b from) v' w step (served_in (to_of b) slot from (suc len))
        (given_in (to_of b) from (suc len)) (ahead_in Q (v_of Q b from) (tags_of Q b from) 32)
        (ahead_in Q v' (after_tags (clock_of Q b) (tags_of Q b) (to_of b) (from + len)) 32) (ahead Q v' tag')
        (max v' tag'.f) (omega arith) fits (omega (arith, kept.range.1.0)) whole all.0 all.1 first_all part start
        told (omega arith) in
        subst (λ n. n * given_in (to_of b) from (suc len)
        ≤ T * served_in (to_of b) slot from (suc len) + n * ((M - 1) * Q)) weighs one
