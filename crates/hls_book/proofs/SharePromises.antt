-- The promise of fair queueing.
use Rattle.std.proofs.Common.{◌≡◌, ℕ, ◌+◌, ◌*◌, ◌-◌, ◌<◌, ◌≤◌, suc, zero, refl, arith, ap, ◌∙◌, inl}
use Rattle.std.proofs.Common.{inr}
use Rattle.std.proofs.Common.{Bool, true, false, mul-pos}
use Rattle.std.specs.Prelude.{is_some, ◌&&◌, ◌==◌}
use Rattle.std.proofs.Math.Nat.{mul-le-mul_left, mul-le-mul_right, le_of_mul-le-mul_right}
use Rattle.std.proofs.lemmas.Bool.{cases_eq}
use Rattle.std.proofs.lemmas.Bool.Decides.{nat_tests}
use Rattle.std.proofs.lemmas.Nat.Bits.{bit_at-zero}
use Rattle.hls_frac.specs.declared.Frac.{Frac}
use Rattle.hls_chron.specs.declared.plain.Sharing.{Sharing}
use Rattle.hls_chron.specs.declared.plain.Terms.{Terms}
use Rattle.hls_chron.specs.declared.plain.Terms.TheVariants as terms
use Rattle.hls_chron.specs.Kinds.{by_shares}
use Rattle.hls_chron.specs.Ledger.{Ledger, now_of, row_at}
use Rattle.hls_chron.specs.Seats.{SlotAsks, asked, served}
use Rattle.hls_chron.specs.Ticks.{count}
use Rattle.hls_chron.proofs.CountLaws.{count-more}
use Rattle.hls_kinds.specs.declared.tenant.Tenant.TheVariants.{Sits}
use Rattle.hls_kinds.specs.Tenants.{tenant_at, settled_at}
use Rattle.hls_kinds.specs.Asks.{some_slot_asks}
use Rattle.hls_guarantee.specs.declared.Guarantee.{Guarantee}
use Rattle.hls_guarantee.specs.declared.Guarantee.TheVariants.{Psbe}
use Rattle.hls_guarantee.specs.Satisfaction.{HasShare}
use Rattle.hls_guarantee.specs.Supply.{Supplies}
use Rattle.hls_guarantee.specs.Steps.{IsFairShare, LendsByTerms}
use Rattle.hls_book.specs.Promise.{given, asked_by, KeepsPromise}
use Rattle.hls_book.proofs.PromiseLaws.{asked-slot, nothing-supplies}
use Rattle.hls_book.specs.ShareBook.{KeepsShareBook}
use Rattle.hls_book.proofs.Windows.{served_in}
use Rattle.hls_book.proofs.Rooms.{tenant-now}
use Rattle.hls_book.proofs.Follows.{to_of}
use Rattle.hls_book.proofs.ShareRuns.{sat-at, has-share}

-- the ticks that a seat of weight w has of G given ones, as a share: sn/sd and en/ed are what is given
part_of : (sn sd en ed w T others rest n G N : ℕ) → sn * n * ed ≤ (G * ed + en) * sd
    → w * G ≤ T * N + rest + w * others
    → sn * w * n * ed ≤ (T * N * ed + ((en + others * ed) * w + rest * ed)) * sd
part_of sn sd en ed w T others rest n G N given got =
    let a : w * (sn * n * ed) ≤ w * ((G * ed + en) * sd) = mul-le-mul_left w given in
    let c : w * G * (ed * sd) ≤ (T * N + rest + w * others) * (ed * sd) = mul-le-mul_right (ed * sd) got in
    omega (arith, a, c)

-- the same in lowest terms: rn/rd and fn/fd are what is lent
reduced : (sn sd en ed rn rd fn fd w T d n N : ℕ) → 1 ≤ sd → 1 ≤ ed → 1 ≤ T
    → rn * (sd * T) ≡ sn * w * rd → fn * (ed * T) ≡ d * fd
    → sn * w * n * ed ≤ (T * N * ed + d) * sd → rn * n * fd ≤ (N * fd + fn) * rd
reduced sn sd en ed rn rd fn fd w T d n N sd_pos ed_pos T_pos rate error part =
    let pos : 1 ≤ (sd * T) * (ed * T) = mul-pos (mul-pos sd_pos T_pos) (mul-pos ed_pos T_pos) in
    let left : rn * n * fd * ((sd * T) * (ed * T)) ≡ sn * w * rd * (n * fd * (ed * T)) =
    omega (arith, ap (λ x. x * (n * fd * (ed * T))) rate) in
    let right : fn * rd * ((sd * T) * (ed * T)) ≡ d * fd * (rd * (sd * T)) =
    omega (arith, ap (λ x. x * (rd * (sd * T))) error) in
    let whole : sn * w * n * ed * (rd * fd * T) ≤ (T * N * ed + d) * sd * (rd * fd * T) =
    mul-le-mul_right (rd * fd * T) part in
    le_of_mul-le-mul_right {k = (sd * T) * (ed * T)} (omega (arith, left, right, whole)) pos

-- the ticks that a seat has of given ones, as a share by its weight
module _ (sharing : Sharing) where
  abbrev T : ℕ
  T = sharing.total

  abbrev M : ℕ
  M = sharing.most

  abbrev Q : ℕ
  Q = sharing.quantum

  pub fair-share : (w : ℕ) (s d s' d' : Frac) (n G N : ℕ) → 1 ≤ T → IsFairShare sharing w s d s' d'
      → HasShare s d n G → w * G ≤ T * N + (T - w) * Q + w * ((M - 1) * Q) → HasShare s' d' n N
  fair-share w s d s' d' n G N some fair given got =
      let rest : T - w ≡ fair.rest = omega (arith, fair.weights) in
      let others : M - 1 ≡ fair.others = omega (arith, fair.seats) in
      let has : w * G ≤ T * N + fair.rest * Q + w * (fair.others * Q) = (
      let more : w * ((M - 1) * Q) ≡ w * (fair.others * Q) = ap (λ x. w * (x * Q)) others in
      let less : (T - w) * Q ≡ fair.rest * Q = ap (λ x. x * Q) rest in
      omega (arith, got, less, more)) in
      reduced s.num s.den d.num d.den s'.num s'.den d'.num d'.den w T
      ((d.num + fair.others * Q * d.den) * w + fair.rest * Q * d.den) n N s.positive d.positive some fair.rate
      fair.error
      (part_of s.num s.den d.num d.den w T (fair.others * Q) (fair.rest * Q) n G N given has)

both_first : (a c : Bool) → (a && c) ≡ true → a ≡ true
both_first true c is = refl
both_first false c is = absurd (let clash : false ≡ true = is in cc)

pub some_asks : (mask slot : ℕ) → SlotAsks mask slot → some_slot_asks mask ≡ true
some_asks mask slot asks = elim (cases_eq mask 0) [
  | inl none ↦ absurd (let silent = bit_at-zero slot in let clash : SlotAsks 0 slot = rw none at asks in cc)
  | inr some ↦ grind (arith, nat_tests, some)
]

-- a port gives no more than is given
pub given_some : (b : Ledger) (port t : ℕ) → given b port t ≡ true → is_some (to_of b t) ≡ true
unfolding given
given_some b port t is = both_first (is_some (row_at b t).to) ((row_at b t).port == port) is

module _ (sharing : Sharing) (b : Ledger) (kept : KeepsShareBook sharing b) where
  pub fair_asks : (slot t : ℕ) → asked b slot t ≡ true → asked_by (by_shares sharing) b t ≡ true
  unfolding asked_by
  fair_asks slot t asks = some_asks (row_at b t).mask slot (asked-slot b slot t asks)

  served_count : (slot from n : ℕ) → count (served b slot) from n ≡ served_in (to_of b) slot from n
  unfolding served
  served_count slot from n = refl

  -- a part of a run in which the seat asks
  part_met : (slot since port weight i n : ℕ) (s d s' d' : Frac)
      → tenant_at b slot ≡ Sits (terms.Weight weight) since
      → since ≤ i → i + n ≤ now_of b → ((t : ℕ) → i ≤ t → t < i + n → asked b slot t ≡ true)
      → IsFairShare sharing weight s d s' d'
      → HasShare s d n (count (given b port) i n)
      → HasShare s' d' n (count (served b slot) i n)
  part_met slot since port weight i zero s d s' d' sits early le on fair lent = omega arith
  part_met slot since port weight i (suc n) s d s' d' sits early le on fair lent =
      let now = tenant-now b slot kept.admission.dated ∙ sits in
      let last = sat-at b slot since (i + n) (now_of b) (terms.Weight weight) kept.sittings
      (omega (arith, le))
      (omega arith) (omega (arith, early)) now in
      let h = has-share sharing b kept slot since weight i n le early last on in
      let less = count-more (given b port) (λ z. is_some (to_of b z)) i (suc n)
      (λ t is. given_some b port t is) in
      let few = mul-le-mul_left weight less in
      let got : weight * count (given b port) i (suc n)
      ≤ sharing.total * count (served b slot) i (suc n) + (sharing.total - weight) * sharing.quantum
      + weight * ((sharing.most - 1) * sharing.quantum) =
      rw (served_count slot i (suc n)) (omega (arith, h, few)) in
      fair-share sharing weight s d s' d' (suc n) (count (given b port) i (suc n))
      (count (served b slot) i (suc n))
      kept.range.0.0 fair lent got

  share_supplied : (slot since port weight : ℕ) (s d s' d' : Frac)
      → tenant_at b slot ≡ Sits (terms.Weight weight) since
      → IsFairShare sharing weight s d s' d'
      → Supplies (Psbe s d) (given b port) (asked_by (by_shares sharing) b) (settled_at b) (now_of b)
      → Supplies (Psbe s' d') (served b slot) (asked b slot) since (now_of b)
  share_supplied slot since port weight s d s' d' sits fair supplied =
      let later = kept.admission.stood.later slot since (terms.Weight weight) sits in
      record {
        met = λ i j from to asks. λ k n lo hi.
            part_met slot since port weight k n s d s' d' sits (omega (arith, from, lo))
            (omega (arith, hi, to))
            (λ t ge lt. asks t (omega (arith, lo, ge)) (omega (arith, lt, hi))) fair
            (supplied.met i j (omega (arith, later.0, from)) to
            (λ t ge lt. fair_asks slot t (asks t ge lt)) k n lo hi);
        capped = tt;
      }

  fair_lends : (slot since port : ℕ) (m : Terms) (g h : Guarantee) → tenant_at b slot ≡ Sits m since
      → LendsByTerms (by_shares sharing) m g h
      → Supplies g (given b port) (asked_by (by_shares sharing) b) (settled_at b) (now_of b)
      → Supplies h (served b slot) (asked b slot) since (now_of b)
  fair_lends slot since port (terms.Weight weight) (Psbe s d) (Psbe s' d') sits lends supplied =
      share_supplied slot since port weight s d s' d' sits lends supplied
  fair_lends slot since port _ _ _ sits lends supplied = absurd lends

  pub fair_keeps : KeepsPromise (by_shares sharing) b
  fair_keeps = record {
    kept = λ ports slot since port m g h sits lends supplied. elim lends.lends [
      | inl by_terms ↦ fair_lends slot since port m g h sits by_terms supplied
      | inr nothing ↦ rw nothing (nothing-supplies (served b slot) (asked b slot) since (now_of b))
    ];
  }
