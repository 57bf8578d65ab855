-- The promise of round robin: what it has of a share is divided among 32 seats at most.
use Rattle.std.proofs.Common.{◌≡◌, ℕ, zero, suc, ◌+◌, ◌-◌, ◌*◌, ◌<◌, ◌≤◌, Some, None, Bool, true, false}
use Rattle.std.proofs.Common.{refl, sym, ap, ◌∙◌, arith, inl, inr}
use Rattle.std.specs.Prelude.{Option, is_some, not, ◌&&◌, ◌/◌, ◌==◌}
use Rattle.std.proofs.Math.Nat.{mul-le-mul_right}
use Rattle.std.proofs.lemmas.Bool.{eq-eqb}
use Rattle.hls_frac.specs.declared.Frac.{Frac}
use Rattle.hls_chron.specs.declared.plain.Config.TheVariants.{Rr}
use Rattle.hls_chron.specs.declared.plain.Terms.{Terms}
use Rattle.hls_chron.specs.declared.plain.Terms.TheVariants as terms
use Rattle.hls_chron.specs.Ledger.{Ledger, now_of, row_at}
use Rattle.hls_chron.specs.Seats.{asked, is_slot, served}
use Rattle.hls_chron.specs.Ticks.{one_if, count}
use Rattle.hls_chron.proofs.CountLaws.{one_if-le, count-none, count-push, count-agree, count-more}
use Rattle.hls_kinds.specs.declared.tenant.Tenant.TheVariants.{Sits}
use Rattle.hls_kinds.specs.Made.{IsMade}
use Rattle.hls_kinds.specs.Slots.{sum_below}
use Rattle.hls_kinds.specs.Tenants.{tenant_at, settled_at}
use Rattle.hls_kinds.proofs.MarkLaws.{sits_on}
use Rattle.hls_kinds.proofs.Sums.{sum-one, sum-suc, sum-zero}
use Rattle.hls_guarantee.specs.declared.Guarantee.{Guarantee}
use Rattle.hls_guarantee.specs.declared.Guarantee.TheVariants.{Psbe}
use Rattle.hls_guarantee.specs.Satisfaction.{HasShare}
use Rattle.hls_guarantee.specs.Service.{EveryPart}
use Rattle.hls_guarantee.specs.Steps.{IsFairShare, IsTurnShare, LendsByTerms}
use Rattle.hls_guarantee.specs.Supply.{Supplies}
use Rattle.hls_book.specs.Promise.{given, asked_by, KeepsPromise}
use Rattle.hls_book.specs.Runs.{given_ticks, served_ticks, serves_another, ticks_of_others}
use Rattle.hls_book.specs.Turns.{most_beside}
use Rattle.hls_book.proofs.Circle.{is_other, others}
use Rattle.hls_book.proofs.Made.{admission_made, range_made}
use Rattle.hls_book.proofs.PromiseLaws.{asked-slot, nothing-supplies}
use Rattle.hls_book.proofs.SharePromises.{fair-share, given_some, some_asks}
use Rattle.hls_book.proofs.TurnRuns.{passes_over}
use Rattle.hls_book.proofs.TurnTicks.{is_theirs, serves_theirs}

-- ---- the other slots

ones : (f : ℕ → Bool) (n : ℕ) → sum_below (λ k. one_if (f k)) n ≤ n
ones f zero = rw (sum-zero (λ k. one_if (f k))) (omega arith)
ones f (suc n) = omega (arith, ones f n, one_if-le (f n), sum-suc (λ k. one_if (f k)) n)

-- a slot is none of the others
pub others-few : (among : ℕ → Bool) (slot : ℕ) → slot < 32 → others among slot ≤ 31
others-few among slot lt =
    let here : one_if (is_other among slot slot) + 1 ≤ one_if true + 0 =
    rw (eq-eqb slot slot refl) (omega arith) in
    let sum = sum-one (λ s. one_if (is_other among slot s)) (λ s. one_if true) 32 slot 1 0 lt here
    (λ s below apart. one_if-le (is_other among slot s)) in
    omega (arith, sum, ones (λ s. true) 32)

-- where the slots that are served are all of the test, theirs are those of others
theirs_by : (among : ℕ → Bool) (slot : ℕ) (to : Option ℕ) → ((s : ℕ) → to ≡ Some s → among s ≡ true)
    → (is_some to && not (is_slot to slot)) ≡ is_theirs among slot to
theirs_by among slot None all = refl
theirs_by among slot (Some s) all = rw (all s refl) (either (not (s == slot)))
  where
    either : (is : Bool) → is ≡ (is && true)
    either true = refl
    either false = refl

pub theirs-all : (b : Ledger) (among : ℕ → Bool) (slot i n : ℕ)
    → ((t s : ℕ) → i ≤ t → t < i + n → (row_at b t).to ≡ Some s → among s ≡ true)
    → ticks_of_others b slot i n ≡ count (serves_theirs b among slot) i n
unfolding served
theirs-all b among slot i n all =
    count-agree (serves_another b slot) (serves_theirs b among slot) i n
    (λ t ge lt. theirs_by among slot (row_at b t).to (λ s to. all t s ge lt to))

-- ---- all ticks

shared : (to : Option ℕ) (slot : ℕ)
    → one_if (is_some to) ≡ one_if (is_slot to slot) + one_if (is_some to && not (is_slot to slot))
shared None slot = refl
shared (Some at) slot = either (is_slot (Some at) slot)
  where
    either : (is : Bool) → 1 ≡ one_if is + one_if (not is)
    either true = refl
    either false = refl

pub all-ticks : (b : Ledger) (slot i n : ℕ)
    → given_ticks b i n ≡ served_ticks b slot i n + ticks_of_others b slot i n
unfolding served
all-ticks b slot i zero = omega (
  arith,
  count-none (λ t. is_some (row_at b t).to) i,
  count-none (served b slot) i,
  count-none (serves_another b slot) i,
)
all-ticks b slot i (suc n) = omega (
  arith,
  all-ticks b slot i n,
  count-push (λ t. is_some (row_at b t).to) i n,
  count-push (served b slot) i n,
  count-push (serves_another b slot) i n,
  shared (row_at b (i + n)).to slot,
)

-- ---- rounds

pub whole : (n k : ℕ) → 0 < k → k * (n / k) ≤ n
whole n k some = omega arith

-- in ticks, rounds are no more than what was had and a quantum
pub linear : (quantum own theirs : ℕ) → 0 < quantum → theirs ≤ 31 * most_beside quantum own
    → theirs ≤ 31 * (own + quantum)
linear quantum own theirs some passed = omega (arith, passed, whole own quantum some)

-- A seat has the share of a weight of 1 in 32, beside as many others of a tick each as 31 quanta have ticks besides 31.
as_fair : (quantum : ℕ) (s d s' d' : Frac) → 0 < quantum → IsTurnShare quantum s d s' d'
    → IsFairShare (record { total = 32; most = 31 * quantum - 30; quantum = 1 }) 1 s d s' d'
as_fair quantum s d s' d' pos share = record {
  others = 31 * quantum - 31;
  rest = 31;
  seats = omega (arith, pos);
  weights = refl;
  rate = omega (arith, share.rate);
  error =
      let all : (31 * quantum - 31 + 31) * d.den ≡ 31 * quantum * d.den =
      ap (λ n. n * d.den) (let same : 31 * quantum - 31 + 31 ≡ 31 * quantum = omega (arith, pos) in same) in
      let one : (31 * quantum - 31) * 1 ≡ 31 * quantum - 31 = omega arith in
      let num : (d.num + (31 * quantum - 31) * 1 * d.den) * 1 + 31 * 1 * d.den ≡ d.num + 31 * quantum * d.den =
      rw one (omega (arith, all)) in
      share.error ∙ ap (λ n. n * d'.den) (sym num);
}

-- ---- what is supplied

-- what a port gives in a part of a run in which the seat asks serves it or others
pub record IsShared (quantum : ℕ) (b : Ledger) (slot port i n : ℕ) : Type 0 where
  pub theirs : ticks_of_others b slot i n ≤ 31 * most_beside quantum (served_ticks b slot i n)
  pub all : count (given b port) i n ≤ served_ticks b slot i n + ticks_of_others b slot i n

module _ (quantum : ℕ) (b : Ledger) (made : IsMade (Rr quantum) b) where
  pub some : 0 < quantum
  some = let range = range_made (Rr quantum) b made in omega (arith, range.0)

  pub turn_asks : (slot t : ℕ) → asked b slot t ≡ true → asked_by (Rr quantum) b t ≡ true
  unfolding asked_by
  turn_asks slot t asks = some_asks (row_at b t).mask slot (asked-slot b slot t asks)

  is_shared : (slot since port i n : ℕ) → tenant_at b slot ≡ Sits terms.Turn since → since ≤ i → i + n ≤ now_of b
      → ((t : ℕ) → i ≤ t → t < i + n → asked b slot t ≡ true) → IsShared quantum b slot port i n
  is_shared slot since port i n sits early le asks =
      let any : ℕ → Bool = λ s. true in
      let passed = (passes_over quantum some b made).sits slot since i n terms.Turn any sits early le asks in
      let below = (admission_made (Rr quantum) b made).seats.within slot terms.Turn
      (sits_on b slot since terms.Turn sits) in
      let most = mul-le-mul_right (most_beside quantum (served_ticks b slot i n)) (others-few any slot below) in
      let less = count-more (given b port) (λ t. is_some (row_at b t).to) i n (λ t is. given_some b port t is) in
      record {
        theirs = rw (theirs-all b any slot i n (λ t s ge lt to. refl)) (omega (arith, passed, most));
        all = omega (arith, less, all-ticks b slot i n);
      }

  -- what holds of each such part is supplied
  pub parts_met : (P Q : ℕ → ℕ → ℕ → Type 0) (slot since port i j : ℕ) → tenant_at b slot ≡ Sits terms.Turn since
      → since ≤ i → j ≤ now_of b → ((t : ℕ) → i ≤ t → t < j → asked b slot t ≡ true)
      → ((k n : ℕ) → IsShared quantum b slot port k n → P k n (count (given b port) k n)
      → Q k n (served_ticks b slot k n))
      → EveryPart P (given b port) i j → EveryPart Q (served b slot) i j
  parts_met P Q slot since port i j sits early le asks each has = λ k n lo hi.
      each k n
      (is_shared slot since port k n sits (omega (arith, early, lo)) (omega (arith, hi, le))
      (λ t ge lt. asks t (omega (arith, lo, ge)) (omega (arith, lt, hi)))) (has k n lo hi)

  pub share_passed : (slot since port : ℕ) (s d s' d' : Frac) → tenant_at b slot ≡ Sits terms.Turn since
      → IsTurnShare quantum s d s' d'
      → Supplies (Psbe s d) (given b port) (asked_by (Rr quantum) b) (settled_at b) (now_of b)
      → Supplies (Psbe s' d') (served b slot) (asked b slot) since (now_of b)
  share_passed slot since port s d s' d' sits share supplied =
      let later = (admission_made (Rr quantum) b made).stood.later slot since terms.Turn sits in
      record {
        met = λ i j from to asks.
            parts_met (λ k n got. HasShare s d n got) (λ k n got. HasShare s' d' n got) slot since port i j sits from to
            asks
            (λ k n is lent.
            fair-share (record { total = 32; most = 31 * quantum - 30; quantum = 1 }) 1 s d s' d' n
            (count (given b port) k n) (served_ticks b slot k n)
            (omega arith) (as_fair quantum s d s' d' some share) lent
            (omega (
              arith,
              linear quantum (served_ticks b slot k n) (ticks_of_others b slot k n) some is.theirs,
              is.all,
              some,
            )))
            (supplied.met i j (omega (arith, later.0, from)) to (λ t ge lt. turn_asks slot t (asks t ge lt)));
        capped = tt;
      }

  turn_lends : (slot since port : ℕ) (m : Terms) (g h : Guarantee) → tenant_at b slot ≡ Sits m since
      → LendsByTerms (Rr quantum) m g h
      → Supplies g (given b port) (asked_by (Rr quantum) b) (settled_at b) (now_of b)
      → Supplies h (served b slot) (asked b slot) since (now_of b)
  turn_lends slot since port terms.Turn (Psbe s d) (Psbe s' d') sits lends supplied =
      share_passed slot since port s d s' d' sits lends supplied
  turn_lends slot since port _ _ _ sits lends supplied = absurd lends

  pub turns_keep : KeepsPromise (Rr quantum) b
  turns_keep = record {
    kept = λ ports slot since port m g h sits lends supplied. elim lends.lends [
      | inl by_terms ↦ turn_lends slot since port m g h sits by_terms supplied
      | inr nothing ↦ rw nothing (nothing-supplies (served b slot) (asked b slot) since (now_of b))
    ];
  }
