-- The sharpest cap of a hard seat, whatever the scheduler is given.
use Rattle.std.proofs.Common.{◌≡◌, ℕ, ◌+◌, ◌*◌, ◌-◌, ◌<◌, ◌≤◌, zero, suc, refl, sym, ap, ◌∙◌, subst, arith, Bool, true}
use Rattle.std.proofs.Common.{false, inl, inr}
use Rattle.std.specs.Prelude.{◌⊎◌, if◌then◌else◌}
use Rattle.std.proofs.Math.Nat.{mul-le-mul_left, mul-le-mul_right}
use Rattle.std.proofs.lemmas.Bool.{cases_lt, cases_Bool}
use Rattle.hls_chron.specs.Parts.{all_parts, parts}
use Rattle.hls_chron.specs.Ticks.{one_if, count}
use Rattle.hls_chron.proofs.CountLaws.{count-none, count-push, count-le}
use Rattle.hls_chron.proofs.PartLaws.{parts-rate, parts-near}
use Rattle.hls_kinds.specs.declared.reservations.Reservation.{Reservation}
use Rattle.hls_book.specs.declared.server.Server.{Server}
use Rattle.hls_book.specs.Demand.{owed, claimed}
use Rattle.hls_book.specs.Recomputed.{server_before, server_within}
use Rattle.hls_book.specs.Servers.{IsServer, charged, replenished, is_due, claimed_by}
use Rattle.hls_book.specs.Stays.{IsPaced, EachHard}
use Rattle.hls_book.proofs.Deadlines.{within_is, before_is}
use Rattle.hls_book.proofs.Owed.{owed-due}
use Rattle.hls_book.proofs.Pacing.{after_q, paced_before}
use Rattle.hls_book.proofs.Parts.{parts-paid}
use Rattle.hls_book.proofs.Replenishing.{replenished-off, replenished-set, replenished-kept, replenished-on}
use Rattle.hls_book.proofs.Replenishing.{replenished-rate, replenished-le}
use Rattle.hls_book_isolation.proofs.Demand.{claimed_asking}

-- what is claimed is no more than what is owed
claimed_owed : (asking : Bool) (whole budget deadline rate now bound : ℕ)
    → claimed asking whole budget deadline rate now bound ≤ owed whole budget deadline rate bound
unfolding claimed
claimed_owed true whole budget deadline rate now bound = omega arith
claimed_owed false whole budget deadline rate now bound = omega arith

-- a replenishment never raises the budget against the deadline
raises_none : (whole : ℕ) (c : Server) (asks : Bool) (now : ℕ) → IsServer whole c
    → (replenished whole c asks now).budget * whole + c.parts * c.deadline
    ≤ c.budget * whole + c.parts * (replenished whole c asks now).deadline
raises_none whole c false now is = rw (replenished-off whole c now) (omega arith)
raises_none whole c true now is =
    let e : Server = replenished whole c true now in
    let bound : ℕ = now + c.deadline + e.deadline in
    let less = replenished-le whole c true now bound (omega arith) is in
    let all : claimed_by whole e now bound ≡ e.budget * whole + e.parts * (bound - e.deadline) =
    ap (λ (asking : Bool). claimed asking whole e.budget e.deadline e.parts now bound) (replenished-on whole c true now)
    ∙ claimed_asking whole e.budget e.deadline e.parts now bound
    ∙ owed-due whole e.budget e.deadline e.parts bound (omega arith) in
    let most = claimed_owed c.asked whole c.budget c.deadline c.parts now bound in
    let had = owed-due whole c.budget c.deadline c.parts bound (omega arith) in
    let rate : e.parts * (bound - e.deadline) ≡ c.parts * (bound - e.deadline) =
    ap (λ n. n * (bound - e.deadline)) (replenished-rate whole c true now) in
    let left : bound - e.deadline ≡ now + c.deadline = omega arith in
    let right : bound - c.deadline ≡ now + e.deadline = omega arith in
    omega (arith, less, all, most, had, rate, ap (λ n. c.parts * n) left, ap (λ n. c.parts * n) right)

-- Budget and deadline before a replenishment, q and d, and after it, p and e: as they were, or all of it up to a
-- deadline a period later.
abbrev IsReplaced : (x y t q d p e : ℕ) → Type 0
IsReplaced x y t q d p e = ((p ≡ q) × (e ≡ d)) ⊎ ((p ≡ x) × (e ≡ t + y))

-- N were served from tick i on: all from one budget, or so few that the budget of the last period is left
abbrev IsCarried : (U x rate i N q d : ℕ) → Type 0
IsCarried U x rate i N q d = (N + q ≤ x) ⊎ (N * U + q * U + rate * (i + x) ≤ x * U + rate * d)

-- the first budget gives way to the next: N ticks served from it have passed
gives_way : (U x y rate i t N : ℕ) → rate ≤ U → x * U ≤ rate * y → i + N ≤ t → N ≤ x
    → N * U + x * U + rate * (i + x) ≤ x * U + rate * (t + y)
gives_way U x y rate i t N low paid passed small =
    let over : U ≡ rate + (U - rate) = omega (arith, low) in
    let less : N * (U - rate) ≤ x * (U - rate) = mul-le-mul_right (U - rate) small in
    let time : rate * (i + N) ≤ rate * t = mul-le-mul_left rate passed in
    let first : N * U ≡ rate * N + N * (U - rate) = ap (λ n. N * n) over ∙ omega arith in
    let all : x * U ≡ rate * x + x * (U - rate) = ap (λ n. x * n) over ∙ omega arith in
    let one : rate * (i + x) ≡ rate * i + rate * x = omega arith in
    let two : rate * (i + N) ≡ rate * i + rate * N = omega arith in
    let three : rate * (t + y) ≡ rate * t + rate * y = omega arith in
    omega (arith, paid, less, time, first, all, one, two, three)

replaced : (U x y rate i t N q d p e : ℕ) → rate ≤ U → x * U ≤ rate * y → i + N ≤ t → q ≤ x
    → IsCarried U x rate i N q d → p * U + rate * d ≤ q * U + rate * e → IsReplaced x y t q d p e
    → IsCarried U x rate i N p e
replaced U x y rate i t N q d p e low paid passed small (inl one) down (inl kept) = inl (omega (arith, one, kept.0))
replaced U x y rate i t N q d p e low paid passed small (inl one) down (inr renewed) =
    inr (rw (renewed.0, renewed.1) (gives_way U x y rate i t N low paid passed (omega (arith, one))))
replaced U x y rate i t N q d p e low paid passed small (inr more) down change = inr (omega (arith, more, down))

-- a tick serves it from its budget
carried : (U x rate i N p e : ℕ) (g : Bool) → IsCarried U x rate i N p e → (g ≡ true → 0 < p)
    → IsCarried U x rate i (N + one_if g) (p - one_if g) e
carried U x rate i N p e false (inl one) own = inl (omega (arith, one))
carried U x rate i N p e true (inl one) own = let some = own refl in inl (omega (arith, one, some))
carried U x rate i N p e false (inr more) own =
    let count : N + 0 ≡ N = omega arith in
    let left : p - 0 ≡ p = omega arith in
    inr (rw (count, left) more)
carried U x rate i N p e true (inr more) own =
    let rest : p ≡ p - 1 + 1 = omega (arith, own refl) in
    let split : p * U ≡ (p - 1) * U + U = ap (λ n. n * U) rest ∙ omega arith in
    let count : (N + 1) * U ≡ N * U + U = omega arith in
    inr (omega (arith, more, split, count))

-- so N of n ticks are at most twice the budget, and the share of the rest
abbrev IsBound : (U x y rate n N : ℕ) → Type 0
IsBound U x y rate n N = (N ≤ x) ⊎ (N * U + rate * (2 * x) ≤ x * U + rate * (y + n))

-- after a tick that served it, with budget q and deadline d left, so near that its pace is kept
paced_bound : (U x y rate i t N q d : ℕ) → rate ≤ U → i ≤ t → N * U + q * U + rate * (i + x) ≤ x * U + rate * d
    → x + (d - (t + 1)) ≤ q + y → N * U + rate * (2 * x) ≤ x * U + rate * (y + (t + 1 - i))
paced_bound U x y rate i t N q d low le some pace =
    let near : rate * (d + x) ≤ rate * (q + y + (t + 1)) = mul-le-mul_left rate (omega (arith, pace)) in
    let paid : q * rate ≤ q * U = mul-le-mul_left q low in
    let span : rate * (y + (t + 1 - i)) + rate * i ≡ rate * (y + (t + 1)) = (
    let e : y + (t + 1 - i) + i ≡ y + (t + 1) = omega (arith, le) in
    let m : rate * (y + (t + 1 - i) + i) ≡ rate * (y + (t + 1 - i)) + rate * i = omega arith in
    sym m ∙ ap (λ n. rate * n) e) in
    let one : rate * (d + x) ≡ rate * d + rate * x = omega arith in
    let two : rate * (q + y + (t + 1)) ≡ q * rate + rate * (y + (t + 1)) = omega arith in
    let three : rate * (i + x) ≡ rate * i + rate * x = omega arith in
    let four : rate * (2 * x) ≡ rate * x + rate * x = omega arith in
    omega (arith, some, near, paid, span, one, two, three, four)

idle_bound : (U x y rate n N : ℕ) → IsBound U x y rate n N → IsBound U x y rate (n + 1) (N + 0)
idle_bound U x y rate n N (inl few) = inl (omega (arith, few))
idle_bound U x y rate n N (inr some) =
    let more : rate * (y + n) ≤ rate * (y + (n + 1)) = mul-le-mul_left rate (omega arith) in
    let same : N + 0 ≡ N = omega arith in
    inr (rw same (omega (arith, some, more)))

next_bound : (U x y rate i t N q d : ℕ) (g : Bool) → rate ≤ U → i ≤ t → IsBound U x y rate (t - i) N
    → IsCarried U x rate i (N + one_if g) q d → x + (d - (t + 1)) ≤ q + y
    → IsBound U x y rate (t + 1 - i) (N + one_if g)
next_bound U x y rate i t N q d false low le bound carry pace =
    let later : t - i + 1 ≡ t + 1 - i = omega (arith, le) in
    subst (λ n. IsBound U x y rate n (N + 0)) later (idle_bound U x y rate (t - i) N bound)
next_bound U x y rate i t N q d true low le bound (inl one) pace = inl (omega (arith, one))
next_bound U x y rate i t N q d true low le bound (inr some) pace =
    inr (paced_bound U x y rate i t (N + 1) q d low le some pace)

-- the parts of a reservation are no more than there are
parts_low : (x y : ℕ) → 0 < y → x ≤ y → parts x y ≤ all_parts
parts_low x y wide narrow = elim (cases_lt all_parts (parts x y)) [
  | inl over ↦
      let more : (all_parts + 1) * y ≤ parts x y * y = mul-le-mul_right y (omega (arith, over)) in
      let share : x * all_parts ≤ y * all_parts = mul-le-mul_right all_parts narrow in
      let near = parts-near x y wide in
      let split : (all_parts + 1) * y ≡ y * all_parts + y = omega arith in
      absurd (omega (arith, more, share, near, split))
  | inr fits ↦ fits
]

-- how a replenishment changes budget and deadline
changes : (whole x : ℕ) (c : Server) (asks : Bool) (now : ℕ) → c.x ≡ x
    → IsReplaced x c.y now c.budget c.deadline (replenished whole c asks now).budget
    (replenished whole c asks now).deadline
changes whole x c false now is = rw (replenished-off whole c now) (inl (refl, refl))
changes whole x c true now is = elim (cases_Bool (is_due whole c now)) [
  | inl due ↦ rw (replenished-set whole c now due) (inr (is, refl))
  | inr not ↦ rw (replenished-kept whole c now not) (inl (refl, refl))
]

-- what is carried along from tick to tick of a span of n ticks from tick since + a on
record IsSharp (r : Reservation) (asks serves : ℕ → Bool) (a n : ℕ) : Type 0 where
  carry : IsCarried all_parts r.x (parts r.x r.y) (r.since + a) (count serves (r.since + a) n)
      (server_before r asks serves (a + n)).budget (server_before r asks serves (a + n)).deadline
  bound : IsBound all_parts r.x r.y (parts r.x r.y) n (count serves (r.since + a) n)

module _ (r : Reservation) (asks serves : ℕ → Bool) (now : ℕ) (some : 0 < r.x) (narrow : r.x ≤ r.y)
    (sure : (t : ℕ) → t < now → serves t ≡ true → asks t ≡ true) (own : EachHard r asks serves now) where
  wide : 0 < r.y
  wide = omega (arith, some, narrow)

  paced : (m : ℕ) → r.since + m ≤ now → IsPaced (server_before r asks serves m) (r.since + m)
  paced m le = paced_before r asks serves m narrow (λ k lt is. sure (r.since + k) (omega (arith, lt, le)) is)

  is_server : (m : ℕ) → r.since + m ≤ now → IsServer all_parts (server_before r asks serves m)
  is_server m le = record {
    small = (paced m le).small;
    rate = parts-rate r.x r.y wide;
    live = λ on. parts-paid r.x r.y some narrow;
  }

  -- tick a + n of the stay, after n ticks of the span
  module _ (a n : ℕ) (le : r.since + a + suc n ≤ now) (had : IsSharp r asks serves a n) where
    abbrev m : ℕ
    m = a + n

    abbrev g : Bool
    g = serves (r.since + m)

    there : r.since + a + n ≡ r.since + m
    there = omega arith

    counted : count serves (r.since + a) (suc n) ≡ count serves (r.since + a) n + one_if g
    counted = count-push serves (r.since + a) n
        ∙ ap (λ t. count serves (r.since + a) n + one_if (serves t)) there

    surely : g ≡ true → asks (r.since + m) ≡ true
    surely is = sure (r.since + m) (omega (arith, le)) is

    after : server_before r asks serves (a + suc n)
        ≡ (if g then charged (server_within r asks serves m) else server_within r asks serves m)
    after =
        let next : a + suc n ≡ suc m = omega arith in
        ap (server_before r asks serves) next ∙ before_is r asks serves m surely

    deadline_of : (on : Bool) (c : Server) → (if on then charged c else c).deadline ≡ c.deadline
    deadline_of true c = refl
    deadline_of false c = refl

    left : (server_before r asks serves (a + suc n)).budget ≡ (server_within r asks serves m).budget - one_if g
    left = ap (λ (c : Server). c.budget) after ∙ after_q (server_within r asks serves m) g

    until : (server_before r asks serves (a + suc n)).deadline ≡ (server_within r asks serves m).deadline
    until = ap (λ (c : Server). c.deadline) after ∙ deadline_of g (server_within r asks serves m)

    down : (server_within r asks serves m).budget * all_parts + parts r.x r.y * (server_before r asks serves m).deadline
        ≤ (server_before r asks serves m).budget * all_parts + parts r.x r.y * (server_within r asks serves m).deadline
    down =
        subst (λ (c : Server). c.budget * all_parts + parts r.x r.y * (server_before r asks serves m).deadline
        ≤ (server_before r asks serves m).budget * all_parts + parts r.x r.y * c.deadline) (within_is r asks serves m)
        (raises_none all_parts (server_before r asks serves m) (asks (r.since + m)) (r.since + m)
        (is_server m (omega (arith, le))))

    change : IsReplaced r.x r.y (r.since + m) (server_before r asks serves m).budget
        (server_before r asks serves m).deadline (server_within r asks serves m).budget
        (server_within r asks serves m).deadline
    change =
        subst (λ (c : Server). IsReplaced r.x r.y (r.since + m) (server_before r asks serves m).budget
        (server_before r asks serves m).deadline c.budget c.deadline) (within_is r asks serves m)
        (changes all_parts r.x (server_before r asks serves m) (asks (r.since + m)) (r.since + m) refl)

    same_carry : (N N' q q' d d' : ℕ) → N' ≡ N → q' ≡ q → d' ≡ d
        → IsCarried all_parts r.x (parts r.x r.y) (r.since + a) N q d
        → IsCarried all_parts r.x (parts r.x r.y) (r.since + a) N' q' d'
    same_carry N N' q q' d d' e f h is = rw (e, f, h) is

    next_carry : IsCarried all_parts r.x (parts r.x r.y) (r.since + a) (count serves (r.since + a) n + one_if g)
        (server_before r asks serves (a + suc n)).budget (server_before r asks serves (a + suc n)).deadline
    next_carry =
        let few = count-le serves (r.since + a) n in
        let within = replaced all_parts r.x r.y (parts r.x r.y) (r.since + a) (r.since + m)
        (count serves (r.since + a) n) (server_before r asks serves m).budget (server_before r asks serves m).deadline
        (server_within r asks serves m).budget (server_within r asks serves m).deadline
        (parts_low r.x r.y wide narrow) (parts-rate r.x r.y wide) (omega (arith, few))
        (is_server m (omega (arith, le))).small had.carry down change in
        same_carry (count serves (r.since + a) n + one_if g) (count serves (r.since + a) n + one_if g)
        ((server_within r asks serves m).budget - one_if g) (server_before r asks serves (a + suc n)).budget
        (server_within r asks serves m).deadline (server_before r asks serves (a + suc n)).deadline refl left until
        (carried all_parts r.x (parts r.x r.y) (r.since + a) (count serves (r.since + a) n)
        (server_within r asks serves m).budget (server_within r asks serves m).deadline g within
        (λ is. own.budget m (omega (arith, le)) is))

    pace : r.x + ((server_before r asks serves (a + suc n)).deadline - (r.since + m + 1))
        ≤ (server_before r asks serves (a + suc n)).budget + r.y
    pace =
        let p = paced (a + suc n) (omega (arith, le)) in
        let e : r.since + (a + suc n) ≡ r.since + m + 1 = omega arith in
        let kept : r.x + ((server_before r asks serves (a + suc n)).deadline - (r.since + (a + suc n)))
        ≤ (server_before r asks serves (a + suc n)).budget + r.y = p.paced in
        omega (arith, kept, e)

    same_bound : (N N' s s' : ℕ) → N' ≡ N → s' ≡ s → IsBound all_parts r.x r.y (parts r.x r.y) s N
        → IsBound all_parts r.x r.y (parts r.x r.y) s' N'
    same_bound N N' s s' e f is = rw (e, f) is

    next_sharp : IsSharp r asks serves a (suc n)
    next_sharp =
        let N : ℕ = count serves (r.since + a) n in
        let i : ℕ = r.since + a in
        let t : ℕ = r.since + m in
        let before : t - i ≡ n = omega arith in
        let later : suc n ≡ t + 1 - i = omega arith in
        let earlier = same_bound N N n (t - i) refl before had.bound in
        let bound = next_bound all_parts r.x r.y (parts r.x r.y) i t N (server_before r asks serves (a + suc n)).budget
        (server_before r asks serves (a + suc n)).deadline g (parts_low r.x r.y wide narrow) (omega arith) earlier
        next_carry pace in
        record {
          carry = same_carry (N + one_if g) (count serves i (suc n)) _ _ _ _ counted refl refl next_carry;
          bound = same_bound (N + one_if g) (count serves i (suc n)) (t + 1 - i) (suc n) counted later bound;
        }

  first_sharp : (a : ℕ) → r.since + a ≤ now → IsSharp r asks serves a 0
  first_sharp a le =
      let none = count-none serves (r.since + a) in
      let here : a + 0 ≡ a = omega arith in
      let small = (is_server a le).small in
      record { carry = inl (rw (none, here) (omega (arith, small))); bound = inl (omega (arith, none)) }

  sharp : (a n : ℕ) → r.since + a + n ≤ now → IsSharp r asks serves a n
  sharp a zero le = first_sharp a (omega (arith, le))
  sharp a (suc n) le = next_sharp a n le (sharp a n (omega (arith, le)))

  pub sharp_cap : (a n : ℕ) → r.since + a + n ≤ now
      → (count serves (r.since + a) n ≤ r.x)
      ⊎ (count serves (r.since + a) n * all_parts + parts r.x r.y * (2 * r.x)
      ≤ r.x * all_parts + parts r.x r.y * (r.y + n))
  sharp_cap a n le = (sharp a n le).bound
