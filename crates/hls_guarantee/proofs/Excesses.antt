-- The excess of the part that ends here and has most beyond its pay: each tick pays rate, and a served one costs whole.
use Rattle.std.proofs.Common.{◌≡◌, ℕ, zero, suc, ◌+◌, ◌-◌, ◌*◌, ◌<◌, ◌≤◌, Bool, ap, arith}
use Rattle.std.proofs.Common.{inl, inr}
use Rattle.std.proofs.lemmas.Bool.{cases_lt}
use Rattle.hls_chron.specs.Ticks.{one_if, count}
use Rattle.hls_guarantee.specs.Service.{EveryPart}
use Rattle.hls_chron.proofs.CountLaws.{count-none, count-push}

-- some part that ends before tick j has d too many, and none more
pub record Had (rate whole : ℕ) (f : ℕ → Bool) (j d : ℕ) : Type 0 where
  pub most : (i n : ℕ) → i + n ≡ j → count f i n * whole ≤ rate * n + d
  pub from : ℕ
  pub ticks : ℕ
  pub ends : from + ticks ≡ j
  pub met : count f from ticks * whole ≡ rate * ticks + d

-- and no part before tick j has more too many than allowed
pub record Excess (rate whole allowed : ℕ) (f : ℕ → Bool) (j d : ℕ) : Type 0 where
  pub had : Had rate whole f j d
  pub small : d ≤ allowed
  pub fine : EveryPart (λ i n got. got * whole ≤ rate * n + allowed) f 0 j

nothing : (rate whole d : ℕ) (f : ℕ → Bool) (i : ℕ) → count f i 0 * whole ≤ rate * 0 + d
nothing rate whole d f i = let none = ap (λ v. v * whole) (count-none f i) in omega (arith, none)

met_nothing : (rate whole : ℕ) (f : ℕ → Bool) (i : ℕ) → count f i 0 * whole ≡ rate * 0 + 0
met_nothing rate whole f i = let none = ap (λ v. v * whole) (count-none f i) in omega (arith, none)

pub no_excess : (rate whole allowed : ℕ) (f : ℕ → Bool) → Excess rate whole allowed f 0 0
no_excess rate whole allowed f = record {
  had = record {
    most = λ i n end. let e : n ≡ 0 = omega arith in rw e (nothing rate whole 0 f i);
    from = 0;
    ticks = 0;
    ends = omega arith;
    met = met_nothing rate whole f 0;
  };
  small = omega arith;
  fine = λ i n lo hi. let e : n ≡ 0 = omega arith in rw e (nothing rate whole allowed f i);
}

-- one more tick, at which the service is v
push-mul : (rate n : ℕ) → rate * suc n ≡ rate * n + rate
push-mul rate n = omega arith

add-mul : (whole got v : ℕ) → (got + v) * whole ≡ got * whole + whole * v
add-mul whole got v = omega arith

most_push : (rate whole d n got more v : ℕ) → got * whole ≤ rate * n + d → more ≡ got + v →
    more * whole ≤ rate * suc n + (d + whole * v - rate)
most_push rate whole d n got more v before is =
    omega (arith, push-mul rate n, add-mul whole got v, before, ap (λ (k : ℕ). k * whole) is)

met_push : (rate whole d n got more v : ℕ) → rate ≤ d + whole * v → got * whole ≡ rate * n + d →
    more ≡ got + v →
    more * whole ≡ rate * suc n + (d + whole * v - rate)
met_push rate whole d n got more v owes before is =
    omega (arith, push-mul rate n, add-mul whole got v, before, owes, ap (λ (k : ℕ). k * whole) is)

most_next : (rate whole : ℕ) (f : ℕ → Bool) (j d : ℕ) → Had rate whole f j d → (i n : ℕ) → i + n ≡ j + 1 →
    count f i n * whole ≤ rate * n + (d + whole * one_if (f j) - rate)
most_next rate whole f j d o i zero end = nothing rate whole _ f i
most_next rate whole f j d o i (suc n) end =
    let at : i + n ≡ j = omega arith in
    let v : one_if (f (i + n)) ≡ one_if (f j) = ap (λ (t : ℕ). one_if (f t)) at in
    let push = count-push f i n in
    most_push rate whole d n (count f i n) (count f i (suc n)) (one_if (f j)) (o.most i n at)
    (omega arith)

pub had_next : (rate whole : ℕ) (f : ℕ → Bool) (j d : ℕ) → Had rate whole f j d →
    Had rate whole f (j + 1) (d + whole * one_if (f j) - rate)
had_next rate whole f j d o = elim (cases_lt (d + whole * one_if (f j)) rate) [
  | inr owes ↦ record {
    most = most_next rate whole f j d o;
    from = o.from;
    ticks = suc o.ticks;
    ends = let e = o.ends in omega arith;
    met =
        let e = o.ends in
        let v : one_if (f (o.from + o.ticks)) ≡ one_if (f j) = ap (λ (t : ℕ). one_if (f t)) e in
        let push = count-push f o.from o.ticks in
        met_push rate whole d o.ticks _ (count f o.from (suc o.ticks)) (one_if (f j)) owes o.met
        (omega arith);
  }
  | inl paid ↦ record {
    most = most_next rate whole f j d o;
    from = j + 1;
    ticks = 0;
    ends = omega arith;
    met = let none = met_nothing rate whole f (j + 1) in omega (arith, none, paid);
  }
]

pub next_excess : (rate whole allowed : ℕ) (f : ℕ → Bool) (j d e : ℕ) → e ≡ d + whole * one_if (f j) - rate →
    e ≤ allowed → Excess rate whole allowed f j d → Excess rate whole allowed f (j + 1) e
next_excess rate whole allowed f j d e is small excess =
    let o = had_next rate whole f j d excess.had in record {
      had = rw is o;
      small = small;
      fine = λ i n lo hi. elim (cases_lt j (i + n)) [
        | inl new ↦ omega (arith, o.most i n (let s : i + n ≡ j + 1 = omega arith in s), is, small)
        | inr old ↦ excess.fine i n lo old
      ];
    }

-- more than allowed is had by some part
pub over_excess : (rate whole allowed : ℕ) (f : ℕ → Bool) (j d e len : ℕ) →
    e ≡ d + whole * one_if (f j) - rate →
    allowed < e → j < len → Excess rate whole allowed f j d →
    EveryPart (λ i n got. got * whole ≤ rate * n + allowed) f 0 len → ⊥
over_excess rate whole allowed f j d e len is over within excess each =
    let o = had_next rate whole f j d excess.had in
    let ends = o.ends in
    omega (arith, each o.from o.ticks (omega arith) (omega arith), o.met, is, over)
